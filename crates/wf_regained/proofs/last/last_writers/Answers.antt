use Rattle.std.proofs.Common.{◌+◌, List, Option, drop, ap, sym, ◌∙◌, arith}
use Rattle.wf_layers.specs.Address.{Address}
use Rattle.wf_asks.specs.Known.{store_in}
use Rattle.wf_asks.specs.declared.known.RowAt.{RowAt}
use Rattle.wf_turns.specs.ReadSeen.{def_tree}
use Rattle.wf_record.specs.declared.row.Row.{Row}
use Rattle.wf_regained.specs.Last.{last_from}
use Rattle.wf_regained.proofs.OverLemmas.{next_at, none_left}
use Rattle.wf_regained.proofs.last.last_writers.Goals as goal

pub loop-place-preserved : goal.loop-place-preserved
loop-place-preserved c v =
    let d = def_tree c.args.checked.now.def in
    let i = c.loop-place.place in
    let here = next_at c.args.rows.now.0 i c.at.result.now c.at.ensures.item in
    ap (λ (o : Option Address). last_from d v o (drop (i + 1) c.args.rows.now.0)) (c.in_ok-add_row.ensures v)
    ∙ ap (λ (rs : List (RowAt Row)). last_from d v (store_in c.loop-place.store.0 v) rs) (sym here)
    ∙ c.loop-place.invariant v

pub returns : goal.returns
returns c v =
    ap (λ (rs : List (RowAt Row)). last_from (def_tree c.args.checked.now.def) v (store_in c.loop-place.store.0 v) rs)
    (sym (none_left c.args.rows.now.0 c.loop-place.place (omega (arith, c.len-place-end.ensures.count))))
    ∙ c.loop-place.invariant v
