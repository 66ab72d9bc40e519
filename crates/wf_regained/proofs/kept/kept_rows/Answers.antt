use Rattle.std.proofs.Common.{◌+◌, List, drop, map, ap, sym, ◌∙◌, arith}
use Rattle.wf_def.proofs.SizeLemmas.{drop_at_place}
use Rattle.wf_layers.specs.Address.{Table}
use Rattle.wf_paths.specs.Table.{slot}
use Rattle.wf_turns.specs.ReadSeen.{def_tree}
use Rattle.wf_record.specs.Record as record_of
use Rattle.wf_record.specs.Seen.{row_tree}
use Rattle.wf_record.specs.declared.row.Row.{Row}
use Rattle.wf_sight_laws.specs.Seen.{rows_seen}
use Rattle.wf_regained.specs.Kept.{with_all_kept}
use Rattle.wf_regained.proofs.OverLemmas.{none_left}
use Rattle.wf_regained.proofs.kept.kept_rows.Goals as goal

pub loop-row-preserved : goal.loop-row-preserved
loop-row-preserved c x =
    let d = def_tree c.args.places.now in
    let keeps = slot c.args.kept.now in
    let i = c.loop-row.row-index in
    let r : Row = c.row-item.result in
    let rest = map row_tree (drop (i + 1) c.args.log.now) in
    let here = drop_at_place c.args.log.now i r (omega arith) c.row-item.is in
    ap (λ (t : Table record_of.Row). with_all_kept d keeps t rest x) (λ k y. c.in_ok-add_row.ensures y k)
    ∙ ap (λ (rs : List Row). with_all_kept d keeps (rows_seen c.loop-row.rows.0) (map row_tree rs) x) (sym here)
    ∙ c.loop-row.invariant x

pub returns : goal.returns
returns c x =
    ap (λ (rs : List Row). with_all_kept (def_tree c.args.places.now) (slot c.args.kept.now) (rows_seen c.loop-row.rows.0)
    (map row_tree rs) x) (sym (none_left c.args.log.now c.loop-row.row-index (omega arith)))
    ∙ c.loop-row.invariant x
