use Rattle.std.proofs.Common.{◌+◌, ℕ, List, Option, drop, ap, sym, ◌∙◌, arith}
use Rattle.wf_layers.specs.Address.{Address}
use Rattle.wf_asks.specs.Instances.{address_of}
use Rattle.wf_asks.specs.Known.{store_in}
use Rattle.wf_turns.specs.ReadSeen.{def_tree}
use Rattle.wf_regained.specs.Last.{each_last}
use Rattle.wf_regained.proofs.OverLemmas.{each_is, item_at, none_left}
use Rattle.wf_regained.proofs.last.overwrite_each.Goals as goal

pub loop-variable-preserved : goal.loop-variable-preserved
loop-variable-preserved c v =
    let d = def_tree c.args.checked.now.def in
    let y = address_of c.args.place.now in
    let us = c.args.variables.now in
    let i = c.loop-variable.variable-index in
    let here = item_at us i c.loop-variable-test.true in
    ap (λ (t : ℕ → Option Address). each_last d (drop (i + 1) us) t y v) (λ k w. c.in_ok-overwrite.ensures w k)
    ∙ ap (λ (vs : List ℕ). each_last d vs (store_in c.loop-variable.store.0) y v) (sym here)
    ∙ c.loop-variable.invariant v

pub returns : goal.returns
returns c v =
    let d = def_tree c.args.checked.now.def in
    let y = address_of c.args.place.now in
    let us = c.args.variables.now in
    ap (λ (vs : List ℕ). each_last d vs (store_in c.loop-variable.store.0) y v)
    (sym (none_left us c.loop-variable.variable-index (omega arith)))
    ∙ c.loop-variable.invariant v
    ∙ each_is d y us (store_in c.args.store.now.0) v
