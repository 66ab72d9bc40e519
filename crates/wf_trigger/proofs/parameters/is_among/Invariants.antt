use Rattle.std.proofs.Common.{◌≡◌, drop, map}
use Rattle.std.specs.List.{list_any}
use Rattle.std.specs.Ordering.{is_eq}
use Rattle.wf_val.specs.Seen.{tree}
use Rattle.wf_val.specs.ValueOrder.{order}
use Rattle.wf_trigger.proofs.parameters.is_among.Given as goal

-- none so far is the value
abbrev pub invariant-loop-one : goal.invariant-loop-one
invariant-loop-one l =
    list_any (λ a. is_eq (order (tree l.value) a)) (map tree (drop l.one-index l.values))
    ≡ list_any (λ a. is_eq (order (tree l.value) a)) (map tree l.values)
