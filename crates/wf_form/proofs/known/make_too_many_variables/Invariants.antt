use Rattle.std.proofs.Common.{◌≡◌, ◌+◌, drop, map}
use Rattle.wf_val.specs.Seen.{member}
use Rattle.wf_form.specs.Whole.{count_variables}
use Rattle.wf_form.proofs.known.make_too_many_variables.Given as goal

-- what may still come is the limit without what was
abbrev pub invariant-loop-action : goal.invariant-loop-action
invariant-loop-action l =
    l.left + count_variables (map (λ m. member m.now) l.actions)
    ≡ 250 + count_variables (map (λ m. member m.now) (drop l.action-index l.actions))
