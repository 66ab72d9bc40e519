use Rattle.std.proofs.Common.{◌≡◌, drop, map, codes}
use Rattle.std.specs.List.{list_all}
use Rattle.wf_val.specs.Get.{get}
use Rattle.wf_val.specs.Seen.{tree}
use Rattle.wf_kinds.specs.Parts.{is_text}
use Rattle.wf_kinds.proofs.members.are_expressions.Given as goal

abbrev pub invariant-loop-condition : goal.invariant-loop-condition
invariant-loop-condition l =
    list_all (λ t. is_text (get (codes "expression") t)) (map tree (drop l.condition-index l.conditions))
    ≡ list_all (λ t. is_text (get (codes "expression") t)) (map tree l.conditions)
