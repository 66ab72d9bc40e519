-- What a run costs at least, of worked definitions.
use Rattle.std.proofs.Common.{◌≡◌, [], ◌∷◌, refl}
use Rattle.wf_def.specs.ActionTree.{action_trees, compose, scope}
use Rattle.wf_least.specs.Least.{least_cost}
use Rattle.wf_meant_laws.proofs.Terms.{act, nat, of_actions, success_of}

-- for itself, where it has no action
without_actions : least_cost (of_actions []) ≡ 64
without_actions = refl

-- and for each action at the top; what stands inside one counts no more
with_two : least_cost (of_actions (act "A" 0 [] (compose (nat 1)) ∷ act "B" 1 (success_of 0) (compose (nat 2)) ∷ [])) ≡ 192
with_two = refl

with_one_inside : least_cost (of_actions (act "S" 1 [] (scope (action_trees (act "A" 0 [] (compose (nat 1)) ∷ []))) ∷ [])) ≡ 128
with_one_inside = refl
