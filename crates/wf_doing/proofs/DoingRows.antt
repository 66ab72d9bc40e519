-- Rows: what a run keeps by weight, and which Terminates a definition has.
use Rattle.std.proofs.Common.{◌≡◌, true, List, [], ◌∷◌, refl}
use Rattle.std.specs.Prelude.{codes, pos}
use Rattle.wf_def.specs.ActionTree.{action, action_then, compose, no_actions, scope, terminate}
use Rattle.wf_def.specs.AllActions.{all_actions}
use Rattle.wf_closing.specs.Leaf.{acted, calling}
use Rattle.wf_layers.specs.Address.{address}
use Rattle.wf_closing.specs.Decisions.{chosen, each, held, nothing, too_many}
use Rattle.wf_record.specs.declared.status.Status.{Status}
use Rattle.wf_retry.specs.declared.policy.Policy.{Policy}
use Rattle.wf_template.specs.DataTree.{DataTree}
use Rattle.wf_val.specs.ValueTree.{null, number, text}
use Rattle.wf_doing.specs.Halting.{terminates_in}
use Rattle.wf_doing.specs.Weights.{begun_weight, decision_weight}

a_list_weighs_its_items : decision_weight (each (number (pos 1) ∷ text (codes "ab") ∷ [])) ≡ 5
a_list_weighs_its_items = refl

no_items_weigh_one : decision_weight (each []) ≡ 1
no_items_weigh_one = refl

a_condition_weighs_one : decision_weight (held true) ≡ 1
a_condition_weighs_one = refl

a_switch_weighs_its_value : decision_weight (chosen (text (codes "abc")) 2) ≡ 4
a_switch_weighs_its_value = refl

nothing_weighs_one : decision_weight nothing ≡ 1
nothing_weighs_one = refl

too_many_weigh_one : decision_weight too_many ≡ 1
too_many_weigh_one = refl

a_call_weighs_its_inputs : begun_weight (calling (text (codes "abc")) Policy.Never) ≡ 4
a_call_weighs_its_inputs = refl

outputs_are_not_weighed :
    begun_weight (acted (record { status = Status.Succeeded; code = codes "OK"; inputs = null; outputs = text (codes "abcdef"); error = null }))
    ≡ 1
outputs_are_not_weighed = refl

-- one inside a Scope, and one beside a Compose
terminates_at_any_depth : (t : DataTree)
    → terminates_in (all_actions (action_then
    (action (codes "A") 0 [] [] (scope (action_then (action (codes "C") 2 [] [] (terminate t) []) no_actions)) [])
    (action_then (action (codes "B") 1 [] [] (compose t) []) (action_then (action (codes "D") 3 [] [] (terminate t) []) no_actions))))
    ≡ address 2 [] ∷ address 3 [] ∷ []
terminates_at_any_depth t = refl
