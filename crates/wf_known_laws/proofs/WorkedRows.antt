-- Worked graphs: how deep they are, which graphs are looked at, and at and past the ranges.
use Rattle.std.proofs.Common.{◌≡◌, [], true, false, length, nat_eq, refl, arith, true≢false}
use Rattle.std.specs.Prelude.{codes}
use Rattle.wf_val.specs.ValueTree as value
use Rattle.wf_template.specs.TemplateTree.{plain}
use Rattle.wf_template.specs.DataTree.{null}
use Rattle.wf_template.specs.CondTree.{CondTree, holds}
use Rattle.wf_retry.specs.declared.policy.Policy.{Policy}
use Rattle.wf_reading.specs.ActionTree.{ActionTree, action, KindTree, compose, connector, scope}
use Rattle.wf_reading.specs.ActionTree.{branch, switch, switch_else, foreach, until}
use Rattle.wf_reading.specs.ActionTree.{ActionTrees, no_actions, action_then, actions_in, CaseTrees, no_cases, case_then}
use Rattle.wf_known_laws.specs.Each.{EachGraph}
use Rattle.wf_known_laws.specs.Held.{AreInRange, levels}

abbrev of_kind : KindTree → ActionTree
of_kind kind = action (codes "A") 0 [] [] kind []

-- a graph of one action, and one of two
abbrev only : KindTree → ActionTrees
only kind = action_then (of_kind kind) no_actions

abbrev one : ActionTrees
one = only (compose null)

abbrev two : ActionTrees
two = action_then (of_kind (compose null)) one

abbrev test : CondTree
test = holds (plain [])

abbrev case : ActionTrees → CaseTrees → CaseTrees
case graph rest = case_then (codes "C") value.null graph rest

-- how deep
levels-none : levels no_actions ≡ 0
levels-none = refl

levels-side_by_side : levels two ≡ 1
levels-side_by_side = refl

levels-empty_container : levels (only (scope no_actions)) ≡ 1
levels-empty_container = refl

levels-scope : levels (only (scope two)) ≡ 2
levels-scope = refl

levels-first_branch : levels (only (branch test one no_actions)) ≡ 2
levels-first_branch = refl

levels-second_branch : levels (only (branch test one (only (scope one)))) ≡ 3
levels-second_branch = refl

levels-cases : levels (only (switch (plain []) (case no_actions (case one no_cases)))) ≡ 2
levels-cases = refl

levels-default : levels (only (switch_else (plain []) (case one no_cases) (only (scope one)))) ≡ 3
levels-default = refl

levels-case_beside_a_default : levels (only (switch_else (plain []) (case (only (scope one)) no_cases) one)) ≡ 3
levels-case_beside_a_default = refl

levels-foreach : levels (only (foreach null 20 one)) ≡ 2
levels-foreach = refl

levels-until : levels (only (until test 60 false one)) ≡ 2
levels-until = refl

levels-behind : levels (action_then (of_kind (compose null)) (only (scope one))) ≡ 2
levels-behind = refl

-- each graph is looked at: none of these has two actions
abbrev IsNotTwo : ActionTrees → Type 0
IsNotTwo graph = nat_eq (length (actions_in graph)) 2 ≡ false

no_two : true ≡ false → ⊥
no_two is = true≢false is

each-none : EachGraph IsNotTwo (only (branch test one (only (scope one))))
each-none = (refl, (((refl, (tt, tt)), (refl, ((refl, (tt, tt)), tt))), tt))

each-itself : EachGraph IsNotTwo two → ⊥
each-itself each = no_two each.0

each-scope : EachGraph IsNotTwo (only (scope two)) → ⊥
each-scope each = no_two each.1.0.0

each-first_branch : EachGraph IsNotTwo (only (branch test two one)) → ⊥
each-first_branch each = no_two each.1.0.0.0

each-second_branch : EachGraph IsNotTwo (only (branch test one two)) → ⊥
each-second_branch each = no_two each.1.0.1.0

each-first_case : EachGraph IsNotTwo (only (switch (plain []) (case two (case one no_cases)))) → ⊥
each-first_case each = no_two each.1.0.0.0

each-second_case : EachGraph IsNotTwo (only (switch (plain []) (case one (case two no_cases)))) → ⊥
each-second_case each = no_two each.1.0.1.0.0

each-case_beside_a_default : EachGraph IsNotTwo (only (switch_else (plain []) (case two no_cases) one)) → ⊥
each-case_beside_a_default each = no_two each.1.0.0.0.0

each-default : EachGraph IsNotTwo (only (switch_else (plain []) (case one no_cases) two)) → ⊥
each-default each = no_two each.1.0.1.0

each-foreach : EachGraph IsNotTwo (only (foreach null 20 two)) → ⊥
each-foreach each = no_two each.1.0.0

each-until : EachGraph IsNotTwo (only (until test 60 false two)) → ⊥
each-until each = no_two each.1.0.0

each-deeper : EachGraph IsNotTwo (only (scope (only (scope two)))) → ⊥
each-deeper each = no_two each.1.0.1.0.0

each-behind : EachGraph IsNotTwo (action_then (of_kind (compose null)) (action_then (of_kind (compose null)) (only (scope two)))) → ⊥
each-behind each = no_two each.1.1.1.0.0

-- ranges, at their ends and past them
range-foreach_least : AreInRange (only (foreach null 1 one))
range-foreach_least = ((omega arith, omega arith), tt)

range-foreach_most : AreInRange (only (foreach null 50 one))
range-foreach_most = ((omega arith, omega arith), tt)

range-foreach_none : AreInRange (only (foreach null 0 one)) → ⊥
range-foreach_none in_range = let is = in_range.0.0 in absurd (omega (arith, is))

range-foreach_past : AreInRange (only (foreach null 51 one)) → ⊥
range-foreach_past in_range = let is = in_range.0.1 in absurd (omega (arith, is))

range-until_most : AreInRange (only (until test 5000 false one))
range-until_most = ((omega arith, omega arith), tt)

range-until_none : AreInRange (only (until test 0 false one)) → ⊥
range-until_none in_range = let is = in_range.0.0 in absurd (omega (arith, is))

range-until_past : AreInRange (only (until test 5001 false one)) → ⊥
range-until_past in_range = let is = in_range.0.1 in absurd (omega (arith, is))

range-policy_most : AreInRange (only (connector null (Policy.Count 90)))
range-policy_most = ((omega arith, omega arith), tt)

range-policy_none : AreInRange (only (connector null (Policy.Count 0))) → ⊥
range-policy_none in_range = let is = in_range.0.0 in absurd (omega (arith, is))

range-policy_past : AreInRange (only (connector null (Policy.Count 91))) → ⊥
range-policy_past in_range = let is = in_range.0.1 in absurd (omega (arith, is))

range-policy_told_by_none : AreInRange (action_then (of_kind (connector null Policy.Standard)) (only (connector null Policy.Never)))
range-policy_told_by_none = (tt, (tt, tt))

range-second_action : AreInRange (action_then (of_kind (compose null)) (only (foreach null 51 one))) → ⊥
range-second_action in_range = let is = in_range.1.0.1 in absurd (omega (arith, is))
