-- The actions at the top of a definition stand in the order of their names, as the members do that they were read from.
use Rattle.std.proofs.Common.{◌≡◌, ℕ, List, [], ◌∷◌, Option, Some, None, Less, refl, sym, subst}
use Rattle.std.specs.Prelude.{codes}
use Rattle.std.specs.List.{AllByRecursion}
use Rattle.wf_val.specs.Get.{get, name_of, value_of}
use Rattle.wf_val.specs.NameOrder.{bytes_cmp, IsInNameOrder}
use Rattle.wf_val.specs.ValueTree.{ValueTree, null, boolean, number, text, list, object, MemberTrees, no_members, member_then, pairs}
use Rattle.wf_val.specs.WellFormed.{IsWellFormed, AllMembersWellFormed}
use Rattle.wf_def.proofs.ListLemmas.{actions_in_trees}
use Rattle.wf_def.specs.ActionTree.{action_name, actions_in}
use Rattle.wf_reading.specs.Graphs.{actions_of, graph_of}
use Rattle.wf_reading.specs.Meant.{top_at}
use Rattle.wf_reading.proofs.RunAfterLemmas.{value-well_formed}

module _ (number_of : List ℕ → ℕ) where
  above-read : (prefix k : List ℕ) (ms : MemberTrees) → AllByRecursion (λ y. bytes_cmp k (name_of y) ≡ Less) (pairs ms)
      → AllByRecursion (λ a. bytes_cmp k (action_name a) ≡ Less) (actions_of number_of prefix ms)
  above-read prefix k no_members all = tt
  above-read prefix k (member_then j t ms) all = (all.0, above-read prefix k ms all.1)

  order-read : (prefix : List ℕ) (ms : MemberTrees) → IsInNameOrder name_of (pairs ms)
      → IsInNameOrder action_name (actions_of number_of prefix ms)
  order-read prefix no_members order = tt
  order-read prefix (member_then k t ms) order = (above-read prefix k ms order.0, order-read prefix ms order.1)

  graph-order : (prefix : List ℕ) (t : ValueTree) → IsWellFormed t → IsInNameOrder action_name (actions_in (graph_of number_of prefix t))
  graph-order prefix null w = tt
  graph-order prefix (boolean b) w = tt
  graph-order prefix (number n) w = tt
  graph-order prefix (text s) w = tt
  graph-order prefix (list ts) w = tt
  graph-order prefix (object ms) w =
      subst (IsInNameOrder action_name) (sym (actions_in_trees (actions_of number_of prefix ms))) (order-read prefix ms w.0)

  found-order : (ms : MemberTrees) → AllMembersWellFormed ms → (o : Option ValueTree) → value_of (codes "actions") (pairs ms) ≡ o
      → IsInNameOrder action_name (actions_in (top_at number_of o))
  found-order ms all None none = tt
  found-order ms all (Some t) found = graph-order (codes "/actions") t (value-well_formed (codes "actions") ms all t found)

  pub top-order : (t : ValueTree) → IsWellFormed t → IsInNameOrder action_name (actions_in (top_at number_of (get (codes "actions") t)))
  top-order null w = tt
  top-order (boolean b) w = tt
  top-order (number n) w = tt
  top-order (text s) w = tt
  top-order (list ts) w = tt
  top-order (object ms) w = found-order ms w.1 (value_of (codes "actions") (pairs ms)) refl
