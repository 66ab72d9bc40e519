-- What is found under a key, and how large it is.
use Rattle.std.proofs.Common.{◌≡◌, ℕ, ◌≤◌, ◌+◌, List, [], ◌∷◌, ◌++◌, Option, Some, None, option_map, Bool, true, false, bytes_eq, refl, sym, ap, ◌∙◌, arith}
use Rattle.std.specs.Prelude.{if◌then◌else◌}
use Rattle.std.proofs.lemmas.Map.Text.{is_eq-slice_cmp}
use Rattle.wf_val.specs.NameOrder.{find_named}
use Rattle.wf_val.specs.ValueTree.{ValueTree, Member, members, members_count, node_count}
use Rattle.wf_val.specs.Get.{name_of, value_of}
use Rattle.wf_form.specs.Pointer.{member_step}
use Rattle.wf_def.specs.ActionTree.{ActionTrees, no_actions, CaseTree}
use Rattle.wf_reading.specs.Graphs.{branch_in, branch_of, cases_in, cases_of, graph_in, graph_of}

-- the value of a key among members, by whether the first one has it
pub value_of-here : (key : List ℕ) (m : Member) (ms : List Member) → bytes_eq key m.0 ≡ true → value_of key (m ∷ ms) ≡ Some m.1
value_of-here key m ms is = ap (λ (b : Bool). option_map (λ (n : Member). n.1) (if b then Some m else find_named name_of key ms)) (is_eq-slice_cmp key m.0 ∙ is)

pub value_of-later : (key : List ℕ) (m : Member) (ms : List Member) → bytes_eq key m.0 ≡ false → value_of key (m ∷ ms) ≡ value_of key ms
value_of-later key m ms is = ap (λ (b : Bool). option_map (λ (n : Member). n.1) (if b then Some m else find_named name_of key ms)) (is_eq-slice_cmp key m.0 ∙ is)

module _ (number_of : List ℕ → ℕ) (key prefix : List ℕ) where
  abbrev pub graph_found : Option ValueTree → ActionTrees
  graph_found None = no_actions
  graph_found (Some t) = graph_of number_of (prefix ++ member_step key) t

  abbrev pub branch_found : Option ValueTree → Option ActionTrees
  branch_found None = None
  branch_found (Some t) = Some (branch_of number_of (prefix ++ member_step key) t)

  abbrev pub cases_found : Option ValueTree → List CaseTree
  cases_found None = []
  cases_found (Some t) = cases_of number_of (prefix ++ member_step key) t

  pub graph_in_is : (ms : List Member) → graph_in number_of key prefix (members ms) ≡ graph_found (value_of key ms)
  graph_in_is [] = refl
  graph_in_is (m ∷ ms) = elim (bytes_eq key m.0) as (λ b. bytes_eq key m.0 ≡ b → graph_in number_of key prefix (members (m ∷ ms)) ≡ graph_found (value_of key (m ∷ ms))) [
    | true ↦ λ is. rw is (sym (ap graph_found (value_of-here key m ms is)))
    | false ↦ λ is. rw is (graph_in_is ms ∙ sym (ap graph_found (value_of-later key m ms is)))
  ] refl

  pub branch_in_is : (ms : List Member) → branch_in number_of key prefix (members ms) ≡ branch_found (value_of key ms)
  branch_in_is [] = refl
  branch_in_is (m ∷ ms) = elim (bytes_eq key m.0) as (λ b. bytes_eq key m.0 ≡ b → branch_in number_of key prefix (members (m ∷ ms)) ≡ branch_found (value_of key (m ∷ ms))) [
    | true ↦ λ is. rw is (sym (ap branch_found (value_of-here key m ms is)))
    | false ↦ λ is. rw is (branch_in_is ms ∙ sym (ap branch_found (value_of-later key m ms is)))
  ] refl

  pub cases_in_is : (ms : List Member) → cases_in number_of key prefix (members ms) ≡ cases_found (value_of key ms)
  cases_in_is [] = refl
  cases_in_is (m ∷ ms) = elim (bytes_eq key m.0) as (λ b. bytes_eq key m.0 ≡ b → cases_in number_of key prefix (members (m ∷ ms)) ≡ cases_found (value_of key (m ∷ ms))) [
    | true ↦ λ is. rw is (sym (ap cases_found (value_of-here key m ms is)))
    | false ↦ λ is. rw is (cases_in_is ms ∙ sym (ap cases_found (value_of-later key m ms is)))
  ] refl

some_one : {X : Type 0} {x y : X} → Some x ≡ Some y → x ≡ y
some_one is = cc

-- a value that is found is smaller than the object
pub found_smaller : (key : List ℕ) (ms : List Member) (t : ValueTree) → value_of key ms ≡ Some t → node_count t ≤ members_count (members ms)
found_smaller key [] t is = absurd (cc)
found_smaller key (m ∷ ms) t is = elim (bytes_eq key m.0) as (λ b. bytes_eq key m.0 ≡ b → node_count t ≤ members_count (members (m ∷ ms))) [
  | true ↦ λ same. let here : m.1 ≡ t = some_one (sym (value_of-here key m ms same) ∙ is) in omega (arith, ap node_count here)
  | false ↦ λ other. omega (arith, found_smaller key ms t (sym (value_of-later key m ms other) ∙ is))
] refl
