-- An action of a definition that was read is found by its number and by its name.
use Rattle.std.proofs.Common.{◌≡◌, ℕ, true, false, List, [], ◌∷◌, map, Some, None, inl, inr, refl, sym, ap, ◌∙◌, subst}
use Rattle.std.proofs.Common.{bytes_eq, eqb-true, nat_eq, true≢false}
use Rattle.std.specs.List.{AllByRecursion, find, list_any}
use Rattle.std.proofs.lemmas.Option.{none-some}
use Rattle.std.proofs.lemmas.Slice.Eq.{bytes_eq-Decides}
use Rattle.wf_layers.specs.Listed.{Among}
use Rattle.wf_layers.specs.Definition.{has}
use Rattle.wf_layers.proofs.Basics.{or_first, or_second, two, unless, when}
use Rattle.wf_def.specs.ActionTree.{ActionTree, action_name, action_number}
use Rattle.wf_def.specs.AllActions.{all_actions, has_number, numbered}
use Rattle.wf_def.specs.DefTree.{DefTree}
use Rattle.wf_def.specs.Names.{graph_names}
use Rattle.wf_turns.specs.Facts.{AreOnce, graph_numbers}
use Rattle.wf_turns.proofs.NumberLemmas.{names_are, numbers_are}
use Rattle.wf_turns.specs.Points.{action_named, graph_of, has_action_name}
use Rattle.wf_sight_laws.proofs.RangeLemmas.{some_found}
use Rattle.wf_sight_laws.proofs.WriterLemmas.{find_is}

pub all_among : {X : Type 0} (P : X → Type 0) (xs : List X) (x : X) → AllByRecursion P xs → Among xs x → P x
all_among P [] x all i = absurd i
all_among P (z ∷ xs) x all (inl e) = subst P e all.0
all_among P (z ∷ xs) x all (inr i) = all_among P xs x all.1 i

same_name : (k n : List ℕ) → bytes_eq k n ≡ true → k ≡ n
same_name k n e = (bytes_eq-Decides k n).0 e

own_name : (k : List ℕ) → bytes_eq k k ≡ true
own_name k = (bytes_eq-Decides k k).1 refl

named_among : (k : List ℕ) (as' : List ActionTree) (a : ActionTree) → Among as' a → action_name a ≡ k
    → list_any (bytes_eq k) (map action_name as') ≡ true
named_among k [] a i is = absurd i
named_among k (b ∷ rest) a (inl e) is =
    or_first (bytes_eq k (action_name b)) (list_any (bytes_eq k) (map action_name rest))
    (subst (λ (n : List ℕ). bytes_eq k n ≡ true) (sym is ∙ ap action_name (sym e)) (own_name k))
named_among k (b ∷ rest) a (inr i) is =
    or_second (bytes_eq k (action_name b)) (list_any (bytes_eq k) (map action_name rest)) (named_among k rest a i is)

-- where names stand once
found_named : (as' : List ActionTree) → AreOnce (map action_name as') → (a : ActionTree) → Among as' a
    → find (has_action_name (action_name a)) as' ≡ Some a
found_named [] once a i = absurd i
found_named (b ∷ rest) once a (inl e) =
    when (bytes_eq (action_name a) (action_name b)) (Some b) (find (has_action_name (action_name a)) rest)
    (subst (λ (n : List ℕ). bytes_eq (action_name a) n ≡ true) (ap action_name (sym e)) (own_name (action_name a)))
    ∙ ap (λ (c : ActionTree). Some c) e
found_named (b ∷ rest) once a (inr i) = elim (two (bytes_eq (action_name a) (action_name b))) [
  | inl t ↦
      absurd (true≢false (sym (named_among (action_name b) rest a i (same_name (action_name a) (action_name b) t)) ∙ once.0))
  | inr f ↦ unless (bytes_eq (action_name a) (action_name b)) (Some b) (find (has_action_name (action_name a)) rest) f
      ∙ found_named rest once.1 a i
]

module _ (d : DefTree) (own : AllByRecursion (λ a. numbered (action_number a) d.top ≡ Some a) (all_actions d.top))
    (once : AreOnce (graph_names d.top)) where
  pub number_is : (n : ℕ) (a : ActionTree) → numbered n d.top ≡ Some a → action_number a ≡ n
  number_is n a is = sym (eqb-true n (action_number a) (find_is (has_number n) (all_actions d.top) a is).holds)

  pub named_is : (n : ℕ) (a : ActionTree) → numbered n d.top ≡ Some a → action_named d (action_name a) ≡ Some a
  named_is n a is =
      found_named (all_actions d.top) (subst AreOnce (sym (names_are d.top)) once) a (find_is (has_number n) (all_actions d.top) a is).among

  -- what a name finds has the name, and is found by its number
  pub name_is : (k : List ℕ) (b : ActionTree) → action_named d k ≡ Some b → k ≡ action_name b
  name_is k b is = same_name k (action_name b) (find_is (has_action_name k) (all_actions d.top) b is).holds

  pub numbered_is : (k : List ℕ) (b : ActionTree) → action_named d k ≡ Some b → numbered (action_number b) d.top ≡ Some b
  numbered_is k b is =
      all_among (λ (a : ActionTree). numbered (action_number a) d.top ≡ Some a) (all_actions d.top) b own
      (find_is (has_action_name k) (all_actions d.top) b is).among

-- ---- which numbers a definition has

module _ (d : DefTree) (had : (m : ℕ) → has (graph_of d) m ≡ list_any (nat_eq m) (graph_numbers d.top)) where
  any_number : (n : ℕ) → has (graph_of d) n ≡ list_any (nat_eq n) (map action_number (all_actions d.top))
  any_number n = had n ∙ ap (list_any (nat_eq n)) (sym (numbers_are d.top))

  pub has_action : (n : ℕ) → has (graph_of d) n ≡ true → (a : ActionTree) × (numbered n d.top ≡ Some a)
  has_action n is = some_found n (all_actions d.top) (sym (any_number n) ∙ is)

  number_among : (n : ℕ) (as' : List ActionTree) (a : ActionTree) → Among as' a → nat_eq n (action_number a) ≡ true
      → list_any (nat_eq n) (map action_number as') ≡ true
  number_among n [] a i is = absurd i
  number_among n (b ∷ rest) a (inl e) is =
      or_first (nat_eq n (action_number b)) (list_any (nat_eq n) (map action_number rest))
      (subst (λ (c : ActionTree). nat_eq n (action_number c) ≡ true) (sym e) is)
  number_among n (b ∷ rest) a (inr i) is =
      or_second (nat_eq n (action_number b)) (list_any (nat_eq n) (map action_number rest)) (number_among n rest a i is)

  pub action_has : (n : ℕ) (a : ActionTree) → numbered n d.top ≡ Some a → has (graph_of d) n ≡ true
  action_has n a is =
      let f = find_is (has_number n) (all_actions d.top) a is in
      any_number n ∙ number_among n (all_actions d.top) a f.among f.holds

  pub action_none : (n : ℕ) → numbered n d.top ≡ None → has (graph_of d) n ≡ false
  action_none n none = elim (two (has (graph_of d) n)) [
    | inl t ↦ let h = has_action n t in absurd (none-some h.0 (sym none ∙ h.1))
    | inr f ↦ f
  ]
