-- The names and the numbers of a definition's actions tell one another.
use Rattle.std.proofs.Common.{◌≡◌, ℕ, Bool, true, false, ◌||◌, cond, List, [], ◌∷◌, ◌++◌, map, Option, Some, None, ◌⊎◌, inl, inr, refl}
use Rattle.std.proofs.Common.{sym, ap, ◌∙◌, subst, nat_eq, eqb-true, true≢false}
use Rattle.std.specs.Prelude.{bytes_eq}
use Rattle.std.specs.List.{AllByRecursion, find, list_any}
use Rattle.std.proofs.lemmas.Slice.Eq.{bytes_eq-Decides}
use Rattle.wf_layers.specs.Definition.{has}
use Rattle.wf_layers.proofs.Basics.{not_true, two, unless, when}
use Rattle.wf_def.specs.ActionTree.{ActionTree, action, action_name, action_number, KindTree, scope, branch, switch, switch_else, foreach}
use Rattle.wf_def.specs.ActionTree.{until, ActionTrees, no_actions, action_then, CaseTrees, no_cases, case_then}
use Rattle.wf_def.specs.AllActions.{all_actions, cases_actions, has_number, kind_actions, numbered}
use Rattle.wf_def.specs.DefTree.{DefTree}
use Rattle.wf_def.specs.Names.{find_cases, find_in, find_inside, first_of}
use Rattle.wf_reading.specs.Facts.{AreOnce}
use Rattle.wf_refs.proofs.NumberLemmas.{names_are, numbers_are}
use Rattle.wf_turns.specs.Look.{name_in, name_of}
use Rattle.wf_turns.specs.Points.{action_named, graph_of, has_action_name}
use Rattle.wf_anew.specs.Known.{AreNamed}

neither : (p q : Bool) → (p || q) ≡ false → (p ≡ false) × (q ≡ false)
neither true q is = absurd (true≢false is)
neither false q is = (refl, is)

behind : (p q : Bool) → p ≡ false → (p || q) ≡ true → q ≡ true
behind p q none is = sym (ap (λ (b : Bool). b || q) none) ∙ is

some_one : {X : Type 0} {x y : X} → Some x ≡ Some y → x ≡ y
some_one is = cc

-- ---- from a number to the name and back

found_number : (n : ℕ) (as' : List ActionTree) (a : ActionTree) → find (has_number n) as' ≡ Some a → n ≡ action_number a
found_number n [] a is = absurd (cc)
found_number n (b ∷ rest) a is = elim (two (has_number n b)) [
  | inl t ↦
      eqb-true n (action_number b) t ∙ ap action_number (some_one (sym (when (has_number n b) (Some b) (find (has_number n) rest) t) ∙ is))
  | inr f ↦ found_number n rest a (sym (unless (has_number n b) (Some b) (find (has_number n) rest) f) ∙ is)
]

found_among : (n : ℕ) (as' : List ActionTree) (a : ActionTree) → find (has_number n) as' ≡ Some a
    → list_any (bytes_eq (action_name a)) (map action_name as') ≡ true
found_among n [] a is = absurd (cc)
found_among n (b ∷ rest) a is = elim (two (has_number n b)) [
  | inl t ↦
      let same : b ≡ a = some_one (sym (when (has_number n b) (Some b) (find (has_number n) rest) t) ∙ is) in
      ap (λ (c : Bool). c || list_any (bytes_eq (action_name a)) (map action_name rest))
      ((bytes_eq-Decides (action_name a) (action_name b)).1 (sym (ap action_name same)))
  | inr f ↦
      either_way (bytes_eq (action_name a) (action_name b)) (list_any (bytes_eq (action_name a)) (map action_name rest))
      (found_among n rest a (sym (unless (has_number n b) (Some b) (find (has_number n) rest) f) ∙ is))
]
  where
    either_way : (p q : Bool) → q ≡ true → (p || q) ≡ true
    either_way true q is' = refl
    either_way false q is' = is'

named_back : (n : ℕ) (as' : List ActionTree) (a : ActionTree) → AreOnce (map action_name as') → find (has_number n) as' ≡ Some a
    → find (has_action_name (action_name a)) as' ≡ Some a
named_back n [] a once is = absurd (cc)
named_back n (b ∷ rest) a once is = elim (two (has_number n b)) [
  | inl t ↦
      let same : b ≡ a = some_one (sym (when (has_number n b) (Some b) (find (has_number n) rest) t) ∙ is) in
      when (has_action_name (action_name a) b) (Some b) (find (has_action_name (action_name a)) rest)
      ((bytes_eq-Decides (action_name a) (action_name b)).1 (sym (ap action_name same))) ∙ ap (λ (c : ActionTree). Some c) same
  | inr f ↦
      let later = sym (unless (has_number n b) (Some b) (find (has_number n) rest) f) ∙ is in
      unless (has_action_name (action_name a) b) (Some b) (find (has_action_name (action_name a)) rest)
      (not_true (bytes_eq (action_name a) (action_name b)) (λ same.
      true≢false (sym (subst (λ (k : List ℕ). list_any (bytes_eq k) (map action_name rest) ≡ true)
      ((bytes_eq-Decides (action_name a) (action_name b)).0 same) (found_among n rest a later)) ∙ once.0)))
      ∙ named_back n rest a once.1 later
]

module _ (d : DefTree) (known : AreNamed d) where
  pub number_is : (n : ℕ) (a : ActionTree) → numbered n d.top ≡ Some a → n ≡ action_number a
  number_is n a is = found_number n (all_actions d.top) a is

  -- the action of a number is the one of its name
  pub named_is : (n : ℕ) (a : ActionTree) → numbered n d.top ≡ Some a → action_named d (action_name a) ≡ Some a
  named_is n a is = named_back n (all_actions d.top) a (subst AreOnce (sym (names_are d.top)) known.names) is

  some_found : (n : ℕ) (as' : List ActionTree) → list_any (nat_eq n) (map action_number as') ≡ true
      → (a : ActionTree) × (find (has_number n) as' ≡ Some a)
  some_found n [] any = absurd (true≢false (sym any))
  some_found n (a ∷ as') any = elim (two (nat_eq n (action_number a))) [
    | inl t ↦ (a, when (has_number n a) (Some a) (find (has_number n) as') t)
    | inr f ↦
        let further = some_found n as' (behind (nat_eq n (action_number a)) (list_any (nat_eq n) (map action_number as')) f any) in
        (further.0, unless (has_number n a) (Some a) (find (has_number n) as') f ∙ further.1)
  ]

  -- a number of the graph is that of an action
  pub action_of : (n : ℕ) → has (graph_of d) n ≡ true → (a : ActionTree) × (numbered n d.top ≡ Some a)
  action_of n there =
      some_found n (all_actions d.top) (ap (list_any (nat_eq n)) (numbers_are d.top) ∙ (sym (known.had n) ∙ there))

  -- no two have one name
  pub one_number : (m n : ℕ) → has (graph_of d) m ≡ true → has (graph_of d) n ≡ true → name_of d m ≡ name_of d n → m ≡ n
  one_number m n one other same =
      let a = action_of m one in
      let b = action_of n other in
      let names : action_name a.0 ≡ action_name b.0 = sym (ap name_in a.1) ∙ same ∙ ap name_in b.1 in
      let it : a.0 ≡ b.0 =
      some_one (sym (named_is m a.0 a.1) ∙ ap (action_named d) names ∙ named_is n b.0 b.1) in
      number_is m a.0 a.1 ∙ ap action_number it ∙ sym (number_is n b.0 b.1)

-- ---- from a name to its action

first_split : (p q : Option ActionTree) (a : ActionTree) → first_of p q ≡ Some a → (p ≡ Some a) ⊎ (q ≡ Some a)
first_split None q a is = inr is
first_split (Some b) q a is = inl is

module _ (P : ActionTree → Type 0) (k : List ℕ) where
  -- it has the name, and what holds of all actions holds of it
  abbrev Is : ActionTree → Type 0
  Is a = P a × (action_name a ≡ k)

  front : (xs ys : List ActionTree) → AllByRecursion P (xs ++ ys) → AllByRecursion P xs
  front [] ys all = tt
  front (x ∷ xs) ys all = (all.0, front xs ys all.1)

  back : (xs ys : List ActionTree) → AllByRecursion P (xs ++ ys) → AllByRecursion P ys
  back [] ys all = all
  back (x ∷ xs) ys all = back xs ys all.1

  mutual
    pub found_in : (g : ActionTrees) (a : ActionTree) → AllByRecursion P (all_actions g) → find_in k g ≡ Some a → Is a
    found_in no_actions a all is = absurd (cc)
    found_in (action_then (action name number pointer after kind tracked) rest) a all is =
        let own : Option ActionTree =
        cond (bytes_eq k name) (Some (action name number pointer after kind tracked)) (find_inside k kind) in
        elim (first_split own (find_in k rest) a is) [
          | inl here ↦ elim (two (bytes_eq k name)) [
            | inl same ↦
                let it : action name number pointer after kind tracked ≡ a =
                some_one (sym (when (bytes_eq k name) (Some (action name number pointer after kind tracked)) (find_inside k kind) same)
                ∙ here) in
                (subst P it all.0, sym (ap action_name it) ∙ sym ((bytes_eq-Decides k name).0 same))
            | inr other ↦
                found_inside kind a (front (kind_actions kind) (all_actions rest) all.1)
                (sym (unless (bytes_eq k name) (Some (action name number pointer after kind tracked)) (find_inside k kind) other) ∙ here)
          ]
          | inr later ↦ found_in rest a (back (kind_actions kind) (all_actions rest) all.1) later
        ]

    found_inside : (kind : KindTree) (a : ActionTree) → AllByRecursion P (kind_actions kind)
        → find_inside k kind ≡ Some a → Is a
    found_inside (scope graph) a all is = found_in graph a all is
    found_inside (branch test yes' no') a all is = elim (first_split (find_in k yes') (find_in k no') a is) [
      | inl one ↦ found_in yes' a (front (all_actions yes') (all_actions no') all) one
      | inr other ↦ found_in no' a (back (all_actions yes') (all_actions no') all) other
    ]
    found_inside (switch on cases) a all is = found_cases cases a all is
    found_inside (switch_else on cases default) a all is = elim (first_split (find_cases k cases) (find_in k default) a is) [
      | inl one ↦ found_cases cases a (front (cases_actions cases) (all_actions default) all) one
      | inr other ↦ found_in default a (back (cases_actions cases) (all_actions default) all) other
    ]
    found_inside (foreach items repetitions graph) a all is = found_in graph a all is
    found_inside (until test count fails graph) a all is = found_in graph a all is
    found_inside kind a all is = absurd (cc)

    found_cases : (cases : CaseTrees) (a : ActionTree) → AllByRecursion P (cases_actions cases) → find_cases k cases ≡ Some a → Is a
    found_cases no_cases a all is = absurd (cc)
    found_cases (case_then name value graph rest) a all is = elim (first_split (find_in k graph) (find_cases k rest) a is) [
      | inl one ↦ found_in graph a (front (all_actions graph) (cases_actions rest) all) one
      | inr other ↦ found_cases rest a (back (all_actions graph) (cases_actions rest) all) other
    ]
