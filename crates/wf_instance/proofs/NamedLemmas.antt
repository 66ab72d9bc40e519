-- What holds of the actions that a list of uses names, by `actions`, `outputs` and `body`, and by `result`.
use Rattle.std.proofs.Common.{◌≡◌, ℕ, Bool, true, false, ◌||◌, List, [], ◌∷◌, ◌++◌, map, Option, Some, None, inl, inr, refl, sym, ap, ◌∙◌}
use Rattle.std.proofs.Common.{nat_eq, option_map, true≢false}
use Rattle.std.specs.Prelude.{bytes_eq}
use Rattle.std.specs.BTreeSet.{insert_key}
use Rattle.std.specs.List.{find, list_any}
use Rattle.wf_val.specs.NameOrder.{bytes_cmp}
use Rattle.wf_val.specs.declared.function.Fun.{Fun}
use Rattle.wf_layers.proofs.Basics.{two, and_of, or_first, or_second, same_self, when, unless}
use Rattle.wf_meant.specs.Uses.{Use, names, asks, asks_moment, asks_words}
use Rattle.wf_meant.specs.ActionTree.{ActionTree}
use Rattle.wf_meant.specs.AllActions.{all_actions}
use Rattle.wf_meant.specs.DefTree.{DefTree}
use Rattle.wf_meant.specs.UsesTree.{ordered, uses_tree}
use Rattle.wf_meant.specs.DoneUses.{beneath}
use Rattle.wf_accepted_laws.specs.Standing.{StandingTree, standings_of}
use Rattle.wf_accepted_laws.specs.Whole.{has_name}
use Rattle.wf_meant.specs.Points.{action_named, has_action_name}

-- ---- the action of a name is the one that the rules find

find_mapped : (k : List ℕ) (ss : List StandingTree)
    → find (has_action_name k) (map (λ s. s.action) ss) ≡ option_map (λ s. s.action) (find (has_name k) ss)
find_mapped k [] = refl
find_mapped k (s ∷ ss) = elim (two (has_name k s)) [
  | inl t ↦ when (has_name k s) (Some s.action) (find (has_action_name k) (map (λ q. q.action) ss)) t
      ∙ ap (option_map (λ (q : StandingTree). q.action)) (sym (when (has_name k s) (Some s) (find (has_name k) ss) t))
  | inr f ↦ unless (has_name k s) (Some s.action) (find (has_action_name k) (map (λ q. q.action) ss)) f
      ∙ (find_mapped k ss
      ∙ ap (option_map (λ (q : StandingTree). q.action)) (sym (unless (has_name k s) (Some s) (find (has_name k) ss) f)))
]

pub named_is : (d : DefTree) → map (λ s. s.action) (standings_of d.top) ≡ all_actions d.top → (k : List ℕ)
    → action_named d k ≡ option_map (λ s. s.action) (find (has_name k) (standings_of d.top))
named_is d same k = sym (ap (find (has_action_name k)) same) ∙ find_mapped k (standings_of d.top)

-- ---- the names of a site are those of its uses

abbrev row_name : Use → List (List ℕ)
row_name (names Fun.Actions k) = k ∷ []
row_name (names Fun.Outputs k) = k ∷ []
row_name (names Fun.Body k) = k ∷ []
row_name asked = []

abbrev pub rows_named : List Use → List (List ℕ)
rows_named [] = []
rows_named (u ∷ us) = row_name u ++ rows_named us

abbrev result_name : Use → List (List ℕ)
result_name (names Fun.Result k) = k ∷ []
result_name asked = []

abbrev pub results_named : List Use → List (List ℕ)
results_named [] = []
results_named (u ∷ us) = result_name u ++ results_named us

pub rows_are : (writes : List (List ℕ)) (us : List Use) → (uses_tree writes us).names ≡ ordered (rows_named us)
rows_are writes [] = refl
rows_are writes (names Fun.Actions k ∷ us) = ap (λ (ks : List (List ℕ)). insert_key bytes_cmp ks k) (rows_are writes us)
rows_are writes (names Fun.Outputs k ∷ us) = ap (λ (ks : List (List ℕ)). insert_key bytes_cmp ks k) (rows_are writes us)
rows_are writes (names Fun.Body k ∷ us) = ap (λ (ks : List (List ℕ)). insert_key bytes_cmp ks k) (rows_are writes us)
rows_are writes (names f k ∷ us) = rows_are writes us
rows_are writes (asks f ∷ us) = rows_are writes us
rows_are writes (asks_moment ∷ us) = rows_are writes us
rows_are writes (asks_words ∷ us) = rows_are writes us

pub results_are : (writes : List (List ℕ)) (us : List Use) → (uses_tree writes us).results ≡ ordered (results_named us)
results_are writes [] = refl
results_are writes (names Fun.Result k ∷ us) = ap (λ (ks : List (List ℕ)). insert_key bytes_cmp ks k) (results_are writes us)
results_are writes (names f k ∷ us) = results_are writes us
results_are writes (asks f ∷ us) = results_are writes us
results_are writes (asks_moment ∷ us) = results_are writes us
results_are writes (asks_words ∷ us) = results_are writes us

-- ---- of each action that is named

module _ (d : DefTree) (Row Result : Option ActionTree → Type 0) where
  abbrev pub Named : Use → Type 0
  Named (names Fun.Actions k) = Row (action_named d k)
  Named (names Fun.Outputs k) = Row (action_named d k)
  Named (names Fun.Body k) = Row (action_named d k)
  Named (names Fun.Result k) = Result (action_named d k)
  Named asked = Unit {0}

  abbrev pub AllNamed : List Use → Type 0
  AllNamed [] = Unit {0}
  AllNamed (asked ∷ us) = Named asked × AllNamed us

  pub named_joined : (us vs : List Use) → AllNamed us → AllNamed vs → AllNamed (us ++ vs)
  named_joined [] vs one other = other
  named_joined (asked ∷ us) vs one other = (one.0, named_joined us vs one.1 other)

  pub named_beneath : (us : List Use) → AllNamed us → AllNamed (beneath us)
  named_beneath [] all = tt
  named_beneath (asks Fun.Item ∷ us) all = named_beneath us all.1
  named_beneath (names f k ∷ us) all = (all.0, named_beneath us all.1)
  named_beneath (asks f ∷ us) all = (all.0, named_beneath us all.1)
  named_beneath (asks_moment ∷ us) all = (all.0, named_beneath us all.1)
  named_beneath (asks_words ∷ us) all = (all.0, named_beneath us all.1)

  abbrev RowsOf : List (List ℕ) → Type 0
  RowsOf ks = (k : List ℕ) → list_any (bytes_eq k) ks ≡ true → Row (action_named d k)

  abbrev ResultsOf : List (List ℕ) → Type 0
  ResultsOf ks = (k : List ℕ) → list_any (bytes_eq k) ks ≡ true → Result (action_named d k)

  same_bytes : (k : List ℕ) → bytes_eq k k ≡ true
  same_bytes [] = refl
  same_bytes (c ∷ k) = and_of (nat_eq c c) (bytes_eq k k) (same_self c) (same_bytes k)

  named_one : (asked : Use) → RowsOf (row_name asked) → ResultsOf (result_name asked) → Named asked
  named_one (names Fun.Actions k) rows results = rows k (or_first (bytes_eq k k) false (same_bytes k))
  named_one (names Fun.Outputs k) rows results = rows k (or_first (bytes_eq k k) false (same_bytes k))
  named_one (names Fun.Body k) rows results = rows k (or_first (bytes_eq k k) false (same_bytes k))
  named_one (names Fun.Result k) rows results = results k (or_first (bytes_eq k k) false (same_bytes k))
  named_one (names f k) rows results = tt
  named_one (asks f) rows results = tt
  named_one asks_moment rows results = tt
  named_one asks_words rows results = tt

  any_front : (test : List ℕ → Bool) (xs ys : List (List ℕ)) → list_any test xs ≡ true → list_any test (xs ++ ys) ≡ true
  any_front test [] ys is = absurd (true≢false (sym is))
  any_front test (x ∷ xs) ys is = elim (two (test x)) [
    | inl t ↦ or_first (test x) (list_any test (xs ++ ys)) t
    | inr f ↦ or_second (test x) (list_any test (xs ++ ys))
        (any_front test xs ys (sym (ap (λ (b : Bool). b || list_any test xs) f) ∙ is))
  ]

  any_back : (test : List ℕ → Bool) (xs ys : List (List ℕ)) → list_any test ys ≡ true → list_any test (xs ++ ys) ≡ true
  any_back test [] ys is = is
  any_back test (x ∷ xs) ys is = or_second (test x) (list_any test (xs ++ ys)) (any_back test xs ys is)

  pub all_named : (us : List Use) → RowsOf (rows_named us) → ResultsOf (results_named us) → AllNamed us
  all_named [] rows results = tt
  all_named (asked ∷ us) rows results = (
    named_one asked (λ k is. rows k (any_front (bytes_eq k) (row_name asked) (rows_named us) is))
        (λ k is. results k (any_front (bytes_eq k) (result_name asked) (results_named us) is)),
    all_named us (λ k is. rows k (any_back (bytes_eq k) (row_name asked) (rows_named us) is))
        (λ k is. results k (any_back (bytes_eq k) (result_name asked) (results_named us) is)),
  )
