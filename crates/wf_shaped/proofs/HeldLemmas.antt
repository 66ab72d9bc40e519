-- What the row of a container calls for inside it, in the words of the laws.
use Rattle.std.proofs.Common.{◌≡◌, ℕ, zero, suc, ◌<◌, ◌≤◌, ◌+◌, Bool, true, false, List, [], ◌∷◌, ◌++◌}
use Rattle.std.proofs.Common.{◌⊎◌, inl, inr}
use Rattle.std.proofs.Common.{refl, sym, ap, ◌∙◌, subst, append-nil, arith, nat_eq, nat_lt, eqb-true, true≢false}
use Rattle.std.proofs.lemmas.Bool.{lt-ltb, ltb-false, ltb-true}
use Rattle.wf_layers.specs.Definition as layers
use Rattle.wf_layers.specs.Definition.{Branches, Graph, has_own, is_one, less_one}
use Rattle.wf_layers.specs.Address.{Table}
use Rattle.wf_layers.specs.Shape.{Reading}
use Rattle.wf_layers.proofs.Basics.{either, or_first, or_second, same_self, two, unless, when}
use Rattle.wf_def.specs.ActionTree.{ActionTree, action, action_kind, action_number, actions_in, KindTree, scope, branch, switch}
use Rattle.wf_def.specs.ActionTree.{switch_else}
use Rattle.wf_def.specs.ActionTree.{foreach, until, ActionTrees, no_actions, action_then, CaseTrees, no_cases, case_then}
use Rattle.wf_def.specs.AllActions.{all_actions, cases_actions, kind_actions}
use Rattle.wf_def.specs.Layered.{layered, layered_cases, layered_kind}
use Rattle.wf_record.specs.Record.{Row}
use Rattle.wf_ways.specs.Along.{calls}
use Rattle.wf_ways.specs.Way.{Into, whole, branch_of, item, round, enters, enters_branch}
use Rattle.wf_catalog.specs.References.{in_cases}
use Rattle.wf_shaped.specs.Told.{count_from, held, indexes_inside, turns_from, turns_told}
use Rattle.wf_shaped.proofs.ListLemmas.{In, in_either, in_left, in_map, in_right, of_map}

-- ---- they are among all actions

own_among : (g : ActionTrees) (b : ActionTree) → In b (actions_in g) → In b (all_actions g)
own_among no_actions b h = absurd h
own_among (action_then (action name number pointer after kind tracked) rest) b (inl here) = inl here
own_among (action_then (action name number pointer after kind tracked) rest) b (inr later) =
    inr (in_right b (kind_actions kind) (all_actions rest) (own_among rest b later))

pub own_is_there : (g : ActionTrees) (b : ActionTree) → In b (actions_in g) → In b (all_actions g)
own_is_there g b h = own_among g b h

cases_among : (cases : CaseTrees) (b : ActionTree) → In b (in_cases cases) → In b (cases_actions cases)
cases_among no_cases b h = absurd h
cases_among (case_then name value graph rest) b h = elim (in_either b (actions_in graph) (in_cases rest) h) [
  | inl one ↦ in_left b (all_actions graph) (cases_actions rest) (own_among graph b one)
  | inr other ↦ in_right b (all_actions graph) (cases_actions rest) (cases_among rest b other)
]

held_among : (kind : KindTree) (b : ActionTree) → In b (held kind) → In b (kind_actions kind)
held_among (scope graph) b h = own_among graph b h
held_among (branch test yes' no') b h = elim (in_either b (actions_in yes') (actions_in no') h) [
  | inl one ↦ in_left b (all_actions yes') (all_actions no') (own_among yes' b one)
  | inr other ↦ in_right b (all_actions yes') (all_actions no') (own_among no' b other)
]
held_among (switch on cases) b h = cases_among cases b h
held_among (switch_else on cases default) b h = elim (in_either b (in_cases cases) (actions_in default) h) [
  | inl one ↦ in_left b (cases_actions cases) (all_actions default) (cases_among cases b one)
  | inr other ↦ in_right b (cases_actions cases) (all_actions default) (own_among default b other)
]
held_among (foreach items repetitions graph) b h = own_among graph b h
held_among (until test count fails graph) b h = own_among graph b h
held_among kind b h = absurd h

module _ (a b : ActionTree) (inside : In b (held (action_kind a))) where
  mutual
    pub held_is_there : (g : ActionTrees) → In a (all_actions g) → In b (all_actions g)
    held_is_there no_actions h = absurd h
    held_is_there (action_then (action name number pointer after kind tracked) rest) (inl here) =
        inr (in_left b (kind_actions kind) (all_actions rest) (held_among kind b
        (subst (λ (c : ActionTree). In b (held (action_kind c))) (sym here) inside)))
    held_is_there (action_then (action name number pointer after kind tracked) rest) (inr later) =
        elim (in_either a (kind_actions kind) (all_actions rest) later) [
          | inl deeper ↦ inr (in_left b (kind_actions kind) (all_actions rest) (kind_there kind deeper))
          | inr behind ↦ inr (in_right b (kind_actions kind) (all_actions rest) (held_is_there rest behind))
        ]

    kind_there : (kind : KindTree) → In a (kind_actions kind) → In b (kind_actions kind)
    kind_there (scope graph) h = held_is_there graph h
    kind_there (branch test yes' no') h = elim (in_either a (all_actions yes') (all_actions no') h) [
      | inl one ↦ in_left b (all_actions yes') (all_actions no') (held_is_there yes' one)
      | inr other ↦ in_right b (all_actions yes') (all_actions no') (held_is_there no' other)
    ]
    kind_there (switch on cases) h = cases_there cases h
    kind_there (switch_else on cases default) h = elim (in_either a (cases_actions cases) (all_actions default) h) [
      | inl one ↦ in_left b (cases_actions cases) (all_actions default) (cases_there cases one)
      | inr other ↦ in_right b (cases_actions cases) (all_actions default) (held_is_there default other)
    ]
    kind_there (foreach items repetitions graph) h = held_is_there graph h
    kind_there (until test count fails graph) h = held_is_there graph h
    kind_there kind h = absurd h

    cases_there : (cases : CaseTrees) → In a (cases_actions cases) → In b (cases_actions cases)
    cases_there no_cases h = absurd h
    cases_there (case_then name value graph rest) h = elim (in_either a (all_actions graph) (cases_actions rest) h) [
      | inl one ↦ in_left b (all_actions graph) (cases_actions rest) (held_is_there graph one)
      | inr other ↦ in_right b (all_actions graph) (cases_actions rest) (cases_there rest other)
    ]

-- ---- the actions of a graph itself, by their numbers

pub record Numbered (n : ℕ) (as' : List ActionTree) : Type 0 where
  pub b : ActionTree
  pub there : In b as'
  pub number : action_number b ≡ n

left_of : (n : ℕ) (xs ys : List ActionTree) → Numbered n xs → Numbered n (xs ++ ys)
left_of n xs ys w = record { b = w.b; there = in_left w.b xs ys w.there; number = w.number }

right_of : (n : ℕ) (xs ys : List ActionTree) → Numbered n ys → Numbered n (xs ++ ys)
right_of n xs ys w = record { b = w.b; there = in_right w.b xs ys w.there; number = w.number }

pub own_of : (g : ActionTrees) (n : ℕ) → has_own (layered g) n ≡ true → Numbered n (actions_in g)
own_of no_actions n is = absurd (true≢false (sym is))
own_of (action_then (action name number pointer after kind tracked) rest) n is =
    elim (either (nat_eq number n) (has_own (layered rest) n) is) [
      | inl t ↦ record { b = action name number pointer after kind tracked; there = inl refl; number = eqb-true number n t }
      | inr later ↦ right_of n (action name number pointer after kind tracked ∷ []) (actions_in rest) (own_of rest n later)
    ]

pub has_own_of : (g : ActionTrees) (b : ActionTree) → In b (actions_in g) → has_own (layered g) (action_number b) ≡ true
has_own_of no_actions b h = absurd h
has_own_of (action_then (action name number pointer after kind tracked) rest) b (inl here) =
    or_first (nat_eq number (action_number b)) (has_own (layered rest) (action_number b))
    (ap (nat_eq number) (sym (ap action_number here)) ∙ same_self number)
has_own_of (action_then (action name number pointer after kind tracked) rest) b (inr later) =
    or_second (nat_eq number (action_number b)) (has_own (layered rest) (action_number b)) (has_own_of rest b later)

-- ---- those of a container's branches

one_of : (g : ActionTrees) (k n : ℕ) → enters_branch (layers.branch (layered g) layers.no_branch) k n ≡ true → Numbered n (actions_in g)
one_of g k n is = elim (two (is_one k)) [
  | inl t ↦ own_of g n (sym (when (is_one k) (has_own (layered g) n) false t) ∙ is)
  | inr f ↦ absurd (true≢false (sym (sym (unless (is_one k) (has_own (layered g) n) false f) ∙ is)))
]

cases_of : (cases : CaseTrees) (last : Branches) (others : List ActionTree) (n : ℕ)
    → ((k : ℕ) → enters_branch last k n ≡ true → Numbered n others) → (k : ℕ)
    → enters_branch (layered_cases cases last) k n ≡ true → Numbered n (in_cases cases ++ others)
cases_of no_cases last others n at_last k is = at_last k is
cases_of (case_then name value graph rest) last others n at_last k is = elim (two (is_one k)) [
  | inl t ↦
      left_of n (actions_in graph ++ in_cases rest) others (left_of n (actions_in graph) (in_cases rest)
      (own_of graph n
      (sym (when (is_one k) (has_own (layered graph) n) (enters_branch (layered_cases rest last) (less_one k) n) t) ∙ is)))
  | inr f ↦
      let later : Numbered n (in_cases rest ++ others) =
      cases_of rest last others n at_last (less_one k)
      (sym (unless (is_one k) (has_own (layered graph) n) (enters_branch (layered_cases rest last) (less_one k) n) f) ∙ is) in
      elim (in_either later.b (in_cases rest) others later.there) [
        | inl one ↦
            left_of n (actions_in graph ++ in_cases rest) others (right_of n (actions_in graph) (in_cases rest)
            (record { b = later.b; there = one; number = later.number }))
        | inr other ↦
            right_of n (actions_in graph ++ in_cases rest) others (record { b = later.b; there = other; number = later.number })
      ]
]

none_last : (n k : ℕ) → enters_branch (layers.branch layers.done layers.no_branch) k n ≡ true → Numbered n []
none_last n k is = elim (two (is_one k)) [
  | inl t ↦ absurd (true≢false (sym (sym (when (is_one k) false false t) ∙ is)))
  | inr f ↦ absurd (true≢false (sym (sym (unless (is_one k) false false f) ∙ is)))
]

-- some branch of a list has it
pub record Branched (bs : Branches) (n : ℕ) : Type 0 where
  pub k : ℕ
  pub is : enters_branch bs (suc k) n ≡ true

next : (g : Graph) (bs : Branches) (n : ℕ) → Branched bs n → Branched (layers.branch g bs) n
next g bs n w = record { k = suc w.k; is = w.is }

case_has : (cases : CaseTrees) (last : Branches) (b : ActionTree) → In b (in_cases cases)
    → Branched (layered_cases cases last) (action_number b)
case_has no_cases last b h = absurd h
case_has (case_then name value graph rest) last b h = elim (in_either b (actions_in graph) (in_cases rest) h) [
  | inl one ↦ record { k = 0; is = has_own_of graph b one }
  | inr other ↦ next (layered graph) (layered_cases rest last) (action_number b) (case_has rest last b other)
]

last_has : (cases : CaseTrees) (last : Branches) (n : ℕ) → Branched last n → Branched (layered_cases cases last) n
last_has no_cases last n w = w
last_has (case_then name value graph rest) last n w =
    next (layered graph) (layered_cases rest last) n (last_has rest last n w)

-- ---- the iterations of a loop

pub in_count : (k n j : ℕ) → k ≤ j → j < k + n → In j (count_from k n)
in_count k zero j low high = absurd (omega (arith, low, high))
in_count k (suc n) j low high = elim (two (nat_eq k j)) [
  | inl t ↦ inl (eqb-true k j t)
  | inr f ↦ inr (in_count (suc k) n j (above f) (omega (arith, high)))
]
  where
    above : nat_eq k j ≡ false → suc k ≤ j
    above f = elim (two (nat_lt k j)) [
      | inl t ↦ omega (arith, ltb-true k j t)
      | inr no' ↦ absurd (true≢false (sym (same_self k) ∙ (ap (nat_eq k) (omega (arith, low, ltb-false k j no')) ∙ f)))
    ]

pub of_count : (k n j : ℕ) → In j (count_from k n) → j < k + n
of_count k zero j h = absurd h
of_count k (suc n) j (inl here) = omega (arith, here)
of_count k (suc n) j (inr later) = omega (arith, of_count (suc k) n j later)

-- ---- together

module _ (read : Reading Row) (is_skipped : Row → Bool) (fits : ℕ → Bool → Row → Bool) (t : Table Row) (row : Row) (at' : List ℕ) where
  abbrev meant : Into → List ℕ → Bool
  meant into more = calls read is_skipped fits t into row more

  -- an action in the container, entered so, and at these indexes
  pub record Entered (kind : KindTree) (n : ℕ) (i : List ℕ) : Type 0 where
    pub into : Into
    pub more : List ℕ
    pub stands_in : enters (layered_kind kind) into n ≡ true
    pub is_meant : meant into more ≡ true
    pub indexes : i ≡ at' ++ more

  -- and as it is told
  pub record Held (kind : KindTree) (n : ℕ) (i : List ℕ) : Type 0 where
    pub one : Numbered n (held kind)
    pub indexes : In i (indexes_inside at' (turns_told read kind row))

  turned : (m j : ℕ) (i : List ℕ) → nat_lt j m ≡ true → i ≡ at' ++ j ∷ [] → In i (turns_from at' 0 m)
  turned m j i less is =
      subst (λ (l : List ℕ). In l (turns_from at' 0 m)) (sym is)
      (in_map (λ (k : ℕ). at' ++ k ∷ []) j (count_from 0 m) (in_count 0 m j (omega arith) (omega (arith, ltb-true j m less))))

  alone : (i : List ℕ) → i ≡ at' ++ [] → In i (at' ∷ [])
  alone i is = inl (sym (is ∙ append-nil at'))

  two_of : (yes' no' : ActionTrees) (k n : ℕ)
      → enters_branch (layers.branch (layered yes') (layers.branch (layered no') layers.no_branch)) k n ≡ true
      → Numbered n (actions_in yes' ++ actions_in no')
  two_of yes' no' k n is = elim (two (is_one k)) [
    | inl one ↦
        left_of n (actions_in yes') (actions_in no') (own_of yes' n
        (sym (when (is_one k) (has_own (layered yes') n) (enters_branch (layers.branch (layered no') layers.no_branch) (less_one k) n) one)
        ∙ is))
    | inr other ↦
        right_of n (actions_in yes') (actions_in no') (one_of no' (less_one k) n
        (sym (unless (is_one k) (has_own (layered yes') n) (enters_branch (layers.branch (layered no') layers.no_branch) (less_one k) n)
        other) ∙ is))
  ]

  pub held_of : (kind : KindTree) (into : Into) (n : ℕ) (more i : List ℕ) → enters (layered_kind kind) into n ≡ true
      → meant into more ≡ true → i ≡ at' ++ more → Held kind n i
  held_of (scope graph) whole n [] i e c is = record { one = own_of graph n e; indexes = alone i is }
  held_of (branch test yes' no') (branch_of k) n [] i e c is = record { one = two_of yes' no' k n e; indexes = alone i is }
  held_of (switch on cases) (branch_of k) n [] i e c is = record {
    one = subst (Numbered n) (append-nil (in_cases cases))
        (cases_of cases (layers.branch layers.done layers.no_branch) [] n (λ l. none_last n l) k e);
    indexes = alone i is;
  }
  held_of (switch_else on cases default) (branch_of k) n [] i e c is = record {
    one = cases_of cases (layers.branch (layered default) layers.no_branch) (actions_in default) n (λ l. one_of default l n) k e;
    indexes = alone i is;
  }
  held_of (foreach items repetitions graph) item n (j ∷ []) i e c is = record {
    one = own_of graph n e;
    indexes = turned (read.items row) j i c is;
  }
  held_of (until test count fails graph) round n (j ∷ []) i e c is = record {
    one = own_of graph n e;
    indexes = turned (read.rounds row) j i c is;
  }
  held_of (scope graph) whole n (j ∷ more) i e c is = absurd (true≢false (sym c))
  held_of (branch test yes' no') (branch_of k) n (j ∷ more) i e c is = absurd (true≢false (sym c))
  held_of (switch on cases) (branch_of k) n (j ∷ more) i e c is = absurd (true≢false (sym c))
  held_of (switch_else on cases default) (branch_of k) n (j ∷ more) i e c is = absurd (true≢false (sym c))
  held_of (foreach items repetitions graph) item n [] i e c is = absurd (true≢false (sym c))
  held_of (foreach items repetitions graph) item n (j ∷ l ∷ more) i e c is = absurd (true≢false (sym c))
  held_of (until test count fails graph) round n [] i e c is = absurd (true≢false (sym c))
  held_of (until test count fails graph) round n (j ∷ l ∷ more) i e c is = absurd (true≢false (sym c))
  held_of kind into n more i e c is = absurd (true≢false (sym e))

  one_index : (i : List ℕ) → In i (at' ∷ []) → i ≡ at' ++ []
  one_index i (inl same) = sym (append-nil at' ∙ same)
  one_index i (inr none) = absurd none

  through : (kind : KindTree) (n : ℕ) (i : List ℕ) (into : Into) → enters (layered_kind kind) into n ≡ true → meant into [] ≡ true
      → In i (at' ∷ []) → Entered kind n i
  through kind n i into e c h = record { into = into; more = []; stands_in = e; is_meant = c; indexes = one_index i h }

  by_turn : (kind : KindTree) (n m : ℕ) (i : List ℕ) (into : Into) → enters (layered_kind kind) into n ≡ true
      → ((j : ℕ) → meant into (j ∷ []) ≡ nat_lt j m) → In i (turns_from at' 0 m) → Entered kind n i
  by_turn kind n m i into e c h =
      let found = of_map (λ (k : ℕ). at' ++ k ∷ []) i (count_from 0 m) h in record {
        into = into;
        more = found.0 ∷ [];
        stands_in = e;
        is_meant = c found.0 ∙ lt-ltb found.0 m (omega (arith, of_count 0 m found.0 found.1));
        indexes = sym found.2;
      }

  pub entered_of : (kind : KindTree) (b : ActionTree) (i : List ℕ) → In b (held kind)
      → In i (indexes_inside at' (turns_told read kind row)) → Entered kind (action_number b) i
  entered_of (scope graph) b i h at'' = through (scope graph) (action_number b) i whole (has_own_of graph b h) refl at''
  entered_of (branch test yes' no') b i h at'' = elim (in_either b (actions_in yes') (actions_in no') h) [
    | inl one ↦ through (branch test yes' no') (action_number b) i (branch_of 1) (has_own_of yes' b one) refl at''
    | inr other ↦ through (branch test yes' no') (action_number b) i (branch_of 2) (has_own_of no' b other) refl at''
  ]
  entered_of (switch on cases) b i h at'' =
      let w = case_has cases (layers.branch layers.done layers.no_branch) b h in
      through (switch on cases) (action_number b) i (branch_of (suc w.k)) w.is refl at''
  entered_of (switch_else on cases default) b i h at'' =
      let last : Branches = layers.branch (layered default) layers.no_branch in
      let w : Branched (layered_cases cases last) (action_number b) =
      elim (in_either b (in_cases cases) (actions_in default) h) [
        | inl one ↦ case_has cases last b one
        | inr other ↦ last_has cases last (action_number b) (record { k = 0; is = has_own_of default b other })
      ] in
      through (switch_else on cases default) (action_number b) i (branch_of (suc w.k)) w.is refl at''
  entered_of (foreach items repetitions graph) b i h at'' =
      by_turn (foreach items repetitions graph) (action_number b) (read.items row) i item (has_own_of graph b h) (λ j. refl) at''
  entered_of (until test count fails graph) b i h at'' =
      by_turn (until test count fails graph) (action_number b) (read.rounds row) i round (has_own_of graph b h) (λ j. refl) at''
  entered_of kind b i h at'' = absurd h
