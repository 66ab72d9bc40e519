-- A variable of an accepted definition is initialised once, so all that initialise it give it the type that it has.
use Rattle.std.proofs.Common.{◌≡◌, ℕ, ◌+◌, ◌≤◌, Bool, true, false, ◌&&◌, ◌||◌, not, cond, List, [], ◌∷◌, ◌++◌, map, Option, Some, None}
use Rattle.std.proofs.Common.{option_map, ◌⊎◌, inl, inr, refl, sym, ap, ◌∙◌, subst, arith, nat_eq, nat_lt, eqb-true, eq-eqb, true≢false}
use Rattle.std.specs.Prelude.{bytes_eq, if◌then◌else◌}
use Rattle.std.specs.List.{count_by, fold, list_any}
use Rattle.std.proofs.lemmas.Bool.{lt-ltb}
use Rattle.wf_layers.proofs.Basics.{and_of, two}
use Rattle.wf_def.specs.ActionTree.{ActionTree, action, action_kind, InitialTree, KindTree, append_array, append_string, branch, compose}
use Rattle.wf_def.specs.ActionTree.{connector, decrement, foreach, increment, initialize, join, parse_json, query, response, scope}
use Rattle.wf_def.specs.ActionTree.{select, set_to, switch, switch_else, terminate, until, wait}
use Rattle.wf_def.specs.AllActions.{all_actions, numbered}
use Rattle.wf_def.specs.DefTree.{DefTree}
use Rattle.wf_def.specs.declared.sort.Sort.{Sort}
use Rattle.wf_shaped.proofs.RunAfterLemmas.{append-first, append-second}
use Rattle.wf_shaped.specs.Sites.{uses_at_inputs, writes_of}
use Rattle.wf_shaped.specs.Site.{Site}
use Rattle.wf_shaped.specs.UsesTree.{UsesTree, ordered}
use Rattle.wf_meant_laws.specs.Kinds.{is_initialize}
use Rattle.wf_meant_laws.specs.Standing.{StandingTree, kind_at, number_at, pointer_at, standings_of}
use Rattle.wf_meant_laws.specs.Whole as whole
use Rattle.wf_meant_laws.specs.Whole.{InitialisedTree, Whole, initialised_among, initialised_by, is_again, whole_of}
use Rattle.wf_meant_laws.specs.Rules.{action_breaks, breaks_at, breaks_if, breaks_itself, is_early}
use Rattle.wf_meant_laws.specs.Rules.{is_misread, is_miswritten, is_uninitialised}
use Rattle.wf_meant_laws.specs.Rule.{Rule}
use Rattle.wf_meant_laws.specs.Broken.{offences, told}
use Rattle.wf_shaped.proofs.ListLemmas.{In, in_either, of_map}
use Rattle.wf_shaped.specs.Sorts.{all_initials, initials_of, sort_by, sort_of}
use Rattle.wf_prepare.proofs.FailingLemmas.{clash}

none_first : (b c : Bool) → (b || c) ≡ false → b ≡ false
none_first true c is = is
none_first false c is = refl

none_second : (b c : Bool) → (b || c) ≡ false → c ≡ false
none_second true c is = absurd (true≢false is)
none_second false c is = is

-- ---- no action breaks a rule that holds

none_told : {X : Type 0} (broken : X → Bool) (pointer : X → List ℕ) (xs : List X) → told broken pointer xs ≡ []
    → (x : X) → In x xs → broken x ≡ false
none_told broken pointer [] none x h = absurd h
none_told {X = X} broken pointer (y ∷ ys) none x (inl here) =
    subst (λ (z : X). broken z ≡ false) here
    (at (broken y) (append-first (cond (broken y) (pointer y ∷ []) []) (told broken pointer ys) none))
  where
    at : (b : Bool) → cond b (pointer y ∷ []) [] ≡ [] → b ≡ false
    at true is = absurd (cc)
    at false is = refl
none_told broken pointer (y ∷ ys) none x (inr later) =
    none_told broken pointer ys (append-second (cond (broken y) (pointer y ∷ []) []) (told broken pointer ys) none) x later

not_any : (test : List ℕ → Bool) (k : List ℕ) (ks : List (List ℕ)) → ((n : List ℕ) → bytes_eq k n ≡ true → k ≡ n)
    → list_any test ks ≡ false → list_any (bytes_eq k) ks ≡ true → test k ≡ false
not_any test k [] same none among = absurd (true≢false (sym among))
not_any test k (n ∷ ks) same none among = elim (two (bytes_eq k n)) [
  | inl is ↦ subst (λ (m : List ℕ). test m ≡ false) (sym (same n is)) (none_first (test n) (list_any test ks) none)
  | inr other ↦
      not_any test k ks same (none_second (test n) (list_any test ks) none)
      (sym (ap (λ (b : Bool). b || list_any (bytes_eq k) ks) other) ∙ among)
]

no_one : {X : Type 0} (test : X → Bool) (xs : List X) (x : X) → list_any test xs ≡ false → In x xs → test x ≡ false
no_one test [] x none h = absurd h
no_one {X = X} test (y ∷ ys) x none (inl here) = subst (λ (z : X). test z ≡ false) here (none_first (test y) (list_any test ys) none)
no_one test (y ∷ ys) x none (inr later) = no_one test ys x (none_second (test y) (list_any test ys) none) later

writes_at : (a : ActionTree) → (uses_at_inputs a).writes ≡ ordered (writes_of (action_kind a))
writes_at (action name number pointer after kind tracked) = refl

-- ---- what is initialised

initials_same : (kind : KindTree) → initials_of kind ≡ whole.initials_of kind
initials_same (compose inputs) = refl
initials_same (connector inputs policy) = refl
initials_same (wait inputs) = refl
initials_same (response inputs) = refl
initials_same (terminate inputs) = refl
initials_same (select from item) = refl
initials_same (query from filter) = refl
initials_same (join from with') = refl
initials_same (parse_json content schema) = refl
initials_same (initialize variables) = refl
initials_same (set_to name value) = refl
initials_same (increment name value) = refl
initials_same (decrement name value) = refl
initials_same (append_array name value) = refl
initials_same (append_string name value) = refl
initials_same (scope graph) = refl
initials_same (branch test yes' no') = refl
initials_same (switch on cases) = refl
initials_same (switch_else on cases default) = refl
initials_same (foreach items repetitions graph) = refl
initials_same (until test count fails graph) = refl

abbrev entry : StandingTree → InitialTree → InitialisedTree
entry s i = record { standing = s; sort = i.sort }

-- the first sort
abbrev first_sort : List InitialisedTree → Option Sort
first_sort [] = None
first_sort (i ∷ is) = Some i.sort

sort_here : (k : List ℕ) (s : StandingTree) (is others : List InitialTree) (more : List InitialisedTree)
    → sort_by others k ≡ first_sort more → sort_by (is ++ others) k ≡ first_sort (initialised_by s is k ++ more)
sort_here k s [] others more later = later
sort_here k s (i ∷ is) others more later = elim (two (bytes_eq k i.name)) [
  | inl h ↦ rw h refl
  | inr f ↦ rw f (sort_here k s is others more later)
]

sort_among : (k : List ℕ) (ss : List StandingTree) → sort_by (all_initials (map (λ s. s.action) ss)) k ≡ first_sort (initialised_among ss k)
sort_among k [] = refl
sort_among k (s ∷ ss) =
    sort_here k s (initials_of (kind_at s)) (all_initials (map (λ z. z.action) ss)) (initialised_among ss k) (sort_among k ss)
    ∙ ap (λ (is : List InitialTree). first_sort (initialised_by s is k ++ initialised_among ss k)) (initials_same (kind_at s))

-- each entry is of an action that initialises the variable
record Initialises (ss : List StandingTree) (k : List ℕ) (i : InitialisedTree) : Type 0 where
  among : In i.standing ss
  writes : list_any (bytes_eq k) (writes_of (kind_at i.standing)) ≡ true
  is : is_initialize (kind_at i.standing) ≡ true

of_one : (i : InitialisedTree) (s : StandingTree) (j : InitialTree) (more : List InitialisedTree) → In i (entry s j ∷ more)
    → (In i more → i.standing ≡ s) → i.standing ≡ s
of_one i s j more (inl here) of = sym (ap (λ (q : InitialisedTree). q.standing) here)
of_one i s j more (inr later) of = of later

by_of : (k : List ℕ) (s : StandingTree) (is : List InitialTree) (i : InitialisedTree) → In i (initialised_by s is k)
    → (i.standing ≡ s) × (list_any (bytes_eq k) (map (λ j. j.name) is) ≡ true)
by_of k s [] i h = absurd h
by_of k s (j ∷ is) i h = elim (two (bytes_eq k j.name)) [
  | inl t ↦ (
    of_one i s j (initialised_by s is k)
        (subst (λ (b : Bool). In i (if b then entry s j ∷ initialised_by s is k else initialised_by s is k)) t h)
        (λ later. (by_of k s is i later).0),
    ap (λ (b : Bool). b || list_any (bytes_eq k) (map (λ l. l.name) is)) t,
  )
  | inr f ↦
      let later = by_of k s is i
      (subst (λ (b : Bool). In i (if b then entry s j ∷ initialised_by s is k else initialised_by s is k)) f h) in
      (later.0, ap (λ (b : Bool). b || list_any (bytes_eq k) (map (λ l. l.name) is)) f ∙ later.1)
]

kind_initialises : (k : List ℕ) (kind : KindTree) → list_any (bytes_eq k) (map (λ j. j.name) (whole.initials_of kind)) ≡ true
    → (list_any (bytes_eq k) (writes_of kind) ≡ true) × (is_initialize kind ≡ true)
kind_initialises k (initialize variables) is = (is, refl)
kind_initialises k kind is = absurd (true≢false (sym is))

among_of : (k : List ℕ) (ss : List StandingTree) (i : InitialisedTree) → In i (initialised_among ss k) → Initialises ss k i
among_of k [] i h = absurd h
among_of k (s ∷ ss) i h = elim (in_either i (initialised_by s (whole.initials_of (kind_at s)) k) (initialised_among ss k) h) [
  | inl own ↦
      let by = by_of k s (whole.initials_of (kind_at s)) i own in
      let does = kind_initialises k (kind_at s) by.1 in record {
        among = inl (sym by.0);
        writes = ap (λ (z : StandingTree). list_any (bytes_eq k) (writes_of (kind_at z))) by.0 ∙ does.0;
        is = ap (λ (z : StandingTree). is_initialize (kind_at z)) by.0 ∙ does.1;
      }
  | inr later ↦
      let more = among_of k ss i later in record { among = inr more.among; writes = more.writes; is = more.is }
]

-- ---- so there is one

fold_from : (n k : ℕ) (is : List InitialisedTree)
    → k ≤ fold (λ (a : ℕ) (q : InitialisedTree). a + cond (nat_eq (number_at q.standing) n) 1 0) k is
fold_from n k [] = omega arith
fold_from n k (i ∷ is) =
    omega (arith, fold_from n (k + cond (nat_eq (number_at i.standing) n) 1 0) is)

counted : (n : ℕ) (i j : InitialisedTree) (is : List InitialisedTree) → nat_eq (number_at i.standing) n ≡ true
    → nat_eq (number_at j.standing) n ≡ true
    → nat_lt 1 (count_by (λ (q : InitialisedTree). nat_eq (number_at q.standing) n) (i ∷ j ∷ is)) ≡ true
counted n i j is one other =
    lt-ltb 1 (count_by (λ (q : InitialisedTree). nat_eq (number_at q.standing) n) (i ∷ j ∷ is))
    (rw (one, other) (omega (arith, fold_from n 2 is)))

pub record IsOrdered (d : DefTree) : Type 0 where
  pub names : (k n : List ℕ) → bytes_eq k n ≡ true → k ≡ n
  pub uses : (k : List ℕ) (ks : List (List ℕ)) → list_any (bytes_eq k) (ordered ks) ≡ list_any (bytes_eq k) ks
  pub numbers : (s : StandingTree) → In s (standings_of d.top) → numbered (number_at s) d.top ≡ Some s.action
  pub actions : map (λ s. s.action) (standings_of d.top) ≡ all_actions d.top
  pub variables : offences d Rule.Variables ≡ []
  pub initialised : offences d Rule.Initialised ≡ []
  pub never_both : (s t : StandingTree) → In s (standings_of d.top) → In t (standings_of d.top)
      → (whole_of d).before (number_at s) (number_at t) ≡ true → (whole_of d).before (number_at t) (number_at s) ≡ true → ⊥

module _ (d : DefTree) (known : IsOrdered d) where
  abbrev all : Whole
  all = whole_of d

  -- a rule that holds isn't broken at the inputs of an action
  unbroken : (rule : Rule) (s : StandingTree) → offences d rule ≡ [] → In s (standings_of d.top)
      → breaks_at all rule (Site.Inputs (number_at s)) (Some s) ≡ false
  unbroken rule s none there =
      none_first (breaks_at all rule (Site.Inputs (number_at s)) (Some s)) _
      (none_second (breaks_itself rule s) _
      (none_told (action_breaks all rule) pointer_at (standings_of d.top)
      (append-first (told (action_breaks all rule) pointer_at (standings_of d.top)) _ none) s there))

  at_inputs : (rule : Rule) (s : StandingTree) → offences d rule ≡ [] → In s (standings_of d.top)
      → breaks_if all rule (Site.Inputs (number_at s)) (Some s) (Some (uses_at_inputs s.action)) ≡ false
  at_inputs rule s none there =
      ap (λ (o : Option ActionTree). breaks_if all rule (Site.Inputs (number_at s)) (Some s) (option_map uses_at_inputs o))
      (sym (known.numbers s there))
      ∙ unbroken rule s none there

  written : (s : StandingTree) (k : List ℕ) → list_any (bytes_eq k) (writes_of (kind_at s)) ≡ true
      → list_any (bytes_eq k) (uses_at_inputs s.action).writes ≡ true
  written s k writes =
      ap (list_any (bytes_eq k)) (writes_at s.action) ∙ (known.uses k (writes_of (kind_at s)) ∙ writes)

  well_written : (s : StandingTree) (k : List ℕ) → In s (standings_of d.top) → list_any (bytes_eq k) (writes_of (kind_at s)) ≡ true
      → is_miswritten (Some s) (all.initialised k) ≡ false
  well_written s k there writes =
      let u : UsesTree = uses_at_inputs s.action in
      not_any (λ n. is_miswritten (Some s) (all.initialised n)) k u.writes (known.names k)
      (none_second (list_any (λ n. is_misread (all.initialised n)) u.reads)
      (list_any (λ n. is_miswritten (Some s) (all.initialised n)) u.writes)
      (at_inputs Rule.Variables s known.variables there)) (written s k writes)

  not_early : (s : StandingTree) (k : List ℕ) → In s (standings_of d.top) → list_any (bytes_eq k) (writes_of (kind_at s)) ≡ true
      → (i : InitialisedTree) → In i (all.initialised k) → is_early all s i ≡ false
  not_early s k there writes i among =
      let u : UsesTree = uses_at_inputs s.action in
      no_one (is_early all s) (all.initialised k) i
      (not_any (is_uninitialised all (Some s)) k u.writes (known.names k)
      (none_second (list_any (is_uninitialised all (Some s)) u.reads) (list_any (is_uninitialised all (Some s)) u.writes)
      (at_inputs Rule.Initialised s known.initialised there)) (written s k writes)) among

  before_or_same : (s : StandingTree) (i : InitialisedTree) → is_early all s i ≡ false
      → (nat_eq (number_at i.standing) (number_at s) ≡ true) ⊎ (all.before (number_at i.standing) (number_at s) ≡ true)
  before_or_same s i is = at (nat_eq (number_at i.standing) (number_at s)) (all.before (number_at i.standing) (number_at s)) is
    where
      at : (a b : Bool) → (not a && not b) ≡ false → (a ≡ true) ⊎ (b ≡ true)
      at true b e = inl refl
      at false true e = inr refl
      at false false e = absurd (true≢false e)

  -- two are none
  not_two : (k : List ℕ) (i j : InitialisedTree) (is : List InitialisedTree) → all.initialised k ≡ i ∷ j ∷ is → ⊥
  not_two k i j is same =
      let first : Initialises (standings_of d.top) k i =
      among_of k (standings_of d.top) i (subst (λ (qs : List InitialisedTree). In i qs) (sym same) (inl refl)) in
      let next : Initialises (standings_of d.top) k j =
      among_of k (standings_of d.top) j (subst (λ (qs : List InitialisedTree). In j qs) (sym same) (inr (inl refl))) in
      let one = before_or_same i.standing j
      (not_early i.standing k first.among first.writes j
      (subst (λ (qs : List InitialisedTree). In j qs) (sym same) (inr (inl refl)))) in
      let other = before_or_same j.standing i
      (not_early j.standing k next.among next.writes i (subst (λ (qs : List InitialisedTree). In i qs) (sym same) (inl refl))) in
      let again : (is_initialize (kind_at i.standing) && is_again i.standing (i ∷ j ∷ is)) ≡ false =
      ap (is_miswritten (Some i.standing)) (sym same) ∙ well_written i.standing k first.among first.writes in
      elim one [
        | inl equal ↦
            clash (is_initialize (kind_at i.standing) && is_again i.standing (i ∷ j ∷ is))
            (and_of (is_initialize (kind_at i.standing)) (is_again i.standing (i ∷ j ∷ is)) first.is
            (second _ _ (counted (number_at i.standing) i j is (eq-eqb (number_at i.standing) (number_at i.standing) refl) equal))) again
        | inr before ↦ elim other [
          | inl equal ↦
              clash (is_initialize (kind_at i.standing) && is_again i.standing (i ∷ j ∷ is))
              (and_of (is_initialize (kind_at i.standing)) (is_again i.standing (i ∷ j ∷ is)) first.is
              (second _ _ (counted (number_at i.standing) i j is (eq-eqb (number_at i.standing) (number_at i.standing) refl)
              (eq-eqb (number_at j.standing) (number_at i.standing)
              (sym (eqb-true (number_at i.standing) (number_at j.standing) equal)))))) again
          | inr after ↦ known.never_both i.standing j.standing first.among next.among after before
        ]
      ]
    where
      second : (p q : Bool) → q ≡ true → (p || q) ≡ true
      second true q e = refl
      second false q e = e

  sole : (k : List ℕ) (i : InitialisedTree) → In i (all.initialised k) → first_sort (all.initialised k) ≡ Some i.sort
  sole k i among = at (all.initialised k) refl among
    where
      at : (qs : List InitialisedTree) → all.initialised k ≡ qs → In i qs → first_sort qs ≡ Some i.sort
      at [] is h = absurd h
      at (q ∷ []) is (inl here) = ap (λ (p : InitialisedTree). Some p.sort) here
      at (q ∷ []) is (inr none) = absurd none
      at (q ∷ p ∷ qs) is h = absurd (not_two k q p qs is)

  in_by : (k : List ℕ) (s : StandingTree) (is : List InitialTree) (i : InitialTree) → In i is → bytes_eq k i.name ≡ true
      → In (entry s i) (initialised_by s is k)
  in_by k s [] i h same = absurd h
  in_by k s (j ∷ is) i (inl here) same =
      subst (λ (b : Bool). In (entry s i) (if b then entry s j ∷ initialised_by s is k else initialised_by s is k))
      (sym (ap (λ (l : InitialTree). bytes_eq k l.name) here ∙ same)) (inl (ap (entry s) here))
  in_by k s (j ∷ is) i (inr later) same = elim (two (bytes_eq k j.name)) [
    | inl t ↦ subst (λ (b : Bool). In (entry s i) (if b then entry s j ∷ initialised_by s is k else initialised_by s is k)) (sym t)
        (inr (in_by k s is i later same))
    | inr f ↦ subst (λ (b : Bool). In (entry s i) (if b then entry s j ∷ initialised_by s is k else initialised_by s is k)) (sym f)
        (in_by k s is i later same)
  ]

  in_some : (k : List ℕ) (ss : List StandingTree) (s : StandingTree) (i : InitialTree) → In s ss
      → In i (whole.initials_of (kind_at s)) → bytes_eq k i.name ≡ true → In (entry s i) (initialised_among ss k)
  in_some k [] s i h own same = absurd h
  in_some k (t ∷ ss) s i (inl here) own same =
      left (entry s i) (initialised_by t (whole.initials_of (kind_at t)) k) (initialised_among ss k)
      (subst (λ (z : StandingTree). In (entry s i) (initialised_by z (whole.initials_of (kind_at z)) k)) (sym here)
      (in_by k s (whole.initials_of (kind_at s)) i own same))
    where
      left : {X : Type 0} (x : X) (xs ys : List X) → In x xs → In x (xs ++ ys)
      left x [] ys h' = absurd h'
      left x (z ∷ xs) ys (inl e) = inl e
      left x (z ∷ xs) ys (inr e) = inr (left x xs ys e)
  in_some k (t ∷ ss) s i (inr later) own same =
      right (entry s i) (initialised_by t (whole.initials_of (kind_at t)) k) (initialised_among ss k) (in_some k ss s i later own same)
    where
      right : {X : Type 0} (x : X) (xs ys : List X) → In x ys → In x (xs ++ ys)
      right x [] ys h' = h'
      right x (z ∷ xs) ys h' = inr (right x xs ys h')

  -- THE LEMMA
  pub has_its_sort : (a : ActionTree) (i : InitialTree) → In a (all_actions d.top) → In i (initials_of (action_kind a)) → (k : List ℕ)
      → bytes_eq k i.name ≡ true → sort_of d k ≡ Some i.sort
  has_its_sort a i there own k same =
      let stands = of_map (λ (s : StandingTree). s.action) a (standings_of d.top)
      (subst (λ (as' : List ActionTree). In a as') (sym known.actions) there) in
      let s : StandingTree = stands.0 in
      let mine : In i (whole.initials_of (kind_at s)) =
      subst (λ (is : List InitialTree). In i is) (initials_same (kind_at s))
      (subst (λ (b : ActionTree). In i (initials_of (action_kind b))) (sym stands.2) own) in
      ap (λ (as' : List ActionTree). sort_by (all_initials as') k) (sym known.actions)
      ∙ (sort_among k (standings_of d.top) ∙ sole k (entry s i) (in_some k (standings_of d.top) s i stands.1 mine same))
