-- What a number is to the graph of a definition is told by the first action that has it.
use Rattle.std.proofs.Common.{◌≡◌, ℕ, Bool, true, false, ◌||◌, cond, List, [], ◌∷◌, ◌++◌, Option, Some, None, inl, inr, refl}
use Rattle.std.proofs.Common.{sym, ap, ap₂, ◌∙◌, subst, nat_eq, true≢false, option_map}
use Rattle.std.specs.List.{AllByRecursion, find, list_any}
use Rattle.std.proofs.Math.Bool.{or-false}
use Rattle.std.proofs.lemmas.Option.{none-some}
use Rattle.std.proofs.lemmas.Bool.{eq-eqb, eqb-true}
use Rattle.wf_layers.specs.Definition as layers
use Rattle.wf_layers.specs.Definition.{Kind}
use Rattle.wf_layers.proofs.Basics.{or_first, two, unless, when}
use Rattle.wf_known_laws.specs.ActionTree.{ActionTree, action, action_kind, KindTree, compose, connector}
use Rattle.wf_known_laws.specs.ActionTree.{wait, response, terminate, select, query}
use Rattle.wf_known_laws.specs.ActionTree.{join, parse_json, initialize, set_to, increment, decrement}
use Rattle.wf_known_laws.specs.ActionTree.{append_array, append_string, scope, branch}
use Rattle.wf_known_laws.specs.ActionTree.{switch, switch_else, foreach, until, ActionTrees, no_actions, action_then, CaseTrees}
use Rattle.wf_known_laws.specs.ActionTree.{no_cases, case_then}
use Rattle.wf_known_laws.specs.AllActions.{all_actions, cases_actions, has_number, kind_actions}
use Rattle.wf_known_laws.specs.Layered.{layered, layered_cases, layered_kind}

-- ---- of lists

or_joined : (a b c : Bool) → ((a || b) || c) ≡ (a || (b || c))
or_joined true b c = refl
or_joined false b c = refl

any_joined : {X : Type 0} (p : X → Bool) (xs ys : List X) → list_any p (xs ++ ys) ≡ (list_any p xs || list_any p ys)
any_joined p [] ys = refl
any_joined p (x ∷ xs) ys =
    ap (λ (b : Bool). p x || b) (any_joined p xs ys) ∙ sym (or_joined (p x) (list_any p xs) (list_any p ys))

find_joined : {X : Type 0} (p : X → Bool) (xs ys : List X) → find p (xs ++ ys) ≡ cond (list_any p xs) (find p xs) (find p ys)
find_joined p [] ys = refl
find_joined {X = X} p (x ∷ xs) ys = elim (two (p x)) [
  | inl t ↦ when (p x) (Some x) (find p (xs ++ ys)) t
      ∙ sym (when (p x || list_any p xs) (cond (p x) (Some x) (find p xs)) (find p ys) (or_first (p x) (list_any p xs) t)
      ∙ when (p x) (Some x) (find p xs) t)
  | inr f ↦ unless (p x) (Some x) (find p (xs ++ ys)) f
      ∙ (find_joined p xs ys
      ∙ sym (ap₂ (λ (b : Bool) (o : Option X). cond b o (find p ys)) (ap (λ (b : Bool). b || list_any p xs) f)
      (unless (p x) (Some x) (find p xs) f)))
]

find_none : {X : Type 0} (p : X → Bool) (xs : List X) → list_any p xs ≡ false → find p xs ≡ None
find_none p [] none = refl
find_none p (x ∷ xs) none = elim (two (p x)) [
  | inl t ↦ absurd (true≢false (sym (or_first (p x) (list_any p xs) t) ∙ none))
  | inr f ↦ unless (p x) (Some x) (find p xs) f ∙ find_none p xs (sym (ap (λ (b : Bool). b || list_any p xs) f) ∙ none)
]

pub found_all : {X : Type 0} (P : X → Type 0) (p : X → Bool) (xs : List X) (x : X) → AllByRecursion P xs → find p xs ≡ Some x → P x
found_all P p [] x all is = absurd (cc)
found_all P p (y ∷ ys) x all is = elim (two (p y)) [
  | inl t ↦ let same : Some y ≡ Some x = sym (when (p y) (Some y) (find p ys) t) ∙ is in let it : y ≡ x = cc in subst P it all.0
  | inr f ↦ found_all P p ys x all.1 (sym (unless (p y) (Some y) (find p ys) f) ∙ is)
]

-- ---- of graphs

eq_turned : (n m : ℕ) → nat_eq n m ≡ nat_eq m n
eq_turned n m = elim (two (nat_eq n m)) [
  | inl is ↦ is ∙ sym (eq-eqb m n (sym (eqb-true n m is)))
  | inr other ↦ elim (two (nat_eq m n)) [
    | inl is ↦ absurd (true≢false (sym (eq-eqb n m (sym (eqb-true m n is))) ∙ other))
    | inr too ↦ other ∙ sym too
  ]
]

module _ (n : ℕ) where
  abbrev among : List ActionTree → Bool
  among as' = list_any (has_number n) as'

  both : (a b : Bool) (xs ys : List ActionTree) → a ≡ among xs → b ≡ among ys → (a || b) ≡ among (xs ++ ys)
  both a b xs ys one other = ap₂ (λ (x y : Bool). x || y) one other ∙ sym (any_joined (has_number n) xs ys)

  mutual
    pub graph_has : (graph : ActionTrees) → layers.has (layered graph) n ≡ among (all_actions graph)
    graph_has no_actions = refl
    graph_has (action_then (action name number pointer after kind tracked) rest) =
        or_joined (nat_eq number n) (layers.holds (layered_kind kind) n) (layers.has (layered rest) n)
        ∙ ap₂ (λ (x y : Bool). x || y) (eq_turned number n)
        (both (layers.holds (layered_kind kind) n) (layers.has (layered rest) n) (kind_actions kind) (all_actions rest)
        (kind_holds kind) (graph_has rest))

    kind_holds : (kind : KindTree) → layers.holds (layered_kind kind) n ≡ among (kind_actions kind)
    kind_holds (compose inputs) = refl
    kind_holds (connector inputs policy) = refl
    kind_holds (wait inputs) = refl
    kind_holds (response inputs) = refl
    kind_holds (terminate inputs) = refl
    kind_holds (select from item) = refl
    kind_holds (query from filter) = refl
    kind_holds (join from with') = refl
    kind_holds (parse_json content schema) = refl
    kind_holds (initialize variables) = refl
    kind_holds (set_to name value) = refl
    kind_holds (increment name value) = refl
    kind_holds (decrement name value) = refl
    kind_holds (append_array name value) = refl
    kind_holds (append_string name value) = refl
    kind_holds (scope graph) = graph_has graph
    kind_holds (branch test yes' no') =
        both (layers.has (layered yes') n) (layers.has (layered no') n || false) (all_actions yes') (all_actions no') (graph_has yes')
        (or-false (layers.has (layered no') n) ∙ graph_has no')
    kind_holds (switch on cases) =
        cases_have cases (layers.branch layers.done layers.no_branch) ∙ or-false (among (cases_actions cases))
    kind_holds (switch_else on cases default) =
        cases_have cases (layers.branch (layered default) layers.no_branch)
        ∙ both (among (cases_actions cases)) (layers.has (layered default) n || false) (cases_actions cases) (all_actions default) refl
        (or-false (layers.has (layered default) n) ∙ graph_has default)
    kind_holds (foreach items repetitions graph) = graph_has graph
    kind_holds (until test count fails graph) = graph_has graph

    cases_have : (cases : CaseTrees) (last : layers.Branches)
        → layers.has_any (layered_cases cases last) n ≡ (among (cases_actions cases) || layers.has_any last n)
    cases_have no_cases last = refl
    cases_have (case_then name value graph rest) last =
        ap₂ (λ (x y : Bool). x || y) (graph_has graph) (cases_have rest last)
        ∙ sym (or_joined (among (all_actions graph)) (among (cases_actions rest)) (layers.has_any last n))
        ∙ ap (λ (b : Bool). b || layers.has_any last n) (sym (any_joined (has_number n) (all_actions graph) (cases_actions rest)))

  -- ---- and of which kind it is

  abbrev kind_at : ActionTree → Kind
  kind_at a = layered_kind (action_kind a)

  abbrev kind_found : List ActionTree → Option Kind
  kind_found as' = option_map kind_at (find (has_number n) as')

  kinds_joined : (held : Bool) (one other : Option Kind) (xs ys : List ActionTree) → held ≡ among xs → one ≡ kind_found xs
      → other ≡ kind_found ys → cond held one other ≡ kind_found (xs ++ ys)
  kinds_joined held one other xs ys here is more = elim (two (among xs)) [
    | inl t ↦ when held one other (here ∙ t) ∙ (is ∙ sym (ap (option_map kind_at) (find_joined (has_number n) xs ys
        ∙ when (among xs) (find (has_number n) xs) (find (has_number n) ys) t)))
    | inr f ↦ unless held one other (here ∙ f) ∙ (more ∙ sym (ap (option_map kind_at) (find_joined (has_number n) xs ys
        ∙ unless (among xs) (find (has_number n) xs) (find (has_number n) ys) f)))
  ]

  kinds_alone : (held : Bool) (one : Option Kind) (xs : List ActionTree) → held ≡ among xs → one ≡ kind_found xs
      → cond held one None ≡ kind_found xs
  kinds_alone held one xs here is = elim (two (among xs)) [
    | inl t ↦ when held one None (here ∙ t) ∙ is
    | inr f ↦ unless held one None (here ∙ f) ∙ sym (ap (option_map kind_at) (find_none (has_number n) xs f))
  ]

  kinds_behind : (held : Bool) (one other : Option Kind) (xs ys : List ActionTree) → held ≡ among xs → one ≡ kind_found xs
      → cond held one (cond (among ys) (kind_found ys) other) ≡ cond (among (xs ++ ys)) (kind_found (xs ++ ys)) other
  kinds_behind held one other xs ys here is = elim (two (among xs)) [
    | inl t ↦ when held one (cond (among ys) (kind_found ys) other) (here ∙ t) ∙ (is
        ∙ sym (when (among (xs ++ ys)) (kind_found (xs ++ ys)) other
        (any_joined (has_number n) xs ys ∙ or_first (among xs) (among ys) t)
        ∙ ap (option_map kind_at) (find_joined (has_number n) xs ys
        ∙ when (among xs) (find (has_number n) xs) (find (has_number n) ys) t)))
    | inr f ↦ unless held one (cond (among ys) (kind_found ys) other) (here ∙ f)
        ∙ sym (ap₂ (λ (b : Bool) (o : Option Kind). cond b o other)
        (any_joined (has_number n) xs ys ∙ ap (λ (b : Bool). b || among ys) f)
        (ap (option_map kind_at) (find_joined (has_number n) xs ys
        ∙ unless (among xs) (find (has_number n) xs) (find (has_number n) ys) f)))
  ]

  mutual
    -- THE LAW
    pub kind_is : (graph : ActionTrees) → layers.kind_of (layered graph) n ≡ kind_found (all_actions graph)
    kind_is no_actions = refl
    kind_is (action_then (action name number pointer after kind tracked) rest) = elim (two (nat_eq number n)) [
      | inl t ↦ when (nat_eq number n) (Some (layered_kind kind))
          (cond (layers.holds (layered_kind kind) n) (layers.kind_in (layered_kind kind) n) (layers.kind_of (layered rest) n)) t
          ∙ sym (ap (option_map kind_at) (when (nat_eq n number) (Some (action name number pointer after kind tracked))
          (find (has_number n) (kind_actions kind ++ all_actions rest)) (eq_turned n number ∙ t)))
      | inr f ↦ unless (nat_eq number n) (Some (layered_kind kind))
          (cond (layers.holds (layered_kind kind) n) (layers.kind_in (layered_kind kind) n) (layers.kind_of (layered rest) n)) f
          ∙ (kinds_joined (layers.holds (layered_kind kind) n) (layers.kind_in (layered_kind kind) n) (layers.kind_of (layered rest) n)
          (kind_actions kind) (all_actions rest) (kind_holds kind) (kind_in_is kind) (kind_is rest)
          ∙ sym (ap (option_map kind_at) (unless (nat_eq n number) (Some (action name number pointer after kind tracked))
          (find (has_number n) (kind_actions kind ++ all_actions rest)) (eq_turned n number ∙ f))))
    ]

    kind_in_is : (kind : KindTree) → layers.kind_in (layered_kind kind) n ≡ kind_found (kind_actions kind)
    kind_in_is (compose inputs) = refl
    kind_in_is (connector inputs policy) = refl
    kind_in_is (wait inputs) = refl
    kind_in_is (response inputs) = refl
    kind_in_is (terminate inputs) = refl
    kind_in_is (select from item) = refl
    kind_in_is (query from filter) = refl
    kind_in_is (join from with') = refl
    kind_in_is (parse_json content schema) = refl
    kind_in_is (initialize variables) = refl
    kind_in_is (set_to name value) = refl
    kind_in_is (increment name value) = refl
    kind_in_is (decrement name value) = refl
    kind_in_is (append_array name value) = refl
    kind_in_is (append_string name value) = refl
    kind_in_is (scope graph) = kind_is graph
    kind_in_is (branch test yes' no') =
        kinds_joined (layers.has (layered yes') n) (layers.kind_of (layered yes') n)
        (cond (layers.has (layered no') n) (layers.kind_of (layered no') n) None) (all_actions yes') (all_actions no') (graph_has yes')
        (kind_is yes') (kinds_alone (layers.has (layered no') n) (layers.kind_of (layered no') n) (all_actions no') (graph_has no')
        (kind_is no'))
    kind_in_is (switch on cases) =
        cases_are cases (layers.branch layers.done layers.no_branch)
        ∙ kinds_alone (among (cases_actions cases)) (kind_found (cases_actions cases)) (cases_actions cases) refl refl
    kind_in_is (switch_else on cases default) =
        cases_are cases (layers.branch (layered default) layers.no_branch)
        ∙ kinds_joined (among (cases_actions cases)) (kind_found (cases_actions cases))
        (cond (layers.has (layered default) n) (layers.kind_of (layered default) n) None) (cases_actions cases) (all_actions default) refl
        refl (kinds_alone (layers.has (layered default) n) (layers.kind_of (layered default) n) (all_actions default) (graph_has default)
        (kind_is default))
    kind_in_is (foreach items repetitions graph) = kind_is graph
    kind_in_is (until test count fails graph) = kind_is graph

    cases_are : (cases : CaseTrees) (last : layers.Branches) → layers.kind_any (layered_cases cases last) n
        ≡ cond (among (cases_actions cases)) (kind_found (cases_actions cases)) (layers.kind_any last n)
    cases_are no_cases last = refl
    cases_are (case_then name value graph rest) last =
        ap (cond (layers.has (layered graph) n) (layers.kind_of (layered graph) n)) (cases_are rest last)
        ∙ kinds_behind (layers.has (layered graph) n) (layers.kind_of (layered graph) n) (layers.kind_any last n) (all_actions graph)
        (cases_actions rest) (graph_has graph) (kind_is graph)

-- the action of a number of a kind
pub of_kind : (n : ℕ) (graph : ActionTrees) (k : Kind) → layers.kind_of (layered graph) n ≡ Some k
    → (a : ActionTree) × (find (has_number n) (all_actions graph) ≡ Some a) × (layered_kind (action_kind a) ≡ k)
of_kind n graph k is = go (find (has_number n) (all_actions graph)) refl
  where
    go : (found : Option ActionTree) → find (has_number n) (all_actions graph) ≡ found
        → (a : ActionTree) × (find (has_number n) (all_actions graph) ≡ Some a) × (layered_kind (action_kind a) ≡ k)
    go None none = absurd (none-some k (sym (sym is ∙ (kind_is n graph ∙ ap (option_map (λ a. layered_kind (action_kind a))) none))))
    go (Some a) some =
        let one : Some (layered_kind (action_kind a)) ≡ Some k =
        sym (kind_is n graph ∙ ap (option_map (λ b. layered_kind (action_kind b))) some) ∙ is in
        let it : layered_kind (action_kind a) ≡ k = cc in (a, some, it)
