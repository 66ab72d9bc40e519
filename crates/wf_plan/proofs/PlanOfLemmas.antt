-- The plan of a definition is one of its graph.
use Rattle.std.proofs.Common.{◌≡◌, ℕ, zero, suc, ◌+◌, ◌<◌, ◌≤◌, true, false, ◌||◌, List, [], ◌∷◌, ◌++◌, length, slice_get, Option, Some, None, ◌⊎◌, inl, inr, ⊎_elim, option_map, refl, sym, ap, ◌∙◌, subst, arith, nat_eq, eqb-true, true≢false}
use Rattle.std.proofs.lemmas.Option.{none-some}
use Rattle.std.specs.List.{AllByRecursion, find}
use Rattle.wf_def.specs.Changes.{is_named, owns}
use Rattle.wf_def.specs.Definition.{Graph, Kind, Leaf, Scope, Choice, Foreach, Until, Branches, has, has_any, holds, kind_of, needs_of, shows}
use Rattle.wf_def.specs.Definition as layers
use Rattle.wf_def.specs.Seen.{Once, OnceIn}
use Rattle.wf_def.proofs.Basics.{two, either, not_true, or_first, or_second, when, unless}
use Rattle.wf_def.proofs.Tables.{shows_holds}
use Rattle.wf_def.specs.ActionTree.{ActionTree, action, action_number, KindTree, compose, connector, wait, response, terminate, select, query, join, parse_json, initialize, set_to, increment, decrement, append_array, append_string, scope, branch, switch, switch_else, foreach, until, ActionTrees, no_actions, action_then, CaseTrees, no_cases, case_then}
use Rattle.wf_def.specs.AllActions.{all_actions, cases_actions, has_number, kind_actions}
use Rattle.wf_def.specs.Layered.{layered, layered_cases, layered_kind}
use Rattle.wf_asks.specs.Known.{is_among}
use Rattle.wf_plan.specs.Exact.{HasEntry, IsExact}
use Rattle.wf_plan.specs.Once.{AreDistinct, NamesOnce, has_one}
use Rattle.wf_plan.specs.Plan.{EntryTree, entry_for, entry_of, followers_of, holder_of, passed_over, plan_of, shape_of, shown, tabled}
use Rattle.wf_plan.specs.PlanOf.{IsEntryOf, IsPlanOf, passes}
use Rattle.wf_plan.specs.PlanSeen.{at_place, joined, list_at, or_none}
use Rattle.wf_plan.proofs.ExactLemmas.{plans_are_exact}
use Rattle.wf_plan.proofs.GraphLemmas.{holder_there, kind_there, needs_there, once_at, one_holder, passed_distinct, passed_is, shown_is, shown_once}
use Rattle.wf_plan.proofs.OnceLemmas.{stand_once}

-- ---- what is in the graph is in the list

one_left : (as' bs : List ActionTree) (q : ℕ) → has_one as' q ≡ true → has_one (as' ++ bs) q ≡ true
one_left [] bs q h = absurd (true≢false (sym h))
one_left (a ∷ as') bs q h =
    ⊎_elim (λ t. or_first (nat_eq (action_number a) q) (has_one (as' ++ bs) q) t)
    (λ t. or_second (nat_eq (action_number a) q) (has_one (as' ++ bs) q) (one_left as' bs q t))
    (either (nat_eq (action_number a) q) (has_one as' q) h)

one_right : (as' bs : List ActionTree) (q : ℕ) → has_one bs q ≡ true → has_one (as' ++ bs) q ≡ true
one_right [] bs q h = h
one_right (a ∷ as') bs q h = or_second (nat_eq (action_number a) q) (has_one (as' ++ bs) q) (one_right as' bs q h)

mutual
  pub all_had : (graph : ActionTrees) (q : ℕ) → has (layered graph) q ≡ true → has_one (all_actions graph) q ≡ true
  all_had no_actions q h = h
  all_had (action_then (action name number pointer after kind tracked) rest) q h =
      ⊎_elim
      (λ t. ⊎_elim (λ u. or_first (nat_eq number q) (has_one (kind_actions kind ++ all_actions rest) q) u)
      (λ u. or_second (nat_eq number q) (has_one (kind_actions kind ++ all_actions rest) q)
      (one_left (kind_actions kind) (all_actions rest) q (kind_had kind q u)))
      (either (nat_eq number q) (holds (layered_kind kind) q) t))
      (λ t. or_second (nat_eq number q) (has_one (kind_actions kind ++ all_actions rest) q)
      (one_right (kind_actions kind) (all_actions rest) q (all_had rest q t)))
      (either (nat_eq number q || holds (layered_kind kind) q) (has (layered rest) q) h)

  kind_had : (kind : KindTree) (q : ℕ) → holds (layered_kind kind) q ≡ true → has_one (kind_actions kind) q ≡ true
  kind_had (compose inputs) q h = h
  kind_had (connector inputs policy) q h = h
  kind_had (wait inputs) q h = h
  kind_had (response inputs) q h = h
  kind_had (terminate inputs) q h = h
  kind_had (select from item) q h = h
  kind_had (query from filter) q h = h
  kind_had (join from with') q h = h
  kind_had (parse_json content schema) q h = h
  kind_had (initialize variables) q h = h
  kind_had (set_to name value) q h = h
  kind_had (increment name value) q h = h
  kind_had (decrement name value) q h = h
  kind_had (append_array name value) q h = h
  kind_had (append_string name value) q h = h
  kind_had (scope graph) q h = all_had graph q h
  kind_had (branch test yes' no') q h =
      ⊎_elim (λ t. one_left (all_actions yes') (all_actions no') q (all_had yes' q t))
      (λ t. one_right (all_actions yes') (all_actions no') q
      (⊎_elim (λ u. all_had no' q u) (λ u. absurd (true≢false (sym u))) (either (has (layered no') q) false t)))
      (either (has (layered yes') q) (has (layered no') q || false) h)
  kind_had (switch on cases) q h =
      ⊎_elim (λ t. t) (λ u. absurd (true≢false (sym u)))
      (cases_had cases (layers.branch layers.done layers.no_branch) q h)
  kind_had (switch_else on cases default) q h =
      ⊎_elim (λ t. one_left (cases_actions cases) (all_actions default) q t)
      (λ t. one_right (cases_actions cases) (all_actions default) q
      (⊎_elim (λ u. all_had default q u) (λ u. absurd (true≢false (sym u))) (either (has (layered default) q) false t)))
      (cases_had cases (layers.branch (layered default) layers.no_branch) q h)
  kind_had (foreach items repetitions graph) q h = all_had graph q h
  kind_had (until test count fails graph) q h = all_had graph q h

  cases_had : (cases : CaseTrees) (last : Branches) (q : ℕ) → has_any (layered_cases cases last) q ≡ true
      → (has_one (cases_actions cases) q ≡ true) ⊎ (has_any last q ≡ true)
  cases_had no_cases last q h = inr h
  cases_had (case_then name value graph rest) last q h =
      ⊎_elim (λ t. inl (one_left (all_actions graph) (cases_actions rest) q (all_had graph q t)))
      (λ t. ⊎_elim (λ u. inl (one_right (all_actions graph) (cases_actions rest) q u)) (λ u. inr u) (cases_had rest last q t))
      (either (has (layered graph) q) (has_any (layered_cases rest last) q) h)

-- what is said of the number of each action of a list is said of a number that is there
number_at : (P : ℕ → Type 0) (as' : List ActionTree) (c : ℕ) → AllByRecursion (λ a. P (action_number a)) as' → has_one as' c ≡ true → P c
number_at P [] c all h = absurd (true≢false (sym h))
number_at P (a ∷ as') c all h =
    ⊎_elim (λ t. subst P (eqb-true (action_number a) c t) all.0) (λ t. number_at P as' c all.1 t)
    (either (nat_eq (action_number a) c) (has_one as' c) h)

flipped : (a b : ℕ) → nat_eq a b ≡ nat_eq b a
flipped a b = grind (arith)

found_one : (as' : List ActionTree) (n : ℕ) → has_one as' n ≡ true → (e : EntryTree) × (entry_for as' n ≡ Some e)
found_one [] n h = absurd (true≢false (sym h))
found_one (a ∷ as') n h =
    ⊎_elim
    (λ t. (entry_of a, ap (option_map entry_of) (when (has_number n a) (Some a) (find (has_number n) as') t)))
    (λ u. let r = found_one as' n
    (⊎_elim (λ t. absurd (true≢false (sym (flipped n (action_number a) ∙ t) ∙ u))) (λ t. t)
    (either (nat_eq (action_number a) n) (has_one as' n) h)) in
    (r.0, ap (option_map entry_of) (unless (has_number n a) (Some a) (find (has_number n) as') u) ∙ r.1))
    (two (has_number n a))

-- ---- tables

tabled_at : {A : Type 0} (k n i : ℕ) (f : ℕ → A) → i < n → slice_get (tabled k n f) i ≡ Some (f (k + i))
tabled_at k zero i f lt = absurd (omega (arith, lt))
tabled_at k (suc n) zero f lt = ap (λ x. Some (f x)) (omega arith)
tabled_at k (suc n) (suc i) f lt = tabled_at (suc k) n i f (omega (arith, lt)) ∙ ap (λ x. Some (f x)) (omega arith)

tabled_past : {A : Type 0} (k n i : ℕ) (f : ℕ → A) → n ≤ i → slice_get (tabled k n f) i ≡ None
tabled_past k zero i f le = refl
tabled_past k (suc n) zero f le = absurd (omega (arith, le))
tabled_past k (suc n) (suc i) f le = tabled_past (suc k) n i f (omega (arith, le))

within_or_past : (i n : ℕ) → (i < n) ⊎ (n ≤ i)
within_or_past zero zero = inr (omega arith)
within_or_past zero (suc n) = inl (omega arith)
within_or_past (suc i) zero = inr (omega arith)
within_or_past (suc i) (suc n) =
    ⊎_elim (λ t. inl (omega (arith, t))) (λ t. inr (omega (arith, t))) (within_or_past i n)

here : {A : Type 0} (n i : ℕ) (f : ℕ → A) → i < n → slice_get (tabled 0 n f) i ≡ Some (f i)
here n i f lt = tabled_at 0 n i f lt ∙ ap (λ x. Some (f x)) (omega arith)

-- ---- entries

shape_passed : (kind : Kind) → OnceIn kind → (c x : ℕ) → is_among x (passed_over (shape_of kind) c) ≡ passes kind c x
shape_passed Leaf once c x = refl
shape_passed (Scope g) once c x = refl
shape_passed (Choice bs) once c x = passed_is bs once c x
shape_passed (Foreach pace g) once c x = refl
shape_passed (Until most g) once c x = refl

shape_distinct : (kind : Kind) → OnceIn kind → (c : ℕ) → AreDistinct (passed_over (shape_of kind) c)
shape_distinct Leaf once c = tt
shape_distinct (Scope g) once c = tt
shape_distinct (Choice bs) once c = passed_distinct bs once c
shape_distinct (Foreach pace g) once c = tt
shape_distinct (Until most g) once c = tt

entry_is : (d : Graph) → Once d → (as' : List ActionTree) (n : ℕ) (kind : Kind) (e : EntryTree) → kind_of d n ≡ Some kind
    → HasEntry d as' n e → IsEntryOf d n kind e
entry_is d once as' n kind e is entry =
    let both : Some entry.kind ≡ Some kind = sym entry.of_kind ∙ is in
    let same : entry.kind ≡ kind = cc (both) in
    let facts = once_at d once n kind is in
    let block : e.block ≡ n ∷ shown kind = entry.block ∙ ap (λ k. n ∷ shown k) same in
    let shape : e.shape ≡ shape_of kind = entry.shape ∙ ap shape_of same in record {
      after = entry.after;
      shape = shape;
      block = λ x. ap (is_among x) block ∙ ap (λ z. nat_eq n x || z) (shown_is kind x);
      each_once = subst AreDistinct (sym block) (
        shown_is kind n ∙ not_true (shows kind n) (λ t. true≢false (sym (shows_holds kind n t) ∙ facts.1)),
        shown_once kind facts.0,
      );
      passed = λ c x. ap (λ z. is_among x (passed_over z c)) shape ∙ shape_passed kind facts.0 c x;
      passed_once = λ c. subst (λ z. AreDistinct (passed_over z c)) (sym shape) (shape_distinct kind facts.0 c);
    }

-- ---- the plan

module _ (graph : ActionTrees) (once : Once (layered graph))
    (below : (n : ℕ) → has (layered graph) n ≡ true → n < length (all_actions graph))
    (names : AllByRecursion NamesOnce (all_actions graph)) where
  abbrev d : Graph
  d = layered graph

  abbrev all : List ActionTree
  all = all_actions graph

  exact : IsExact d all
  exact = plans_are_exact graph once

  entry_of_plan : (n : ℕ) (kind : Kind) → kind_of d n ≡ Some kind
      → (e : EntryTree) × (at_place (plan_of graph).entries n ≡ Some e) × IsEntryOf d n kind e
  entry_of_plan n kind is =
      let there = kind_there d n kind is in
      let found = found_one all n (all_had graph n there) in (
        found.0,
        ap joined (here (length all) n (entry_for all) (below n there)) ∙ found.1,
        entry_is d once all n kind found.0 is (exact.entries n found.0 found.1),
      )

  followed : (n q : ℕ) → is_named (needs_of d q) n ≡ true → is_among q (followers_of all n) ≡ true
  followed n q t =
      number_at (λ k. is_named (needs_of d k) n ≡ true → is_among k (followers_of all n) ≡ true) all q (exact.wait n)
      (all_had graph q (needs_there d q n t)) t

  follow_is : (n q : ℕ) → has d n ≡ true → is_among q (list_at (plan_of graph).followers n) ≡ is_named (needs_of d q) n
  follow_is n q there =
      ap (λ o. is_among q (or_none o)) (here (length all) n (followers_of all) (below n there))
      ∙ ⊎_elim
      (λ t. followed n q t ∙ sym t)
      (λ u. not_true (is_among q (followers_of all n)) (λ t. true≢false (sym (exact.follow n q t) ∙ u)) ∙ sym u)
      (two (is_named (needs_of d q) n))

  each_follows_once : (n : ℕ) → AreDistinct (list_at (plan_of graph).followers n)
  each_follows_once n =
      ⊎_elim
      (λ lt. subst (λ o. AreDistinct (or_none o)) (sym (here (length all) n (followers_of all) lt))
      ((stand_once graph once).followers names n))
      (λ le. subst (λ o. AreDistinct (or_none o)) (sym (tabled_past 0 (length all) n (followers_of all) le)) tt)
      (within_or_past n (length all))

  holder_is : (n c : ℕ) → at_place (plan_of graph).holders n ≡ Some c → owns (kind_of d c) n ≡ true
  holder_is n c e =
      ⊎_elim
      (λ lt. exact.hold n c (sym (ap joined (here (length all) n (holder_of all) lt)) ∙ e))
      (λ le. absurd (none-some c (sym (ap joined (tabled_past 0 (length all) n (holder_of all) le)) ∙ e)))
      (within_or_past n (length all))

  held_by : (n c : ℕ) → owns (kind_of d c) n ≡ true → (o : Option ℕ) → holder_of all n ≡ o → o ≡ Some c
  held_by n c owned None e =
      absurd (true≢false (sym owned
      ∙ number_at (λ k. owns (kind_of d k) n ≡ false) all c (exact.free n e) (all_had graph c (holder_there d c n owned))))
  held_by n c owned (Some b) e = ap Some (one_holder d once b c n (exact.hold n b e) owned)

  held_is : (n c : ℕ) → has d n ≡ true → owns (kind_of d c) n ≡ true → at_place (plan_of graph).holders n ≡ Some c
  held_is n c there owned =
      ap joined (here (length all) n (holder_of all) (below n there)) ∙ held_by n c owned (holder_of all n) refl

  pub plan_is : IsPlanOf d (plan_of graph)
  plan_is = record {
    top = refl;
    entry = entry_of_plan;
    follow = follow_is;
    follow_once = each_follows_once;
    holder = holder_is;
    held = held_is;
  }
