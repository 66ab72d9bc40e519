-- The graph that a definition is to the laws of order: which numbers it has, and that each stands once.
use Rattle.std.proofs.Common.{◌≡◌, ℕ, Bool, true, false, List, ◌∷◌, ◌++◌, inl, inr, nat_eq, refl, sym, ap, ap₂, ◌∙◌}
use Rattle.std.specs.Prelude.{◌||◌}
use Rattle.std.specs.List.{list_any}
use Rattle.std.proofs.Math.Bool.{or-false}
use Rattle.std.proofs.lemmas.Bool.{eq-eqb, eqb-true}
use Rattle.wf_reading.specs.Definition as layers
use Rattle.wf_reading.specs.Seen.{Once, OnceAny, OnceIn}
use Rattle.wf_reading.specs.ActionTree.{action, KindTree, compose, connector, wait, response, terminate, select, query, join, parse_json}
use Rattle.wf_reading.specs.ActionTree.{initialize, set_to, increment, decrement, append_array, append_string, scope, branch, switch}
use Rattle.wf_reading.specs.ActionTree.{switch_else, foreach, until, ActionTrees, no_actions, action_then, CaseTrees, no_cases, case_then}
use Rattle.wf_reading.specs.Layered.{layered, layered_cases, layered_kind}
use Rattle.wf_reading.specs.Facts.{cases_numbers, graph_numbers, kind_numbers}
use Rattle.wf_paths.proofs.PathLemmas.{or_left, or_right}
use Rattle.wf_order.proofs.OrderLaws.{clash, two}
use Rattle.wf_known_laws.proofs.NumberLemmas.{any-append, apart-between, apart-first, apart-second, AreApart, none-first}

eq-sym : (n m : ℕ) → nat_eq n m ≡ nat_eq m n
eq-sym n m = elim (two (nat_eq n m)) [
  | inl is ↦ is ∙ sym (eq-eqb m n (sym (eqb-true n m is)))
  | inr other ↦ elim (two (nat_eq m n)) [
    | inl is ↦ absurd (clash (nat_eq n m) (eq-eqb n m (sym (eqb-true m n is))) other)
    | inr too ↦ other ∙ sym too
  ]
]

or-assoc : (a b c : Bool) → ((a || b) || c) ≡ (a || (b || c))
or-assoc true b c = refl
or-assoc false b c = refl

-- ---- the numbers

-- two lists in a row
both : (m : ℕ) (a b : Bool) (xs ys : List ℕ) → a ≡ list_any (nat_eq m) xs → b ≡ list_any (nat_eq m) ys → (a || b)
    ≡ list_any (nat_eq m) (xs ++ ys)
both m a b xs ys one other = ap₂ (λ (x y : Bool). x || y) one other ∙ sym (any-append (nat_eq m) xs ys)

mutual
  pub graph-had : (m : ℕ) (g : ActionTrees) → layers.has (layered g) m ≡ list_any (nat_eq m) (graph_numbers g)
  graph-had m no_actions = refl
  graph-had m (action_then (action name number pointer after kind tracked) rest) =
      or-assoc (nat_eq number m) (layers.holds (layered_kind kind) m) (layers.has (layered rest) m)
      ∙ ap₂ (λ (x y : Bool). x || y) (eq-sym number m)
      (both m (layers.holds (layered_kind kind) m) (layers.has (layered rest) m) (kind_numbers kind) (graph_numbers rest)
      (kind-had m kind) (graph-had m rest))

  pub kind-had : (m : ℕ) (kind : KindTree) → layers.holds (layered_kind kind) m ≡ list_any (nat_eq m) (kind_numbers kind)
  kind-had m (compose inputs) = refl
  kind-had m (connector inputs policy) = refl
  kind-had m (wait inputs) = refl
  kind-had m (response inputs) = refl
  kind-had m (terminate inputs) = refl
  kind-had m (select from item) = refl
  kind-had m (query from filter) = refl
  kind-had m (join from with') = refl
  kind-had m (parse_json content schema) = refl
  kind-had m (initialize variables) = refl
  kind-had m (set_to name value) = refl
  kind-had m (increment name value) = refl
  kind-had m (decrement name value) = refl
  kind-had m (append_array name value) = refl
  kind-had m (append_string name value) = refl
  kind-had m (scope graph) = graph-had m graph
  kind-had m (branch test yes' no') =
      both m (layers.has (layered yes') m) (layers.has (layered no') m || false) (graph_numbers yes') (graph_numbers no') (graph-had m yes')
      (or-false (layers.has (layered no') m) ∙ graph-had m no')
  kind-had m (switch on cases) = cases-had m cases (layers.branch layers.done layers.no_branch)
      ∙ or-false (list_any (nat_eq m) (cases_numbers cases))
  kind-had m (switch_else on cases default) =
      cases-had m cases (layers.branch (layered default) layers.no_branch)
      ∙ both m (list_any (nat_eq m) (cases_numbers cases)) (layers.has (layered default) m || false) (cases_numbers cases)
      (graph_numbers default) refl
      (or-false (layers.has (layered default) m) ∙ graph-had m default)
  kind-had m (foreach items repetitions graph) = graph-had m graph
  kind-had m (until test count fails graph) = graph-had m graph

  cases-had : (m : ℕ) (cs : CaseTrees) (last : layers.Branches)
      → layers.has_any (layered_cases cs last) m ≡ (list_any (nat_eq m) (cases_numbers cs) || layers.has_any last m)
  cases-had m no_cases last = refl
  cases-had m (case_then name value graph rest) last =
      ap₂ (λ (x y : Bool). x || y) (graph-had m graph) (cases-had m rest last)
      ∙ sym (or-assoc (list_any (nat_eq m) (graph_numbers graph)) (list_any (nat_eq m) (cases_numbers rest)) (layers.has_any last m))
      ∙ ap (λ (b : Bool). b || layers.has_any last m) (sym (any-append (nat_eq m) (graph_numbers graph) (cases_numbers rest)))

-- ---- each stands once

mutual
  pub graph-once : (g : ActionTrees) → AreApart (graph_numbers g) → Once (layered g)
  graph-once no_actions apart = tt
  graph-once (action_then (action name number pointer after kind tracked) rest) apart =
      let inner : List ℕ = kind_numbers kind in
      let later : List ℕ = graph_numbers rest in
      let apart_here : (m : ℕ) → (nat_eq number m || layers.holds (layered_kind kind) m) ≡ true → layers.has (layered rest) m ≡ false =
      λ m is. graph-had m rest ∙ apart-between (number ∷ inner) later apart m
      (sym (ap₂ (λ (x y : Bool). x || y) (eq-sym number m) (kind-had m kind)) ∙ is) in (
        kind-had number kind ∙ none-first (list_any (nat_eq number) inner) (list_any (nat_eq number) later)
            (sym (any-append (nat_eq number) inner later) ∙ apart.0),
        apart_here,
        kind-once kind (apart-first inner later apart.1),
        graph-once rest (apart-second inner later apart.1),
      )

  kind-once : (kind : KindTree) → AreApart (kind_numbers kind) → OnceIn (layered_kind kind)
  kind-once (compose inputs) apart = tt
  kind-once (connector inputs policy) apart = tt
  kind-once (wait inputs) apart = tt
  kind-once (response inputs) apart = tt
  kind-once (terminate inputs) apart = tt
  kind-once (select from item) apart = tt
  kind-once (query from filter) apart = tt
  kind-once (join from with') apart = tt
  kind-once (parse_json content schema) apart = tt
  kind-once (initialize variables) apart = tt
  kind-once (set_to name value) apart = tt
  kind-once (increment name value) apart = tt
  kind-once (decrement name value) apart = tt
  kind-once (append_array name value) apart = tt
  kind-once (append_string name value) apart = tt
  kind-once (scope graph) apart = graph-once graph apart
  kind-once (branch test yes' no') apart =
      let one : List ℕ = graph_numbers yes' in
      let other : List ℕ = graph_numbers no' in
      let between : (m : ℕ) → layers.has (layered yes') m ≡ true → (layers.has (layered no') m || false) ≡ false =
      λ m is. or-false (layers.has (layered no') m) ∙ graph-had m no' ∙ apart-between one other apart m (sym (graph-had m yes') ∙ is) in
      (between, graph-once yes' (apart-first one other apart), ((λ m is. refl), graph-once no' (apart-second one other apart), tt))
  kind-once (switch on cases) apart =
      cases-once cases (layers.branch layers.done layers.no_branch) apart ((λ m is. refl), tt, tt) (λ m is. refl)
  kind-once (switch_else on cases default) apart =
      let one : List ℕ = cases_numbers cases in
      let other : List ℕ = graph_numbers default in
      cases-once cases (layers.branch (layered default) layers.no_branch) (apart-first one other apart)
      ((λ m is. refl), graph-once default (apart-second one other apart), tt)
      (λ m is. or-false (layers.has (layered default) m) ∙ graph-had m default ∙ apart-between one other apart m is)
  kind-once (foreach items repetitions graph) apart = graph-once graph apart
  kind-once (until test count fails graph) apart = graph-once graph apart

  cases-once : (cs : CaseTrees) (last : layers.Branches) → AreApart (cases_numbers cs) → OnceAny last
      → ((m : ℕ) → list_any (nat_eq m) (cases_numbers cs) ≡ true → layers.has_any last m ≡ false) → OnceAny (layered_cases cs last)
  cases-once no_cases last apart once between = once
  cases-once (case_then name value graph rest) last apart once between =
      let one : List ℕ = graph_numbers graph in
      let later : List ℕ = cases_numbers rest in
      let here : (m : ℕ) → layers.has (layered graph) m ≡ true → layers.has_any (layered_cases rest last) m ≡ false =
      λ m is.
      let among : list_any (nat_eq m) one ≡ true = sym (graph-had m graph) ∙ is in
      cases-had m rest last
      ∙ ap₂ (λ (x y : Bool). x || y) (apart-between one later apart m among)
      (between m (any-append (nat_eq m) one later ∙ or_left (list_any (nat_eq m) one) (list_any (nat_eq m) later) among)) in (
        here,
        graph-once graph (apart-first one later apart),
        cases-once rest last (apart-second one later apart) once
            (λ m is. between m (any-append (nat_eq m) one later ∙ or_right (list_any (nat_eq m) one) (list_any (nat_eq m) later) is)),
      )
