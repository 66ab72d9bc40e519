-- Each graph that was read, as the laws of order see it: entries that stay in it, and depths by number.
use Rattle.std.proofs.Common.{◌≡◌, ◌<◌, ℕ, Bool, true, cond, List, [], ◌∷◌, map, inl, inr, nat_eq, bytes_eq, sym, ap, subst, ◌∙◌}
use Rattle.std.proofs.Common.{true≢false}
use Rattle.std.specs.Prelude.{◌||◌}
use Rattle.std.specs.List.{AllByRecursion}
use Rattle.std.proofs.lemmas.Bool.{eq-eqb}
use Rattle.wf_reading.specs.Definition as layers
use Rattle.wf_reading.specs.Seen.{Once, OnceAny, OnceIn}
use Rattle.wf_reading.specs.ActionTree.{ActionTree, action, action_after, action_name, action_number, KindTree, compose, connector, wait}
use Rattle.wf_reading.specs.ActionTree.{response, terminate, select, query, join, parse_json, initialize, set_to, increment, decrement}
use Rattle.wf_reading.specs.ActionTree.{append_array, append_string, scope, branch, switch, switch_else, foreach, until, ActionTrees}
use Rattle.wf_reading.specs.ActionTree.{no_actions, action_then, actions_in, CaseTrees, no_cases, case_then}
use Rattle.wf_reading.specs.Layered.{layered, layered_cases, layered_kind, need_of}
use Rattle.wf_reading.specs.After.{After}
use Rattle.wf_paths.proofs.PathLemmas.{or_left, or_right, or_split}
use Rattle.wf_reading.specs.Facts.{HasDepths, is_named}
use Rattle.wf_reading.proofs.PartLemmas.{equal_keys}
use Rattle.wf_order.proofs.OrderLaws.{first_passed, two}
use Rattle.wf_order.proofs.RelationLemmas.{own_has}
use Rattle.wf_known_laws.specs.Each.{EachCase, EachGraph, EachIn, EachInside}
use Rattle.wf_known_laws.proofs.EachLemmas.{HaveNumbers}
use Rattle.wf_known_laws.proofs.NumberLemmas.{bytes_eq-same}
use Rattle.wf_known_laws.proofs.WholeDepthLemmas as whole

-- ---- from each graph of a definition to each graph that it is

module _ (Holds : ActionTrees → Type 0) (Is : layers.Graph → Type 0) (empty : Is layers.done)
    (holds : (g : ActionTrees) → Once (layered g) → Holds g → Is (layered g)) where
  -- a graph, where it is known of those inside
  with_inside : (g : ActionTrees) → Once (layered g) → EachGraph Holds g → whole.EachInside Is (layered g)
      → Is (layered g) × whole.EachInside Is (layered g)
  with_inside g once each inside = (holds g once each.0, inside)

  mutual
    pub inside_layers : (g : ActionTrees) → Once (layered g) → EachInside Holds g → whole.EachInside Is (layered g)
    inside_layers no_actions once each = tt
    inside_layers (action_then (action name number pointer after kind tracked) rest) once each =
        (kind_layers kind once.2 each.0, inside_layers rest once.3 each.1)

    kind_layers : (kind : KindTree) → OnceIn (layered_kind kind) → EachIn Holds kind → whole.EachIn Is (layered_kind kind)
    kind_layers (compose inputs) once each = tt
    kind_layers (connector inputs policy) once each = tt
    kind_layers (wait inputs) once each = tt
    kind_layers (response inputs) once each = tt
    kind_layers (terminate inputs) once each = tt
    kind_layers (select from item) once each = tt
    kind_layers (query from filter) once each = tt
    kind_layers (join from with') once each = tt
    kind_layers (parse_json content schema) once each = tt
    kind_layers (initialize variables) once each = tt
    kind_layers (set_to name value) once each = tt
    kind_layers (increment name value) once each = tt
    kind_layers (decrement name value) once each = tt
    kind_layers (append_array name value) once each = tt
    kind_layers (append_string name value) once each = tt
    kind_layers (scope graph) once each = with_inside graph once each (inside_layers graph once each.1)
    kind_layers (branch test yes' no') once each = (
      with_inside yes' once.1 each.0 (inside_layers yes' once.1 each.0.1),
      (with_inside no' once.2.1 each.1 (inside_layers no' once.2.1 each.1.1), tt),
    )
    kind_layers (switch on cases) once each =
        cases_layers cases (layers.branch layers.done layers.no_branch) (λ last. ((empty, tt), tt)) once each
    kind_layers (switch_else on cases default) once each =
        cases_layers cases (layers.branch (layered default) layers.no_branch)
        (λ last. (with_inside default last.1 each.1 (inside_layers default last.1 each.1.1), tt)) once each.0
    kind_layers (foreach items repetitions graph) once each = with_inside graph once each (inside_layers graph once each.1)
    kind_layers (until test count fails graph) once each = with_inside graph once each (inside_layers graph once each.1)

    cases_layers : (cs : CaseTrees) (last : layers.Branches) → (OnceAny last → whole.EachBranch Is last) → OnceAny (layered_cases cs last)
        → EachCase Holds cs → whole.EachBranch Is (layered_cases cs last)
    cases_layers no_cases last is once each = is once
    cases_layers (case_then name value graph rest) last is once each =
        (with_inside graph once.1 each.0 (inside_layers graph once.1 each.0.1), cases_layers rest last is once.2 each.1)

-- ---- one graph

module _ (number_of : List ℕ → ℕ) where
  -- an action that is named has its number
  own_named : (k : List ℕ) (g : ActionTrees) → HaveNumbers number_of g → is_named k (actions_in g) ≡ true
      → layers.has_own (layered g) (number_of k) ≡ true
  own_named k no_actions numbers named = absurd (true≢false (sym named))
  own_named k (action_then (action name number pointer after kind tracked) rest) numbers named =
      elim (or_split (bytes_eq k name) (is_named k (actions_in rest)) named) [
        | inl is ↦ or_left (nat_eq number (number_of k)) (layers.has_own (layered rest) (number_of k))
            (eq-eqb number (number_of k) (numbers.0.0 ∙ ap number_of (sym (equal_keys k name is))))
        | inr later ↦ or_right (nat_eq number (number_of k)) (layers.has_own (layered rest) (number_of k))
            (own_named k rest numbers.1 later)
      ]

  -- the depth of an action of the graph, by its number
  abbrev depth_at : (List ℕ → ℕ) → List ActionTree → ℕ → ℕ
  depth_at depth [] m = 0
  depth_at depth (a ∷ as') m = cond (nat_eq (action_number a) m) (depth (action_name a)) (depth_at depth as' m)

  at_named : (depth : List ℕ → ℕ) (k : List ℕ) (g : ActionTrees) → Once (layered g) → HaveNumbers number_of g
      → is_named k (actions_in g) ≡ true
      → depth_at depth (actions_in g) (number_of k) ≡ depth k
  at_named depth k no_actions once numbers named = absurd (true≢false (sym named))
  at_named depth k (action_then (action name number pointer after kind tracked) rest) once numbers named =
      elim (two (bytes_eq k name)) [
        | inl is ↦
            let same : k ≡ name = equal_keys k name is in
            ap (λ (b : Bool). cond b (depth name) (depth_at depth (actions_in rest) (number_of k)))
            (eq-eqb number (number_of k) (numbers.0.0 ∙ ap number_of (sym same)))
            ∙ ap depth (sym same)
        | inr other ↦
            let later : is_named k (actions_in rest) ≡ true = sym (ap (λ (b : Bool). b || is_named k (actions_in rest)) other) ∙ named in
            let there = own_has (layered rest) (number_of k) (own_named k rest numbers.1 later) in
            ap (λ (b : Bool). cond b (depth name) (depth_at depth (actions_in rest) (number_of k)))
            (first_passed number (number_of k) (layered_kind kind) (layered rest) once.1 there)
            ∙ at_named depth k rest once.3 numbers.1 later
      ]

  module _ (w : ActionTrees) (once : Once (layered w)) (numbers : HaveNumbers number_of w) (depth : List ℕ → ℕ) where
    abbrev deep : ℕ → ℕ
    deep m = depth_at depth (actions_in w) m

    abbrev Entry : List ℕ → After → Type 0
    Entry own e = (is_named e.name (actions_in w) ≡ true) × (depth e.name < depth own)

    entries_own : (own : List ℕ) (es : List After) → AllByRecursion (Entry own) es
        → AllByRecursion (λ (e : After). e.number ≡ number_of e.name) es
        → (p : ℕ) → layers.Names (map need_of es) p → layers.has_own (layered w) p ≡ true
    entries_own own [] all numbered p named = elim named [ ]
    entries_own own (e ∷ es) all numbered p (inl is) =
        subst (λ (m : ℕ). layers.has_own (layered w) m ≡ true) (sym numbered.0 ∙ is) (own_named e.name w numbers all.0.0)
    entries_own own (e ∷ es) all numbered p (inr later) = entries_own own es all.1 numbered.1 p later

    entries_fall : (own : List ℕ) → is_named own (actions_in w) ≡ true → (es : List After) → AllByRecursion (Entry own) es
        → AllByRecursion (λ (e : After). e.number ≡ number_of e.name) es → (p : ℕ) → layers.Names (map need_of es) p
        → deep p < deep (number_of own)
    entries_fall own here [] all numbered p named = elim named [ ]
    entries_fall own here (e ∷ es) all numbered p (inl is) =
        let lower : depth e.name < depth own = all.0.1 in
        subst (λ (m : ℕ). deep m < deep (number_of own)) (sym numbered.0 ∙ is)
        (subst (λ (x : ℕ). x < deep (number_of own)) (sym (at_named depth e.name w once numbers all.0.0))
        (subst (λ (x : ℕ). depth e.name < x) (sym (at_named depth own w once numbers here)) lower))
    entries_fall own here (e ∷ es) all numbered p (inr later) = entries_fall own here es all.1 numbered.1 p later

    -- from an action on
    within_from : (g : ActionTrees) → AllByRecursion (λ a. AllByRecursion (Entry (action_name a)) (action_after a)) (actions_in g)
        → HaveNumbers number_of g
        → whole.Within (layered g) (layered w)
    within_from no_actions all numbered = tt
    within_from (action_then (action name number pointer after kind tracked) rest) all numbered =
        (entries_own name after all.0 numbered.0.1, within_from rest all.1 numbered.1)

    falling_from : (g : ActionTrees) → ((k : List ℕ) → is_named k (actions_in g) ≡ true → is_named k (actions_in w) ≡ true)
        → AllByRecursion (λ a. AllByRecursion (Entry (action_name a)) (action_after a)) (actions_in g) → HaveNumbers number_of g
        → whole.Falling (layered g) deep
    falling_from no_actions into all numbered = tt
    falling_from (action_then (action name number pointer after kind tracked) rest) into all numbered = (
      λ p named. subst (λ (m : ℕ). deep p < deep m) (sym numbered.0.0)
          (entries_fall name (into name (or_left (bytes_eq name name) (is_named name (actions_in rest))
          (bytes_eq-same name))) after all.0 numbered.0.1 p named),
      falling_from rest (λ k is. into k (or_right (bytes_eq k name) (is_named k (actions_in rest)) is)) all.1 numbered.1,
    )

  pub own_graph : (g : ActionTrees) → Once (layered g) → HasDepths g × HaveNumbers number_of g → whole.Own (layered g)
  own_graph g once sound = record {
    within = within_from g once sound.1 sound.0.depth g sound.0.falls sound.1;
    depth = deep g once sound.1 sound.0.depth;
    falls = falling_from g once sound.1 sound.0.depth g (λ k is. is) sound.0.falls sound.1;
  }

  no_graph : whole.Own layers.done
  no_graph = record { within = tt; depth = λ m. 0; falls = tt }

  -- the whole
  pub graph_owns : (g : ActionTrees) → Once (layered g) → EachGraph (λ h. HasDepths h × HaveNumbers number_of h) g
      → whole.Own (layered g) × whole.EachInside whole.Own (layered g)
  graph_owns g once each =
      (own_graph g once each.0, inside_layers (λ h. HasDepths h × HaveNumbers number_of h) whole.Own no_graph own_graph g once each.1)
