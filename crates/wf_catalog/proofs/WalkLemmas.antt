-- What a walk finds: each action, and the loops round it.
use Rattle.std.proofs.Common.{◌≡◌, ℕ, Bool, true, false, ◌||◌, cond, List, [], ◌∷◌, ◌++◌, map, Option, Some, None, option_map, inl}
use Rattle.std.proofs.Common.{inr, refl, sym, ap, ◌∙◌}
use Rattle.std.proofs.Common.{append_assoc, append-nil, true≢false, nat_eq, eqb-true, subst}
use Rattle.std.proofs.lemmas.Bool.{eq-eqb}
use Rattle.std.proofs.lemmas.List.{map-append}
use Rattle.std.specs.List.{find}
use Rattle.std.specs.Option.{option_or}
use Rattle.wf_layers.specs.Definition as layers
use Rattle.wf_layers.specs.Definition.{holds, has, has_any}
use Rattle.wf_layers.specs.Seen.{Once, OnceIn, OnceAny}
use Rattle.wf_layers.proofs.Basics.{two, or_first, when, unless}
use Rattle.wf_def.specs.ActionTree.{ActionTree, action, KindTree, compose, connector, wait, response, terminate, select, query, join}
use Rattle.wf_def.specs.ActionTree.{parse_json, initialize, set_to, increment, decrement, append_array, append_string, scope, branch}
use Rattle.wf_def.specs.ActionTree.{switch, switch_else, foreach, until, ActionTrees, no_actions, action_then, CaseTrees, no_cases}
use Rattle.wf_def.specs.ActionTree.{case_then}
use Rattle.wf_def.specs.AllActions.{all_actions, kind_actions, cases_actions}
use Rattle.wf_def.specs.Layered.{layered, layered_cases, layered_kind}
use Rattle.wf_meant.specs.Loops.{loops_any, loops_in, loops_of}
use Rattle.wf_meant.proofs.RoundLemmas.{loops_none}
use Rattle.wf_catalog.specs.Walk.{Walked, cases_walk, graph_walk, is_at, kind_walk}

-- ---- all actions, in the order of the tree

abbrev actions_of : List Walked → List ActionTree
actions_of ws = map (λ (w : Walked). w.action) ws

both : (vs ws : List Walked) (xs ys : List ActionTree) → actions_of vs ≡ xs → actions_of ws ≡ ys → actions_of (vs ++ ws) ≡ xs ++ ys
both vs ws xs ys p q =
    map-append (λ (w : Walked). w.action) vs ws ∙ (ap (λ as'. as' ++ actions_of ws) p ∙ ap (λ as'. xs ++ as') q)

mutual
  pub actions-graph : (round : List ℕ) (g : ActionTrees) → actions_of (graph_walk round g) ≡ all_actions g
  actions-graph round no_actions = refl
  actions-graph round (action_then (action name number pointer after kind tracked) rest) =
      ap (λ as'. action name number pointer after kind tracked ∷ as')
      (map-append (λ (w : Walked). w.action) (kind_walk round number kind) (graph_walk round rest)
      ∙ (ap (λ as'. as' ++ actions_of (graph_walk round rest)) (actions-kind round number kind)
      ∙ ap (λ as'. kind_actions kind ++ as') (actions-graph round rest)))

  actions-kind : (round : List ℕ) (n : ℕ) (kind : KindTree) → actions_of (kind_walk round n kind) ≡ kind_actions kind
  actions-kind round n (compose inputs) = refl
  actions-kind round n (connector inputs policy) = refl
  actions-kind round n (wait inputs) = refl
  actions-kind round n (response inputs) = refl
  actions-kind round n (terminate inputs) = refl
  actions-kind round n (select from item) = refl
  actions-kind round n (query from filter) = refl
  actions-kind round n (join from with') = refl
  actions-kind round n (parse_json content schema) = refl
  actions-kind round n (initialize variables) = refl
  actions-kind round n (set_to name value) = refl
  actions-kind round n (increment name value) = refl
  actions-kind round n (decrement name value) = refl
  actions-kind round n (append_array name value) = refl
  actions-kind round n (append_string name value) = refl
  actions-kind round n (scope graph) = actions-graph round graph
  actions-kind round n (branch test yes' no') = both (graph_walk round yes') (graph_walk round no') (all_actions yes') (all_actions no')
      (actions-graph round yes') (actions-graph round no')
  actions-kind round n (switch on cases) = actions-cases round cases
  actions-kind round n (switch_else on cases default) = both (cases_walk round cases) (graph_walk round default) (cases_actions cases)
      (all_actions default) (actions-cases round cases) (actions-graph round default)
  actions-kind round n (foreach items repetitions graph) = actions-graph (round ++ n ∷ []) graph
  actions-kind round n (until test count fails graph) = actions-graph (round ++ n ∷ []) graph

  actions-cases : (round : List ℕ) (cases : CaseTrees) → actions_of (cases_walk round cases) ≡ cases_actions cases
  actions-cases round no_cases = refl
  actions-cases round (case_then name value graph rest) = both (graph_walk round graph) (cases_walk round rest) (all_actions graph)
      (cases_actions rest) (actions-graph round graph) (actions-cases round rest)

-- ---- the loops round each

abbrev pub loops_found : ℕ → List Walked → Option (List ℕ)
loops_found n ws = option_map (λ (w : Walked). w.loops) (find (is_at n) ws)

first_or : (b : Bool) (w : Walked) (o q : Option Walked) → option_map (λ (v : Walked). v.loops) (cond b (Some w) (option_or o q))
    ≡ option_or (option_map (λ (v : Walked). v.loops) (cond b (Some w) o)) (option_map (λ (v : Walked). v.loops) q)
first_or true w o q = refl
first_or false w None q = refl
first_or false w (Some v) q = refl

find-append : (n : ℕ) (vs ws : List Walked) → find (is_at n) (vs ++ ws) ≡ option_or (find (is_at n) vs) (find (is_at n) ws)
find-append n [] ws = refl
find-append n (v ∷ vs) ws = ap (cond (is_at n v) (Some v)) (find-append n vs ws) ∙ or_out (is_at n v) v (find (is_at n) vs) (find (is_at n) ws)
  where
    or_out : (b : Bool) (w : Walked) (o q : Option Walked) → cond b (Some w) (option_or o q) ≡ option_or (cond b (Some w) o) q
    or_out true w o q = refl
    or_out false w o q = refl

found-append : (n : ℕ) (vs ws : List Walked) → loops_found n (vs ++ ws) ≡ option_or (loops_found n vs) (loops_found n ws)
found-append n vs ws =
    ap (option_map (λ (w : Walked). w.loops)) (find-append n vs ws) ∙ map_or (find (is_at n) vs) (find (is_at n) ws)
  where
    map_or : (o q : Option Walked) → option_map (λ (w : Walked). w.loops) (option_or o q)
        ≡ option_or (option_map (λ (w : Walked). w.loops) o) (option_map (λ (w : Walked). w.loops) q)
    map_or None q = refl
    map_or (Some v) q = refl

-- where it is there, in these loops and those inside
abbrev there : Bool → List ℕ → Option (List ℕ)
there b ls = cond b (Some ls) None

-- the first of two, or the second
two_there : (b c : Bool) (ls ms : List ℕ) → option_or (there b ls) (there c ms) ≡ there (b || c) (cond b ls ms)
two_there true c ls ms = refl
two_there false c ls ms = refl

cond_out : (b : Bool) (round ls ms : List ℕ) → cond b (round ++ ls) (round ++ ms) ≡ round ++ cond b ls ms
cond_out true round ls ms = refl
cond_out false round ls ms = refl

none_any : (n : ℕ) → loops_found n [] ≡ None
none_any n = refl

no_more : (b : Bool) (ls ms : List ℕ) → there b ls ≡ there (b || false) (cond b ls ms)
no_more true ls ms = refl
no_more false ls ms = refl

swap : (n m : ℕ) (b : Bool) → nat_eq m n ≡ b → nat_eq n m ≡ b
swap n m true e = subst (λ (k : ℕ). nat_eq k m ≡ true) (eqb-true m n e) (eq-eqb m m refl)
swap n m false e = elim (two (nat_eq n m)) [
  | inl t ↦ absurd (true≢false (sym (subst (λ (k : ℕ). nat_eq k n ≡ true) (eqb-true n m t) (eq-eqb n n refl)) ∙ e))
  | inr f ↦ f
]

-- of a number that no action has, none
abbrev pub loops_or_none : Option (List ℕ) → List ℕ
loops_or_none None = []
loops_or_none (Some ls) = ls

module _ (n : ℕ) where
  mutual
    found_graph : (round : List ℕ) (g : ActionTrees) → Once (layered g)
        → loops_found n (graph_walk round g) ≡ there (has (layered g) n) (round ++ loops_of (layered g) n)
    found_graph round no_actions once = refl
    found_graph round (action_then (action name m pointer after kind tracked) rest) once =
        let k = layered_kind kind in
        let g = layered rest in
        elim (two (nat_eq m n)) [
          | inl t ↦
              let here = or_first (nat_eq m n || holds k n) (has g n) (or_first (nat_eq m n) (holds k n) t) in
              let off = subst (λ (q : ℕ). holds k q ≡ false) (eqb-true m n t) once.0 in
              let gone = once.1 n (or_first (nat_eq m n) (holds k n) t) in
              ap (option_map (λ (w : Walked). w.loops)) (when (nat_eq n m)
              (Some (record { action = action name m pointer after kind tracked; loops = round }))
              (find (is_at n) (kind_walk round m kind ++ graph_walk round rest)) (swap n m true t))
              ∙ (ap (λ (ls : List ℕ). Some ls) (sym (append-nil round))
              ∙ (ap (λ (ls : List ℕ). Some (round ++ ls)) (sym (unless (holds k n) (loops_in m k n) (loops_of g n) off ∙ loops_none g n gone))
              ∙ sym (when (nat_eq m n || holds k n || has g n) (Some (round ++ cond (holds k n) (loops_in m k n) (loops_of g n))) None here)))
          | inr f ↦
              ap (option_map (λ (w : Walked). w.loops)) (unless (nat_eq n m)
              (Some (record { action = action name m pointer after kind tracked; loops = round }))
              (find (is_at n) (kind_walk round m kind ++ graph_walk round rest)) (swap n m false f))
              ∙ (found-append n (kind_walk round m kind) (graph_walk round rest)
              ∙ (ap (λ o. option_or o (loops_found n (graph_walk round rest))) (found_kind round m kind once.2)
              ∙ (ap (λ o. option_or (there (holds k n) (round ++ loops_in m k n)) o) (found_graph round rest once.3)
              ∙ (two_there (holds k n) (has g n) (round ++ loops_in m k n) (round ++ loops_of g n)
              ∙ (ap (there (holds k n || has g n)) (cond_out (holds k n) round (loops_in m k n) (loops_of g n))
              ∙ ap (λ (b : Bool). there ((b || holds k n) || has g n) (round ++ cond (holds k n) (loops_in m k n) (loops_of g n))) (sym f))))))
        ]

    found_kind : (round : List ℕ) (m : ℕ) (kind : KindTree) → OnceIn (layered_kind kind)
        → loops_found n (kind_walk round m kind) ≡ there (holds (layered_kind kind) n) (round ++ loops_in m (layered_kind kind) n)
    found_kind round m (compose inputs) once = refl
    found_kind round m (connector inputs policy) once = refl
    found_kind round m (wait inputs) once = refl
    found_kind round m (response inputs) once = refl
    found_kind round m (terminate inputs) once = refl
    found_kind round m (select from item) once = refl
    found_kind round m (query from filter) once = refl
    found_kind round m (join from with') once = refl
    found_kind round m (parse_json content schema) once = refl
    found_kind round m (initialize variables) once = refl
    found_kind round m (set_to name value) once = refl
    found_kind round m (increment name value) once = refl
    found_kind round m (decrement name value) once = refl
    found_kind round m (append_array name value) once = refl
    found_kind round m (append_string name value) once = refl
    found_kind round m (scope graph) once = found_graph round graph once
    found_kind round m (branch test yes' no') once =
        found-append n (graph_walk round yes') (graph_walk round no')
        ∙ (ap (λ o. option_or o (loops_found n (graph_walk round no'))) (found_graph round yes' once.1)
        ∙ (ap (option_or (there (has (layered yes') n) (round ++ loops_of (layered yes') n)))
        (found_graph round no' once.2.1 ∙ no_more (has (layered no') n) (round ++ loops_of (layered no') n) (round ++ []))
        ∙ (two_there (has (layered yes') n) (has (layered no') n || false) (round ++ loops_of (layered yes') n)
        (cond (has (layered no') n) (round ++ loops_of (layered no') n) (round ++ []))
        ∙ ap (there (has (layered yes') n || (has (layered no') n || false)))
        (ap (cond (has (layered yes') n) (round ++ loops_of (layered yes') n)) (cond_out (has (layered no') n) round (loops_of (layered no') n) [])
        ∙ cond_out (has (layered yes') n) round (loops_of (layered yes') n) (cond (has (layered no') n) (loops_of (layered no') n) [])))))
    found_kind round m (switch on cases) once =
        ap (loops_found n) (sym (append-nil (cases_walk round cases)))
        ∙ found_cases round cases (layers.branch layers.done layers.no_branch) [] refl once
    found_kind round m (switch_else on cases default) once =
        found_cases round cases (layers.branch (layered default) layers.no_branch) (graph_walk round default)
        (found_graph round default (last_once cases (layered default) once)
        ∙ (no_more (has (layered default) n) (round ++ loops_of (layered default) n) (round ++ [])
        ∙ ap (there (has (layered default) n || false)) (cond_out (has (layered default) n) round (loops_of (layered default) n) [])))
        once
    found_kind round m (foreach items repetitions graph) once =
        found_graph (round ++ m ∷ []) graph once
        ∙ ap (there (has (layered graph) n)) (append_assoc round (m ∷ []) (loops_of (layered graph) n))
    found_kind round m (until test count fails graph) once =
        found_graph (round ++ m ∷ []) graph once
        ∙ ap (there (has (layered graph) n)) (append_assoc round (m ∷ []) (loops_of (layered graph) n))

    -- the cases, and what stands behind them
    found_cases : (round : List ℕ) (cases : CaseTrees) (last : layers.Branches) (ws : List Walked)
        → loops_found n ws ≡ there (has_any last n) (round ++ loops_any last n) → OnceAny (layered_cases cases last)
        → loops_found n (cases_walk round cases ++ ws)
        ≡ there (has_any (layered_cases cases last) n) (round ++ loops_any (layered_cases cases last) n)
    found_cases round no_cases last ws behind once = behind
    found_cases round (case_then name value graph rest) last ws behind once =
        let g = layered graph in
        let bs = layered_cases rest last in
        ap (loops_found n) (append_assoc (graph_walk round graph) (cases_walk round rest) ws)
        ∙ (found-append n (graph_walk round graph) (cases_walk round rest ++ ws)
        ∙ (ap (λ o. option_or o (loops_found n (cases_walk round rest ++ ws))) (found_graph round graph once.1)
        ∙ (ap (option_or (there (has g n) (round ++ loops_of g n))) (found_cases round rest last ws behind once.2)
        ∙ (two_there (has g n) (has_any bs n) (round ++ loops_of g n) (round ++ loops_any bs n)
        ∙ ap (there (has g n || has_any bs n)) (cond_out (has g n) round (loops_of g n) (loops_any bs n))))))

    last_once : (cases : CaseTrees) (g : layers.Graph) → OnceAny (layered_cases cases (layers.branch g layers.no_branch)) → Once g
    last_once no_cases g once = once.1
    last_once (case_then name value graph rest) g once = last_once rest g once.2

  pub walk_loops : (g : ActionTrees) → Once (layered g) → loops_or_none (loops_found n (graph_walk [] g)) ≡ loops_of (layered g) n
  walk_loops g once = elim (two (has (layered g) n)) [
    | inl t ↦ ap loops_or_none (found_graph [] g once ∙ when (has (layered g) n) (Some (loops_of (layered g) n)) None t)
    | inr f ↦ ap loops_or_none (found_graph [] g once ∙ unless (has (layered g) n) (Some (loops_of (layered g) n)) None f)
        ∙ sym (loops_none (layered g) n f)
  ]
