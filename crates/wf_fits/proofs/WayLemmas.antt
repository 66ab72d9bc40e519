-- What a walk finds: each action, and the way to it.
use Rattle.std.proofs.Common.{◌≡◌, ℕ, suc, Bool, true, false, ◌||◌, cond, List, [], ◌∷◌, ◌++◌, map, Option, Some, None, option_map}
use Rattle.std.proofs.Common.{Less, Equal, Greater, nat_lt, arith, is_eq, inl, inr, refl, sym, ap, ◌∙◌, append_assoc, append-nil, nat_eq, eqb-true, subst, true≢false}
use Rattle.std.proofs.lemmas.Bool.{eq-eqb, ltb-true}
use Rattle.std.proofs.lemmas.Cmp.{nat_cmp_total}
use Rattle.std.proofs.lemmas.List.{map-append}
use Rattle.std.specs.List.{find}
use Rattle.std.specs.Option.{option_or}
use Rattle.std.specs.Ordering.{nat_cmp}
use Rattle.wf_layers.specs.Definition as layers
use Rattle.wf_layers.specs.Definition.{holds, has, has_any}
use Rattle.wf_layers.proofs.Basics.{two, when, unless}
use Rattle.wf_def.specs.ActionTree.{ActionTree, action, KindTree, compose, connector, wait, response, terminate, select, query, join}
use Rattle.wf_def.specs.ActionTree.{parse_json, initialize, set_to, increment, decrement, append_array, append_string, scope, branch}
use Rattle.wf_def.specs.ActionTree.{switch, switch_else, foreach, until, ActionTrees, no_actions, action_then, CaseTrees, no_cases}
use Rattle.wf_def.specs.ActionTree.{case_then}
use Rattle.wf_def.specs.AllActions.{all_actions, kind_actions, cases_actions, has_number}
use Rattle.wf_def.specs.DefTree.{DefTree}
use Rattle.wf_def.specs.Layered.{layered, layered_cases, layered_kind}
use Rattle.wf_def.specs.declared.graph.Action.{out-Action}
use Rattle.wf_catalog.specs.Keys.{all_put}
use Rattle.wf_catalog.proofs.KeyLemmas.{find-all_put, find-as, same_number}
use Rattle.wf_catalog.proofs.PlaceLemmas.{name_is, number_is}
use Rattle.wf_ways.specs.Way.{Step, step, whole, branch_of, item, round, way, way_any, way_in}
use Rattle.wf_fits.specs.Walk.{Walked, behind, cases_walk, graph_walk, is_at, kind_walk}
use Rattle.wf_fits.specs.WalkSeen.{walked}
use Rattle.wf_fits.specs.WaysSeen as seen
use Rattle.wf_fits.specs.WaysSeen.{AreWays, placed_at}
use Rattle.wf_fits.specs.Sorts.{all_initials, is_named, sort_by}
use Rattle.wf_fits.specs.SortsSeen.{sort_in, typed_tree}
use Rattle.wf_catalog.specs.declared.named.Named.{Named}
use Rattle.wf_fits.specs.declared.sorts.Typed.{Typed}
use Rattle.wf_fits.specs.NamedSeen.{named_in, named_tree}
use Rattle.wf_catalog.specs.Points.{has_action_name}
use Rattle.std.specs.Prelude.{bytes_eq}
use Rattle.wf_fits.specs.declared.walk.Placed.{Placed}
use Rattle.wf_def.specs.ActionSeen.{action_tree}
use Rattle.wf_def.specs.ActionTree.{InitialTree}
use Rattle.wf_val.specs.NameOrder.{bytes_cmp}
use Rattle.std.proofs.lemmas.Cmp.{nat_list_cmp_total}
use Rattle.std.proofs.lemmas.Map.Text.{is_eq-slice_cmp}

-- ---- all actions, in the order of the tree

abbrev actions_of : List Walked → List ActionTree
actions_of ws = map (λ (w : Walked). w.action) ws

both : (vs ws : List Walked) (xs ys : List ActionTree) → actions_of vs ≡ xs → actions_of ws ≡ ys → actions_of (vs ++ ws) ≡ xs ++ ys
both vs ws xs ys p q =
    map-append (λ (w : Walked). w.action) vs ws ∙ (ap (λ as'. as' ++ actions_of ws) p ∙ ap (λ as'. xs ++ as') q)

mutual
  actions-graph : (to : List Step) (g : ActionTrees) → actions_of (graph_walk to g) ≡ all_actions g
  actions-graph to no_actions = refl
  actions-graph to (action_then (action name number pointer after kind tracked) rest) =
      ap (λ as'. action name number pointer after kind tracked ∷ as')
      (map-append (λ (w : Walked). w.action) (kind_walk to number kind) (graph_walk to rest)
      ∙ (ap (λ as'. as' ++ actions_of (graph_walk to rest)) (actions-kind to number kind)
      ∙ ap (λ as'. kind_actions kind ++ as') (actions-graph to rest)))

  actions-kind : (to : List Step) (n : ℕ) (kind : KindTree) → actions_of (kind_walk to n kind) ≡ kind_actions kind
  actions-kind to n (compose inputs) = refl
  actions-kind to n (connector inputs policy) = refl
  actions-kind to n (wait inputs) = refl
  actions-kind to n (response inputs) = refl
  actions-kind to n (terminate inputs) = refl
  actions-kind to n (select from shape) = refl
  actions-kind to n (query from filter) = refl
  actions-kind to n (join from with') = refl
  actions-kind to n (parse_json content schema) = refl
  actions-kind to n (initialize variables) = refl
  actions-kind to n (set_to name value) = refl
  actions-kind to n (increment name value) = refl
  actions-kind to n (decrement name value) = refl
  actions-kind to n (append_array name value) = refl
  actions-kind to n (append_string name value) = refl
  actions-kind to n (scope graph) = actions-graph (to ++ step n whole ∷ []) graph
  actions-kind to n (branch test yes' no') =
      both (graph_walk (to ++ step n (branch_of 1) ∷ []) yes') (graph_walk (to ++ step n (branch_of 2) ∷ []) no')
      (all_actions yes') (all_actions no')
      (actions-graph (to ++ step n (branch_of 1) ∷ []) yes') (actions-graph (to ++ step n (branch_of 2) ∷ []) no')
  actions-kind to n (switch on cases) = actions-cases to n 1 cases
  actions-kind to n (switch_else on cases default) =
      let last = to ++ step n (branch_of (behind 1 cases)) ∷ [] in
      both (cases_walk to n 1 cases) (graph_walk last default) (cases_actions cases) (all_actions default)
      (actions-cases to n 1 cases) (actions-graph last default)
  actions-kind to n (foreach items repetitions graph) = actions-graph (to ++ step n item ∷ []) graph
  actions-kind to n (until test count fails graph) = actions-graph (to ++ step n round ∷ []) graph

  actions-cases : (to : List Step) (n k : ℕ) (cases : CaseTrees) → actions_of (cases_walk to n k cases) ≡ cases_actions cases
  actions-cases to n k no_cases = refl
  actions-cases to n k (case_then name value graph rest) =
      both (graph_walk (to ++ step n (branch_of k) ∷ []) graph) (cases_walk to n (suc k) rest) (all_actions graph)
      (cases_actions rest) (actions-graph (to ++ step n (branch_of k) ∷ []) graph) (actions-cases to n (suc k) rest)

-- ---- the way to each

abbrev pub way_found : ℕ → List Walked → Option (List Step)
way_found n ws = option_map (λ (w : Walked). w.way) (find (is_at n) ws)

found-append : (n : ℕ) (vs ws : List Walked) → way_found n (vs ++ ws) ≡ option_or (way_found n vs) (way_found n ws)
found-append n [] ws = refl
found-append n (v ∷ vs) ws = elim (two (is_at n v)) [
  | inl t ↦ rw t refl
  | inr f ↦ rw f (found-append n vs ws)
]

-- where it is there, on this way
abbrev there : Bool → List Step → Option (List Step)
there b ss = cond b (Some ss) None

two_there : (b c : Bool) (to ss ts : List Step) → option_or (there b (to ++ ss)) (there c (to ++ ts)) ≡ there (b || c) (to ++ cond b ss ts)
two_there true c to ss ts = refl
two_there false c to ss ts = refl

no_more : (b : Bool) (to ss : List Step) → there b (to ++ ss) ≡ there (b || false) (to ++ cond b ss [])
no_more true to ss = refl
no_more false to ss = refl

swap : (n m : ℕ) (b : Bool) → nat_eq m n ≡ b → nat_eq n m ≡ b
swap n m true e = subst (λ (k : ℕ). nat_eq k m ≡ true) (eqb-true m n e) (eq-eqb m m refl)
swap n m false e = elim (two (nat_eq n m)) [
  | inl t ↦ absurd (true≢false (sym (subst (λ (k : ℕ). nat_eq k n ≡ true) (eqb-true n m t) (eq-eqb n n refl)) ∙ e))
  | inr f ↦ f
]

-- on the way into a container
one_more : (b : Bool) (to ss : List Step) (s : Step) (o : Option (List Step)) → o ≡ there b ((to ++ s ∷ []) ++ ss) → o ≡ there b (to ++ s ∷ ss)
one_more b to ss s o is = is ∙ ap (there b) (append_assoc to (s ∷ []) ss)

module _ (n : ℕ) where
  mutual
    found_graph : (to : List Step) (g : ActionTrees)
        → way_found n (graph_walk to g) ≡ there (has (layered g) n) (to ++ way (layered g) n)
    found_graph to no_actions = refl
    found_graph to (action_then (action name m pointer after kind tracked) rest) =
        let k = layered_kind kind in
        let g = layered rest in
        elim (two (nat_eq m n)) [
          | inl t ↦ rw (t, swap n m true t) (ap (λ (ss : List Step). Some ss) (sym (append-nil to)))
          | inr f ↦
              rw (f, swap n m false f)
              (found-append n (kind_walk to m kind) (graph_walk to rest)
              ∙ (ap (λ o. option_or o (way_found n (graph_walk to rest))) (found_kind to m kind)
              ∙ (ap (λ o. option_or (there (holds k n) (to ++ way_in k m n)) o) (found_graph to rest)
              ∙ two_there (holds k n) (has g n) to (way_in k m n) (way g n))))
        ]

    found_kind : (to : List Step) (m : ℕ) (kind : KindTree)
        → way_found n (kind_walk to m kind) ≡ there (holds (layered_kind kind) n) (to ++ way_in (layered_kind kind) m n)
    found_kind to m (compose inputs) = refl
    found_kind to m (connector inputs policy) = refl
    found_kind to m (wait inputs) = refl
    found_kind to m (response inputs) = refl
    found_kind to m (terminate inputs) = refl
    found_kind to m (select from shape) = refl
    found_kind to m (query from filter) = refl
    found_kind to m (join from with') = refl
    found_kind to m (parse_json content schema) = refl
    found_kind to m (initialize variables) = refl
    found_kind to m (set_to name value) = refl
    found_kind to m (increment name value) = refl
    found_kind to m (decrement name value) = refl
    found_kind to m (append_array name value) = refl
    found_kind to m (append_string name value) = refl
    found_kind to m (scope graph) = one_more (has (layered graph) n) to (way (layered graph) n) (step m whole) (way_found n (graph_walk (to ++ (step m whole) ∷ []) graph)) (found_graph (to ++ (step m whole) ∷ []) graph)
    found_kind to m (branch test yes' no') =
        let first = step m (branch_of 1) in
        let second = step m (branch_of 2) in
        found-append n (graph_walk (to ++ first ∷ []) yes') (graph_walk (to ++ second ∷ []) no')
        ∙ (ap (λ o. option_or o (way_found n (graph_walk (to ++ second ∷ []) no'))) (one_more (has (layered yes') n) to (way (layered yes') n) first (way_found n (graph_walk (to ++ first ∷ []) yes')) (found_graph (to ++ first ∷ []) yes'))
        ∙ (ap (option_or (there (has (layered yes') n) (to ++ first ∷ way (layered yes') n)))
        (one_more (has (layered no') n) to (way (layered no') n) second (way_found n (graph_walk (to ++ second ∷ []) no')) (found_graph (to ++ second ∷ []) no') ∙ no_more (has (layered no') n) to (second ∷ way (layered no') n))
        ∙ two_there (has (layered yes') n) (has (layered no') n || false) to (first ∷ way (layered yes') n)
        (cond (has (layered no') n) (second ∷ way (layered no') n) [])))
    found_kind to m (switch on cases) =
        ap (way_found n) (sym (append-nil (cases_walk to m 1 cases)))
        ∙ found_cases to m 1 cases (layers.branch layers.done layers.no_branch) [] refl
    found_kind to m (switch_else on cases default) =
        let last = step m (branch_of (behind 1 cases)) in
        found_cases to m 1 cases (layers.branch (layered default) layers.no_branch) (graph_walk (to ++ last ∷ []) default)
        (one_more (has (layered default) n) to (way (layered default) n) last (way_found n (graph_walk (to ++ last ∷ []) default)) (found_graph (to ++ last ∷ []) default) ∙ no_more (has (layered default) n) to (last ∷ way (layered default) n))
    found_kind to m (foreach items repetitions graph) = one_more (has (layered graph) n) to (way (layered graph) n) (step m item) (way_found n (graph_walk (to ++ (step m item) ∷ []) graph)) (found_graph (to ++ (step m item) ∷ []) graph)
    found_kind to m (until test count fails graph) = one_more (has (layered graph) n) to (way (layered graph) n) (step m round) (way_found n (graph_walk (to ++ (step m round) ∷ []) graph)) (found_graph (to ++ (step m round) ∷ []) graph)

    -- the cases, and what stands behind them
    found_cases : (to : List Step) (m k : ℕ) (cases : CaseTrees) (last : layers.Branches) (ws : List Walked)
        → way_found n ws ≡ there (has_any last n) (to ++ way_any last m (behind k cases) n)
        → way_found n (cases_walk to m k cases ++ ws)
        ≡ there (has_any (layered_cases cases last) n) (to ++ way_any (layered_cases cases last) m k n)
    found_cases to m k no_cases last ws behind' = behind'
    found_cases to m k (case_then name value graph rest) last ws behind' =
        let g = layered graph in
        let bs = layered_cases rest last in
        let s = step m (branch_of k) in
        ap (way_found n) (append_assoc (graph_walk (to ++ s ∷ []) graph) (cases_walk to m (suc k) rest) ws)
        ∙ (found-append n (graph_walk (to ++ s ∷ []) graph) (cases_walk to m (suc k) rest ++ ws)
        ∙ (ap (λ o. option_or o (way_found n (cases_walk to m (suc k) rest ++ ws))) (one_more (has (layered graph) n) to (way (layered graph) n) s (way_found n (graph_walk (to ++ s ∷ []) graph)) (found_graph (to ++ s ∷ []) graph))
        ∙ (ap (option_or (there (has g n) (to ++ s ∷ way g n))) (found_cases to m (suc k) rest last ws behind')
        ∙ two_there (has g n) (has_any bs n) to (s ∷ way g n) (way_any bs m (suc k) n))))

-- of a number that no action has, none
abbrev way_or_none : Option (List Step) → List Step
way_or_none None = []
way_or_none (Some ss) = ss

none_of : (g : layers.Graph) (x : ℕ) → has g x ≡ false → way g x ≡ []
none_of layers.done x f = refl
none_of (layers.add n after kind g) x f =
    let first = no_or (nat_eq n x || holds kind x) (has g x) f in
    let own = no_or (nat_eq n x) (holds kind x) first.0 in
    rw (own.0, own.1) (none_of g x first.1)
  where
    no_or : (p q : Bool) → (p || q) ≡ false → (p ≡ false) × (q ≡ false)
    no_or true q is = absurd (cc)
    no_or false q is = (refl, is)

walk_way : (n : ℕ) (g : ActionTrees) → way_or_none (way_found n (graph_walk [] g)) ≡ way (layered g) n
walk_way n g = elim (two (has (layered g) n)) [
  | inl t ↦ ap way_or_none (found_graph n [] g ∙ when (has (layered g) n) (Some (way (layered g) n)) None t)
  | inr f ↦ ap way_or_none (found_graph n [] g ∙ unless (has (layered g) n) (Some (way (layered g) n)) None f)
      ∙ sym (none_of (layered g) n f)
]

-- ---- together

pub placed_found : (ps : List Placed) (n : ℕ)
    → placed_at (all_put nat_cmp (λ (p : Placed). (out-Action p.action.now).number) ps) n ≡ find (is_at n) (map walked ps)
placed_found ps n =
    ap (option_map walked) (find-all_put nat_cmp (λ (p : Placed). (out-Action p.action.now).number) nat_cmp_total n ps)
    ∙ find-as walked (λ (p : Placed). is_eq (nat_cmp n (out-Action p.action.now).number)) (is_at n)
    (λ p. same_number n (out-Action p.action.now).number ∙ ap (nat_eq n) (number_is p.action.now)) ps

pub types_found : (ts : List Typed) (is : List InitialTree) → map typed_tree ts ≡ is → (k : List ℕ)
    → sort_in (all_put bytes_cmp (λ (t : Typed). t.initial.now.name) ts) k ≡ sort_by is k
types_found ts is same k =
    ap (option_map (λ (t : Typed). t.initial.now.sort))
    (find-all_put bytes_cmp (λ (t : Typed). t.initial.now.name) nat_list_cmp_total k ts)
    ∙ (twice (find (λ (t : Typed). is_eq (bytes_cmp k t.initial.now.name)) ts)
    ∙ ap (option_map (λ (i : InitialTree). i.sort))
    (find-as typed_tree (λ (t : Typed). is_eq (bytes_cmp k t.initial.now.name)) (is_named k)
    (λ t. is_eq-slice_cmp k t.initial.now.name) ts ∙ ap (find (is_named k)) same))
  where
    twice : (o : Option Typed) → option_map (λ (t : Typed). t.initial.now.sort) o
        ≡ option_map (λ (i : InitialTree). i.sort) (option_map typed_tree o)
    twice None = refl
    twice (Some t) = refl

pub actions_walked : (ps : List Placed) → map (λ (p : Placed). action_tree p.action.now) ps ≡ actions_of (map walked ps)
actions_walked [] = refl
actions_walked (p ∷ ps) = ap (λ as'. action_tree p.action.now ∷ as') (actions_walked ps)

pub named_found : (ns : List Named) (as' : List ActionTree) → map named_tree ns ≡ as' → (k : List ℕ)
    → named_in (all_put bytes_cmp (λ (n : Named). (out-Action n.action.now).name) ns) k ≡ find (has_action_name k) as'
named_found ns as' is k =
    ap (option_map named_tree) (find-all_put bytes_cmp (λ (n : Named). (out-Action n.action.now).name) nat_list_cmp_total k ns)
    ∙ (find-as named_tree (λ (n : Named). is_eq (bytes_cmp k (out-Action n.action.now).name)) (has_action_name k)
    (λ n. is_eq-slice_cmp k (out-Action n.action.now).name ∙ ap (bytes_eq k) (name_is n.action.now)) ns
    ∙ ap (find (has_action_name k)) is)

pub are_ways : (d : DefTree) (table : List Placed) (named : List Named) (types : List Typed) (ps : List Placed)
    → map walked ps ≡ graph_walk [] d.top
    → ((n : ℕ) → placed_at table n ≡ find (is_at n) (map walked ps))
    → ((k : List ℕ) → named_in named k ≡ find (has_action_name k) (map (λ (p : Placed). action_tree p.action.now) ps))
    → ((k : List ℕ) → sort_in types k ≡ sort_by (all_initials (map (λ (p : Placed). action_tree p.action.now) ps)) k)
    → AreWays d table named types
are_ways d table named types ps walk found by_name typed =
    let ws = map walked ps in
    let all = ap actions_of walk ∙ actions-graph [] d.top in
    record {
      actions = λ n. ap (option_map (λ (w : Walked). w.action)) (found n)
          ∙ (find-as (λ (w : Walked). w.action) (is_at n) (has_number n) (λ w. refl) ws ∙ ap (find (has_number n)) all);
      ways = λ n. ap seen.way_in (found n) ∙ (way_of (find (is_at n) ws)
          ∙ (ap (λ (vs : List Walked). way_or_none (way_found n vs)) walk ∙ walk_way n d.top));
      names = λ k. by_name k ∙ ap (find (has_action_name k)) (actions_walked ps ∙ all);
      sorts = λ k. typed k ∙ ap (λ as'. sort_by (all_initials as') k) (actions_walked ps ∙ all);
    }
  where
    way_of : (o : Option Walked) → seen.way_in o ≡ way_or_none (option_map (λ (w : Walked). w.way) o)
    way_of None = refl
    way_of (Some w) = refl
