-- The loops that the rules have round an action are those that the order of actions has round it.
use Rattle.std.proofs.Common.{◌≡◌, ℕ, Bool, true, false, not, cond, List, [], ◌∷◌, ◌++◌, map, inl, inr, ◌⊎◌, nat_eq, refl}
use Rattle.std.proofs.Common.{true≢false, sym, ap, subst, ◌∙◌}
use Rattle.std.specs.Prelude.{◌||◌, ◌==◌, ◌↔◌, if◌then◌else◌}
use Rattle.std.specs.List.{AllByRecursion, list_any}
use Rattle.std.proofs.lemmas.Bool.{eq-eqb, eqb-true}
use Rattle.wf_layers.specs.Definition as layers
use Rattle.wf_layers.specs.Definition.{AtMost, Branches, branch, no_branch, Graph, done, add, InTurn, Kind, Need, Pace, has, has_any, holds}
use Rattle.wf_layers.specs.Seen.{Once, OnceAny, OnceIn}
use Rattle.wf_template.specs.CondTree.{CondTree}
use Rattle.wf_template.specs.DataTree.{DataTree}
use Rattle.wf_def.specs.ActionTree as def
use Rattle.wf_def.specs.ActionTree.{ActionTree, action_kind, action_number, KindTree, ActionTrees, CaseTrees}
use Rattle.wf_def.specs.Layered.{layered, layered_cases, layered_kind, need_of, pace}
use Rattle.wf_paths.proofs.PathLemmas.{or_left, or_right}
use Rattle.wf_standing.specs.Kinds.{is_concurrent, is_loop}
use Rattle.wf_standing.specs.Standing.{StandingTree, case_standings, graph_standings, kind_standings, number_at, standings_of}
use Rattle.wf_standing.specs.Turns.{EachLoop, EachLoopAny, EachLoopIn, GoesInTurn, IsInNoLoop, IsInTurn, Never}

two : (b : Bool) → (b ≡ true) ⊎ (b ≡ false)
two true = inl refl
two false = inr refl

clash : (b : Bool) → b ≡ true → b ≡ false → ⊥
clash b is not' = true≢false (sym is ∙ not')

none-first : (b c : Bool) → (b || c) ≡ false → b ≡ false
none-first true c is = is
none-first false c is = refl

none-second : (b c : Bool) → (b || c) ≡ false → c ≡ false
none-second true c is = absurd (true≢false is)
none-second false c is = is

none-both : (b c : Bool) → b ≡ false → c ≡ false → (b || c) ≡ false
none-both true c one other = one
none-both false c one other = other

all-append : {X : Type 0} (P : X → Type 0) (xs ys : List X) → AllByRecursion P xs → AllByRecursion P ys → AllByRecursion P (xs ++ ys)
all-append P [] ys one other = other
all-append P (x ∷ xs) ys one other = (one.0, all-append P xs ys one.1 other)

all-weaker : {X : Type 0} (P Q : X → Type 0) (xs : List X) → ((x : X) → P x → Q x) → AllByRecursion P xs → AllByRecursion Q xs
all-weaker P Q [] weaker all = tt
all-weaker P Q (x ∷ xs) weaker all = (weaker x all.0, all-weaker P Q xs weaker all.1)

once-last : (cs : CaseTrees) (last : Branches) → OnceAny (layered_cases cs last) → OnceAny last
once-last def.no_cases last once = once
once-last (def.case_then name value graph rest) last once = once-last rest last once.2

-- The test tells those loops that don't go as `Each` says, and passes all else that is round an action.
pub record Tells (test : ActionTree → Bool) (Each : Pace → Type 0) : Type 0 where
  pub foreach : (c : ActionTree) (items : DataTree) (repetitions : ℕ) (graph : ActionTrees)
      → action_kind c ≡ def.foreach items repetitions graph → (test c ≡ false) ↔ Each (pace repetitions)
  pub until : (c : ActionTree) (condition : CondTree) (count : ℕ) (fails : Bool) (graph : ActionTrees)
      → action_kind c ≡ def.until condition count fails graph → (test c ≡ false) ↔ Each InTurn
  pub other : (c : ActionTree) → is_loop (action_kind c) ≡ false → test c ≡ false

module _ (test : ActionTree → Bool) (Each : Pace → Type 0) (tells : Tells test Each) where
  -- ---- no such loop is round

  abbrev pub Calm : List ActionTree → Type 0
  Calm round = list_any test round ≡ false

  calm-front : (round more : List ActionTree) → Calm (round ++ more) → Calm round
  calm-front [] more calm = refl
  calm-front (c ∷ round) more calm =
      none-both (test c) (list_any test round) (none-first (test c) (list_any test (round ++ more)) calm)
      (calm-front round more (none-second (test c) (list_any test (round ++ more)) calm))

  calm-last : (round : List ActionTree) (c : ActionTree) → Calm (round ++ c ∷ []) → test c ≡ false
  calm-last [] c calm = none-first (test c) false calm
  calm-last (a ∷ round) c calm = calm-last round c (none-second (test a) (list_any test (round ++ c ∷ [])) calm)

  calm-more : (round : List ActionTree) (c : ActionTree) → Calm round → test c ≡ false → Calm (round ++ c ∷ [])
  calm-more [] c calm is = none-both (test c) false is refl
  calm-more (a ∷ round) c calm is =
      none-both (test a) (list_any test (round ++ c ∷ [])) (none-first (test a) (list_any test round) calm)
      (calm-more round c (none-second (test a) (list_any test round) calm) is)

  -- a container all of whose iterations go so
  passes : (c : ActionTree) (k : KindTree) → action_kind c ≡ k → (m : ℕ) → EachLoopIn Each (layered_kind k) m → test c ≡ false
  passes c (def.foreach items repetitions graph) is m each = (tells.foreach c items repetitions graph is).1 each.0
  passes c (def.until condition count fails graph) is m each = (tells.until c condition count fails graph is).1 each.0
  passes c k is m each = tells.other c (ap is_loop is)

  -- ---- what isn't there

  none-graph : (g : Graph) (m : ℕ) → has g m ≡ false → EachLoop Each g m
  none-graph done m out = tt
  none-graph (add n after kind rest) m out = (
    λ held. absurd (clash (holds kind m) held
        (none-second (nat_eq n m) (holds kind m) (none-first (nat_eq n m || holds kind m) (has rest m) out))),
    none-graph rest m (none-second (nat_eq n m || holds kind m) (has rest m) out),
  )

  none-any : (bs : Branches) (m : ℕ) → has_any bs m ≡ false → EachLoopAny Each bs m
  none-any no_branch m out = tt
  none-any (branch b rest) m out = (
    λ is. absurd (clash (has b m) is (none-first (has b m) (has_any rest m) out)),
    none-any rest m (none-second (has b m) (has_any rest m) out),
  )

  -- ---- an action stands in a graph that is inside these containers

  abbrev InGraph : List ActionTree → Graph → StandingTree → Type 0
  InGraph round g s = (has g (number_at s) ≡ true) × (Calm s.round ↔ (Calm round × EachLoop Each g (number_at s)))

  abbrev InKind : List ActionTree → Kind → StandingTree → Type 0
  InKind round k s = (holds k (number_at s) ≡ true) × (Calm s.round ↔ (Calm round × EachLoopIn Each k (number_at s)))

  abbrev InBranches : List ActionTree → Branches → StandingTree → Type 0
  InBranches round bs s = (has_any bs (number_at s) ≡ true) × (Calm s.round ↔ (Calm round × EachLoopAny Each bs (number_at s)))

  first : (round : List ActionTree) (b : Graph) (rest : Branches) → ((m : ℕ) → has b m ≡ true → has_any rest m ≡ false)
      → (s : StandingTree) → InGraph round b s → InBranches round (branch b rest) s
  first round b rest apart s h = (
    or_left (has b (number_at s)) (has_any rest (number_at s)) h.0,
    (
      (λ calm. let inner = h.1.0 calm in (inner.0, (λ is. inner.1, none-any rest (number_at s) (apart (number_at s) h.0)))),
      (λ each. h.1.1 (each.0, each.1.0 h.0)),
    ),
  )

  later : (round : List ActionTree) (b : Graph) (rest : Branches) → ((m : ℕ) → has b m ≡ true → has_any rest m ≡ false)
      → (s : StandingTree) → InBranches round rest s → InBranches round (branch b rest) s
  later round b rest apart s h = (
    or_right (has b (number_at s)) (has_any rest (number_at s)) h.0,
    (
      (λ calm. let inner = h.1.0 calm in
          (inner.0, (λ is. absurd (clash (has_any rest (number_at s)) h.0 (apart (number_at s) is)), inner.1))),
      (λ each. h.1.1 (each.0, each.1.1)),
    ),
  )

  itself : (round : List ActionTree) (a : ActionTree) (needs : List Need) (k : Kind) (r : Graph) → holds k (action_number a) ≡ false
      → ((m : ℕ) → (nat_eq (action_number a) m || holds k m) ≡ true → has r m ≡ false)
      → InGraph round (add (action_number a) needs k r) (record { action = a; round = round })
  itself round a needs k r out apart =
      let n = action_number a in
      let here : (nat_eq n n || holds k n) ≡ true = or_left (nat_eq n n) (holds k n) (eq-eqb n n refl) in (
        or_left (nat_eq n n || holds k n) (has r n) here,
        ((λ calm. (calm, (λ held. absurd (clash (holds k n) held out), none-graph r n (apart n here)))), (λ each. each.0)),
      )

  inside : (round : List ActionTree) (a : ActionTree) (needs : List Need) (r : Graph)
      → ((m : ℕ) → (nat_eq (action_number a) m || holds (layered_kind (action_kind a)) m) ≡ true → has r m ≡ false)
      → (s : StandingTree) → InKind (round ++ a ∷ []) (layered_kind (action_kind a)) s
      → InGraph round (add (action_number a) needs (layered_kind (action_kind a)) r) s
  inside round a needs r apart s h =
      let n = action_number a in
      let m = number_at s in
      let k : Kind = layered_kind (action_kind a) in
      let here : (nat_eq n m || holds k m) ≡ true = or_right (nat_eq n m) (holds k m) h.0 in (
        or_left (nat_eq n m || holds k m) (has r m) here,
        (
          (λ calm. let inner = h.1.0 calm in
              (calm-front round (a ∷ []) inner.0, (λ held. inner.1, none-graph r m (apart m here)))),
          (λ each. let own = each.1.0 h.0 in h.1.1 (calm-more round a each.0 (passes a (action_kind a) refl m own), own)),
        ),
      )

  behind : (round : List ActionTree) (n : ℕ) (needs : List Need) (k : Kind) (r : Graph)
      → ((m : ℕ) → (nat_eq n m || holds k m) ≡ true → has r m ≡ false) → (s : StandingTree) → InGraph round r s
      → InGraph round (add n needs k r) s
  behind round n needs k r apart s h =
      let m = number_at s in (
        or_right (nat_eq n m || holds k m) (has r m) h.0,
        (
          (λ calm. let inner = h.1.0 calm in
              (inner.0, (λ held. absurd (clash (has r m) h.0 (apart m (or_right (nat_eq n m) (holds k m) held))), inner.1))),
          (λ each. h.1.1 (each.0, each.1.1)),
        ),
      )

  behind-cases : (round : List ActionTree) (cs : CaseTrees) (last : Branches) → OnceAny (layered_cases cs last) → (s : StandingTree)
      → InBranches round last s → InBranches round (layered_cases cs last) s
  behind-cases round def.no_cases last once s h = h
  behind-cases round (def.case_then name value graph rest) last once s h =
      later round (layered graph) (layered_cases rest last) once.0 s (behind-cases round rest last once.2 s h)

  -- in iterations that go as they should, where their loop is told
  in-turns : (outer : List ActionTree) (c : ActionTree) (p : Pace) (g : Graph) → (test c ≡ false) ↔ Each p → (s : StandingTree)
      → InGraph (outer ++ c ∷ []) g s
      → (Calm s.round ↔ (Calm (outer ++ c ∷ []) × (Each p × EachLoop Each g (number_at s))))
  in-turns outer c p g told s h = (
    (λ calm. let inner = h.1.0 calm in (inner.0, (told.0 (calm-last outer c inner.0), inner.1))),
    (λ each. h.1.1 (each.0, each.1.1)),
  )

  mutual
    graph-calm : (round : List ActionTree) (g : ActionTrees) → Once (layered g)
        → AllByRecursion (InGraph round (layered g)) (graph_standings round g)
    graph-calm round def.no_actions once = tt
    graph-calm round (def.action_then (def.action name number pointer after kind tracked) rest) once =
        let a : ActionTree = def.action name number pointer after kind tracked in
        let k : Kind = layered_kind kind in
        let r : Graph = layered rest in
        let needs : List Need = map need_of after in (
          itself round a needs k r once.0 once.1,
          all-append (InGraph round (add number needs k r)) (kind_standings (round ++ a ∷ []) kind) (graph_standings round rest)
              (all-weaker (InKind (round ++ a ∷ []) k) (InGraph round (add number needs k r)) (kind_standings (round ++ a ∷ []) kind)
              (inside round a needs r once.1) (kind-calm round a kind refl once.2))
              (all-weaker (InGraph round r) (InGraph round (add number needs k r)) (graph_standings round rest)
              (behind round number needs k r once.1) (graph-calm round rest once.3)),
        )

    kind-calm : (outer : List ActionTree) (c : ActionTree) (k : KindTree) → action_kind c ≡ k → OnceIn (layered_kind k)
        → AllByRecursion (InKind (outer ++ c ∷ []) (layered_kind k)) (kind_standings (outer ++ c ∷ []) k)
    kind-calm outer c (def.scope graph) is once = graph-calm (outer ++ c ∷ []) graph once
    kind-calm outer c (def.branch condition yes' no') is once =
        let round = outer ++ c ∷ [] in
        let other : Branches = branch (layered no') no_branch in
        let whole : Branches = branch (layered yes') other in
        all-append (InBranches round whole) (graph_standings round yes') (graph_standings round no')
        (all-weaker (InGraph round (layered yes')) (InBranches round whole) (graph_standings round yes')
        (first round (layered yes') other once.0) (graph-calm round yes' once.1))
        (all-weaker (InBranches round other) (InBranches round whole) (graph_standings round no')
        (later round (layered yes') other once.0)
        (all-weaker (InGraph round (layered no')) (InBranches round other) (graph_standings round no')
        (first round (layered no') no_branch once.2.0) (graph-calm round no' once.2.1)))
    kind-calm outer c (def.switch on cases) is once = cases-calm (outer ++ c ∷ []) cases (branch done no_branch) once
    kind-calm outer c (def.switch_else on cases default) is once =
        let round = outer ++ c ∷ [] in
        let last : Branches = branch (layered default) no_branch in
        let whole : Branches = layered_cases cases last in
        all-append (InBranches round whole) (case_standings round cases) (graph_standings round default) (cases-calm round cases last once)
        (all-weaker (InBranches round last) (InBranches round whole) (graph_standings round default) (behind-cases round cases last once)
        (all-weaker (InGraph round (layered default)) (InBranches round last) (graph_standings round default)
        (first round (layered default) no_branch (once-last cases last once).0)
        (graph-calm round default (once-last cases last once).1)))
    kind-calm outer c (def.foreach items repetitions graph) is once =
        let round = outer ++ c ∷ [] in
        all-weaker (InGraph round (layered graph)) (InKind round (layers.Foreach (pace repetitions) (layered graph)))
        (graph_standings round graph)
        (λ s h. (h.0, in-turns outer c (pace repetitions) (layered graph) (tells.foreach c items repetitions graph is) s h))
        (graph-calm round graph once)
    kind-calm outer c (def.until condition count fails graph) is once =
        let round = outer ++ c ∷ [] in
        all-weaker (InGraph round (layered graph)) (InKind round (layers.Until count (layered graph))) (graph_standings round graph)
        (λ s h. (h.0, in-turns outer c InTurn (layered graph) (tells.until c condition count fails graph is) s h))
        (graph-calm round graph once)
    kind-calm outer c k is once = tt

    cases-calm : (round : List ActionTree) (cs : CaseTrees) (last : Branches) → OnceAny (layered_cases cs last)
        → AllByRecursion (InBranches round (layered_cases cs last)) (case_standings round cs)
    cases-calm round def.no_cases last once = tt
    cases-calm round (def.case_then name value graph rest) last once =
        let others : Branches = layered_cases rest last in
        let whole : Branches = branch (layered graph) others in
        all-append (InBranches round whole) (graph_standings round graph) (case_standings round rest)
        (all-weaker (InGraph round (layered graph)) (InBranches round whole) (graph_standings round graph)
        (first round (layered graph) others once.0) (graph-calm round graph once.1))
        (all-weaker (InBranches round others) (InBranches round whole) (case_standings round rest)
        (later round (layered graph) others once.0) (cases-calm round rest last once.2))

  -- an action of a definition is in the loops that go so exactly where the test tells none round it
  pub all-told : (g : ActionTrees) → Once (layered g)
      → AllByRecursion (λ (s : StandingTree). (list_any test s.round ≡ false) ↔ EachLoop Each (layered g) (number_at s)) (standings_of g)
  all-told g once =
      all-weaker (InGraph [] (layered g)) (λ (s : StandingTree). Calm s.round ↔ EachLoop Each (layered g) (number_at s)) (standings_of g)
      (λ s h. ((λ calm. (h.1.0 calm).1), (λ each. h.1.1 (refl, each)))) (graph-calm [] g once)

-- ---- the loops that go side by side, and all loops

in-turn : (repetitions : ℕ) → (not (repetitions == 1) ≡ false) ↔ GoesInTurn (pace repetitions)
in-turn repetitions = ((λ is. go (repetitions == 1) is), (λ is. back (repetitions == 1) is))
  where
    go : (b : Bool) → not b ≡ false → (if b then InTurn else AtMost repetitions) ≡ InTurn
    go true is = refl
    go false is = absurd (true≢false is)

    back : (b : Bool) → (if b then InTurn else AtMost repetitions) ≡ InTurn → not b ≡ false
    back true is = refl
    back false is = absurd (cc)

no_loop-concurrent : (k : KindTree) → is_loop k ≡ false → is_concurrent k ≡ false
no_loop-concurrent (def.foreach items repetitions graph) is = absurd (true≢false is)
no_loop-concurrent k is = refl

pub tells-concurrent : Tells (λ c. is_concurrent (action_kind c)) GoesInTurn
tells-concurrent = record {
  foreach = λ c items repetitions graph is. (
    (λ no. (in-turn repetitions).0 (sym (ap is_concurrent is) ∙ no)),
    (λ goes. ap is_concurrent is ∙ (in-turn repetitions).1 goes),
  );
  until = λ c condition count fails graph is. ((λ no. refl), (λ goes. ap is_concurrent is));
  other = λ c none. no_loop-concurrent (action_kind c) none;
}

pub tells-loop : Tells (λ c. is_loop (action_kind c)) Never
tells-loop = record {
  foreach = λ c items repetitions graph is. ((λ no. true≢false (sym (ap is_loop is) ∙ no)), (λ never. absurd never));
  until = λ c condition count fails graph is. ((λ no. true≢false (sym (ap is_loop is) ∙ no)), (λ never. absurd never));
  other = λ c none. none;
}
