-- The containers that the rules have round an action are those of the order of actions, outermost first.
use Rattle.std.proofs.Common.{◌≡◌, ℕ, Bool, true, false, cond, List, [], ◌∷◌, ◌++◌, map, inl, inr, nat_eq, append-nil, append_assoc, refl}
use Rattle.std.proofs.Common.{sym, ap, subst, ◌∙◌}
use Rattle.std.specs.Prelude.{◌||◌}
use Rattle.std.specs.List.{AllByRecursion}
use Rattle.std.proofs.lemmas.Bool.{eq-eqb, eqb-true}
use Rattle.std.proofs.lemmas.List.{map-append}
use Rattle.wf_layers.specs.Definition.{Branches, branch, no_branch, Graph, done, add, Kind, Need, has, has_any, holds}
use Rattle.wf_layers.specs.Seen.{Once, OnceAny, OnceIn}
use Rattle.wf_known_laws.specs.ActionTree as def
use Rattle.wf_known_laws.specs.ActionTree.{ActionTree, action_number, KindTree, ActionTrees, CaseTrees}
use Rattle.wf_known_laws.specs.Layered.{layered, layered_cases, layered_kind, need_of}
use Rattle.wf_known_laws.proofs.OrderLaws.{clash, two}
use Rattle.wf_known_laws.specs.Order.{around, around_any, around_in}
use Rattle.wf_paths.proofs.PathLemmas.{or_left, or_right}
use Rattle.wf_rules.specs.Standing.{StandingTree, case_standings, graph_standings, kind_standings, number_at, standings_of}
use Rattle.wf_accepted_laws.proofs.SeenLemmas.{none-first, none-second}

all-append : {X : Type 0} (P : X → Type 0) (xs ys : List X) → AllByRecursion P xs → AllByRecursion P ys → AllByRecursion P (xs ++ ys)
all-append P [] ys one other = other
all-append P (x ∷ xs) ys one other = (one.0, all-append P xs ys one.1 other)

pub all-weaker : {X : Type 0} (P Q : X → Type 0) (xs : List X) → ((x : X) → P x → Q x) → AllByRecursion P xs → AllByRecursion Q xs
all-weaker P Q [] weaker all = tt
all-weaker P Q (x ∷ xs) weaker all = (weaker x all.0, all-weaker P Q xs weaker all.1)

-- an action stands in a graph that is inside these containers, and its own are these and those that the order has in that graph
abbrev Own : List ActionTree → List ℕ → StandingTree → Type 0
Own round rest s = map action_number s.round ≡ map action_number round ++ rest

abbrev InGraph : List ActionTree → Graph → StandingTree → Type 0
InGraph round g s = (has g (number_at s) ≡ true) × Own round (around g (number_at s)) s

abbrev InKind : List ActionTree → Kind → StandingTree → Type 0
InKind round k s = (holds k (number_at s) ≡ true) × Own round (around_in k (number_at s)) s

abbrev InBranches : List ActionTree → Branches → StandingTree → Type 0
InBranches round bs s = (has_any bs (number_at s) ≡ true) × Own round (around_any bs (number_at s)) s

-- ---- branches

first : (round : List ActionTree) (b : Graph) (rest : Branches) (s : StandingTree) → InGraph round b s → InBranches round (branch b rest) s
first round b rest s h = (
  or_left (has b (number_at s)) (has_any rest (number_at s)) h.0,
  h.1 ∙ ap (λ (c : Bool). map action_number round ++ cond c (around b (number_at s)) (around_any rest (number_at s))) (sym h.0),
)

later : (round : List ActionTree) (b : Graph) (rest : Branches) → ((m : ℕ) → has b m ≡ true → has_any rest m ≡ false) → (s : StandingTree)
    → InBranches round rest s → InBranches round (branch b rest) s
later round b rest apart s h = elim (two (has b (number_at s))) [
  | inl is ↦ absurd (clash (has_any rest (number_at s)) h.0 (apart (number_at s) is))
  | inr other ↦ (
    or_right (has b (number_at s)) (has_any rest (number_at s)) h.0,
    h.1 ∙ ap (λ (c : Bool). map action_number round ++ cond c (around b (number_at s)) (around_any rest (number_at s))) (sym other),
  )
]

-- ---- an action, what is inside it, and what stands behind it

itself : (round : List ActionTree) (a : ActionTree) (needs : List Need) (k : Kind) (r : Graph)
    → InGraph round (add (action_number a) needs k r) (record { action = a; round = round })
itself round a needs k r =
    let n = action_number a in
    let same = eq-eqb n n refl in (
      or_left (nat_eq n n || holds k n) (has r n) (or_left (nat_eq n n) (holds k n) same),
      sym (append-nil (map action_number round))
          ∙ ap (λ (c : Bool). map action_number round ++ cond c [] (cond (holds k n) (n ∷ around_in k n) (around r n))) (sym same),
    )

inside : (round : List ActionTree) (a : ActionTree) (needs : List Need) (k : Kind) (r : Graph) → holds k (action_number a) ≡ false
    → (s : StandingTree) → InKind (round ++ a ∷ []) k s → InGraph round (add (action_number a) needs k r) s
inside round a needs k r apart s h =
    let n = action_number a in
    let m = number_at s in
    elim (two (nat_eq n m)) [
      | inl is ↦ absurd (clash (holds k m) h.0 (subst (λ (x : ℕ). holds k x ≡ false) (eqb-true n m is) apart))
      | inr other ↦ (
        or_left (nat_eq n m || holds k m) (has r m) (or_right (nat_eq n m) (holds k m) h.0),
        h.1
            ∙ ap (λ (l : List ℕ). l ++ around_in k m) (map-append action_number round (a ∷ []))
            ∙ append_assoc (map action_number round) (n ∷ []) (around_in k m)
            ∙ ap (λ (c : Bool). map action_number round ++ cond c (n ∷ around_in k m) (around r m)) (sym h.0)
            ∙ ap (λ (c : Bool). map action_number round ++ cond c [] (cond (holds k m) (n ∷ around_in k m) (around r m))) (sym other),
      )
    ]

behind : (round : List ActionTree) (n : ℕ) (needs : List Need) (k : Kind) (r : Graph)
    → ((m : ℕ) → (nat_eq n m || holds k m) ≡ true → has r m ≡ false) → (s : StandingTree) → InGraph round r s
    → InGraph round (add n needs k r) s
behind round n needs k r apart s h =
    let m = number_at s in
    elim (two (nat_eq n m || holds k m)) [
      | inl is ↦ absurd (clash (has r m) h.0 (apart m is))
      | inr other ↦ (
        or_right (nat_eq n m || holds k m) (has r m) h.0,
        h.1
            ∙ ap (λ (c : Bool). map action_number round ++ cond c (n ∷ around_in k m) (around r m))
            (sym (none-second (nat_eq n m) (holds k m) other))
            ∙ ap (λ (c : Bool). map action_number round ++ cond c [] (cond (holds k m) (n ∷ around_in k m) (around r m)))
            (sym (none-first (nat_eq n m) (holds k m) other)),
      )
    ]

-- ---- cases

once-last : (cs : CaseTrees) (last : Branches) → OnceAny (layered_cases cs last) → OnceAny last
once-last def.no_cases last once = once
once-last (def.case_then name value graph rest) last once = once-last rest last once.2

behind-cases : (round : List ActionTree) (cs : CaseTrees) (last : Branches) → OnceAny (layered_cases cs last) → (s : StandingTree)
    → InBranches round last s → InBranches round (layered_cases cs last) s
behind-cases round def.no_cases last once s h = h
behind-cases round (def.case_then name value graph rest) last once s h =
    later round (layered graph) (layered_cases rest last) once.0 s (behind-cases round rest last once.2 s h)

mutual
  pub graph-round : (round : List ActionTree) (g : ActionTrees) → Once (layered g)
      → AllByRecursion (InGraph round (layered g)) (graph_standings round g)
  graph-round round def.no_actions once = tt
  graph-round round (def.action_then (def.action name number pointer after kind tracked) rest) once =
      let a : ActionTree = def.action name number pointer after kind tracked in
      let k : Kind = layered_kind kind in
      let r : Graph = layered rest in
      let needs : List Need = map need_of after in (
        itself round a needs k r,
        all-append (InGraph round (add number needs k r)) (kind_standings (round ++ a ∷ []) kind) (graph_standings round rest)
            (all-weaker (InKind (round ++ a ∷ []) k) (InGraph round (add number needs k r)) (kind_standings (round ++ a ∷ []) kind)
            (inside round a needs k r once.0) (kind-round (round ++ a ∷ []) kind once.2))
            (all-weaker (InGraph round r) (InGraph round (add number needs k r)) (graph_standings round rest)
            (behind round number needs k r once.1) (graph-round round rest once.3)),
      )

  kind-round : (round : List ActionTree) (k : KindTree) → OnceIn (layered_kind k)
      → AllByRecursion (InKind round (layered_kind k)) (kind_standings round k)
  kind-round round (def.scope graph) once = graph-round round graph once
  kind-round round (def.branch test yes' no') once =
      let other : Branches = branch (layered no') no_branch in
      let whole : Branches = branch (layered yes') other in
      all-append (InBranches round whole) (graph_standings round yes') (graph_standings round no')
      (all-weaker (InGraph round (layered yes')) (InBranches round whole) (graph_standings round yes')
      (first round (layered yes') other) (graph-round round yes' once.1))
      (all-weaker (InBranches round other) (InBranches round whole) (graph_standings round no') (later round (layered yes') other once.0)
      (all-weaker (InGraph round (layered no')) (InBranches round other) (graph_standings round no')
      (first round (layered no') no_branch) (graph-round round no' once.2.1)))
  kind-round round (def.switch on cases) once = cases-round round cases (branch done no_branch) once
  kind-round round (def.switch_else on cases default) once =
      let last : Branches = branch (layered default) no_branch in
      let whole : Branches = layered_cases cases last in
      all-append (InBranches round whole) (case_standings round cases) (graph_standings round default) (cases-round round cases last once)
      (all-weaker (InBranches round last) (InBranches round whole) (graph_standings round default) (behind-cases round cases last once)
      (all-weaker (InGraph round (layered default)) (InBranches round last) (graph_standings round default)
      (first round (layered default) no_branch) (graph-round round default (once-last cases last once).1)))
  kind-round round (def.foreach items repetitions graph) once = graph-round round graph once
  kind-round round (def.until test count fails graph) once = graph-round round graph once
  kind-round round k once = tt

  cases-round : (round : List ActionTree) (cs : CaseTrees) (last : Branches) → OnceAny (layered_cases cs last)
      → AllByRecursion (InBranches round (layered_cases cs last)) (case_standings round cs)
  cases-round round def.no_cases last once = tt
  cases-round round (def.case_then name value graph rest) last once =
      let others : Branches = layered_cases rest last in
      let whole : Branches = branch (layered graph) others in
      all-append (InBranches round whole) (graph_standings round graph) (case_standings round rest)
      (all-weaker (InGraph round (layered graph)) (InBranches round whole) (graph_standings round graph)
      (first round (layered graph) others) (graph-round round graph once.1))
      (all-weaker (InBranches round others) (InBranches round whole) (case_standings round rest) (later round (layered graph) others once.0)
      (cases-round round rest last once.2))

pub all-round : (g : ActionTrees) → Once (layered g)
    → AllByRecursion (λ (s : StandingTree). map action_number s.round ≡ around (layered g) (number_at s)) (standings_of g)
all-round g once =
    all-weaker (InGraph [] (layered g))
    (λ (s : StandingTree). map action_number s.round ≡ around (layered g) (number_at s)) (standings_of g)
    (λ s h. h.1) (graph-round [] g once)
