-- From each graph by itself to the whole: entries that stay in their graphs, and depths along the entries of each graph.
use Rattle.std.proofs.Common.{◌≡◌, ◌<◌, ℕ, Bool, true, false, cond, ◌⊎◌, inl, inr, nat_eq, sym, ap, subst, ◌∙◌}
use Rattle.std.specs.Prelude.{◌||◌, List}
use Rattle.std.proofs.lemmas.Bool.{eqb-true}
use Rattle.wf_reading.specs.Definition.{Need, Names, Kind, Leaf, Scope, Choice, Foreach, Until, Branches, no_branch, branch, Graph, done}
use Rattle.wf_reading.specs.Definition.{add, holds, has, has_any, has_own, needs_in, needs_any, needs_of, IsDepth, Closed, ClosedIn}
use Rattle.wf_reading.specs.Definition.{ClosedAny}
use Rattle.wf_reading.specs.Seen.{Once, OnceIn, OnceAny}
use Rattle.wf_paths.proofs.PathLemmas.{or_left, or_right}
use Rattle.wf_order.proofs.OrderLaws.{branch_passed, first_passed, kind_passed, not_first, renamed, at_first, in_first, behind_first}
use Rattle.wf_order.proofs.OrderLaws.{stands, two}
use Rattle.wf_order.proofs.RelationLemmas.{own_has}

-- what holds of each graph inside
module _ (Holds : Graph → Type 0) where
  abbrev mutual
    pub EachIn : Kind → Type 0
    EachIn Leaf = Unit {0}
    EachIn (Scope g) = Holds g × EachInside g
    EachIn (Choice bs) = EachBranch bs
    EachIn (Foreach pace g) = Holds g × EachInside g
    EachIn (Until most g) = Holds g × EachInside g

    pub EachBranch : Branches → Type 0
    EachBranch no_branch = Unit {0}
    EachBranch (branch b rest) = (Holds b × EachInside b) × EachBranch rest

    pub EachInside : Graph → Type 0
    EachInside done = Unit {0}
    EachInside (add n after kind rest) = EachIn kind × EachInside rest

-- ---- entries stay in their graph

abbrev pub Within : Graph → Graph → Type 0
Within done w = Unit {0}
Within (add n after kind rest) w = ((p : ℕ) → Names after p → has_own w p ≡ true) × Within rest w

abbrev pub Falling : Graph → (ℕ → ℕ) → Type 0
Falling done depth = Unit {0}
Falling (add n after kind rest) depth = ((p : ℕ) → Names after p → depth p < depth n) × Falling rest depth

-- of a graph by itself
pub record Own (g : Graph) : Type 0 where
  pub within : Within g g
  pub depth : ℕ → ℕ
  pub falls : Falling g depth

mutual
  graph_closed : (g w : Graph) → Within g w → EachInside Own g → Closed g w
  graph_closed done w within each = tt
  graph_closed (add n after kind rest) w within each = (within.0, kind_closed kind each.0, graph_closed rest w within.1 each.1)

  kind_closed : (kind : Kind) → EachIn Own kind → ClosedIn kind
  kind_closed Leaf each = tt
  kind_closed (Scope g) each = graph_closed g g each.0.within each.1
  kind_closed (Choice bs) each = branch_closed bs each
  kind_closed (Foreach pace g) each = graph_closed g g each.0.within each.1
  kind_closed (Until most g) each = graph_closed g g each.0.within each.1

  branch_closed : (bs : Branches) → EachBranch Own bs → ClosedAny bs
  branch_closed no_branch each = tt
  branch_closed (branch b rest) each = (graph_closed b b each.0.0.within each.0.1, branch_closed rest each.1)

pub whole_closed : (g : Graph) → Own g → EachInside Own g → Closed g g
whole_closed g own each = graph_closed g g own.within each

-- ---- depths of the whole

-- the depth of each action in its own graph; `depth` is that of the graph at the top
abbrev mutual
  pub depth_in : (g : Graph) → (ℕ → ℕ) → EachInside Own g → ℕ → ℕ
  depth_in done depth each m = 0
  depth_in (add n after kind rest) depth each m =
      cond (nat_eq n m) (depth n) (cond (holds kind m) (kind_depth kind each.0 m) (depth_in rest depth each.1 m))

  pub kind_depth : (kind : Kind) → EachIn Own kind → ℕ → ℕ
  kind_depth Leaf each m = 0
  kind_depth (Scope g) each m = depth_in g each.0.depth each.1 m
  kind_depth (Choice bs) each m = branch_depth bs each m
  kind_depth (Foreach pace g) each m = depth_in g each.0.depth each.1 m
  kind_depth (Until most g) each m = depth_in g each.0.depth each.1 m

  pub branch_depth : (bs : Branches) → EachBranch Own bs → ℕ → ℕ
  branch_depth no_branch each m = 0
  branch_depth (branch b rest) each m = cond (has b m) (depth_in b each.0.0.depth each.0.1 m) (branch_depth rest each.1 m)

-- by where an action stands
depth-first : (n : ℕ) (after : List Need) (kind : Kind) (rest : Graph) (depth : ℕ → ℕ) (each : EachInside Own (add n after kind rest))
    (m : ℕ)
    → nat_eq n m ≡ true → depth_in (add n after kind rest) depth each m ≡ depth n
depth-first n after kind rest depth each m is =
    ap (λ (b : Bool). cond b (depth n) (cond (holds kind m) (kind_depth kind each.0 m) (depth_in rest depth each.1 m))) is

depth-inner : (n : ℕ) (after : List Need) (kind : Kind) (rest : Graph) (depth : ℕ → ℕ) (each : EachInside Own (add n after kind rest))
    (m : ℕ)
    → nat_eq n m ≡ false → holds kind m ≡ true → depth_in (add n after kind rest) depth each m ≡ kind_depth kind each.0 m
depth-inner n after kind rest depth each m other held =
    ap (λ (b : Bool). cond b (depth n) (cond (holds kind m) (kind_depth kind each.0 m) (depth_in rest depth each.1 m))) other
    ∙ ap (λ (b : Bool). cond b (kind_depth kind each.0 m) (depth_in rest depth each.1 m)) held

depth-rest : (n : ℕ) (after : List Need) (kind : Kind) (rest : Graph) (depth : ℕ → ℕ) (each : EachInside Own (add n after kind rest))
    (m : ℕ)
    → nat_eq n m ≡ false → holds kind m ≡ false → depth_in (add n after kind rest) depth each m ≡ depth_in rest depth each.1 m
depth-rest n after kind rest depth each m other out =
    ap (λ (b : Bool). cond b (depth n) (cond (holds kind m) (kind_depth kind each.0 m) (depth_in rest depth each.1 m))) other
    ∙ ap (λ (b : Bool). cond b (kind_depth kind each.0 m) (depth_in rest depth each.1 m)) out

-- an action of the graph itself has its depth there
own-depth : (g : Graph) (depth : ℕ → ℕ) (each : EachInside Own g) → Once g → (p : ℕ) → has_own g p ≡ true → depth_in g depth each p
    ≡ depth p
own-depth done depth each once p own = absurd (cc)
own-depth (add n after kind rest) depth each once p own = elim (two (nat_eq n p)) [
  | inl is ↦ depth-first n after kind rest depth each p is ∙ ap depth (eqb-true n p is)
  | inr other ↦
      let later : has_own rest p ≡ true = sym (ap (λ (b : Bool). b || has_own rest p) other) ∙ own in
      let there = own_has rest p later in
      depth-rest n after kind rest depth each p other (kind_passed n p kind rest once.1 there) ∙ own-depth rest depth each.1 once.3 p later
]

-- what a waits for is less deep: as own actions of the whole w, or inside the graph
abbrev Falls : (g w : Graph) (depth : ℕ → ℕ) → EachInside Own g → ℕ → ℕ → Type 0
Falls g w depth each p a =
    ((has_own w p ≡ true) × (has_own g a ≡ true) × (depth p < depth a))
    ⊎ ((has g p ≡ true) × (depth_in g depth each p < depth_in g depth each a))

abbrev FallsIn : (kind : Kind) → EachIn Own kind → ℕ → ℕ → Type 0
FallsIn kind each p a = (holds kind p ≡ true) × (kind_depth kind each p < kind_depth kind each a)

abbrev FallsAny : (bs : Branches) → EachBranch Own bs → ℕ → ℕ → Type 0
FallsAny bs each p a = (has_any bs p ≡ true) × (branch_depth bs each p < branch_depth bs each a)

moved_less : (a b c d : ℕ) → c ≡ a → d ≡ b → a < b → c < d
moved_less a b c d one other less = subst (λ (x : ℕ). x < d) (sym one) (subst (λ (y : ℕ). a < y) (sym other) less)

settled : (g : Graph) (depth : ℕ → ℕ) (each : EachInside Own g) → Once g → (p a : ℕ) → Falls g g depth each p a
    → (has g p ≡ true) × (depth_in g depth each p < depth_in g depth each a)
settled g depth each once p a (inl own) = (
  own_has g p own.0,
  moved_less (depth p) (depth a) (depth_in g depth each p) (depth_in g depth each a)
      (own-depth g depth each once p own.0) (own-depth g depth each once a own.1) own.2,
)
settled g depth each once p a (inr is) = is

mutual
  graph_falls : (g w : Graph) → Once g → Within g w → (depth : ℕ → ℕ) → Falling g depth → (each : EachInside Own g) → (a p : ℕ)
      → Names (needs_of g a) p → Falls g w depth each p a
  graph_falls done w once within depth falling each a p named = elim named [ ]
  graph_falls (add n after kind rest) w once within depth falling each a p named =
      let g = add n after kind rest in
      elim (stands n kind rest a) [
        | at_first is ↦
            let here = renamed (needs_of g a) after p (ap
            (λ (b : Bool). cond b after (cond (holds kind a) (needs_in kind a) (needs_of rest a))) is) named in
            inl (
              within.0 p here,
              or_left (nat_eq n a) (has_own rest a) is,
              subst (λ (m : ℕ). depth p < depth m) (eqb-true n a is) (falling.0 p here),
            )
        | in_first other held ↦
            let inner_needs = ap (λ (b : Bool). cond b after (cond (holds kind a) (needs_in kind a) (needs_of rest a))) other
            ∙ ap (λ (b : Bool). cond b (needs_in kind a) (needs_of rest a)) held in
            let inside' = kind_falls kind once.2 each.0 a p (renamed (needs_of g a) (needs_in kind a) p inner_needs named) in
            inr (
              or_left (nat_eq n p || holds kind p) (has rest p) (or_right (nat_eq n p) (holds kind p) inside'.0),
              moved_less (kind_depth kind each.0 p) (kind_depth kind each.0 a) (depth_in g depth each p) (depth_in g depth each a)
                  (depth-inner n after kind rest depth each p (not_first n p kind once.0 inside'.0) inside'.0)
                  (depth-inner n after kind rest depth each a other held) inside'.1,
            )
        | behind_first other out ↦
            let later = ap (λ (b : Bool). cond b after (cond (holds kind a) (needs_in kind a) (needs_of rest a))) other
            ∙ ap (λ (b : Bool). cond b (needs_in kind a) (needs_of rest a)) out in
            elim (graph_falls rest w once.3 within.1 depth falling.1 each.1 a p (renamed (needs_of g a) (needs_of rest a) p later named)) [
              | inl own ↦ inl (own.0, or_right (nat_eq n a) (has_own rest a) own.1, own.2)
              | inr there ↦ inr (
                or_right (nat_eq n p || holds kind p) (has rest p) there.0,
                moved_less (depth_in rest depth each.1 p) (depth_in rest depth each.1 a) (depth_in g depth each p) (depth_in g depth each a)
                    (depth-rest n after kind rest depth each p (first_passed n p kind rest once.1 there.0)
                    (kind_passed n p kind rest once.1 there.0))
                    (depth-rest n after kind rest depth each a other out) there.1,
              )
            ]
      ]

  kind_falls : (kind : Kind) → OnceIn kind → (each : EachIn Own kind) → (a p : ℕ) → Names (needs_in kind a) p → FallsIn kind each p a
  kind_falls Leaf once each a p named = elim named [ ]
  kind_falls (Scope g) once each a p named =
      settled g each.0.depth each.1 once p a (graph_falls g g once each.0.within each.0.depth each.0.falls each.1 a p named)
  kind_falls (Choice bs) once each a p named = branch_falls bs once each a p named
  kind_falls (Foreach pace g) once each a p named =
      settled g each.0.depth each.1 once p a (graph_falls g g once each.0.within each.0.depth each.0.falls each.1 a p named)
  kind_falls (Until most g) once each a p named =
      settled g each.0.depth each.1 once p a (graph_falls g g once each.0.within each.0.depth each.0.falls each.1 a p named)

  branch_falls : (bs : Branches) → OnceAny bs → (each : EachBranch Own bs) → (a p : ℕ) → Names (needs_any bs a) p → FallsAny bs each p a
  branch_falls no_branch once each a p named = elim named [ ]
  branch_falls (branch b rest) once each a p named =
      let all = branch b rest in
      elim (two (has b a)) [
        | inl held ↦
            let here = renamed (needs_any all a) (needs_of b a) p
            (ap (λ (h : Bool). cond h (needs_of b a) (needs_any rest a)) held) named in
            let is = settled b each.0.0.depth each.0.1 once.1 p a
            (graph_falls b b once.1 each.0.0.within each.0.0.depth each.0.0.falls each.0.1 a p here) in (
              or_left (has b p) (has_any rest p) is.0,
              moved_less (depth_in b each.0.0.depth each.0.1 p) (depth_in b each.0.0.depth each.0.1 a) (branch_depth all each p)
                  (branch_depth all each a)
                  (ap (λ (h : Bool). cond h (depth_in b each.0.0.depth each.0.1 p) (branch_depth rest each.1 p)) is.0)
                  (ap (λ (h : Bool). cond h (depth_in b each.0.0.depth each.0.1 a) (branch_depth rest each.1 a)) held) is.1,
            )
        | inr out ↦
            let later = renamed (needs_any all a) (needs_any rest a) p
            (ap (λ (h : Bool). cond h (needs_of b a) (needs_any rest a)) out) named in
            let is = branch_falls rest once.2 each.1 a p later in (
              or_right (has b p) (has_any rest p) is.0,
              moved_less (branch_depth rest each.1 p) (branch_depth rest each.1 a) (branch_depth all each p) (branch_depth all each a)
                  (ap (λ (h : Bool). cond h (depth_in b each.0.0.depth each.0.1 p) (branch_depth rest each.1 p))
                  (branch_passed b rest p once.0 is.0))
                  (ap (λ (h : Bool). cond h (depth_in b each.0.0.depth each.0.1 a) (branch_depth rest each.1 a)) out) is.1,
            )
      ]

pub whole_depth : (g : Graph) → Once g → (own : Own g) (each : EachInside Own g) → IsDepth g (depth_in g own.depth each)
whole_depth g once own each = λ p a named. (settled g own.depth each once p a
    (graph_falls g g once own.within own.depth own.falls each a p named)).1
