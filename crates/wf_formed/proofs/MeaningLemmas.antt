-- What holds of each row that a source may give holds of all rows that it means, whatever is known as it gives them; and each stands in
-- iterations of small numbers.
use Rattle.std.proofs.Common.{ℕ, zero, suc, ◌+◌, ◌<◌, ◌≤◌, Bool, true, false, ◌||◌, ◌&&◌, cond, List, [], ◌∷◌, ◌++◌, Option, Some}
use Rattle.std.proofs.Common.{None, inl, inr, sym, subst, arith, nat_eq}
use Rattle.std.specs.List.{AllByRecursion}
use Rattle.wf_layers.specs.Address.{Address, Table, address, is_among, is_in, is_own, is_within, same_at, starts}
use Rattle.wf_layers.specs.Definition.{AtMost, Branches, Choice, Foreach, Graph, InTurn, Kind, Leaf, Pace, Scope, Until, add, branch}
use Rattle.wf_layers.specs.Definition.{done, is_one, less_one, no_branch, plain, shows}
use Rattle.wf_layers.specs.Meaning.{deepest, last, layer, layers, loop, meaning, only, rounds, run, run_any, sides, skip, skip_all, turns}
use Rattle.wf_layers.specs.Source.{Source, gate, leaf}
use Rattle.wf_layers.proofs.Basics.{and_in, two, unless, when}
use Rattle.wf_layers.proofs.Tables.{own_is, same_at_is}

-- an Until goes round at most as often as it may
rounds_most : (m j : ℕ) (stops : ℕ → Bool) → rounds m j stops ≤ j + m
rounds_most zero j stops = omega arith
rounds_most (suc m) j stops = elim (two (stops j)) [
  | inl t ↦ omega (arith, when (stops j) (suc j) (rounds m (suc j) stops) t)
  | inr f ↦ omega (arith, unless (stops j) (suc j) (rounds m (suc j) stops) f, rounds_most m (suc j) stops)
]

module _ (limit : ℕ) where
  abbrev pub AreSmall : List ℕ → Type 0
  AreSmall i = AllByRecursion (λ j. j < limit) i

  one_more : (i : List ℕ) (j : ℕ) → AreSmall i → j < limit → AreSmall (i ++ j ∷ [])
  one_more [] j small lt = (lt, tt)
  one_more (a ∷ i) j small lt = (small.0, one_more i j small.1 lt)

  -- each Until has at most so many iterations
  abbrev mutual
    pub TurnsSmallIn : Kind → Type 0
    TurnsSmallIn Leaf = Unit {0}
    TurnsSmallIn (Scope g) = TurnsSmall g
    TurnsSmallIn (Choice bs) = TurnsSmallAny bs
    TurnsSmallIn (Foreach pace g) = TurnsSmall g
    TurnsSmallIn (Until most g) = (most ≤ limit) × TurnsSmall g

    pub TurnsSmallAny : Branches → Type 0
    TurnsSmallAny no_branch = Unit {0}
    TurnsSmallAny (branch b rest) = TurnsSmall b × TurnsSmallAny rest

    pub TurnsSmall : Graph → Type 0
    TurnsSmall done = Unit {0}
    TurnsSmall (add n after kind rest) = TurnsSmallIn kind × TurnsSmall rest

  module _ {Row : Type 0} (P : Row → Type 0) where
    abbrev pub OfRow : Address → Option Row → Type 0
    OfRow x None = Unit {0}
    OfRow x (Some r) = AreSmall x.at × P r

    abbrev pub OfTable : Table Row → Type 0
    OfTable t = (x : Address) → OfRow x (t x)

    either_row : (x : Address) (b : Bool) (u v : Option Row) → OfRow x u → OfRow x v → OfRow x (cond b u v)
    either_row x true u v one other = one
    either_row x false u v one other = other

    only_row : (x : Address) (b : Bool) (u : Option Row) → OfRow x u → OfRow x (only b u)
    only_row x b u one = either_row x b u None one tt

    -- the row of an action at these indexes
    own_row : (n : ℕ) (i : List ℕ) (r : Row) (x : Address) (other : Option Row) → AreSmall i → P r → OfRow x other
        → OfRow x (cond (is_own n i x) (Some r) other)
    own_row n i r x other small holds rest = elim (two (is_own n i x)) [
      | inl t ↦ subst (OfRow x) (sym (when (is_own n i x) (Some r) other t))
          (subst (λ (y : Address). AreSmall y.at) (own_is n i x t) small, holds)
      | inr f ↦ subst (OfRow x) (sym (unless (is_own n i x) (Some r) other f)) rest
    ]

    -- a row at these indexes, of whichever action
    row_there : (i : List ℕ) (r : Row) (x : Address) (b : Bool) → AreSmall i → P r
        → OfRow x (cond (b && same_at i x.at) (Some r) None)
    row_there i r x b small holds = elim (two (b && same_at i x.at)) [
      | inl t ↦ subst (OfRow x) (sym (when (b && same_at i x.at) (Some r) None t))
          (subst AreSmall (same_at_is i x.at (and_in b (same_at i x.at) t).1) small, holds)
      | inr f ↦ subst (OfRow x) (sym (unless (b && same_at i x.at) (Some r) None f)) tt
    ]

    abbrev Keeps : (Table Row → Table Row) → Type 0
    Keeps step = (k : Table Row) → OfTable k → OfTable (step k)

    all_layers : (n : ℕ) (step : ℕ → Table Row → Table Row) → ((j : ℕ) → Keeps (step j)) → Keeps (layers n step)
    all_layers zero step keeps k all = all
    all_layers (suc n) step keeps k all = keeps n (layers n step k) (all_layers n step keeps k all)

    all_turns : (n : ℕ) (body : ℕ → Table Row → Table Row) → ((j : ℕ) → j < n → Keeps (body j)) → Keeps (turns n body)
    all_turns zero body keeps k all = all
    all_turns (suc n) body keeps k all =
        keeps n (omega arith) (turns n body k) (all_turns n body (λ j lt. keeps j (omega (arith, lt))) k all)

    all_sides : (n : ℕ) (i : List ℕ) (body : ℕ → Table Row → Table Row) → ((j : ℕ) → j < n → Keeps (body j)) → Keeps (sides n i body)
    all_sides zero i body keeps k all x = all x
    all_sides (suc n) i body keeps k all x =
        either_row x (starts (i ++ n ∷ []) x.at) (body n k x) (sides n i body k x) (keeps n (omega arith) k all x)
        (all_sides n i body (λ j lt. keeps j (omega (arith, lt))) k all x)

    all_turned : (pace : Pace) (n : ℕ) (i : List ℕ) (body : ℕ → Table Row → Table Row) → ((j : ℕ) → j < n → Keeps (body j))
        → Keeps (loop pace n i body)
    all_turned InTurn n i body keeps k all = all_turns n body keeps k all
    all_turned (AtMost unfinished) n i body keeps k all = all_sides n i body keeps k all

-- What a source gives has the property: its rows, and what a container may have decided.
pub record Gives {Row Begun Decision Verdict : Type 0} (limit : ℕ) (m : Source Row Begun Decision Verdict) (P : Row → Type 0)
    (D : Decision → Type 0) : Type 0 where
  pub skipped : P m.skipped
  pub old : OfTable limit P m.old
  pub leaves : (x : Address) (k : Table Row) → P (leaf m x k)
  pub decides : (x : Address) (k : Table Row) → D (m.decide x k)
  pub items : (p : Decision) → D p → m.items p ≤ limit
  pub closes : (x : Address) (p : Decision) → D p → (n : ℕ) (v : Option Verdict) (k : Table Row) → P (m.close x p n v k)

module _ {Row Begun Decision Verdict : Type 0} (limit : ℕ) (m : Source Row Begun Decision Verdict) (P : Row → Type 0)
    (D : Decision → Type 0) (gives : Gives limit m P D) (depth : ℕ → ℕ) where
  abbrev Small : List ℕ → Type 0
  Small = AreSmall limit

  abbrev Has : Table Row → Type 0
  Has = OfTable limit P

  closed_row : (x : Address) (known k : Table Row) (n : ℕ) (v : Option Verdict) → P (m.close x (m.decide x known) n v k)
  closed_row x known k n v = gives.closes x (m.decide x known) (gives.decides x known) n v k

  skipped_all : (g : Graph) (i : List ℕ) → Small i → Has (skip_all m g i)
  skipped_all g i small x =
      either_row limit P x (m.pinned x.name) (m.old x) (cond (plain g x.name && same_at i x.at) (Some m.skipped) None) (gives.old x)
      (row_there limit P i m.skipped x (plain g x.name) small gives.skipped)

  skipped_one : (n : ℕ) (kind : Kind) (i : List ℕ) → Small i → Has (skip m n kind i)
  skipped_one n kind i small x = row_there limit P i m.skipped x (nat_eq n x.name || shows kind x.name) small gives.skipped

  mutual
    all_run : (kind : Kind) (n : ℕ) (i : List ℕ) → TurnsSmallIn limit kind → Small i → (k : Table Row) → Has k
        → Has (run m depth kind n i k)
    all_run Leaf n i turn small k all x =
        own_row limit P n i (leaf m (address n i) k) x None small (gives.leaves (address n i) k) tt
    all_run (Scope g) n i turn small k all x =
        let inner = layers (deepest depth g) (layer m depth g i) k in
        own_row limit P n i (m.close (address n i) (m.decide (address n i) k) 0 None inner) x (only (is_within g i x) (inner x)) small
        (closed_row (address n i) k inner 0 None)
        (only_row limit P x (is_within g i x) (inner x)
        (all_layers limit P (deepest depth g) (layer m depth g i) (λ h t each. all_layer g i h turn small t each) k all x))
    all_run (Choice bs) n i turn small k all x =
        let inner = run_any m depth bs (m.taken (m.decide (address n i) k)) i k in
        own_row limit P n i (m.close (address n i) (m.decide (address n i) k) 0 None inner) x (only (is_among bs i x) (inner x)) small
        (closed_row (address n i) k inner 0 None)
        (only_row limit P x (is_among bs i x) (inner x) (all_any bs (m.taken (m.decide (address n i) k)) i turn small k all x))
    all_run (Foreach pace g) n i turn small k all x =
        let body : ℕ → Table Row → Table Row = λ j. layers (deepest depth g) (layer m depth g (i ++ j ∷ [])) in
        let c = m.items (m.decide (address n i) k) in
        let few = gives.items (m.decide (address n i) k) (gives.decides (address n i) k) in
        let inner = loop pace c i body k in
        own_row limit P n i (m.close (address n i) (m.decide (address n i) k) 0 None inner) x (only (is_within g i x) (inner x)) small
        (closed_row (address n i) k inner 0 None)
        (only_row limit P x (is_within g i x) (inner x)
        (all_turned limit P pace c i body
        (λ j lt. all_layers limit P (deepest depth g) (layer m depth g (i ++ j ∷ []))
        (λ h t each. all_layer g (i ++ j ∷ []) h turn (one_more limit i j small (omega (arith, lt, few))) t each)) k all x))
    all_run (Until most g) n i turn small k all x =
        let body : ℕ → Table Row → Table Row = λ j. layers (deepest depth g) (layer m depth g (i ++ j ∷ [])) in
        let inner : ℕ → Table Row = λ c. turns c body k in
        let tested : ℕ → Verdict = λ j. m.test (address n i) j (inner (suc j)) in
        let c = rounds most 0 (λ j. m.ends (tested j)) in
        let few = rounds_most most 0 (λ j. m.ends (tested j)) in
        own_row limit P n i (m.close (address n i) (m.decide (address n i) k) c (last c tested) (inner c)) x
        (only (is_within g i x) (inner c x)) small (closed_row (address n i) k (inner c) c (last c tested))
        (only_row limit P x (is_within g i x) (inner c x)
        (all_turns limit P c body
        (λ j lt. all_layers limit P (deepest depth g) (layer m depth g (i ++ j ∷ []))
        (λ h t each. all_layer g (i ++ j ∷ []) h turn.1 (one_more limit i j small (omega (arith, lt, few, turn.0))) t each)) k all x))

    all_any : (bs : Branches) (c : ℕ) (i : List ℕ) → TurnsSmallAny limit bs → Small i → (k : Table Row) → Has k
        → Has (run_any m depth bs c i k)
    all_any no_branch c i turn small k all x = all x
    all_any (branch b rest) c i turn small k all x =
        let taken = layers (deepest depth b) (layer m depth b i) k x in
        either_row limit P x (is_within b i x) (cond (is_one c) taken (skip_all m b i x)) (run_any m depth rest (less_one c) i k x)
        (either_row limit P x (is_one c) taken (skip_all m b i x)
        (all_layers limit P (deepest depth b) (layer m depth b i) (λ h t each. all_layer b i h turn.0 small t each) k all x)
        (skipped_all b i small x))
        (all_any rest (less_one c) i turn.1 small k all x)

    all_layer : (g : Graph) (i : List ℕ) (d : ℕ) → TurnsSmall limit g → Small i → (k : Table Row) → Has k → Has (layer m depth g i d k)
    all_layer done i d turn small k all x = all x
    all_layer (add n after kind rest) i d turn small k all x =
        let ran = run m depth kind n i k x in
        let own = cond (m.reclosed n || gate m after n i k) ran (skip m n kind i x) in
        either_row limit P x (is_in n kind i x) (cond (nat_eq (depth n) d) (cond (m.pinned n) (m.old x) own) (k x))
        (layer m depth rest i d k x)
        (either_row limit P x (nat_eq (depth n) d) (cond (m.pinned n) (m.old x) own) (k x)
        (either_row limit P x (m.pinned n) (m.old x) own (gives.old x)
        (either_row limit P x (m.reclosed n || gate m after n i k) ran (skip m n kind i x) (all_run kind n i turn.0 small k all x)
        (skipped_one n kind i small x)))
        (all x))
        (all_layer rest i d turn.1 small k all x)

  -- THE LAW
  pub all_meant : (g : Graph) → TurnsSmall limit g → OfTable limit P (meaning m depth g)
  all_meant g turn =
      all_layers limit P (deepest depth g) (layer m depth g []) (λ h t each. all_layer g [] h turn tt t each) (λ x. None) (λ x. tt)
