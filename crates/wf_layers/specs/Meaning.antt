-- The layered meaning: the rows of a definition by recursion on it, depth after depth. It knows no event, queue or counter.
use Rattle.std.specs.Prelude.{ℕ, zero, suc, Bool, ◌&&◌, ◌||◌, cond, List, [], ◌∷◌, ◌++◌, Option, Some, None, nat_eq, max}
use Rattle.wf_layers.specs.Definition.{Pace, InTurn, AtMost, Kind, Leaf, Scope, Choice, Foreach, Until, Branches, no_branch, branch, Graph, done, add, is_one, less_one, shows, plain}
use Rattle.wf_layers.specs.Address.{Address, address, Table, same_at, starts, is_own, is_in, is_within, is_among}
use Rattle.wf_layers.specs.Source.{Source, gate, leaf}

-- The row, where p holds.
abbrev pub only : {A : Type 0} → Bool → Option A → Option A
only p r = cond p r None

-- Layer after layer.
abbrev pub layers : {A : Type 0} → ℕ → (ℕ → Table A → Table A) → Table A → Table A
layers zero layer k = k
layers (suc d) layer k = layer d (layers d layer k)

-- One iteration after the other: each takes in what the one before gave out.
abbrev pub turns : {A : Type 0} → ℕ → (ℕ → Table A → Table A) → Table A → Table A
turns zero body k = k
turns (suc j) body k = body j (turns j body k)

-- Side by side: each takes in the table at the opening, and the results are joined by the index.
abbrev pub sides : {A : Type 0} → ℕ → List ℕ → (ℕ → Table A → Table A) → Table A → Table A
sides zero i body k x = k x
sides (suc j) i body k x = cond (starts (i ++ j ∷ []) x.at) (body j k x) (sides j i body k x)

abbrev pub loop : {A : Type 0} → Pace → ℕ → List ℕ → (ℕ → Table A → Table A) → Table A → Table A
loop InTurn c i body k = turns c body k
loop (AtMost unfinished) c i body k = sides c i body k

-- How many iterations an Until has from index j on, with m allowed: up to the first that ends it, or all.
abbrev pub rounds : ℕ → ℕ → (ℕ → Bool) → ℕ
rounds zero j stops = j
rounds (suc m) j stops = cond (stops j) (suc j) (rounds m (suc j) stops)

-- The last of c tests.
abbrev pub last : {A : Type 0} → ℕ → (ℕ → A) → Option A
last zero test = None
last (suc j) test = Some (test j)

module _ (depth : ℕ → ℕ) where
  -- One more than the greatest depth of the graph's actions.
  abbrev pub deepest : Graph → ℕ
  deepest done = 0
  deepest (add n after kind rest) = max (suc (depth n)) (deepest rest)

  -- The depth of the action of this graph whose address it is or in which it lies.
  abbrev pub rank : Graph → List ℕ → Address → ℕ
  rank done i y = 0
  rank (add n after kind rest) i y = cond (is_in n kind i y) (depth n) (rank rest i y)

module _ {Row Begun Decision Verdict : Type 0} (s : Source Row Begun Decision Verdict) where
  -- The rows of an action that doesn't run: Skipped ones for it and all inside it, but a loop there has no iterations.
  abbrev pub skip : ℕ → Kind → List ℕ → Table Row
  skip n kind i x = cond ((nat_eq n x.name || shows kind x.name) && same_at i x.at) (Some s.skipped) None

  -- And of a graph that isn't taken; but what is kept there keeps its rows.
  abbrev pub skip_all : Graph → List ℕ → Table Row
  skip_all g i x = cond (s.pinned x.name) (s.old x) (cond (plain g x.name && same_at i x.at) (Some s.skipped) None)

module _ {Row Begun Decision Verdict : Type 0} (s : Source Row Begun Decision Verdict) (depth : ℕ → ℕ) where
  -- THE LAYERED MEANING
  abbrev mutual
    -- The rows of an action that runs and of all inside it, from the rows that are known.
    pub run : Kind → ℕ → List ℕ → Table Row → Table Row
    run Leaf n i k x = only (is_own n i x) (Some (leaf s (address n i) k))
    run (Scope g) n i k x =
        let k' = layers (deepest depth g) (layer g i) k in
        cond (is_own n i x) (Some (s.close (address n i) (s.decide (address n i) k) 0 None k')) (only (is_within g i x) (k' x))
    run (Choice bs) n i k x =
        let d = s.decide (address n i) k in
        let k' = run_any bs (s.taken d) i k in
        cond (is_own n i x) (Some (s.close (address n i) d 0 None k')) (only (is_among bs i x) (k' x))
    run (Foreach pace g) n i k x =
        let d = s.decide (address n i) k in
        let k' = loop pace (s.items d) i (λ j. layers (deepest depth g) (layer g (i ++ j ∷ []))) k in
        cond (is_own n i x) (Some (s.close (address n i) d 0 None k')) (only (is_within g i x) (k' x))
    run (Until most g) n i k x =
        let k' : ℕ → Table Row = λ c. turns c (λ j. layers (deepest depth g) (layer g (i ++ j ∷ []))) k in
        let tested : ℕ → Verdict = λ j. s.test (address n i) j (k' (suc j)) in
        let c = rounds most 0 (λ j. s.ends (tested j)) in
        cond (is_own n i x) (Some (s.close (address n i) (s.decide (address n i) k) c (last c tested) (k' c)))
        (only (is_within g i x) (k' c x))

    -- The rows of the branch that is taken, and Skipped ones of the others.
    pub run_any : Branches → ℕ → List ℕ → Table Row → Table Row
    run_any no_branch c i k x = k x
    run_any (branch b rest) c i k x =
        cond (is_within b i x) (cond (is_one c) (layers (deepest depth b) (layer b i) k x) (skip_all s b i x))
        (run_any rest (less_one c) i k x)

    -- The blocks of all actions of depth d, each from what is known, joined.
    pub layer : Graph → List ℕ → ℕ → Table Row → Table Row
    layer done i d k x = k x
    layer (add n after kind rest) i d k x =
        cond (is_in n kind i x)
        (cond (nat_eq (depth n) d)
        (cond (s.pinned n) (s.old x) (cond (s.reclosed n || gate s after n i k) (run kind n i k x) (skip s n kind i x))) (k x))
        (layer rest i d k x)

  abbrev pub meaning : Graph → Table Row
  meaning g = layers (deepest depth g) (layer g []) (λ x. None)
