-- How many events a run has, and how many of them are left in a state.
use Rattle.std.specs.Prelude.{◌≡◌, ◌≤◌, ◌*◌, ℕ, zero, suc, ◌+◌, ◌-◌, cond, List, [], ◌∷◌, ◌++◌, Option, Some, None, nat_lt}
use Rattle.wf_layers.specs.Definition.{Need, Pace, Kind, Leaf, Scope, Choice, Foreach, Until, Branches, no_branch, branch, Graph, done, add, is_one, less_one, kind_of}
use Rattle.wf_layers.specs.Address.{Address, address, Table}
use Rattle.wf_layers.specs.Source.{Source, gate, leaf}
use Rattle.wf_layers.specs.Meaning.{rounds, last}
use Rattle.wf_layers.specs.Called.{iterations}
use Rattle.wf_layers.specs.Machine.{Running, Opening, State}

abbrev pub sum : ℕ → (ℕ → ℕ) → ℕ
sum zero h = 0
sum (suc j) h = sum j h + h j

-- 1 where the last begun iteration of an Until hasn't been tested.
abbrev pub untested : {A : Type 0} → ℕ → Option A → ℕ
untested zero v = 0
untested (suc j) None = 1
untested (suc j) (Some v) = 0

-- By what a state has of an action: a row, so nothing is left; a running leaf; an open container; or none of these.
abbrev pub by_state : {Row Begun Decision Verdict : Type 0} → Option Row → Option (Running Begun) → Option (Opening Decision Verdict)
    → (Running Begun → ℕ) → (Opening Decision Verdict → ℕ) → ℕ → ℕ
by_state (Some r) w o running open' none = 0
by_state None (Some w) o running open' none = running w
by_state None None (Some o) running open' none = open' o
by_state None None None running open' none = none

module _ {Row Begun Decision Verdict : Type 0} (m : Source Row Begun Decision Verdict) (f : Table Row) where
  -- Of an action: no event where its row is kept; all but the Open where it is closed again; one Skip where its gate fails; else all of a
  -- run of it.
  abbrev pub total_of : List Need → ℕ → List ℕ → ℕ → ℕ
  total_of after n i all = cond (m.pinned n) 0 (cond (m.reclosed n) (less_one all) (cond (gate m after n i f) all 1))

  -- THE EVENTS OF A RUN, by the rows f: a leaf has a Start, its attempts and an End; a container an Open, a Close, and what is inside it,
  -- of a Choice only the taken branch; a Foreach a Begin for each iteration, an Until a Begin and a Test.
  abbrev mutual
    pub total_in : Kind → ℕ → List ℕ → ℕ
    total_in Leaf n i = suc (suc (m.tries (address n i) (m.start (address n i) f)))
    total_in (Scope g) n i = suc (suc (total g i))
    total_in (Choice bs) n i = suc (suc (total_any bs (m.taken (m.decide (address n i) f)) i))
    total_in (Foreach pace g) n i = suc (suc (sum (m.items (m.decide (address n i) f)) (λ j. suc (total g (i ++ j ∷ [])))))
    total_in (Until most g) n i =
        suc (suc (sum (rounds most 0 (λ j. m.ends (m.test (address n i) j f))) (λ j. suc (suc (total g (i ++ j ∷ []))))))

    pub total_any : Branches → ℕ → List ℕ → ℕ
    total_any no_branch c i = 0
    total_any (branch b rest) c i = cond (is_one c) (total b i) (total_any rest (less_one c) i)

    pub total : Graph → List ℕ → ℕ
    total done i = 0
    total (add n after kind rest) i = total_of after n i (total_in kind n i) + total rest i

  -- WHAT IS LEFT of them in the state s: of a running leaf the attempts to come and the End; of an open container the Close, what is left
  -- inside, the iterations to come, and the test of an Until's last one.
  module _ (s : State Row Begun Decision Verdict) where
    abbrev mutual
      pub left_in : Kind → ℕ → List ℕ → Opening Decision Verdict → ℕ
      left_in Leaf n i w = 0
      left_in (Scope g) n i w = suc (left g i)
      left_in (Choice bs) n i w = suc (left_any bs (m.taken w.decision) i)
      left_in (Foreach pace g) n i w =
          suc (sum (m.items w.decision) (λ j. cond (nat_lt j w.next) (left g (i ++ j ∷ [])) (suc (total g (i ++ j ∷ [])))))
      left_in (Until most g) n i w =
          suc (sum (rounds most 0 (λ j. m.ends (m.test (address n i) j f)))
          (λ j. cond (nat_lt j w.next) (left g (i ++ j ∷ [])) (suc (suc (total g (i ++ j ∷ []))))) + untested w.next w.test)

      pub left_any : Branches → ℕ → List ℕ → ℕ
      left_any no_branch c i = 0
      left_any (branch b rest) c i = cond (is_one c) (left b i) (left_any rest (less_one c) i)

      pub left : Graph → List ℕ → ℕ
      left done i = 0
      left (add n after kind rest) i =
          by_state (s.rows (address n i)) (s.running (address n i)) (s.opens (address n i))
          (λ w. suc (m.tries (address n i) w.begun - w.tries)) (λ w. left_in kind n i w) (total_of after n i (total_in kind n i))
          + left rest i

-- WHAT A ROW TELLS: that of a leaf that ran at least its attempts, that of a loop at least its iterations, in the rows f.
pub record TellsTurns {Row Begun Decision Verdict : Type 0} (d : Graph) (m : Source Row Begun Decision Verdict) (f : Table Row)
    (turns : Row → ℕ) : Type 0 where
  pub attempts : (x : Address) → kind_of d x.name ≡ Some Leaf → m.tries x (m.start x f) ≤ turns (leaf m x f)
  pub items : (x : Address) (pace : Pace) (g : Graph) → kind_of d x.name ≡ Some (Foreach pace g)
      → m.items (m.decide x f) ≤ turns (m.close x (m.decide x f) 0 None f)
  pub rounds : (x : Address) (most : ℕ) (g : Graph) → kind_of d x.name ≡ Some (Until most g)
      → iterations m (Until most g) x f
      ≤ turns (m.close x (m.decide x f) (iterations m (Until most g) x f) (last (iterations m (Until most g) x f) (λ j. m.test x j f)) f)

-- THE COST of what is placed, begun and tried: at least 64 for each row, running leaf and open container, and 64 more for each attempt and
-- iteration.
pub record Costs {Row Begun Decision Verdict RowAt LeafAt OpenAt : Type 0} (turns : Row → ℕ)
    (row : RowAt → Row) (leaf : LeafAt → Running Begun) (opening : OpenAt → Opening Decision Verdict)
    (of_row : RowAt → ℕ) (of_leaf : LeafAt → ℕ) (of_open : OpenAt → ℕ) : Type 0 where
  pub rows : (e : RowAt) → 64 * suc (turns (row e)) ≤ of_row e
  pub leaves : (e : LeafAt) → 64 * suc (leaf e).tries ≤ of_leaf e
  pub opens : (e : OpenAt) → 64 * suc (opening e).next ≤ of_open e
