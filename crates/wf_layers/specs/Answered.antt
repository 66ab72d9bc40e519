-- A run whose answers come one by one: of a running leaf it is known so far, or isn't yet, whether it makes a further attempt, and else
-- with which row it ends.
use Rattle.std.specs.Prelude.{◌≡◌, ℕ, Bool, true, List, [], ◌∷◌, Some, nat_eq, nat_lt}
use Rattle.wf_layers.specs.Definition.{Graph}
use Rattle.wf_layers.specs.Address.{Address, Table, address}
use Rattle.wf_layers.specs.Source.{Source}
use Rattle.wf_layers.specs.Machine.{Running, State, Event, Start, Try, End, Skip, Open, Begin, Test, Close, Step, Run}

module _ {Row Begun Decision Verdict : Type 0} where
  -- The source with other attempts and rows of leaves: answers of which only some are known.
  abbrev pub with_leaves : Source Row Begun Decision Verdict → (Address → Begun → ℕ) → (Address → Begun → Table Row → Row)
      → Source Row Begun Decision Verdict
  with_leaves m tries finish = record {
    status = m.status;
    skipped = m.skipped;
    start = m.start;
    tries = tries;
    finish = finish;
    decide = m.decide;
    taken = m.taken;
    items = m.items;
    test = m.test;
    ends = m.ends;
    close = m.close;
    halts = m.halts;
    pinned = m.pinned;
    old = m.old;
    reclosed = m.reclosed;
  }

  -- `knows` says of a leaf, by what its Start gave, whether the answer to its attempt of this number is known: whether it is made, and,
  -- where it isn't, the row.
  pub record AgreeSoFar (m : Source Row Begun Decision Verdict) (tries : Address → Begun → ℕ) (finish : Address → Begun → Table Row → Row)
      (knows : Address → Begun → ℕ → Bool) : Type 0 where
    pub more : (x : Address) (b : Begun) (c : ℕ) → knows x b c ≡ true → nat_lt c (tries x b) ≡ nat_lt c (m.tries x b)
    pub last : (x : Address) (b : Begun) (c : ℕ) → knows x b c ≡ true → nat_eq c (tries x b) ≡ nat_eq c (m.tries x b)
    pub row : (x : Address) (b : Begun) (c : ℕ) (t : Table Row) → knows x b c ≡ true → finish x b t ≡ m.finish x b t

  -- What an event takes of the answers is known.
  abbrev pub IsKnown : (Address → Begun → ℕ → Bool) → State Row Begun Decision Verdict → Event → Type 0
  IsKnown knows s (Try n i) = (w : Running Begun) → s.running (address n i) ≡ Some w → knows (address n i) w.begun w.tries ≡ true
  IsKnown knows s (End n i) = (w : Running Begun) → s.running (address n i) ≡ Some w → knows (address n i) w.begun w.tries ≡ true
  IsKnown knows s (Start n i) = Unit {0}
  IsKnown knows s (Skip n i) = Unit {0}
  IsKnown knows s (Open n i) = Unit {0}
  IsKnown knows s (Begin n i) = Unit {0}
  IsKnown knows s (Test n i) = Unit {0}
  IsKnown knows s (Close n i) = Unit {0}

  -- A run with the answers that are known.
  abbrev pub RunSoFar : (Address → Begun → ℕ → Bool) → Graph → Source Row Begun Decision Verdict → State Row Begun Decision Verdict
      → List Event → State Row Begun Decision Verdict → Type 0
  RunSoFar knows d m s [] s' = s' ≡ s
  RunSoFar knows d m s (e ∷ es) s' =
      (mid : State Row Begun Decision Verdict) × IsKnown knows s e × Step d m s e mid × RunSoFar knows d m mid es s'

  -- THE LAW: it is a run with all answers.
  abbrev pub RunsSoFarAreRuns : Graph → Source Row Begun Decision Verdict → Type 0
  RunsSoFarAreRuns d m =
      (tries : Address → Begun → ℕ) (finish : Address → Begun → Table Row → Row) (knows : Address → Begun → ℕ → Bool)
      → AgreeSoFar m tries finish knows
      → (s s' : State Row Begun Decision Verdict) (es : List Event) → RunSoFar knows d (with_leaves m tries finish) s es s'
      → Run d m s es s'
