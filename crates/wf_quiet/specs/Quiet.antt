-- A RUN OF WHICH SOME ANSWERS AREN'T THERE YET: it goes on with those that are, until nothing may happen but attempts that have no answer.
use Rattle.std.specs.Prelude.{◌≡◌, ℕ, zero, suc, ◌≤◌, Bool, true, false, List, [], ◌∷◌, Some, nat_eq, nat_lt}
use Rattle.wf_layers.specs.Address.{Address, Table, address}
use Rattle.wf_layers.specs.Answered.{with_leaves}
use Rattle.wf_layers.specs.Definition.{Graph}
use Rattle.wf_layers.specs.Machine.{Running, State, Event, Start, Try, End, Skip, Open, Begin, Test, Close, Step, fresh}
use Rattle.wf_layers.specs.Source.{Source}

-- whether there is an answer for the attempt of a number, counted from 1, at an address
abbrev pub Answers : Type 0
Answers = Address → ℕ → Bool

-- Each answer is there in the other, too.
abbrev pub AreAmong : Answers → Answers → Type 0
AreAmong answered more = (x : Address) (k : ℕ) → answered x k ≡ true → more x k ≡ true

-- What has been made is answered: no attempt, or the last of so many.
abbrev pub came : Answers → Address → ℕ → Bool
came answered x zero = true
came answered x (suc c) = answered x (suc c)

module _ {Row Begun Decision Verdict : Type 0} (answered : Answers) where
  -- The attempt that the event is has an answer. What is no attempt asks for none.
  abbrev pub HasAnswer : State Row Begun Decision Verdict → Event → Type 0
  HasAnswer s (Try n i) = (w : Running Begun) → s.running (address n i) ≡ Some w → answered (address n i) (suc w.tries) ≡ true
  HasAnswer s (Start n i) = Unit {0}
  HasAnswer s (End n i) = Unit {0}
  HasAnswer s (Skip n i) = Unit {0}
  HasAnswer s (Open n i) = Unit {0}
  HasAnswer s (Begin n i) = Unit {0}
  HasAnswer s (Test n i) = Unit {0}
  HasAnswer s (Close n i) = Unit {0}

  -- Each running leaf has made no more attempts than the source gives it, and they are answered.
  abbrev pub MadeAreAnswered : Source Row Begun Decision Verdict → State Row Begun Decision Verdict → Type 0
  MadeAreAnswered m s =
      (x : Address) (w : Running Begun) → s.running x ≡ Some w → (w.tries ≤ m.tries x w.begun) × (came answered x w.tries ≡ true)

  module _ (d : Graph) (m : Source Row Begun Decision Verdict) where
    -- a run of which each attempt has an answer
    abbrev pub AnsweredRun : State Row Begun Decision Verdict → List Event → State Row Begun Decision Verdict → Type 0
    AnsweredRun s [] s' = s' ≡ s
    AnsweredRun s (e ∷ es) s' =
        (mid : State Row Begun Decision Verdict) × HasAnswer s e × Step d m s e mid × AnsweredRun mid es s'

    -- Nothing may happen any more but attempts without an answer.
    abbrev pub IsQuiet : State Row Begun Decision Verdict → Type 0
    IsQuiet s = (e : Event) (s' : State Row Begun Decision Verdict) → Step d m s e s' → HasAnswer s e → ⊥

    -- THE QUIET STATE of a run that begins: a run with the answers that are there leads to it, and can't go on.
    pub record IsQuietState (s : State Row Begun Decision Verdict) : Type 0 where
      pub events : List Event
      pub run : AnsweredRun fresh events s
      pub quiet : IsQuiet s

    -- An attempt waits for its answer: it is the next of a running leaf that has one to make.
    pub record IsWanted (s : State Row Begun Decision Verdict) (x : Address) (attempt : ℕ) : Type 0 where
      pub leaf : Running Begun
      pub runs : s.running x ≡ Some leaf
      pub next : attempt ≡ suc leaf.tries
      pub makes : nat_lt leaf.tries (m.tries x leaf.begun) ≡ true
      pub open_still : answered x attempt ≡ false

-- THE SAME RUN WITH MORE ANSWERS: another source that differs in what attempts come to alone, and only where an answer isn't there yet.
pub record KnowsMore {Row Begun Decision Verdict : Type 0} (answered : Answers) (m more : Source Row Begun Decision Verdict) : Type 0 where
  pub same : m ≡ with_leaves more m.tries m.finish
  pub goes_on : (x : Address) (b : Begun) (c : ℕ) → c ≤ m.tries x b → came answered x c ≡ true
      → nat_lt c (m.tries x b) ≡ nat_lt c (more.tries x b)
  pub ends : (x : Address) (b : Begun) (c : ℕ) → c ≤ m.tries x b → came answered x c ≡ true
      → nat_eq c (m.tries x b) ≡ nat_eq c (more.tries x b)
  pub row : (x : Address) (b : Begun) (t : Table Row) → came answered x (m.tries x b) ≡ true → m.finish x b t ≡ more.finish x b t
