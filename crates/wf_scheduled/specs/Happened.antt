-- WHAT A STATE HAS OF THE EVENT THAT LED TO IT, by the rows f that are meant: what a leaf has from its start on, which attempt it made, the
-- row that was placed, what was decided, which iteration began and what its test gave.
use Rattle.std.specs.Prelude.{◌≡◌, ℕ, suc, Some}
use Rattle.wf_layers.specs.Address.{Table, address}
use Rattle.wf_layers.specs.Machine.{Running, Opening, State, Event, Start, Try, End, Skip, Open, Begin, Test, Close}
use Rattle.wf_layers.specs.Source.{Source, leaf}

module _ {Row Begun Decision Verdict : Type 0} (m : Source Row Begun Decision Verdict) (f : Table Row) where
  -- the event has this number
  abbrev pub HasHappened : State Row Begun Decision Verdict → Event → ℕ → Type 0
  HasHappened s (Start n i) k =
      (w : Running Begun) × (s.running (address n i) ≡ Some w) × (w.begun ≡ m.start (address n i) f)
  HasHappened s (Try n i) k =
      (w : Running Begun) × (s.running (address n i) ≡ Some w) × (w.begun ≡ m.start (address n i) f) × (w.tries ≡ k)
      × (f (address n i) ≡ Some (leaf m (address n i) f))
  HasHappened s (End n i) k = (r : Row) × (s.rows (address n i) ≡ Some r) × (f (address n i) ≡ Some r)
  HasHappened s (Skip n i) k = Unit {0}
  HasHappened s (Open n i) k =
      (w : Opening Decision Verdict) × (s.opens (address n i) ≡ Some w) × (w.decision ≡ m.decide (address n i) f)
  HasHappened s (Begin n i) k = (w : Opening Decision Verdict) × (s.opens (address n i) ≡ Some w) × (w.next ≡ suc k)
  HasHappened s (Test n i) k =
      (w : Opening Decision Verdict) × (s.opens (address n i) ≡ Some w) × (w.next ≡ suc k) × (w.test ≡ Some (m.test (address n i) k f))
  HasHappened s (Close n i) k = (r : Row) × (s.rows (address n i) ≡ Some r) × (f (address n i) ≡ Some r)
