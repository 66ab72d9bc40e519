-- What has happened is told by what stands at the event's own instance.
use Rattle.std.proofs.Common.{◌≡◌, ◌∙◌, ℕ, Option, Some}
use Rattle.wf_layers.specs.Address.{Table}
use Rattle.wf_layers.specs.Machine.{Event, Start, Try, End, Skip, Open, Begin, Test, Close, Opening, Running, State, place_of}
use Rattle.wf_layers.specs.Source.{Source}
use Rattle.wf_scheduled.specs.Happened.{HasHappened}
use Rattle.wf_making.specs.Standing.{standing}

module _ {Row Begun Decision Verdict : Type 0} (m : Source Row Begun Decision Verdict) (f : Table Row)
    (s : State Row Begun Decision Verdict) (row : Option Row) (leaf : Option (Running Begun)) (container : Option (Opening Decision Verdict))
  where
    pub happened_there : (e : Event) → row ≡ s.rows (place_of e) → leaf ≡ s.running (place_of e) → container ≡ s.opens (place_of e)
        → (k : ℕ) → HasHappened m f s e k → HasHappened m f (standing row leaf container) e k
    happened_there (Start n i) r l o k (w, is, begun) = (w, l ∙ is, begun)
    happened_there (Try n i) r l o k (w, is, begun, tries, has) = (w, l ∙ is, begun, tries, has)
    happened_there (End n i) r l o k (q, is, has) = (q, r ∙ is, has)
    happened_there (Skip n i) r l o k u = tt
    happened_there (Open n i) r l o k (w, is, decided) = (w, o ∙ is, decided)
    happened_there (Begin n i) r l o k (w, is, next) = (w, o ∙ is, next)
    happened_there (Test n i) r l o k (w, is, next, test) = (w, o ∙ is, next, test)
    happened_there (Close n i) r l o k (q, is, has) = (q, r ∙ is, has)
