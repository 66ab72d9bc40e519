-- What follows of a definition that was read, from the rule on `runAfter`.
use Rattle.std.proofs.Common.{◌≡◌, ℕ, List, [], subst}
use Rattle.wf_reading.specs.Fault.{inner_of, offences}
use Rattle.wf_reading.specs.Whole.{whole_of}
use Rattle.wf_reading.specs.Rule.{Rule}
use Rattle.wf_reading.specs.ActionTree.{ActionTrees}
use Rattle.wf_reading.specs.DefTree.{DefTree}
use Rattle.wf_reading.specs.Facts.{HasDepths}
use Rattle.wf_reading.specs.Meant.{names_of}
use Rattle.wf_reading.specs.Numbers.{number_among}
use Rattle.wf_reading.specs.Read.{IsRead}
use Rattle.wf_reading.proofs.DepthLemmas.{PathsAreExact}
use Rattle.wf_reading.proofs.ReadLemmas.{inner-well_formed}
use Rattle.wf_known_laws.specs.Each.{EachCase, EachGraph, EachIn, EachInside}
use Rattle.wf_known_laws.specs.Held.{AreInRange, EntriesAreNumbered}
use Rattle.wf_known_laws.proofs.EachLemmas.{depth_steps, entry_steps, HaveNumbers, range_steps, sound_steps}
use Rattle.wf_known_laws.proofs.WalkLemmas.{top-shown}

module _ (d : DefTree) (r : IsRead d) (fine : offences (inner_of r.value) Rule.RunAfter ≡ []) where
  abbrev pub number_of : List ℕ → ℕ
  number_of = number_among (names_of (inner_of r.value))

  pub read-ranges : EachGraph AreInRange d.top
  read-ranges = subst (λ (e : DefTree). EachGraph AreInRange e.top) r.means
      (top-shown Rule.RunAfter (whole_of (inner_of r.value)) number_of (λ l. EachGraph AreInRange) (λ l. EachInside AreInRange)
      (λ l. EachIn AreInRange)
      (λ l. EachCase AreInRange) (range_steps (whole_of (inner_of r.value)) number_of) (inner_of r.value)
      (inner-well_formed r.value r.well_formed) fine)

  module _ (exact : PathsAreExact) where
    pub read-depths : EachGraph HasDepths d.top
    read-depths = subst (λ (e : DefTree). EachGraph HasDepths e.top) r.means
        (top-shown Rule.RunAfter (whole_of (inner_of r.value)) number_of (λ l. EachGraph HasDepths) (λ l. EachInside HasDepths)
        (λ l. EachIn HasDepths)
        (λ l. EachCase HasDepths) (depth_steps (whole_of (inner_of r.value)) number_of exact) (inner_of r.value)
        (inner-well_formed r.value r.well_formed) fine)

    pub read-entries : EachGraph EntriesAreNumbered d.top
    read-entries = subst (λ (e : DefTree). EachGraph EntriesAreNumbered e.top) r.means
        (top-shown Rule.RunAfter (whole_of (inner_of r.value)) number_of (λ l. EachGraph EntriesAreNumbered)
        (λ l. EachInside EntriesAreNumbered) (λ l. EachIn EntriesAreNumbered) (λ l. EachCase EntriesAreNumbered)
        (entry_steps number_of (whole_of (inner_of r.value)) exact) (inner_of r.value) (inner-well_formed r.value r.well_formed) fine)

    abbrev pub Sound : ActionTrees → Type 0
    Sound g = HasDepths g × HaveNumbers number_of g

    pub read-sound : EachGraph Sound d.top
    read-sound = subst (λ (e : DefTree). EachGraph Sound e.top) r.means
        (top-shown Rule.RunAfter (whole_of (inner_of r.value)) number_of (λ l. EachGraph Sound) (λ l. EachInside Sound) (λ l. EachIn Sound)
        (λ l. EachCase Sound) (sound_steps (whole_of (inner_of r.value)) number_of exact) (inner_of r.value)
        (inner-well_formed r.value r.well_formed) fine)
