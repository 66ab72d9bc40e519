-- A run that is over has exactly as many events as the meaning's rows give the definition.
use Rattle.std.proofs.Common.{ℕ, [], refl, ◌∙◌, arith}
use Rattle.wf_layers.specs.Definition.{Graph}
use Rattle.wf_layers.specs.Address.{Table}
use Rattle.wf_layers.specs.Source.{Source}
use Rattle.wf_layers.specs.Meaning.{meaning}
use Rattle.wf_layers.specs.Machine.{fresh}
use Rattle.wf_layers.specs.Laws.{IsInstance, EventsAreCounted, EventsAtTheEnd}
use Rattle.wf_layers.proofs.Progress.{sol, closed_is, kept_state, nothing_special, all_ended_over}
use Rattle.wf_layers.proofs.Facts.{busy_state, rooted_state}
use Rattle.wf_layers.proofs.Left.{none_left, ended_left, run_left}

module _ {Row Begun Decision Verdict : Type 0} (d : Graph) (m : Source Row Begun Decision Verdict) (depth : ℕ → ℕ)
    (is : IsInstance d m depth) where
  pub events_are_counted : EventsAreCounted d m depth
  events_are_counted es s r =
      let f : Table Row = meaning m depth d in
      run_left m d is.local f (sol d m depth is) (closed_is m d is.local f (sol d m depth is) is.closed) (nothing_special d m depth is)
      fresh es s (kept_state d m depth is [] fresh refl) (busy_state d m depth is [] fresh refl) (rooted_state d m depth is [] fresh refl) r
      ∙ none_left m f fresh d [] (λ y w. (refl, refl, refl))

  pub events_at_the_end : EventsAtTheEnd d m depth
  events_at_the_end es s r over =
      let f : Table Row = meaning m depth d in
      let x = events_are_counted es s r in
      let y = ended_left m f s d []
      (all_ended_over m d is.local f (sol d m depth is) is.closed depth is.falls s (kept_state d m depth is es s r) over is.turns) in
      omega (arith, x, y)
