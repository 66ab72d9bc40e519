-- A schedule leads a definition in an environment to one list of events, by which all is told.
use Rattle.std.proofs.Common.{◌≡◌, ℕ, Bool, List, [], cond, length, refl, sym, ap, ◌∙◌}
use Rattle.wf_layers.specs.Laws.{IsInstance}
use Rattle.wf_layers.specs.Machine.{Event, fresh}
use Rattle.wf_kept.specs.Reached.{begun, IsReached}
use Rattle.wf_scheduled.specs.Counts.{peak}
use Rattle.wf_scheduled.proofs.TurnLemmas.{one_run}
use Rattle.wf_def.specs.DefTree.{DefTree}
use Rattle.wf_prepare.specs.Environment.{Environment}
use Rattle.wf_record.specs.Record.{RecordTree}
use Rattle.wf_prepare.specs.Points.{graph_of}
use Rattle.wf_prepare.specs.Record.{depth_of, meaning}
use Rattle.wf_prepare.specs.Source.{source}
use Rattle.wf_told.specs.Under.{IsRunUnder, lines_of, Told}

-- what is told has four parts
abbrev pub told : List ℕ → RecordTree → ℕ → ℕ → Told
told events left steps most = record { events = events; left = left; steps = steps; peak = most }

pub same_parts : (a a' : List ℕ) (b b' : RecordTree) (c c' n n' : ℕ) → a ≡ a' → b ≡ b' → c ≡ c' → n ≡ n'
    → told a b c n ≡ told a' b' c' n'
same_parts a a' b b' c c' n n' events left steps most = rw (events, left, steps, most) refl

module _ (d : DefTree) (e : Environment) (schedule : List ℕ) (traced : Bool) where
  -- what is told of a run that has these events
  abbrev told_by : List Event → Told
  told_by es = record { events = cond traced (lines_of d e es) []; left = meaning d e; steps = length es; peak = peak es }

  told_is : (t : Told) (r : IsRunUnder d e schedule traced t) → t ≡ told_by r.events
  told_is t r = same_parts t.events (cond traced (lines_of d e r.events) []) t.left (meaning d e) t.steps (length r.events) t.peak
      (peak r.events) r.lines_are r.left_is r.steps_are r.peak_is

  pub told_alike : IsInstance (graph_of d) (source d e) (depth_of d) → (t u : Told) → IsRunUnder d e schedule traced t
      → IsRunUnder d e schedule traced u → t ≡ u
  told_alike sound t u one other =
      let reached : IsReached (graph_of d) (depth_of d) (source d e) fresh = begun [] sound refl in
      let same = one_run (graph_of d) (source d e) schedule (depth_of d) fresh reached one.events other.events one.run other.run in
      told_is t one ∙ ap told_by same ∙ sym (told_is u other)
