-- What an example shows: a run that waits for an answer, and goes on to its end as the answer comes.
use Rattle.std.specs.Prelude.{ℕ, List}
use Rattle.wf_layers.specs.Address.{Address}
use Rattle.wf_layers.specs.Definition.{Graph}
use Rattle.wf_layers.specs.Laws.{IsInstance}
use Rattle.wf_layers.specs.Machine.{State, Event, IsOver}
use Rattle.wf_layers.specs.Source.{Source}
use Rattle.wf_quiet.specs.Quiet.{Answers, AreAmong, AnsweredRun, IsQuietState, IsWanted, KnowsMore}

pub record WaitsAndGoesOn {Row Begun Decision Verdict : Type 0} (d : Graph) (depth : ℕ → ℕ) (m more : Source Row Begun Decision Verdict)
    (answered more_answered : Answers) (s : State Row Begun Decision Verdict) (x : Address) (attempt : ℕ) : Type 0 where
  pub is_instance : IsInstance d m depth
  pub is_instance_then : IsInstance d more depth
  pub knows : KnowsMore answered m more
  pub among : AreAmong answered more_answered
  -- it waits for this answer
  pub quiet : IsQuietState answered d m s
  pub wanted : IsWanted answered d m s x attempt
  -- and goes on from there
  pub events : List Event
  pub last : State Row Begun Decision Verdict
  pub goes_on : AnsweredRun more_answered d more s events last
  pub is_over : IsOver d more last
