-- Attempts that wait for their answers, by the run that waits for them.
use Rattle.std.specs.Prelude.{◌≡◌, ℕ, true, List}
use Rattle.std.specs.List.{AllByRecursion}
use Rattle.wf_layers.specs.Address.{Address}
use Rattle.wf_asks.specs.Instances.{address_of}
use Rattle.wf_answers.specs.AnswerTree.{Key}
use Rattle.wf_planned.specs.Look.{instance}
use Rattle.wf_quiet.specs.Quiet.{IsWanted}
use Rattle.wf_stands.specs.Moment.{Moment}
use Rattle.wf_talk.specs.Keys.{is_among}
use Rattle.wf_talk.specs.Seen.{want_key}
use Rattle.wf_talk.specs.declared.want.Want.{Want}
use Rattle.wf_waits.specs.Kept.{keys_of}
use Rattle.wf_waits.specs.declared.waiting.Waiting.{Waiting}
use Rattle.wf_session.specs.Begun.{Going, answered_in, graph}

module _ (g : Going) where
  -- the key of an attempt at an instance
  abbrev pub key_at : Address → ℕ → Key
  key_at x attempt = (instance g.definition x, attempt)

  module _ (s : Moment) where
    -- The attempt at an instance waits for its answer.
    abbrev pub Wants : Address → ℕ → Type 0
    Wants x attempt = IsWanted (answered_in g) (graph g) g.by s x attempt

    -- It is the attempt at this instance that waits for its answer.
    pub record IsMissing (x : Address) (want : Want) : Type 0 where
      pub key_is : want_key want ≡ key_at x want.attempt
      pub waits : Wants x want.attempt

    -- Those that are kept wait, each at its instance.
    abbrev pub AreWaiting : List Waiting → Type 0
    AreWaiting waits = AllByRecursion (λ (w : Waiting). IsMissing (address_of w.instance) w.want) waits

    -- Each attempt that waits is kept.
    abbrev pub AreAllKept : List Waiting → Type 0
    AreAllKept waits = (x : Address) (attempt : ℕ) → Wants x attempt → is_among (key_at x attempt) (keys_of waits) ≡ true
