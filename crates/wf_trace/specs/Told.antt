-- WHAT IS TOLD OF AN EVENT of a definition: the kind of the event, the address, and what the event came to, by the rows that the definition
-- means. So it is the same at whatever moment, and under whatever schedule.
use Rattle.std.specs.Prelude.{ℕ, ◌-◌, List, [], ◌∷◌, ◌++◌, Option, None, Some, codes, decimal, slice_get}
use Rattle.wf_val.specs.Address.{address_text}
use Rattle.wf_layers.specs.Address.{Table, address}
use Rattle.wf_layers.specs.Machine.{Event, Start, Try, End, Skip, Open, Begin, Test, Close}
use Rattle.wf_layers.specs.Source.{Source}
use Rattle.wf_def.specs.ActionTree.{ActionTree, action_kind, action_name}
use Rattle.wf_def.specs.AllActions.{numbered}
use Rattle.wf_def.specs.DefTree.{DefTree}
use Rattle.wf_record.specs.Record.{Row, status_name}
use Rattle.wf_record.specs.declared.attempt.Try as attempt
use Rattle.wf_done.specs.Leaf.{BegunTree}
use Rattle.wf_opening.specs.Decisions.{DecisionTree}
use Rattle.wf_opening.specs.Verdicts.{VerdictTree}
use Rattle.wf_trace.specs.Texts.{end_text, open_text, start_text, try_text, verdict_text}

-- a kind of event, a blank, the address, and what stands behind them
abbrev pub line_at : List ℕ → List ℕ → List ℕ → List ℕ → List ℕ
line_at kind name at value = kind ++ 32 ∷ (address_text (record { name = name; at = at }) ++ value)

-- of an action, whose event has this value; nothing where there is no action
abbrev pub line_of : List ℕ → Option ActionTree → List ℕ → (ActionTree → List ℕ) → List ℕ
line_of kind None i value = []
line_of kind (Some a) i value = line_at kind (action_name a) i (value a)

-- behind a blank, what is said of a row
abbrev pub of_row : (Row → List ℕ) → Option Row → List ℕ
of_row said None = []
of_row said (Some r) = 32 ∷ said r

-- the number of an attempt, from 1, and what it came to
abbrev pub attempt_text : ℕ → attempt.Try → List ℕ
attempt_text k t = decimal k ++ 32 ∷ try_text t

abbrev pub of_attempt : ℕ → Option attempt.Try → List ℕ
of_attempt k None = []
of_attempt k (Some t) = 32 ∷ attempt_text k t

abbrev pub of_attempts : ℕ → Option Row → List ℕ
of_attempts k None = []
of_attempts k (Some r) = of_attempt k (slice_get r.attempts (k - 1))

-- the index of an iteration, and what the test behind it gives
abbrev pub test_text : ℕ → VerdictTree → List ℕ
test_text k v = decimal k ++ 32 ∷ verdict_text v

-- THE EVENT of this number, as the laws of runs count: of a Try that of its attempt, of a Begin and a Test that of the iteration.
abbrev pub told : DefTree → Source Row BegunTree DecisionTree VerdictTree → Table Row → Event → ℕ → List ℕ
told d m f (Start n i) k = line_of (codes "Start") (numbered n d.top) i (λ a. 32 ∷ start_text (m.start (address n i) f))
told d m f (Try n i) k = line_of (codes "Try") (numbered n d.top) i (λ a. of_attempts k (f (address n i)))
told d m f (End n i) k = line_of (codes "End") (numbered n d.top) i (λ a. of_row end_text (f (address n i)))
told d m f (Skip n i) k = line_of (codes "Skip") (numbered n d.top) i (λ a. [])
told d m f (Open n i) k = line_of (codes "Open") (numbered n d.top) i (λ a. open_text (action_kind a) (m.decide (address n i) f))
told d m f (Begin n i) k = line_of (codes "Begin") (numbered n d.top) i (λ a. 32 ∷ decimal k)
told d m f (Test n i) k = line_of (codes "Test") (numbered n d.top) i (λ a. 32 ∷ test_text k (m.test (address n i) k f))
told d m f (Close n i) k =
    line_of (codes "Close") (numbered n d.top) i (λ a. of_row (λ r. status_name r.status) (f (address n i)))
