-- THE LINE OF AN EVENT by what stands at its instance: a row, a running leaf, an open container. Where that isn't there, there is no line.
use Rattle.std.specs.Prelude.{ℕ, ◌-◌, List, [], ◌∷◌, Option, None, Some, codes, decimal, slice_get}
use Rattle.wf_layers.specs.Machine.{Event, Start, Try, End, Skip, Open, Begin, Test, Close, Opening, Running}
use Rattle.wf_answers.specs.AnswerTree.{AnswerTree}
use Rattle.wf_def.specs.ActionTree.{ActionTree, KindTree, action_kind, action_name}
use Rattle.wf_record.specs.Record.{Row, status_name}
use Rattle.wf_trace.specs.Leaf.{BegunTree, tries_in}
use Rattle.wf_trace.specs.Decisions.{DecisionTree}
use Rattle.wf_trace.specs.Verdicts.{VerdictTree}
use Rattle.wf_doing.specs.Places.{named}
use Rattle.wf_trace.specs.Texts.{end_text, open_text, start_text}
use Rattle.wf_trace.specs.Told.{line_at, of_attempt, test_text}

abbrev pub Leaf : Type 0
Leaf = Running BegunTree

abbrev pub Container : Type 0
Container = Opening DecisionTree VerdictTree

-- ---- of the action of a name at these indexes

abbrev pub start_by : (name at : List ℕ) → Option Leaf → List ℕ
start_by name at None = []
start_by name at (Some w) = line_at (codes "Start") name at (32 ∷ start_text w.begun)

-- the last attempt that it made, and what its answers say of it
abbrev pub attempt_by : List AnswerTree → (name at : List ℕ) → Option Leaf → List ℕ
attempt_by answers name at None = []
attempt_by answers name at (Some w) =
    line_at (codes "Try") name at (of_attempt w.tries (slice_get (tries_in answers (named name at) w.begun) (w.tries - 1)))

abbrev pub end_by : (name at : List ℕ) → Option Row → List ℕ
end_by name at None = []
end_by name at (Some r) = line_at (codes "End") name at (32 ∷ end_text r)

abbrev pub open_by : KindTree → (name at : List ℕ) → Option Container → List ℕ
open_by kind name at None = []
open_by kind name at (Some w) = line_at (codes "Open") name at (open_text kind w.decision)

-- the iteration below the next
abbrev pub begin_by : (name at : List ℕ) → Option Container → List ℕ
begin_by name at None = []
begin_by name at (Some w) = line_at (codes "Begin") name at (32 ∷ decimal (w.next - 1))

abbrev pub verdict_by : (name at : List ℕ) (index : ℕ) → Option VerdictTree → List ℕ
verdict_by name at index None = []
verdict_by name at index (Some v) = line_at (codes "Test") name at (32 ∷ test_text index v)

abbrev pub test_by : (name at : List ℕ) → Option Container → List ℕ
test_by name at None = []
test_by name at (Some w) = verdict_by name at (w.next - 1) w.test

abbrev pub close_by : (name at : List ℕ) → Option Row → List ℕ
close_by name at None = []
close_by name at (Some r) = line_at (codes "Close") name at (32 ∷ status_name r.status)

-- ---- of any event

abbrev pub action_line : List AnswerTree → ActionTree → Event → Option Row → Option Leaf → Option Container → List ℕ
action_line answers a (Start n at) row leaf container = start_by (action_name a) at leaf
action_line answers a (Try n at) row leaf container = attempt_by answers (action_name a) at leaf
action_line answers a (End n at) row leaf container = end_by (action_name a) at row
action_line answers a (Skip n at) row leaf container = line_at (codes "Skip") (action_name a) at []
action_line answers a (Open n at) row leaf container = open_by (action_kind a) (action_name a) at container
action_line answers a (Begin n at) row leaf container = begin_by (action_name a) at container
action_line answers a (Test n at) row leaf container = test_by (action_name a) at container
action_line answers a (Close n at) row leaf container = close_by (action_name a) at row

-- where no action has the number there is no line, either
abbrev pub line_by : List AnswerTree → Option ActionTree → Event → Option Row → Option Leaf → Option Container → List ℕ
line_by answers None event row leaf container = []
line_by answers (Some a) event row leaf container = action_line answers a event row leaf container
