-- WHAT AN ACTION DOES by what it is told. Where a number is no action's, it is a fault.
use Rattle.std.specs.Prelude.{ℕ, true, List, [], length, Option, Some, None}
use Rattle.wf_answers.specs.AnswerTree.{AnswerTree}
use Rattle.wf_def.specs.ActionTree.{ActionTree, action_kind, action_name}
use Rattle.wf_closing.specs.Done.{DoneTree}
use Rattle.wf_closing.specs.Leaf as leaf
use Rattle.wf_closing.specs.Leaf.{BegunTree, acted, tries_in}
use Rattle.wf_closing.specs.Tracked.{tracked_value, with_own}
use Rattle.wf_layers.specs.Address.{Table}
use Rattle.wf_closing.specs.Told.{Told}
use Rattle.wf_closing.specs.Containers.{closed, tested}
use Rattle.wf_closing.specs.Rows.{row_of, view_of}
use Rattle.wf_closing.specs.Source.{tracked_of, unknown}
use Rattle.wf_closing.specs.Decisions.{DecisionTree}
use Rattle.wf_closing.specs.Verdicts.{VerdictTree, met}
use Rattle.wf_record.specs.Record.{Row}
use Rattle.wf_record.specs.declared.attempt.Try.{Try}
use Rattle.wf_val.specs.ValueTree.{object, no_members}
use Rattle.wf_doing.specs.Places.{named}

abbrev pub begun_by : Option ActionTree → Told → BegunTree
begun_by None l = acted unknown
begun_by (Some a) l = leaf.begun l (action_kind a)

abbrev pub tested_by : Option ActionTree → Told → VerdictTree
tested_by None l = met true
tested_by (Some a) l = tested l (action_kind a)

-- the row of what it came to, with its tracked properties: these see the row without them
abbrev pub tracked_row : Told → ActionTree → DoneTree → List Try → Row
tracked_row l a result attempts =
    row_of result (tracked_value (with_own (view_of (action_name a) (row_of result (object no_members) attempts)) l) (tracked_of a))
    attempts

abbrev pub finished_by : Option ActionTree → Told → List AnswerTree → (indexes : List ℕ) → BegunTree → Row
finished_by None l answers indexes b = row_of unknown (object no_members) []
finished_by (Some a) l answers indexes b =
    tracked_row l a (leaf.ended answers (named (action_name a) indexes) b) (tries_in answers (named (action_name a) indexes) b)

abbrev pub closed_by : Option ActionTree → Told → (indexes : List ℕ) → DecisionTree → (iterations : ℕ) → Option VerdictTree → Table Row
    → Row
closed_by None l indexes decision n verdict known = row_of unknown (object no_members) []
closed_by (Some a) l indexes decision n verdict known = tracked_row l a (closed (action_kind a) indexes decision n verdict known) []

-- how many attempts it makes
abbrev pub attempts_by : Option ActionTree → List AnswerTree → (indexes : List ℕ) → BegunTree → ℕ
attempts_by None answers indexes b = 0
attempts_by (Some a) answers indexes b = length (tries_in answers (named (action_name a) indexes) b)
