-- What an action does in what it sees, by whether there is one of its number.
use Rattle.std.proofs.Common.{◌≡◌, ℕ, Bool, List, [], Option, Some, None, refl, ap}
use Rattle.wf_answers.specs.AnswerTree.{AnswerTree}
use Rattle.wf_def.specs.ActionTree.{ActionTree, ActionTrees, KindTree, action_kind, action_name, compose, connector, wait, response, terminate, select, query, join, parse_json, initialize, set_to, increment, decrement, append_array, append_string, scope, branch, switch, switch_else, foreach, until}
use Rattle.wf_def.specs.DefTree.{DefTree}
use Rattle.wf_catalog.specs.Done.{DoneTree}
use Rattle.wf_catalog.specs.Leaf as leaf
use Rattle.wf_catalog.specs.Leaf.{BegunTree, tries_in}
use Rattle.wf_catalog.specs.Tracked.{tracked_value, with_own}
use Rattle.wf_layers.specs.Address.{Address, Table}
use Rattle.wf_look.specs.Told.{Told}
use Rattle.wf_catalog.specs.Environment.{Environment}
use Rattle.wf_catalog.specs.Containers.{closed, tested}
use Rattle.wf_catalog.specs.Look.{decided_by}
use Rattle.wf_catalog.specs.Rows.{row_of, view_of}
use Rattle.wf_catalog.specs.Source.{begun, tracked_of}
use Rattle.wf_opening.specs.Decisions.{DecisionTree, decided}
use Rattle.wf_opening.specs.Verdicts.{VerdictTree}
use Rattle.wf_record.specs.Record.{Row}
use Rattle.wf_record.specs.declared.attempt.Try.{Try}
use Rattle.wf_template.specs.CondTree.{CondTree}
use Rattle.wf_val.specs.ValueTree.{ValueTree, object, no_members}
use Rattle.wf_paying.specs.Acting.{begun_by, closed_by, finished_by, tested_by, tracked_row}
use Rattle.wf_paying.specs.Places.{named}

pub starts_by : (d : DefTree) (e : Environment) (x : Address) (known : Table Row) (l : Told) (o : Option ActionTree)
    → ((a : ActionTree) → o ≡ Some a → leaf.begun l (action_kind a) ≡ begun d e o x known) → begun_by o l ≡ begun d e o x known
starts_by d e x known l None some = refl
starts_by d e x known l (Some a) some = some a refl

pub decides_by : (l m : Told) (o : Option ActionTree)
    → ((a : ActionTree) → o ≡ Some a → decided l (action_kind a) ≡ decided_by o m) → decided_by o l ≡ decided_by o m
decides_by l m None some = refl
decides_by l m (Some a) some = some a refl

-- the rows of those that see the same in their tracked properties
abbrev pub TracksAs : Told → Told → Option ActionTree → Type 0
TracksAs l m o = (a : ActionTree) (view : ValueTree) → o ≡ Some a
    → tracked_value (with_own view l) (tracked_of a) ≡ tracked_value (with_own view m) (tracked_of a)

row_as : (l m : Told) (a : ActionTree) (result : DoneTree) (attempts : List Try) → TracksAs l m (Some a)
    → tracked_row l a result attempts ≡ tracked_row m a result attempts
row_as l m a result attempts same =
    ap (λ v. row_of result v attempts) (same a (view_of (action_name a) (row_of result (object no_members) attempts)) refl)

pub finishes_as : (l m : Told) (o : Option ActionTree) (answers : List AnswerTree) (i : List ℕ) (b : BegunTree) → TracksAs l m o
    → finished_by o l answers i b ≡ finished_by o m answers i b
finishes_as l m None answers i b same = refl
finishes_as l m (Some a) answers i b same =
    row_as l m a (leaf.ended answers (named (action_name a) i) b) (tries_in answers (named (action_name a) i) b) same

pub closes_as : (l m : Told) (o : Option ActionTree) (i : List ℕ) (decision : DecisionTree) (n : ℕ) (verdict : Option VerdictTree)
    (known : Table Row) → TracksAs l m o → closed_by o l i decision n verdict known ≡ closed_by o m i decision n verdict known
closes_as l m None i decision n verdict known same = refl
closes_as l m (Some a) i decision n verdict known same = row_as l m a (closed (action_kind a) i decision n verdict known) [] same

-- only an Until has a test
abbrev pub TestsAs : Told → Told → KindTree → Type 0
TestsAs l m kind = (test : CondTree) (count : ℕ) (fails : Bool) (graph : ActionTrees) → kind ≡ until test count fails graph
    → tested l kind ≡ tested m kind

tests_kind : (l m : Told) (kind : KindTree) → TestsAs l m kind → tested l kind ≡ tested m kind
tests_kind l m (compose inputs) some = refl
tests_kind l m (connector inputs policy) some = refl
tests_kind l m (wait inputs) some = refl
tests_kind l m (response inputs) some = refl
tests_kind l m (terminate inputs) some = refl
tests_kind l m (select from item) some = refl
tests_kind l m (query from filter) some = refl
tests_kind l m (join from with') some = refl
tests_kind l m (parse_json content schema) some = refl
tests_kind l m (initialize variables) some = refl
tests_kind l m (set_to name value) some = refl
tests_kind l m (increment name value) some = refl
tests_kind l m (decrement name value) some = refl
tests_kind l m (append_array name value) some = refl
tests_kind l m (append_string name value) some = refl
tests_kind l m (scope graph) some = refl
tests_kind l m (branch test yes' no') some = refl
tests_kind l m (switch on cases) some = refl
tests_kind l m (switch_else on cases default) some = refl
tests_kind l m (foreach items repetitions graph) some = refl
tests_kind l m (until test count fails graph) some = some test count fails graph refl

pub tests_as : (l m : Told) (o : Option ActionTree) → ((a : ActionTree) → o ≡ Some a → TestsAs l m (action_kind a))
    → tested_by o l ≡ tested_by o m
tests_as l m None some = refl
tests_as l m (Some a) some = tests_kind l m (action_kind a) (some a refl)
