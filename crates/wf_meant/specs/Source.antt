-- THE SOURCE of a definition's rows, as the laws of order ask for it, and the table of rows that the definition means.
use Rattle.std.specs.Prelude.{ℕ, Bool, true, false, ◌&&◌, List, [], length, Option, None, Some}
use Rattle.std.specs.List.{list_any}
use Rattle.wf_val.specs.ValueTree.{object, no_members}
use Rattle.wf_val.specs.declared.fault.EvalFault.{EvalFault}
use Rattle.wf_template.specs.DataTree.{DataMember}
use Rattle.wf_refs.specs.Address.{Address, Table, address}
use Rattle.wf_refs.specs.Meaning as layered_meaning
use Rattle.wf_refs.specs.Source.{Source}
use Rattle.wf_refs.specs.ActionTree.{ActionTree, action, action_kind, action_name, action_number}
use Rattle.wf_refs.specs.AllActions.{all_actions, numbered}
use Rattle.wf_refs.specs.DefTree.{DefTree}
use Rattle.wf_environment.specs.Record.{Row}
use Rattle.wf_environment.specs.Try.{Try}
use Rattle.wf_says.specs.Decisions.{DecisionTree, items_of, taken}
use Rattle.wf_says.specs.Verdicts.{VerdictTree, met, ends}
use Rattle.wf_done.specs.Done as done
use Rattle.wf_done.specs.Done.{DoneTree}
use Rattle.wf_done.specs.Leaf as leaf
use Rattle.wf_done.specs.Leaf.{BegunTree, acted, tries_in}
use Rattle.wf_done.specs.Tracked.{tracked_value}
use Rattle.wf_environment.specs.Environment.{Environment, facts_of}
use Rattle.wf_environment.specs.Statuses.{status_tree}
use Rattle.wf_meant.specs.Containers.{closed, has_succeeded, is_terminate, tested}
use Rattle.wf_meant.specs.Look.{decided_by, instance, told_at, told_ending, told_in_test}
use Rattle.wf_meant.specs.Points.{graph_of, is_before}
use Rattle.wf_meant.specs.Rows.{row_of, skipped, view_of}

abbrev pub tracked_of : ActionTree → List DataMember
tracked_of (action name number pointer after kind tracked) = tracked

-- What a number comes to that no action has. No run asks for it: so that only what is skipped is Skipped, it is a fault.
abbrev pub unknown : DoneTree
unknown = done.faulted (EvalFault.NoValue [])

module _ (d : DefTree) (e : Environment) where
  -- a row, once its tracked properties are there: these come last, and see the row without them
  abbrev pub with_tracked : ActionTree → Address → DoneTree → List Try → Table Row → Row
  with_tracked a x result attempts known =
      let view = view_of (action_name a) (row_of result (object no_members) attempts) in
      row_of result (tracked_value (told_ending d e x view known) (tracked_of a)) attempts

  -- ---- actions that hold no others

  abbrev pub begun : Option ActionTree → Address → Table Row → BegunTree
  begun None x known = acted unknown
  begun (Some a) x known = leaf.begun (told_at d e x known) (action_kind a)

  abbrev pub tries_of : Option ActionTree → Address → BegunTree → List Try
  tries_of None x b = []
  tries_of (Some a) x b = tries_in (facts_of e (action_name a)).answers (instance d x) b

  abbrev pub finished : Option ActionTree → Address → BegunTree → Table Row → Row
  finished None x b known = row_of unknown (object no_members) []
  finished (Some a) x b known =
      with_tracked a x (leaf.ended (facts_of e (action_name a)).answers (instance d x) b) (tries_of (Some a) x b) known

  -- ---- containers

  abbrev pub test_of : Option ActionTree → Address → ℕ → Table Row → VerdictTree
  test_of None u k known = met true
  test_of (Some a) u k known = tested (told_in_test d e u k known) (action_kind a)

  abbrev pub close_of : Option ActionTree → Address → DecisionTree → ℕ → Option VerdictTree → Table Row → Row
  close_of None x decision n verdict known = row_of unknown (object no_members) []
  close_of (Some a) x decision n verdict known = with_tracked a x (closed (action_kind a) x.at decision n verdict known) [] known

  -- a Terminate before the action Succeeded: it stands in no loop, so it has one address
  abbrev pub is_halted : ℕ → Table Row → Bool
  is_halted y known =
      list_any (λ a. is_terminate (action_kind a) && is_before d (action_number a) y && has_succeeded
      (known (address (action_number a) [])))
      (all_actions d.top)

  -- ---- all of it; nothing is kept of an older run

  abbrev pub source : Source Row BegunTree DecisionTree VerdictTree
  source = record {
    status = λ row. status_tree row.status;
    skipped = skipped;
    start = λ x known. begun (numbered x.name d.top) x known;
    tries = λ x b. length (tries_of (numbered x.name d.top) x b);
    finish = λ x b known. finished (numbered x.name d.top) x b known;
    decide = λ x known. decided_by (numbered x.name d.top) (told_at d e x known);
    taken = taken;
    items = items_of;
    test = λ u k known. test_of (numbered u.name d.top) u k known;
    ends = ends;
    close = λ x decision n verdict known. close_of (numbered x.name d.top) x decision n verdict known;
    halts = λ x known. is_halted x.name known;
    pinned = λ n. false;
    old = λ x. None;
    reclosed = λ n. false;
  }

  -- the rows of the actions, by depths that fall along every entry of a `runAfter`
  abbrev pub table_of : (ℕ → ℕ) → Table Row
  table_of depth = layered_meaning.meaning source depth (graph_of d)
