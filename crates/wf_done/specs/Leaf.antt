-- WHAT AN ACTION DOES THAT HOLDS NO OTHERS, as it starts and as it ends (Workflow Definition Language, "Schema reference guide for trigger
-- and action types").
use Rattle.std.specs.Prelude.{ℕ, List, [], Option, Some, None, Result, Ok, Err, codes}
use Rattle.wf_val.specs.Arguments.{Answer}
use Rattle.wf_val.specs.Get.{get}
use Rattle.wf_val.specs.ValueTree.{ValueTree, null}
use Rattle.wf_val.specs.declared.address.Address.{Address}
use Rattle.wf_val.specs.declared.fault.EvalFault.{EvalFault}
use Rattle.wf_schema.specs.Pointer.{least}
use Rattle.wf_retry.specs.declared.policy.Policy.{Policy}
use Rattle.wf_connect.specs.AnswerTree.{AnswerTree}
use Rattle.wf_connect.specs.Try.{Try}
use Rattle.wf_schema.specs.Fails.{fails}
use Rattle.wf_schema.specs.Reading.{SchemaTree}
use Rattle.wf_def.specs.ActionTree.{KindTree, compose, connector, wait, response, terminate, select, query, join, parse_json}
use Rattle.wf_def.specs.ActionTree.{initialize, set_to, increment, decrement, append_array, append_string}
use Rattle.wf_variables.specs.Looked.{or_null}
use Rattle.wf_variables.specs.Told.{Told}
use Rattle.wf_variables.specs.TreeValue.{tree_value}
use Rattle.wf_variables.specs.Made.{MadeTree, Making}
use Rattle.wf_variables.specs.Simple.{made_compose, made_response, made_terminate, made_wait}
use Rattle.wf_variables.specs.Lists.{made_join, made_query, made_select}
use Rattle.wf_variables.specs.Parsed.{made_parse_json}
use Rattle.wf_variables.specs.Initials.{made_initialize}
use Rattle.wf_variables.specs.Writing.{made_append_array, made_append_string, made_decrement, made_increment, made_set}
use Rattle.wf_connect.specs.Attempts.{TriedTree, repeated, final}
use Rattle.wf_connect.specs.Last.{answered_at, ending, tries_of}
use Rattle.wf_done.specs.Done.{DoneTree, faulted, mismatched, skipped, succeeded}

-- What an action takes in and gives out that calls nothing. A container makes nothing of its own: so that this is total, it has a fault.
abbrev pub made_by : Told → KindTree → Making
made_by l (compose inputs) = made_compose l inputs
made_by l (wait inputs) = made_wait l inputs
made_by l (response inputs) = made_response l inputs
made_by l (terminate inputs) = made_terminate l inputs
made_by l (select from item) = made_select l from item
made_by l (query from filter) = made_query l from filter
made_by l (join from with') = made_join l from with'
made_by l (parse_json content schema) = made_parse_json l content
made_by l (initialize variables) = made_initialize l variables
made_by l (set_to name value) = made_set l name value
made_by l (increment name value) = made_increment l name value
made_by l (decrement name value) = made_decrement l name value
made_by l (append_array name value) = made_append_array l name value
made_by l (append_string name value) = made_append_string l name value
made_by l kind = λ n. (Err (EvalFault.NoValue []), n)

-- ---- the schema of a ParseJson

abbrev pub unless_at : MadeTree → Option (List ℕ) → DoneTree
unless_at m None = succeeded m
unless_at m (Some pointer) = mismatched m.inputs pointer

-- it judges the value that was read, and tells the least place at which that isn't as it asks
abbrev pub judged : Option SchemaTree → MadeTree → DoneTree
judged None m = succeeded m
judged (Some schema) m = unless_at m (least (fails schema (or_null (get (codes "body") m.outputs))))

-- ---- Start

-- a schema is asked last, once all that is kept fits
abbrev pub done_of : KindTree → Result MadeTree EvalFault → DoneTree
done_of kind (Err f) = faulted f
done_of (parse_json content schema) (Ok m) = judged schema m
done_of kind (Ok m) = succeeded m

-- what an action has from its start on: what it has come to, or the inputs with which it calls, and how it repeats its attempts
pub data BegunTree : Type 0 where
  acted : DoneTree → BegunTree
  calling : (inputs : ValueTree) (policy : Policy) → BegunTree

-- a connector whose inputs have no value makes no attempt
abbrev pub called_with : Policy → Answer → BegunTree
called_with policy (Ok inputs) = calling inputs policy
called_with policy (Err f) = acted (faulted f)

-- by the number of words drawn before
abbrev pub begun_from : Told → KindTree → ℕ → BegunTree
begun_from l (connector inputs policy) n = called_with policy (tree_value l inputs n).0
begun_from l kind n = acted (done_of kind (made_by l kind n).0)

-- none is drawn before an action starts
abbrev pub begun : Told → KindTree → BegunTree
begun l kind = begun_from l kind 0

-- ---- End

-- A connector ends as its last attempt does. After one that another follows it hasn't ended: so that this is total, it is as if it hadn't
-- run.
abbrev pub done_by : ValueTree → TriedTree → DoneTree
done_by inputs (final status code outputs) = record { status = status; code = code; inputs = inputs; outputs = outputs; error = null }
done_by inputs repeated = skipped

-- what an action comes to at an address, by the answers that there are
abbrev pub ended : List AnswerTree → Address → BegunTree → DoneTree
ended answers x (acted d) = d
ended answers x (calling inputs policy) = done_by inputs (ending policy (answered_at answers x))

-- what its row keeps of its attempts
abbrev pub tries_in : List AnswerTree → Address → BegunTree → List Try
tries_in answers x (acted d) = []
tries_in answers x (calling inputs policy) = tries_of policy (answered_at answers x)
