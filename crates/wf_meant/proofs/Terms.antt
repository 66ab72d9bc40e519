-- Words in which worked definitions, inputs and rows are written.
use Prim.Native.String.{String}
use Rattle.std.specs.Prelude.{ℕ, pos, Bool, true, false, List, [], ◌∷◌, map, None, Option, codes}
use Rattle.wf_val.specs.ValueTree.{ValueTree, Member, null, number, text, list, object, no_members, trees, members}
use Rattle.wf_val.specs.declared.fault.EvalFault.{EvalFault}
use Rattle.wf_template.specs.DataTree as data_of
use Rattle.wf_template.specs.DataTree.{DataTree, DataMember}
use Rattle.wf_template.specs.ExprTree.{ExprTree, literal, call, no_exprs, expr_then, expr_trees}
use Rattle.wf_template.specs.TemplateTree.{plain, whole}
use Rattle.wf_retry.specs.declared.policy.Outcome.{Outcome}
use Rattle.wf_done.specs.AnswerTree.{AnswerTree}
use Rattle.wf_done.specs.Inputs.{InputsTree}
use Rattle.wf_environment.specs.Starts.{StartTree}
use Rattle.wf_refs.specs.ActionTree.{ActionTree, action, InitialTree, KindTree, action_trees}
use Rattle.wf_refs.specs.DefTree.{DefTree}
use Rattle.wf_refs.specs.After.{After}
use Rattle.wf_refs.specs.Sort.{Sort}
use Rattle.wf_environment.specs.Record.{RecordTree, RowTree}
use Rattle.wf_environment.specs.Try.{Try}
use Rattle.wf_environment.specs.Status.{Status}
use Rattle.wf_environment.specs.RunStatus.{RunStatus}
use Rattle.wf_done.specs.Done as done
use Rattle.wf_environment.specs.Environment.{Environment, fresh}
use Rattle.wf_meant.specs.Record.{depth_of, rows_of}
use Rattle.wf_meant.specs.Rows as known
use Rattle.wf_meant.specs.Source.{table_of}

-- ---- values

abbrev pub value : ℕ → ValueTree
value n = number (pos n)

abbrev pub words : String → ValueTree
words s = text (codes s)

abbrev pub values : List ValueTree → ValueTree
values ts = list (trees ts)

abbrev pub fields : List Member → ValueTree
fields ms = object (members ms)

-- ---- expressions: a literal, a call without arguments, with one, with several

abbrev pub say : String → ExprTree
say s = literal (words s)

abbrev pub num : ℕ → ExprTree
num n = literal (value n)

abbrev pub alone : String → ExprTree
alone f = call (codes f) no_exprs

abbrev pub ask : String → ExprTree → ExprTree
ask f e = call (codes f) (expr_then e no_exprs)

abbrev pub apply : String → List ExprTree → ExprTree
apply f es = call (codes f) (expr_trees es)

-- ---- inputs: a whole expression, a text as it stands, a number, a list, an object

abbrev pub of : ExprTree → DataTree
of e = data_of.text (whole e)

abbrev pub txt : String → DataTree
txt s = data_of.text (plain (codes s))

abbrev pub nat : ℕ → DataTree
nat n = data_of.number (pos n)

abbrev pub many : List DataTree → DataTree
many ts = data_of.list (data_of.data_trees ts)

abbrev pub obj : List DataMember → DataTree
obj ms = data_of.object (data_of.data_members ms)

-- ---- actions: their names, their numbers in the order of the names, what they wait for, and what they do

abbrev pub after : ℕ → (succeeded failed skipped timed_out : Bool) → After
after n s f k t = record { name = []; number = n; statuses = record { succeeded = s; failed = f; skipped = k; timed_out = t } }

abbrev pub success_of : ℕ → List After
success_of n = after n true false false false ∷ []

abbrev pub failure_of : ℕ → List After
failure_of n = after n false true false false ∷ []

abbrev pub act : String → ℕ → List After → KindTree → ActionTree
act s n needs kind = action (codes s) n [] needs kind []

abbrev pub tracking : List DataMember → ActionTree → ActionTree
tracking ms (action s n pointer needs kind tracked) = action s n pointer needs kind ms

abbrev pub initial : String → Sort → Option DataTree → InitialTree
initial s sort v = record { name = codes s; sort = sort; value = v }

abbrev pub of_actions : List ActionTree → DefTree
of_actions as' = record { digest = []; parameters = []; given = []; triggers = []; top = action_trees as'; outputs = [] }

abbrev pub giving : List DataMember → DefTree → DefTree
giving outputs d = record d { outputs = map (λ m. record { name = m.0; value = m.1 }) outputs }

-- ---- a run of the name r1 that no trigger starts, without parameters, with these answers

abbrev pub replied : String → List ℕ → ℕ → Outcome → ValueTree → ValueTree → AnswerTree
replied s at attempt outcome headers body = record {
  address = record { name = codes s; at = at };
  attempt = attempt;
  outcome = outcome;
  headers = headers;
  body = body;
}

abbrev pub started : StartTree
started = record { run = codes "r1"; seed = []; trigger = null; parameters = [] }

abbrev pub answered : List AnswerTree → Environment
answered answers =
    fresh started (record { run = codes "r1"; seed = []; moment = 0; trigger = None; outputs = null; parameters = []; answers = answers })

-- ---- what is owed

abbrev pub row_is : String → List ℕ → done.DoneTree → RowTree
row_is s at d = record { address = record { name = codes s; at = at }; row = known.row_of d (object no_members) [] }

-- it Succeeded, with these inputs and outputs
abbrev pub ran : String → List ℕ → ValueTree → ValueTree → RowTree
ran s at i o = row_is s at (done.succeeded (record { inputs = i; outputs = o }))

-- it was Skipped
abbrev pub unrun : String → List ℕ → RowTree
unrun s at = row_is s at done.skipped

-- it Failed by a fault; an Until gives out something then, too
abbrev pub fell : String → List ℕ → EvalFault → RowTree
fell s at f = row_is s at (done.faulted f)

abbrev pub astray : String → List ℕ → EvalFault → ValueTree → RowTree
astray s at f o = row_is s at (record (done.faulted f) { outputs = o })

-- it ended so, without a fault
abbrev pub ended : String → List ℕ → Status → List ℕ → ValueTree → ValueTree → RowTree
ended s at status code i o = row_is s at (record { status = status; code = code; inputs = i; outputs = o; error = null })

abbrev pub called : List Try → RowTree → RowTree
called tries r = record { address = r.address; row = record r.row { attempts = tries } }

abbrev pub tracked_as : ValueTree → RowTree → RowTree
tracked_as v r = record { address = r.address; row = record r.row { tracked = v } }

-- the rows of a definition, and its record
abbrev pub rows_in : DefTree → List AnswerTree → List RowTree
rows_in d answers = rows_of d (table_of d (answered answers) (depth_of d))

abbrev pub record_is : RunStatus → (error response outputs : ValueTree) → List RowTree → RecordTree
record_is status error response outputs rows = record {
  run = codes "r1";
  digest = [];
  trigger = null;
  parameters = [];
  status = status;
  error = error;
  response = response;
  outputs = outputs;
  rows = rows;
}

-- a resubmission goes by the inputs of a run r2, whose record has that name
abbrev pub inputs_again : List AnswerTree → InputsTree
inputs_again answers =
    record { run = codes "r2"; seed = []; moment = 1; trigger = None; outputs = null; parameters = []; answers = answers }

abbrev pub as_second : RecordTree → RecordTree
as_second r = record r { run = codes "r2" }
