-- Worked values: a record of a run, and rows.
use Rattle.std.specs.Prelude.{ℕ, zero, suc, pos, negsuc, true, false, List, [], ◌∷◌, codes}
use Rattle.wf_val.specs.ValueTree.{ValueTree, null, boolean, number, text, list, object, trees, members, Member}
use Rattle.wf_val.specs.declared.address.Address.{Address}
use Rattle.wf_record.specs.declared.attempt.Try.{Try}
use Rattle.wf_record.specs.declared.status.Status.{Status}
use Rattle.wf_record.specs.declared.status.RunStatus.{RunStatus}
use Rattle.wf_record.specs.Record.{Row, RowTree, RecordTree}

abbrev pub list_of : List ValueTree → ValueTree
list_of ts = list (trees ts)

abbrev pub object_of : List Member → ValueTree
object_of ms = object (members ms)

abbrev pub number_of : ℕ → ValueTree
number_of n = number (pos n)

-- the same number so many times
abbrev pub times : ℕ → ℕ → List ℕ
times zero n = []
times (suc k) n = n ∷ times k n

-- an action at the iterations of these numbers
abbrev pub at_rounds : List ℕ → List ℕ → Address
at_rounds name rounds = record { name = name; at = rounds }

-- a row that was made without a connector and tracks nothing
abbrev pub row_of : Status → List ℕ → ValueTree → ValueTree → ValueTree → Row
row_of status code inputs outputs error = record {
  status = status;
  code = code;
  inputs = inputs;
  outputs = outputs;
  error = error;
  tracked = object_of [];
  attempts = [];
}

-- A has a value, whose name wants escapes.
abbrev pub succeeded : RowTree
succeeded = record {
  address = at_rounds (codes "A \"1\"\\") [];
  row = row_of Status.Succeeded (codes "OK") (number_of 7) (object_of ((codes "b", null) ∷ [])) null;
}

-- The inputs of Bad have none.
abbrev pub failed : RowTree
failed = record {
  address = at_rounds (codes "Bad") [];
  row = row_of Status.Failed (codes "InvalidTemplate") null null (text (codes "NoValue \"x\""));
}

-- Call stands in two loops, and was called three times. No two of its members are the same, and no two of their weights add up to
-- that of another.
abbrev pub called : RowTree
called = record {
  address = at_rounds (codes "Call") (0 ∷ 12 ∷ []);
  row = record {
    status = Status.TimedOut;
    code = codes "504";
    inputs = text (codes "i");
    outputs = list_of (boolean true ∷ boolean false ∷ null ∷ []);
    error = text (codes "by hand");
    tracked = object_of ((codes "k", text (codes "twelve bytes")) ∷ []);
    attempts = Try.Code 503 ∷ Try.NoConnection ∷ Try.TimedOut ∷ [];
  };
}

-- Done doesn't run.
abbrev pub skipped : RowTree
skipped = record { address = at_rounds (codes "Done") []; row = row_of Status.Skipped (codes "ActionSkipped") null null null }

-- The run has a trigger with an output, a parameter, an error and an output.
abbrev pub finished : RecordTree
finished = record {
  run = codes "r-1";
  digest = 0 ∷ 10 ∷ 171 ∷ 255 ∷ times 28 18;
  trigger = object_of ((codes "name", text (codes "manual")) ∷ (codes "outputs", number (negsuc 0)) ∷ []);
  parameters = (codes "p", text (codes "q")) ∷ [];
  status = RunStatus.Failed;
  error = object_of ((codes "code", text (codes "E")) ∷ []);
  response = boolean false;
  outputs = object_of ((codes "o", number_of 1) ∷ []);
  rows = succeeded ∷ failed ∷ called ∷ skipped ∷ [];
}

-- A run of no actions.
abbrev pub empty : RecordTree
empty = record {
  run = codes "r";
  digest = times 32 0;
  trigger = object_of [];
  parameters = [];
  status = RunStatus.Succeeded;
  error = null;
  response = null;
  outputs = object_of [];
  rows = [];
}

-- the outputs of an Until that went round so often
abbrev pub rounds_told : ℕ → ValueTree
rounds_told n = object_of ((codes "iterations", number_of n) ∷ [])

-- loops: one over three items, and one that went round five times
abbrev pub foreach : RowTree
foreach = record {
  address = at_rounds (codes "Each") [];
  row = row_of Status.Succeeded (codes "OK") (list_of (null ∷ null ∷ null ∷ [])) null null;
}

abbrev pub until : RowTree
until = record { address = at_rounds (codes "Until") []; row = row_of Status.Succeeded (codes "OK") null (rounds_told 5) null }
