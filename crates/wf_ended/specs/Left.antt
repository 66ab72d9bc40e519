-- WHAT A RUN LEAVES beside what it was started with.
use Rattle.std.specs.Prelude.{ℕ, ◌+◌, List}
use Rattle.wf_val.specs.ValueTree.{ValueTree, members, object, weight}
use Rattle.wf_layers.specs.Address.{Table}
use Rattle.wf_def.specs.DefTree.{DefTree}
use Rattle.wf_catalog.specs.Starts.{StartTree}
use Rattle.wf_record.specs.Record.{RecordTree, Row, RowTree}
use Rattle.wf_catalog.specs.Ending.{Ending}
use Rattle.wf_catalog.specs.Environment.{Environment}
use Rattle.wf_catalog.specs.Record.{ending_of, first_succeeded, is_response, responded, rows_of}

-- how it ended, what it answered its caller, and its rows in the order of their addresses
pub record LeftTree : Type 0 where
  pub ending : Ending
  pub response : ValueTree
  pub rows : List RowTree

-- a run whose actions have these rows
abbrev pub left_by : DefTree → Environment → Table Row → LeftTree
left_by d e known = record {
  ending = ending_of d e known;
  response = responded (first_succeeded d is_response known);
  rows = rows_of d known;
}

-- With the digest of the definition and what the run was started with it is the record.
abbrev pub recorded : (digest : List ℕ) → StartTree → LeftTree → RecordTree
recorded digest start left = record {
  run = start.run;
  digest = digest;
  trigger = start.trigger;
  parameters = start.parameters;
  status = left.ending.status;
  error = left.ending.error;
  response = left.response;
  outputs = left.ending.outputs;
  rows = left.rows;
}

-- what a run costs by what it was started with
abbrev pub first_cost : StartTree → ℕ
first_cost start = 64 + weight start.trigger + weight (object (members start.parameters))
