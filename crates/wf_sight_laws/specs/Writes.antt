-- WHAT A ROW WRITES, by the numbers of variables: where its address has an index for each loop round its action, and the action Succeeded,
-- all variables that the action writes.
use Rattle.std.specs.Prelude.{ℕ, Bool, cond, nat_eq, List, [], length}
use Rattle.wf_layers.specs.Address.{Address}
use Rattle.wf_def.specs.DefTree.{DefTree}
use Rattle.wf_loops.specs.Loops.{loops_of}
use Rattle.wf_asks.specs.Known.{is_among}
use Rattle.wf_record.specs.Record.{Row}
use Rattle.wf_record.specs.declared.status.Status.{Status}
use Rattle.wf_meant_laws.specs.Points.{graph_of}
use Rattle.wf_sight.specs.CatalogVariables.{written}

-- it has an index for each loop round its action
abbrev pub is_full : DefTree → Address → Bool
is_full d y = nat_eq (length y.at) (length (loops_of (graph_of d) y.name))

abbrev pub if_succeeded : Status → List ℕ → List ℕ
if_succeeded Status.Succeeded ns = ns
if_succeeded status ns = []

-- the numbers of the variables to which it gives values
abbrev pub numbers_written : DefTree → Address → Row → List ℕ
numbers_written d y row = cond (is_full d y) (if_succeeded row.status (written d y.name)) []

abbrev pub writes : DefTree → ℕ → Address → Row → Bool
writes d v y row = is_among v (numbers_written d y row)
