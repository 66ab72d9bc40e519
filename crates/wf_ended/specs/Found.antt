-- Rows by instances as rows of a record.
use Rattle.std.specs.Prelude.{ℕ, []}
use Rattle.wf_def.specs.DefTree.{DefTree}
use Rattle.wf_asks.specs.Instances.{address_of}
use Rattle.wf_asks.specs.declared.known.RowAt.{RowAt}
use Rattle.wf_val.specs.declared.address.Address.{Address}
use Rattle.wf_record.specs.Cost.{row_cost}
use Rattle.wf_record.specs.Record.{RowTree}
use Rattle.wf_record.specs.declared.row.Row.{Row}
use Rattle.wf_catalog.specs.Look.{instance}
use Rattle.wf_sight_laws.specs.Seen.{row_content}

-- at the address of its instance, whatever address the row has itself
abbrev pub as_row : DefTree → RowAt Row → RowTree
as_row d r = record { address = instance d (address_of r.instance); row = row_content r.row }

-- the address that a row has itself
abbrev pub own_address : Row → Address
own_address r = r.address

-- what it costs, which no address changes
abbrev pub nowhere : Address
nowhere = record { name = []; at = [] }

abbrev pub cost_of : RowAt Row → ℕ
cost_of r = row_cost (record { address = nowhere; row = row_content r.row })
