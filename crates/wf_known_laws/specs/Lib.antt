pub use Rattle.wf_order.specs.Indexes
pub use Rattle.wf_order.specs.Order
pub use Rattle.wf_order.specs.Table
pub use Rattle.wf_order.specs.Turns
pub use Rattle.wf_reading.specs.ActionTree
pub use Rattle.wf_reading.specs.AllActions
pub use Rattle.wf_reading.specs.contracts.definition.Def
pub use Rattle.wf_reading.specs.DefTree
pub use Rattle.wf_reading.specs.Facts
pub use Rattle.wf_reading.specs.Layered
pub use Rattle.wf_reading.specs.Meant
pub use Rattle.wf_reading.specs.Names
pub use Rattle.wf_reading.specs.Numbers
pub use Rattle.wf_reading.specs.Read
pub use Rattle.wf_reading.specs.ReadSeen
pub use Rattle.wf_reading.specs.declared.definition.Def as ReadingDef
pub mod Each
pub mod Held
