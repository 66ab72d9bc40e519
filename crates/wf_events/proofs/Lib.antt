pub use Rattle.wf_tables.proofs.BlockLemmas
pub use Rattle.wf_tables.proofs.CountLemmas
pub use Rattle.wf_tables.proofs.ExactLemmas
pub use Rattle.wf_tables.proofs.GraphLemmas
pub use Rattle.wf_tables.proofs.OpenLemmas
pub use Rattle.wf_tables.proofs.TableLemmas as TablesTableLemmas
pub mod TableLemmas
pub mod LookLemmas
pub mod ContainerLemmas
pub mod EventLemmas
pub mod WrittenLemmas
pub mod RoundLemmas
pub mod SettledLemmas
pub mod PlacedLemmas
pub mod EventRows
pub mod RoundRows
pub mod SkippedRows
pub mod ClosedRows
