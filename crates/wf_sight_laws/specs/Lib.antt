pub use Rattle.wf_meant_laws.specs.Listed
pub use Rattle.wf_meant_laws.specs.Tables
pub use Rattle.wf_meant_laws.specs.Whole
pub use Rattle.wf_sight.specs.CatalogVariables
pub use Rattle.wf_sight.specs.Laws
pub use Rattle.wf_sight.specs.Loops
pub use Rattle.wf_sight.specs.ViewsSeen as Seen
pub use Rattle.wf_sight.specs.Sight
pub use Rattle.wf_sight.specs.Seen as SightSeen
pub use Rattle.wf_sight.specs.SightSeen as SightSightSeen
pub use Rattle.wf_meant_laws.specs.Answered
pub mod Writes
pub mod Variables
pub mod Asked
pub mod Done
