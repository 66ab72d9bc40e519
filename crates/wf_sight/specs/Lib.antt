pub use Rattle.wf_views.specs.Variables as CatalogVariables
pub use Rattle.wf_views.specs.Loops
pub use Rattle.wf_views.specs.Seen as ViewsSeen
pub mod Variables
pub mod Sight
pub mod Seen
pub mod SightSeen
pub mod Laws
pub mod Found
