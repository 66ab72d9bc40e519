pub use Rattle.wf_refs.specs.RuleFault
pub use Rattle.wf_refs.specs.UsesSeen
pub use Rattle.wf_refs.specs.UsesTree
pub use Rattle.wf_refs.specs.Sites
pub use Rattle.wf_refs.specs.declared.site.Site
pub use Rattle.wf_refs.specs.ReadSeen
pub mod Seen
