use Rattle.std.proofs.Common.{rules}
use Rattle.std.proofs.lemmas.Fn.{always_returns_same}
use Rattle.wf_val.specs.NameOrder.{bytes_cmp}
use Rattle.wf_val.proofs.NameOrderLemmas.{searched}
use Rattle.wf_template.specs.DataTree.{name_of_data}
use Rattle.wf_template.specs.DataSeen.{data_member}
use Rattle.wf_template.proofs.tree_fields.place_of.Goals as goal

-- the closure compares a member's name
pub returns : goal.returns
returns c =
    let position = c.binary_search_by.ensures.position (λ m. bytes_cmp m.0 c.args.name.now) (always_returns_same _ _ _ (λ a r f' called. search rules)) in
    let at = searched name_of_data data_member c.args.name.now c.args.members.now c.binary_search_by.result c.requires c.binary_search_by.ensures.bound position in
    record { in_range = c.binary_search_by.ensures.bound; place = at.place; gap = at.gap }
