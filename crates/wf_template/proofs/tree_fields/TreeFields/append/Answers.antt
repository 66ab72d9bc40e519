use Rattle.wf_template.proofs.TreeFieldLemmas.{in_order-push}
use Rattle.wf_template.proofs.tree_fields.TreeFields.append.Goals as goal

-- the name is above the others
pub invariant_of-self-2 : goal.invariant_of-self-2
invariant_of-self-2 c =
    let above = rw (← c.self.view_is) at c.requires in
    rw c.in_ok-push.ensures.items (in_order-push c.args.name c.args.value c.self.inside.members.items c.self.invariant above)
