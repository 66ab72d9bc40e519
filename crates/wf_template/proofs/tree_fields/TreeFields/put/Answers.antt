use Rattle.std.proofs.Common.{map, cond, true, false, is_ok, insert}
use Rattle.wf_template.specs.DataSeen.{data_member}
use Rattle.wf_template.proofs.TreeFieldLemmas.{InOrder, put-at, put-in, in_order-set, in_order-insert}
use Rattle.wf_template.proofs.tree_fields.TreeFields.put.Goals as goal

pub invariant_of-self : goal.invariant_of-self
invariant_of-self c =
    let at = rw (c.deref.ensures.value, c.as_str.ensures) at c.in-Ok.ensures.place in
    in_order-set c.args.name c.args.value c.self.inside.members.items c.in-Ok.place c.self.invariant at

pub returns-in-Ok-clause-ok : goal.returns-in-Ok-clause-ok
returns-in-Ok-clause-ok c =
    let at = rw (c.deref.ensures.value, c.as_str.ensures) at c.in-Ok.ensures.place in
    rw (← c.self.view_is, put-at c.args.name c.args.value c.self.inside.members.items c.in-Ok.place at)

pub invariant_of-self-in-Err : goal.invariant_of-self-in-Err
invariant_of-self-in-Err c =
    let ms = c.self.inside.members.items in
    let at = rw (c.deref.ensures.value, c.as_str.ensures) at c.in-Err.ensures.gap in
    rw c.insert.ensures.items (elim (is_ok c.insert.result) as (λ b. InOrder (map data_member (cond b (insert ms c.in-Err.place (c.args.name, c.args.value)) ms))) [
      | true ↦ in_order-insert c.args.name c.args.value ms c.in-Err.place c.self.invariant at
      | false ↦ c.self.invariant
    ])

pub returns-in_ok-insert-in-Err-clause-ok : goal.returns-in_ok-insert-in-Err-clause-ok
returns-in_ok-insert-in-Err-clause-ok c =
    let at = rw (c.deref.ensures.value, c.as_str.ensures) at c.in-Err.ensures.gap in
    rw (← c.self.view_is, put-in c.args.name c.args.value c.self.inside.members.items c.in-Err.place at, c.in_ok-insert-in-Err.ensures.items)
