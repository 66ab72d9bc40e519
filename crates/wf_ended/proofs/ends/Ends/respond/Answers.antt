use Rattle.std.proofs.Common.{None, List, map, ap, ◌∙◌}
use Rattle.wf_asks.specs.Instances.{address_of}
use Rattle.wf_asks.specs.declared.instance.Instance.{Instance}
use Rattle.wf_order.specs.OrderSeen.{order_tree}
use Rattle.wf_catalog.specs.ReadSeen.{def_tree}
use Rattle.wf_sight_laws.specs.Seen.{rows_seen}
use Rattle.wf_catalog.specs.Record.{is_response}
use Rattle.wf_ended.specs.First.{first_among, row_of_place}
use Rattle.wf_ended.proofs.FirstLemmas.{first_row}
use Rattle.wf_ended.proofs.ends.Ends.respond.Goals as goal

pub returns : goal.returns
returns c =
    let ends = c.args.self.now in
    let d = def_tree ends.checked.now.def in
    let rows = rows_seen c.args.rows.now.0 in
    let order = order_tree ends.checked.now.order in
    c.first_succeeded.ensures
    ∙ ap (λ (xs : List Instance). row_of_place rows (first_among order rows None (map address_of xs))) c.deref.ensures.value
    ∙ first_row d is_response rows order (map address_of ends.responses.items) c.always_checked.ensures.ordered ends.responding
