use Rattle.std.proofs.Common.{ap, map, List, sym, ◌∙◌}
use Rattle.wf_asks.specs.Instances.{address_of, rows_in}
use Rattle.wf_def.specs.AllActions.{all_actions}
use Rattle.wf_layers.specs.Address.{Address, Table}
use Rattle.wf_order.specs.OrderSeen.{order_tree}
use Rattle.wf_order.specs.Table.{OrderTree}
use Rattle.wf_record.specs.Record.{Row}
use Rattle.wf_sight_laws.specs.Seen.{row_content}
use Rattle.wf_paying.specs.Halting.{any_halts, terminates_in}
use Rattle.wf_actions.specs.Meant.{definition_of, environment_of}
use Rattle.wf_actions.proofs.acting.halts.Goals as goal

pub returns : goal.returns
returns c =
    let actions = c.args.actions.now in
    let d = definition_of actions in
    let order : OrderTree = order_tree actions.ready.now.checked.now.order in
    let rows : Table Row = rows_in row_content c.args.known.rows.now.0 in
    let n = c.args.place.now.action in
    c.halts.ensures
    ∙ ap (λ xs. any_halts order n rows (map address_of xs)) c.deref.ensures.value
    ∙ ap (λ (xs : List Address). any_halts order n rows xs) actions.ready.now.halting
    ∙ ap (λ (o : OrderTree). any_halts o n rows (terminates_in (all_actions d.top))) c.always_checked.ensures.ordered
    ∙ c.terminates_halt.ensures d (environment_of actions) n rows
    ∙ sym (ap (λ f. f (address_of c.args.place.now) rows) c.are_answered.ensures.answers.halts)
