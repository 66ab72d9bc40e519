use Rattle.std.proofs.Common.{rules}
use Rattle.std.proofs.lemmas.Fn.{always_returns_same}
use Rattle.wf_val.specs.NameOrder.{bytes_cmp}
use Rattle.wf_uses.proofs.NameLemmas.{absent, present}
use Rattle.wf_uses.proofs.names.has_name.Goals as goal

-- the closure compares a name
pub returns-in-Ok : goal.returns-in-Ok
returns-in-Ok c =
    let position = c.in-Ok.ensures.position (λ n. bytes_cmp n.now c.args.name.now)
    (always_returns_same _ _ _ (λ a r f' called. search rules)) in
    present (λ n. n.now) c.args.name.now c.args.items.now c.in-Ok.field-0 c.requires c.in-Ok.ensures.bound position

pub returns-in-Err : goal.returns-in-Err
returns-in-Err c =
    let position = c.in-Err.ensures.position (λ n. bytes_cmp n.now c.args.name.now)
    (always_returns_same _ _ _ (λ a r f' called. search rules)) in
    absent (λ n. n.now) c.args.name.now c.args.items.now c.in-Err.field-0 c.requires c.in-Err.ensures.bound position
