-- Values as keys of a set or a map: they stand in the order of values, and equal values are one key.
use Rattle.std.specs.Prelude.{Bool}
use Rattle.std.specs.Cmp.{IsTotalOrder}
use Rattle.std.specs.Ordering.{eq_by_cmp}
use Rattle.std.specs.declared.cmp.Ordering.{Ordering}
use Rattle.std.proofs.lemmas.Cmp.{on_total}
use Rattle.wf_val.specs.Seen.{tree}
use Rattle.wf_val.specs.ValueOrder.{order}
use Rattle.wf_val.specs.declared.val.Val.{Val}
use Rattle.wf_val.specs.ValueOrderLaws.{order-total}

abbrev pub val_cmp : Val → Val → Ordering
val_cmp v w = order (tree v) (tree w)

abbrev pub val_eq : Val → Val → Bool
val_eq = eq_by_cmp val_cmp

pub val_total : IsTotalOrder val_cmp
val_total = on_total tree order-total
