-- What items are compared by: a key stands in the order of values where the value that it is made of does.
use Rattle.std.specs.Prelude.{Bool}
use Rattle.std.specs.Cmp.{IsTotalOrder}
use Rattle.std.specs.Ordering.{eq_by_cmp}
use Rattle.std.specs.declared.cmp.Ordering.{Ordering}
use Rattle.std.proofs.lemmas.Cmp.{on_total}
use Rattle.wf_val.specs.Seen.{tree}
use Rattle.wf_val.specs.ValueOrder.{order}
use Rattle.wf_val.specs.ValueOrderLaws.{order-total}
use Rattle.wf_val.specs.ValueTree.{ValueTree, number}
use Rattle.wf_fn_sets.specs.declared.key.Key.{Key}

abbrev pub key_tree : Key → ValueTree
key_tree (Key.Number n) = number n
key_tree (Key.Other v) = tree v.now

abbrev pub key_cmp : Key → Key → Ordering
key_cmp j k = order (key_tree j) (key_tree k)

abbrev pub key_eq : Key → Key → Bool
key_eq = eq_by_cmp key_cmp

pub key_total : IsTotalOrder key_cmp
key_total = on_total key_tree order-total
