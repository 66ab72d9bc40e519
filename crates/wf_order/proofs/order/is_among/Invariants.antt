use Rattle.std.proofs.Common.{◌≡◌, drop, nat_eq}
use Rattle.std.specs.List.{list_any}
use Rattle.wf_order.proofs.order.is_among.Given as goal

abbrev pub invariant-loop-x : goal.invariant-loop-x
invariant-loop-x l = list_any (nat_eq l.number) (drop l.x-index l.xs) ≡ list_any (nat_eq l.number) l.xs
