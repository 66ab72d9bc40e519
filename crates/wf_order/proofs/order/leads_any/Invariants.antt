use Rattle.std.proofs.Common.{◌≡◌, drop, map}
use Rattle.wf_order.specs.Table.{leads_any}
use Rattle.wf_order.proofs.order.leads_any.Given as goal

abbrev pub invariant-loop-c : goal.invariant-loop-c
invariant-loop-c l = leads_any (map (λ r. r.items) l.paths) (drop l.c-index l.xs) l.ys ≡ leads_any (map (λ r. r.items) l.paths) l.xs l.ys
