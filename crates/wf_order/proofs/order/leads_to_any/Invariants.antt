use Rattle.std.proofs.Common.{◌≡◌, drop, map}
use Rattle.std.specs.List.{list_any}
use Rattle.wf_paths.specs.Table.{at}
use Rattle.wf_order.proofs.order.leads_to_any.Given as goal

abbrev pub invariant-loop-d : goal.invariant-loop-d
invariant-loop-d l =
    list_any (λ d. at (map (λ r. r.items) l.paths) d l.c) (drop l.d-index l.ys) ≡ list_any (λ d. at (map (λ r. r.items) l.paths) d l.c) l.ys
