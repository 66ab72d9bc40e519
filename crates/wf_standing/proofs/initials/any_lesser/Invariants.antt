use Rattle.std.proofs.Common.{◌≡◌, drop, map}
use Rattle.std.specs.List.{list_any}
use Rattle.std.specs.Ordering.{is_lt}
use Rattle.wf_standing.specs.Seen.{initialised_tree, standing_tree}
use Rattle.wf_standing.specs.Standing.{pointer_at}
use Rattle.wf_val.specs.NameOrder.{bytes_cmp}
use Rattle.wf_standing.proofs.initials.any_lesser.Given as goal

abbrev pub invariant-loop-one : goal.invariant-loop-one
invariant-loop-one l =
    list_any (λ i. is_lt (bytes_cmp (pointer_at i.standing) (pointer_at (standing_tree l.standing))))
    (map initialised_tree (drop l.one-index l.by))
    ≡ list_any (λ i. is_lt (bytes_cmp (pointer_at i.standing) (pointer_at (standing_tree l.standing)))) (map initialised_tree l.by)
