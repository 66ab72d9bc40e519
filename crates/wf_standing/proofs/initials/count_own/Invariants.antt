use Rattle.std.proofs.Common.{◌≡◌, ◌+◌, ◌≤◌, drop, map, count_by, nat_eq}
use Rattle.wf_standing.specs.Seen.{initialised_tree, standing_tree}
use Rattle.wf_standing.specs.Standing.{number_at}
use Rattle.wf_standing.proofs.initials.count_own.Given as goal

abbrev pub invariant-loop-one : goal.invariant-loop-one
invariant-loop-one l = record {
  so_far : l.count + count_by
      (λ i. nat_eq (number_at i.standing) (number_at (standing_tree l.standing))) (map initialised_tree (drop l.one-index l.by))
      ≡ count_by (λ i. nat_eq (number_at i.standing) (number_at (standing_tree l.standing))) (map initialised_tree l.by);
  in_range : l.count ≤ l.one-index;
}
