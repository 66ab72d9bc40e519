use Rattle.std.proofs.Common.{◌≡◌, ◌-◌, ◌≤◌, List, length, take, drop, true, false, sym, subst, map, rules, ℕ, ap, ◌∙◌}
use Rattle.std.specs.List.Sorted.{IsPartitionPoint, IsPartitionedBy}
use Rattle.std.proofs.lemmas.List.Sorted.{IsPartitionPoint-from_clause}
use Rattle.wf_lists.specs.KeyOrder.{IsInKeyOrder}
use Rattle.wf_record.specs.Seen.{row_tree}
use Rattle.wf_record.specs.declared.row.Row.{Row}
use Rattle.wf_val.specs.Address.{address_cmp}
use Rattle.wf_shown.specs.Rows.{rows_of}
use Rattle.wf_shown.proofs.RowLemmas.{found, from_on, is_at, is_before, parted_before, rest_parted}
use Rattle.wf_shown.proofs.finding.rows_of.Goals as goal

pub returns : goal.returns
returns c =
    let k = c.args.name.now in
    let xs : List Row = c.as_slice-all.result.now in
    let f = c.partition_point-from.result in
    let m = c.partition_point-many.result in
    let order : IsInKeyOrder address_cmp (λ r. r.address) xs =
    subst (λ (ys : List Row). IsInKeyOrder address_cmp (λ r. r.address) ys) (sym c.as_slice-all.ensures.items) c.as_slice-all.ensures.in_order in
    let first = IsPartitionPoint-from_clause (is_before k) xs f c.partition_point-from.ensures.partitioned (parted_before k xs order) (λ a r f' called. search rules) in
    let rest : List Row = take (length xs - f) (drop f xs) in
    let same : rest ≡ drop f xs = from_on xs f in
    let parted : IsPartitionedBy (is_at k) rest = subst (λ (ys : List Row). IsPartitionedBy (is_at k) ys) (sym same) (rest_parted k xs f order first.1) in
    let second = IsPartitionPoint-from_clause (is_at k) rest m c.partition_point-many.ensures.partitioned parted (λ a r f' called. search rules) in
    let point = subst (λ (ys : List Row). IsPartitionPoint (λ y. is_at k y ≡ true) (λ y. is_at k y ≡ false) ys m) same second in
    let le = subst (λ (ys : List Row). m ≤ length ys) same c.partition_point-many.ensures.bound in
    ap (λ (ys : List Row). map row_tree (take m ys)) same ∙ found k xs f m first le point ∙ ap (λ (ys : List Row). rows_of k (map row_tree ys)) c.as_slice-all.ensures.items
