use Rattle.std.proofs.Common.{◌≡◌, ℕ, List, map, get_or, ap, arith}
use Rattle.wf_match.proofs.of_value.+differ.Goals as goal
use Rattle.wf_val.specs.Seen.{tree, member}
use Rattle.wf_val.specs.ValueTree.{node_count, members, members_count}
use Rattle.wf_val.specs.declared.val.Val.{Val}
use Rattle.wf_val.proofs.NodeCountLemmas.{member_count-le}

pub differ_in_members-differ-requires : goal.differ_in_members-differ-requires
differ_in_members-differ-requires t c =
    let ms : List (List ℕ × Val) = c.as_slice-name-items.result.now in
    let item = c.loop-name-item.result in
    let whole : members_count (members (map member ms))
    ≡ members_count (members c.args.expected.now) = ap (λ ts. members_count (members ts)) c.as_slice-name-items.ensures.members in
    let same : node_count (tree item.1) ≡ node_count (tree (get_or ms c.loop-name.name-index item).1) = ap (λ
    (m : List ℕ × Val). node_count (tree m.1)) c.loop-name-item.is in
    let here = member_count-le ms c.loop-name.name-index item (omega arith) in
    omega (arith, whole, same, here)
