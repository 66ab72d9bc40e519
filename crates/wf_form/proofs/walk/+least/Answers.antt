use Rattle.std.proofs.Common.{◌≡◌, ◌+◌, ◌++◌, ℕ, List, Option, drop, map, option_map, string_bytes, get_or, ap, ap₂, sym, ◌∙◌, arith}
use Rattle.wf_after.specs.Pointer.{lesser, least, member_step}
use Rattle.wf_form.specs.Actions.{in_part}
use Rattle.wf_form.specs.KnownSeen.{whole_seen}
use Rattle.wf_form.specs.Places.{in_members, places}
use Rattle.wf_form.specs.Whole.{Whole}
use Rattle.wf_form.specs.Role.{child}
use Rattle.wf_form.specs.declared.role.Role.{Role}
use Rattle.wf_form.proofs.WalkLemmas.{member_more, drop_at_place}
use Rattle.wf_val.specs.Seen.{tree, member}
use Rattle.wf_val.specs.ValueTree.{node_count, members, members_count}
use Rattle.wf_val.specs.declared.val.Val.{Val}
use Rattle.wf_val.proofs.NodeCountLemmas.{member_count-le}
use Rattle.wf_form.proofs.walk.+least.Goals as goal

pub least_with_members-least_in_part-requires : goal.least_with_members-least_in_part-requires
least_with_members-least_in_part-requires t c =
    let ms : List (List ℕ × Val) = c.as_slice-key-items.result.now in
    let item = c.loop-key-item.result in
    let whole : members_count (members (map member ms)) ≡ members_count (members c.args.fields.now) = ap (λ ts. members_count
    (members ts)) c.as_slice-key-items.ensures.members in
    let same : node_count (tree item.1) ≡ node_count (tree (get_or ms c.loop-key.key-index item).1) = ap (λ
    (m : List ℕ × Val). node_count (tree m.1)) c.loop-key-item.is in
    let here = member_count-le ms c.loop-key.key-index item (omega arith) in
    omega (arith, c.decreases, whole, same, here)

pub least_with_members-loop-key-preserved : goal.least_with_members-loop-key-preserved
least_with_members-loop-key-preserved t c =
    let ms : List (List ℕ × Val) = c.as_slice-key-items.result.now in
    let i = c.loop-key.key-index in
    let item : List ℕ × Val = c.loop-key-item.result in
    let whole : Whole = whole_seen c.args.known.now in
    let best : Option (List ℕ) = option_map string_bytes c.loop-key.best in
    let rest : Option (List ℕ) = option_map string_bytes c.in_ok-rest.rest in
    let here = drop_at_place ms i item (omega arith) c.loop-key-item.is in
    let found : rest ≡ least (in_part (child c.args.role c.args.holder item.0) (λ part. places c.args.rule whole part item.0
    (tree item.1))) =
    c.in_ok-rest.ensures
    ∙ ap₂ (λ (part : Option Role) (k : List ℕ). least (in_part part (λ role. places c.args.rule whole role k (tree item.1))))
    (c.child-part.ensures ∙ ap (child c.args.role c.args.holder) c.as_str.ensures) c.as_str-in-loop-key.ensures in
    let now = c.in_ok-best.ensures ∙ ap (λ (k : List ℕ). lesser best (option_map
    (λ q. member_step k ++ q) rest)) c.as_str-in-loop-key-2.ensures in
    member_more c.args.rule whole c.args.role c.args.holder best (option_map string_bytes c.in_ok-best.best) rest item.0 (tree item.1)
    (members (map member (drop (i + 1) ms))) found now
    ∙ ap (λ (xs : List (List ℕ × Val)). lesser best (least (in_members c.args.rule whole c.args.role c.args.holder (members
    (map member xs))))) (sym here)
    ∙ c.loop-key.invariant
