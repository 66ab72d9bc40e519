use Rattle.std.proofs.Common.{◌+◌, ◌∙◌, ℕ, List, Option, drop, map, option_map, string_bytes, ap, sym, arith}
use Rattle.wf_val.specs.Seen.{tree, member}
use Rattle.wf_val.specs.ValueTree.{members}
use Rattle.wf_val.specs.declared.val.Val.{Val}
use Rattle.wf_kinds.specs.Pointer.{lesser, least}
use Rattle.wf_texts.specs.Bad.{bad_texts}
use Rattle.wf_texts.specs.Members.{in_members_but, in_other}
use Rattle.wf_texts.proofs.TextLemmas.{drop_at_place, more}
use Rattle.wf_texts.proofs.members.in_members_but.Goals as goal

pub loop-key-preserved : goal.loop-key-preserved
loop-key-preserved c =
    let ms : List (List ℕ × Val) = c.as_slice-key-items.result.now in
    let i = c.loop-key.key-index in
    let name : List ℕ = c.args.name.now in
    let item : List ℕ × Val = c.loop-key-item.result in
    let best : Option (List ℕ) = option_map string_bytes c.loop-key.best in
    let here = drop_at_place ms i item (omega arith) c.loop-key-item.is in
    let now = c.in_ok-best.ensures ∙ ap (λ (k : List ℕ). lesser best (least (in_other name bad_texts k (tree item.1)))) c.as_str.ensures in
    more (in_other name bad_texts item.0 (tree item.1)) (in_members_but name bad_texts (members (map member (drop (i + 1) ms))))
    best (option_map string_bytes c.in_ok-best.best) now
    ∙ ap (λ (xs : List (List ℕ × Val)). lesser best (least (in_members_but name bad_texts (members (map member xs))))) (sym here)
    ∙ c.loop-key.invariant
