use Rattle.std.proofs.Common.{◌≡◌, ◌∙◌, [], ◌∷◌, Some, option_map, ap, sym}
use Rattle.std.proofs.lemmas.Result.{IfOk-weaker}
use Rattle.wf_val.specs.Get.{get}
use Rattle.wf_val.specs.Seen.{tree}
use Rattle.wf_val.specs.ValueTree.{ValueTree}
use Rattle.wf_kinds.specs.Pointer.{member_step}
use Rattle.wf_texts.specs.Members.{along, to, to_each}
use Rattle.wf_texts.proofs.TextLemmas.{under}
use Rattle.wf_texts.proofs.members.along_listed.Goals as goal

pub returns-in_ok-found-in-Some : goal.returns-in_ok-found-in-Some
returns-in_ok-found-in-Some c =
    let t : ValueTree = tree c.in-Some.items.now in
    let there : get c.args.list.now (tree c.args.value.now) ≡ Some t =
    sym c.member.ensures ∙ ap (option_map (λ v. tree v.now)) c.in-Some.is in
    rw there (IfOk-weaker c.with_member.result _ _
    (λ p h. h ∙ under (member_step c.args.list.now) (along (to_each ∷ to c.args.name.now ∷ []) t) _ c.in_ok-found-in-Some.ensures)
    c.with_member.ensures)
