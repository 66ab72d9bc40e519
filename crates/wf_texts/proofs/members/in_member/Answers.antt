use Rattle.std.proofs.Common.{◌∙◌, ℕ, List}
use Rattle.std.proofs.lemmas.Result.{IfOk-weaker}
use Rattle.wf_val.specs.Seen.{tree}
use Rattle.wf_val.specs.ValueTree.{ValueTree}
use Rattle.wf_kinds.specs.Pointer.{member_step}
use Rattle.wf_texts.specs.Bad.{bad_texts}
use Rattle.wf_texts.proofs.TextLemmas.{under}
use Rattle.wf_texts.proofs.members.in_member.Goals as goal

pub returns-in_ok-found-in-Some : goal.returns-in_ok-found-in-Some
returns-in_ok-found-in-Some c =
    let name : List ℕ = c.args.name.now in
    let t : ValueTree = tree c.in-Some.value.now in
    rw c.in-Some.is (IfOk-weaker c.with_member.result _ _
    (λ p h. h ∙ under (member_step name) (bad_texts t) _ c.in_ok-found-in-Some.ensures) c.with_member.ensures)
