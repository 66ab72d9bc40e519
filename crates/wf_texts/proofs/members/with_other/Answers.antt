use Rattle.std.proofs.Common.{◌≡◌, ◌∙◌, ℕ, List, Option, false, option_map, string_bytes, ap, sym}
use Rattle.std.specs.Prelude.{bytes_eq}
use Rattle.std.proofs.lemmas.Result.{IfOk-weaker}
use Rattle.wf_val.specs.Seen.{tree}
use Rattle.wf_val.specs.ValueTree.{ValueTree}
use Rattle.wf_kinds.specs.Pointer.{lesser, member_step}
use Rattle.wf_texts.specs.Bad.{bad_texts}
use Rattle.wf_texts.proofs.TextLemmas.{under}
use Rattle.wf_texts.proofs.members.with_other.Goals as goal

pub returns-in_ok-rest : goal.returns-in_ok-rest
returns-in_ok-rest c =
    let key : List ℕ = c.args.key.now in
    let t : ValueTree = tree c.args.member.now in
    let best : Option (List ℕ) = option_map string_bytes c.args.best in
    let other : bytes_eq key c.args.name.now ≡ false = sym c.eq.ensures ∙ c.if-eq.false in
    rw other (IfOk-weaker c.with_member.result _ _
    (λ p h. h ∙ ap (lesser best) (under (member_step key) (bad_texts t) _ c.in_ok-rest.ensures)) c.with_member.ensures)
