use Rattle.std.proofs.Common.{rules, sym, ◌∙◌, ap, Some}
use Rattle.std.proofs.lemmas.Fn.{always_returns_same}
use Rattle.wf_answers.proofs.AnswerLemmas.{found, not_found, key_held}
use Rattle.wf_answers.specs.AnswerSeen.{answer_tree}
use Rattle.wf_answers.specs.AnswerTree.{Key, key_cmp}
use Rattle.wf_answers.proofs.answer.find.Goals as goal

-- the closure compares an answer's attempt
pub returns-in-Ok : goal.returns-in-Ok
returns-in-Ok c =
    let k : Key = (c.args.address.now, c.args.attempt) in
    let position = c.in-Ok.ensures.position (λ a. key_cmp (key_held a) k) (always_returns_same _ _ _ (λ a r f' called. search rules)) in
    ap (λ a. Some (answer_tree a)) c.index-answers-place.is
    ∙ sym (found k c.args.answers.now c.in-Ok.place c.index-answers-place.result c.requires c.in-Ok.ensures.bound position)

pub returns-in-Err : goal.returns-in-Err
returns-in-Err c =
    let k : Key = (c.args.address.now, c.args.attempt) in
    let position = c.in-Err.ensures.position (λ a. key_cmp (key_held a) k) (always_returns_same _ _ _ (λ a r f' called. search rules)) in
    sym (not_found k c.args.answers.now c.in-Err.field-0 c.requires c.in-Err.ensures.bound position)
