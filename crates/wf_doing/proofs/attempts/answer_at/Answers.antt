use Rattle.std.proofs.Common.{rules, sym, ◌∙◌, ap, map, subst, Some}
use Rattle.std.proofs.lemmas.Fn.{always_returns_same}
use Rattle.wf_lists.specs.KeyOrder.{IsInKeyOrder}
use Rattle.wf_answers.specs.AnswerSeen.{answer_order, answer_tree}
use Rattle.wf_answers.specs.AnswerTree.{Key, find_answer, key_cmp}
use Rattle.wf_doing.specs.Places.{named}
use Rattle.wf_doing.proofs.AnswerLemmas.{found, not_found, key_held}
use Rattle.wf_doing.proofs.attempts.answer_at.Goals as goal

-- the closure compares an answer's attempt
pub returns-in-Ok : goal.returns-in-Ok
returns-in-Ok c =
    let k : Key = (named c.args.name.now c.args.at.now, c.args.attempt) in
    let position = c.in-Ok.ensures.position (λ a. key_cmp (key_held a) k) (always_returns_same _ _ _ (λ a r f' called. search rules)) in
    let items = sym c.as_slice-answers.ensures.items in
    let order = subst (λ xs. IsInKeyOrder answer_order (λ a. a) xs) items c.as_slice-answers.ensures.in_order in
    ap (λ a. Some (answer_tree a)) c.index-answers-place.is
    ∙ sym (ap (λ xs. find_answer k (map answer_tree xs)) items
    ∙ found k c.as_slice-answers.result.now c.in-Ok.place c.index-answers-place.result order c.in-Ok.ensures.bound position)

pub returns-in-Err : goal.returns-in-Err
returns-in-Err c =
    let k : Key = (named c.args.name.now c.args.at.now, c.args.attempt) in
    let position = c.in-Err.ensures.position (λ a. key_cmp (key_held a) k) (always_returns_same _ _ _ (λ a r f' called. search rules)) in
    let items = sym c.as_slice-answers.ensures.items in
    let order = subst (λ xs. IsInKeyOrder answer_order (λ a. a) xs) items c.as_slice-answers.ensures.in_order in
    sym (ap (λ xs. find_answer k (map answer_tree xs)) items
    ∙ not_found k c.as_slice-answers.result.now c.in-Err.field-0 order c.in-Err.ensures.bound position)
