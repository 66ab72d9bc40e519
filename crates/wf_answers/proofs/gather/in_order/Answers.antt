use Rattle.std.proofs.Common.{◌++◌, List, ap, sym, ◌∙◌, subst}
use Rattle.wf_answers.specs.AnswerSeen.{answer_order}
use Rattle.wf_answers.specs.declared.answer.Answer.{Answer}
use Rattle.wf_lists.specs.KeyOrder.{IsInKeyOrder}
use Rattle.wf_answers.proofs.AnswerLemmas.{above_front, in_order-set}
use Rattle.wf_answers.proofs.gather.in_order.Goals as goal

pub loop-answer-init : goal.loop-answer-init
loop-answer-init c =
    let gives = c.into_iter-answer-iterator.ensures.into_iter_gives in
    record {
      whole = rw c.new-answers.ensures gives.0;
      order = in_order-set answer_order c.args.kept.keys gives.4;
    }

-- the next answer is above those before it
pub append-requires : goal.append-requires
append-requires c =
    let answers : List Answer = c.loop-answer.answers in
    let whole = sym (ap (λ (rest : List Answer). answers ++ rest) (sym c.in-Some.ensures.steps) ∙ c.loop-answer.invariant.whole) in
    above_front answer_order answers c.in-Some.answer c.next.new.self
    (subst (IsInKeyOrder answer_order (λ a. a)) whole c.loop-answer.invariant.order)
