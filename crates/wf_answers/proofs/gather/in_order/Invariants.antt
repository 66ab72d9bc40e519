use Rattle.std.proofs.Common.{◌≡◌, ◌++◌}
use Rattle.wf_lists.specs.KeyOrder.{IsInKeyOrder}
use Rattle.wf_answers.specs.AnswerSeen.{answer_order}
use Rattle.wf_answers.proofs.gather.in_order.Given as goal

-- the answers so far, and those that are left, are those of the set, which are in order
abbrev pub invariant-loop-answer : goal.invariant-loop-answer
invariant-loop-answer l = record {
  whole : l.answers ++ l.answer-iterator ≡ l.fn.kept.keys;
  order : IsInKeyOrder answer_order (λ a. a) l.fn.kept.keys;
}
