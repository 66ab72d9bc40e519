-- An answer as contracts see it, and as a key of a set.
use Rattle.std.specs.Prelude.{Bool}
use Rattle.std.specs.Cmp.{IsTotalOrder}
use Rattle.std.specs.Ordering.{eq_by_cmp}
use Rattle.std.specs.declared.cmp.Ordering.{Ordering}
use Rattle.std.proofs.lemmas.Cmp.{on_total}
use Rattle.wf_val.specs.Seen.{tree}
use Rattle.wf_answers.specs.AnswerTree.{AnswerTree, answer_cmp, key_cmp_total, key_of}
use Rattle.wf_answers.specs.declared.answer.Answer.{Answer}

abbrev pub answer_tree : Answer → AnswerTree
answer_tree a = record { address = a.address; attempt = a.attempt; outcome = a.outcome; headers = tree a.headers; body = tree a.body }

-- answers are compared by the attempts that they are for
abbrev pub answer_order : Answer → Answer → Ordering
answer_order a b = answer_cmp (answer_tree a) (answer_tree b)

abbrev pub answer_eq : Answer → Answer → Bool
answer_eq = eq_by_cmp answer_order

pub answer_total : IsTotalOrder answer_order
answer_total = on_total (λ a. key_of (answer_tree a)) key_cmp_total
