-- One more than a list has is no more than a number can count.
use Rattle.std.proofs.Common.{◌≡◌, ◌<◌, ◌≤◌, ◌+◌, ◌^◌, ℕ, List, length, map, sym, arith, ◌∙◌}
use Rattle.std.proofs.lemmas.List.{length-map}
use Rattle.wf_answers.specs.AnswerSeen.{answer_tree}
use Rattle.wf_answers.specs.declared.answer.Answer.{Answer}

below : (k n t : ℕ) → k ≡ n → k < 2 ^ 63 → t ≤ 1 + n → t < 2 ^ 64
below k n t same small most = grind arith

pub few : {k t : ℕ} (answers : List Answer) → k ≡ length answers → k < 2 ^ 63 → t ≤ 1 + length (map answer_tree answers) → t < 2 ^ 64
few {k} {t} answers same small most = below k (length (map answer_tree answers)) t (same ∙ sym (length-map answers answer_tree)) small most
