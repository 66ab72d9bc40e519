use Rattle.std.proofs.Common.{◌≡◌, ◌-◌, ◌+◌, suc, true, false, map, sym, ap, ◌∙◌, arith}
use Rattle.wf_answers.specs.AnswerSeen.{answer_tree}
use Rattle.wf_connect.specs.Last.{Answered, answered_at, is_final, last_from}
use Rattle.wf_doing.specs.Places.{named}
use Rattle.wf_doing.proofs.AttemptLemmas.{goes_on, stops}
use Rattle.wf_doing.proofs.attempts.last_attempt.Goals as goal

pub returns-then-is_final : goal.returns-then-is_final
returns-then-is_final c =
    let policy = c.args.policy.now in
    let answers : Answered = answered_at (map answer_tree c.args.answers.now) (named c.args.name.now c.args.at.now) in
    let made = c.loop-made.made in
    let last : is_final policy (made + 1) (answers (made + 1)) ≡ true =
    ap (is_final policy (made + 1)) (sym c.answer_at.ensures) ∙ sym c.is_final.ensures ∙ c.if-is_final.true in
    let left : c.retries-retries.result - made ≡ suc (c.retries-retries.result - (made + 1)) = omega (arith, c.loop-made-test.true) in
    let next : made + 1 ≡ suc made = omega arith in
    sym (stops policy answers (c.retries-retries.result - (made + 1)) (made + 1) last)
    ∙ ap (λ n. last_from policy answers n (made + 1)) (sym left)
    ∙ ap (λ k. last_from policy answers (c.retries-retries.result - made) k) next
    ∙ c.loop-made.invariant

pub loop-made-preserved : goal.loop-made-preserved
loop-made-preserved c =
    let policy = c.args.policy.now in
    let answers : Answered = answered_at (map answer_tree c.args.answers.now) (named c.args.name.now c.args.at.now) in
    let made = c.loop-made.made in
    let more : is_final policy (made + 1) (answers (made + 1)) ≡ false =
    ap (is_final policy (made + 1)) (sym c.answer_at.ensures) ∙ sym c.is_final.ensures ∙ c.if-is_final.false in
    let left : c.retries-retries.result - made ≡ suc (c.retries-retries.result - (made + 1)) = omega (arith, c.loop-made-test.true) in
    let next : made + 1 ≡ suc made = omega arith in
    sym (goes_on policy answers (c.retries-retries.result - (made + 1)) (made + 1) more)
    ∙ ap (λ n. last_from policy answers n (made + 1)) (sym left)
    ∙ ap (λ k. last_from policy answers (c.retries-retries.result - made) k) next
    ∙ c.loop-made.invariant

pub returns : goal.returns
returns c =
    let policy = c.args.policy.now in
    let answers : Answered = answered_at (map answer_tree c.args.answers.now) (named c.args.name.now c.args.at.now) in
    let made = c.loop-made.made in
    let none : c.retries-retries.result - made ≡ 0 = omega (arith, c.loop-made-test.false) in
    let all : c.retries-retries.result + 1 ≡ suc made = omega (arith, c.loop-made-test.false, c.loop-made.auto.made-end) in
    all ∙ ap (λ n. last_from policy answers n (suc made)) (sym none) ∙ c.loop-made.invariant
