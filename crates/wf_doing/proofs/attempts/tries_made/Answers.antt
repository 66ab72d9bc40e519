use Rattle.std.proofs.Common.{◌≡◌, ◌-◌, ◌+◌, ◌++◌, ◌∷◌, [], suc, map, sym, ap, ◌∙◌, arith}
use Rattle.wf_answers.specs.AnswerSeen.{answer_tree}
use Rattle.wf_connect.specs.Attempts.{try_of}
use Rattle.wf_connect.specs.Last.{Answered, answered_at, tries_from}
use Rattle.wf_doing.specs.Places.{named}
use Rattle.wf_doing.proofs.AttemptLemmas.{one_more}
use Rattle.wf_doing.proofs.attempts.tries_made.Goals as goal

pub loop-made-preserved : goal.loop-made-preserved
loop-made-preserved c =
    let answers : Answered = answered_at (map answer_tree c.args.answers.now) (named c.args.name.now c.args.at.now) in
    let made = c.loop-made.made in
    let tries = c.loop-made.tries in
    let it : c.try_of.result ≡ try_of (answers (made + 1)) = c.try_of.ensures ∙ ap try_of c.answer_at.ensures in
    let left : c.args.count - made ≡ suc (c.args.count - (made + 1)) = omega (arith, c.loop-made-test.true) in
    let next : made + 1 ≡ suc made = omega arith in
    ap (λ ts. ts ++ tries_from answers (c.args.count - (made + 1)) (suc (made + 1)))
    (c.in_ok-push.ensures.ok ∙ ap (λ t. tries ++ t ∷ []) it)
    ∙ one_more answers tries (c.args.count - (made + 1)) (made + 1)
    ∙ ap (λ n. tries ++ tries_from answers n (made + 1)) (sym left)
    ∙ ap (λ k. tries ++ tries_from answers (c.args.count - made) k) next
    ∙ c.loop-made.invariant
