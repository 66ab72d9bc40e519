use Rattle.std.proofs.Common.{◌≡◌, ℕ, ◌+◌, List, [], ◌∷◌, ◌++◌, length, None, Some, ap, ◌∙◌, arith, subst, sym}
use Rattle.std.proofs.lemmas.List.{length_push}
use Rattle.wf_recur.specs.Due.{IsDue}
use Rattle.wf_recur.specs.Next.{AreNext, IsLeastFrom}
use Rattle.wf_recur.proofs.ListedLemmas.{are_listed}
use Rattle.wf_recur.proofs.NextLemmas.{AreBefore, before_push, next_ended, next_full}
use Rattle.wf_recur.proofs.moments.fires.Goals as goal

pub returns-in_default-clause-next : goal.returns-in_default-clause-next
returns-in_default-clause-next c =
    let r = c.args.recurrence.now in
    let known = c.loop.invariant in
    let P : ℕ → Type 0 = λ b. IsLeastFrom (IsDue r b) c.loop.at None in
    next_ended r c.args.from c.loop.at c.args.count c.loop.moments.items known.0 (subst P known.4 c.in_default.ensures)
    (omega (arith, known.1, c.loop-test.true))

pub returns-in_default-clause-listed : goal.returns-in_default-clause-listed
returns-in_default-clause-listed c =
    let r = c.args.recurrence.now in
    let known = c.loop.invariant in
    let P : ℕ → Type 0 = λ b. IsLeastFrom (IsDue r b) c.loop.at None in
    let next : AreNext r c.args.from c.args.count c.loop.moments.items =
    next_ended r c.args.from c.loop.at c.args.count c.loop.moments.items known.0 (subst P known.4 c.in_default.ensures)
    (omega (arith, known.1, c.loop-test.true)) in
    are_listed r c.args.from c.args.count c.loop.moments.items
    (omega (arith, c.get-interval.ensures.value, c.get-interval.ensures.from)) next

pub loop-preserved : goal.loop-preserved
loop-preserved c =
    let r = c.args.recurrence.now in
    let known = c.loop.invariant in
    let m = c.in-Some-next.moment in
    let items = c.loop.moments.items in
    let P : ℕ → Type 0 = λ b. IsLeastFrom (IsDue r b) c.loop.at (Some m) in
    let least : IsLeastFrom (IsDue r c.match-recurrence.start) c.loop.at (Some m) = c.in-Some-next.ensures in
    let before = before_push r c.args.from c.loop.at m items known.0 known.2 (subst P known.4 least) in
    let pushed : c.push.new.self.items ≡ items ++ m ∷ [] = c.in_ok-push.ensures.items in
    let got : c.get-at-in-loop.result ≡ m = c.get-at-in-loop.ensures.value in
    let Q : ℕ → Type 0 = λ a. AreBefore r c.args.from a c.push.new.self.items in
    let R : List ℕ → Type 0 = λ ms. AreBefore r c.args.from (m + 1) ms in (
      subst Q (ap (λ k. k + 1) (sym got)) (subst R (sym pushed) before),
      ap length pushed ∙ length_push items m ∙ ap (λ k. k + 1) known.1,
      omega (arith, known.2, least.1, got),
      omega (arith, c.get-at-in-loop.ensures.value, c.get-at-in-loop.ensures.in_range),
      known.4,
    )

pub returns-clause-next : goal.returns-clause-next
returns-clause-next c =
    let known = c.loop.invariant in
    next_full c.args.recurrence.now c.args.from c.loop.at c.args.count c.loop.moments.items known.0
    (omega (arith, known.1, c.loop-test.false, c.loop.auto.counter-end))

pub returns-clause-listed : goal.returns-clause-listed
returns-clause-listed c =
    let known = c.loop.invariant in
    let next : AreNext c.args.recurrence.now c.args.from c.args.count c.loop.moments.items =
    next_full c.args.recurrence.now c.args.from c.loop.at c.args.count c.loop.moments.items known.0
    (omega (arith, known.1, c.loop-test.false, c.loop.auto.counter-end)) in
    are_listed c.args.recurrence.now c.args.from c.args.count c.loop.moments.items
    (omega (arith, c.get-interval.ensures.value, c.get-interval.ensures.from)) next
