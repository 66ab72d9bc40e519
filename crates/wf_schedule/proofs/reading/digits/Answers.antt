use Rattle.std.proofs.Common.{◌+◌, drop, get_or, sym, ◌∙◌, arith}
use Rattle.std.proofs.lemmas.List.{at_drop_more}
use Rattle.wf_schedule.specs.Schedule.{digits_from, small}
use Rattle.wf_schedule.proofs.LineLemmas.{none_more}
use Rattle.wf_schedule.proofs.reading.digits.Goals as goal

pub returns-in_default : goal.returns-in_default
returns-in_default c =
    let xs = c.args.line.now in
    let n = c.loop-byte.byte-index in
    let lt = c.loop-byte-test.true in
    sym (sym c.loop-byte.invariant.all
    ∙ (at_drop_more (λ ys. small (digits_from c.loop-byte.sum ys)) xs n 0 (omega (arith, lt))
    ∙ none_more c.loop-byte.sum (get_or xs n 0) (drop (n + 1) xs) (sym c.in_default.ensures)))
