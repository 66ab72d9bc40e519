use Rattle.std.proofs.Common.{◌<◌, ◌∙◌, arith, sym}
use Rattle.std.proofs.lemmas.Bool.Decides.{nat_tests}
use Rattle.wf_fn_time.specs.Moments.{last_tick}
use Rattle.wf_top.proofs.FiresLemmas.{none-behind}
use Rattle.wf_top.proofs.recurring.next_moments.Goals as goal

pub returns-in-None : goal.returns-in-None
returns-in-None c =
    let behind : last_tick < c.args.from = grind (arith, nat_tests) in
    c.new.ensures.items ∙ sym (none-behind c.args.recurrence.now c.args.from c.args.count behind)
