use Rattle.std.proofs.Common.{◌*◌, ◌∙◌, ap, sym, arith}
use Rattle.std.proofs.lemmas.Bool.{ltb-true}
use Rattle.wf_answers.specs.InputsSeen.{inputs_tree}
use Rattle.wf_reading.specs.ReadSeen.{def_tree}
use Rattle.wf_trigger.specs.StartsSeen.{starts_seen}
use Rattle.wf_told.proofs.WrittenLemmas.{all-tell}
use Rattle.wf_run.specs.Least.{least_cost}
use Rattle.wf_told.specs.Records.{records_of}
use Rattle.wf_told.proofs.TextLemmas.{past}
use Rattle.wf_printed.proofs.CostLemmas.{many_cost}
use Rattle.wf_printed.proofs.runs.text_of.Goals as goal

pub returns-clause-text : goal.returns-clause-text
returns-clause-text c =
    all-tell (def_tree c.args.checked.now.def) (inputs_tree c.args.inputs.now) c.args.schedule.now c.args.traced
    (starts_seen c.args.starts.now) c.in_ok-written.written.text.items c.in_ok-written.written.cost
    (omega (arith, c.if-len-eq0.false, c.len.ensures)) c.in_ok-written.written.within c.in_ok-written.ensures.written

-- Where each costs at least so much that all cost too much, none is made.
pub returns-then-cost_too_much-clause-fault : goal.returns-then-cost_too_much-clause-fault
returns-then-cost_too_much-clause-fault c = λ other.
    let d = def_tree c.args.checked.now.def in
    let i = inputs_tree c.args.inputs.now in
    let starts = starts_seen c.args.starts.now in
    past (records_of d i starts)
    (omega (
      arith,
      ltb-true 67108864 (least_cost d * c.len-2.result) (sym c.cost_too_much.ensures.exact ∙ c.if-cost_too_much.true),
      c.len-2.ensures,
      ap (λ n. least_cost d * n) c.len-2.ensures,
      many_cost d i (least_cost d) c.cost_too_much.ensures.each starts,
    ))
