use Rattle.std.proofs.Common.{arith}
use Rattle.std.proofs.lemmas.Result.{err_from_is_err_and}
use Rattle.wf_answers.specs.InputsSeen.{inputs_tree}
use Rattle.wf_reading.specs.ReadSeen.{def_tree}
use Rattle.wf_run.specs.Seen.{told}
use Rattle.wf_trigger.specs.StartsSeen.{start_tree, starts_seen}
use Rattle.wf_told.proofs.WrittenLemmas.{cost-within, more-written}
use Rattle.wf_printed.proofs.runs.all_written.Goals as goal

pub loop-k-preserved : goal.loop-k-preserved
loop-k-preserved c =
    let d = def_tree c.args.runnable.now.checked.now.def in
    let i = inputs_tree c.args.inputs.now in
    record {
      written =
          more-written d i c.args.schedule.now c.args.traced (starts_seen c.args.starts.now) c.loop-k.k (start_tree c.in_ok-start.start)
          c.in_ok-start.ensures c.loop-k.written.text.items c.in_ok-written.written.text.items c.loop-k.written.cost
          c.in_ok-written.written.cost (told c.in_ok-ended.ended) c.loop-k.invariant.written c.in_ok-ended.ensures.told
          c.in_ok-written.ensures.text c.in_ok-written.ensures.cost;
    }

pub returns-in_err-ended-clause-too_large : goal.returns-in_err-ended-clause-too_large
returns-in_err-ended-clause-too_large c =
    let d = def_tree c.args.runnable.now.checked.now.def in
    let i = inputs_tree c.args.inputs.now in
    let most =
    cost-within d i c.args.schedule.now c.args.traced (starts_seen c.args.starts.now) c.loop-k.k (start_tree c.in_ok-start.start)
    c.in_ok-start.ensures c.loop-k.written.text.items c.loop-k.written.cost c.loop-k.invariant.written in
    let p = err_from_is_err_and c.from_residual-in_err-ended.result c.from_residual-in_err-ended.ensures.1 in
    rw (p.1, p.2) (λ free. omega (arith, c.in_err-ended.ensures.too_large free, most))
