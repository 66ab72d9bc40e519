use Rattle.std.proofs.Common.{◌≡◌, ◌<◌, [], ◌∷◌, Ok, Err, ap, arith, sym, ◌∙◌}
use Rattle.std.proofs.lemmas.Result.{err_from_is_err_and}
use Rattle.wf_answers.specs.InputsSeen.{inputs_tree}
use Rattle.wf_reading.specs.ReadSeen.{def_tree}
use Rattle.wf_run.specs.Runs.{meant_cost}
use Rattle.wf_run.specs.Seen.{told}
use Rattle.wf_told.specs.Records.{starts_of}
use Rattle.wf_told.proofs.MeasureLemmas.{first_alone, too_large_alone}
use Rattle.wf_trigger.specs.StartsSeen.{start_tree, starts_seen}
use Rattle.wf_printed.proofs.measuring.measure.Goals as goal

pub returns-clause-measured : goal.returns-clause-measured
returns-clause-measured c =
    let d = def_tree c.args.checked.now.def in
    let i = inputs_tree c.args.inputs.now in
    let starts = starts_seen c.in_ok-starts.starts in
    let s = start_tree c.in_ok-start.start in
    let alone : starts ≡ s ∷ [] = first_alone d i starts (c.requires starts c.in_ok-starts.ensures.starts) s c.in_ok-start.ensures in
    record {
      start = s;
      run = told c.in_ok-ended.ended;
      starts = c.in_ok-starts.ensures.starts ∙ ap Ok alone;
      told = c.in_ok-ended.ensures.told;
      small = omega (arith, c.in_ok-ended.ensures.small);
      figures = c.figures.ensures;
    }

pub returns-in_err-ended-clause-fault : goal.returns-in_err-ended-clause-fault
returns-in_err-ended-clause-fault c =
    let d = def_tree c.args.checked.now.def in
    let i = inputs_tree c.args.inputs.now in
    let starts = starts_seen c.in_ok-starts.starts in
    let s = start_tree c.in_ok-start.start in
    let alone : starts ≡ s ∷ [] = first_alone d i starts (c.requires starts c.in_ok-starts.ensures.starts) s c.in_ok-start.ensures in
    let one : starts_of d i ≡ Ok (s ∷ []) = c.in_ok-starts.ensures.starts ∙ ap Ok alone in
    let p = err_from_is_err_and c.from_residual-in_err-ended.result c.from_residual-in_err-ended.ensures.1 in
    rw (p.1, p.2) (λ other.
    let large : 67108864 < meant_cost c.args.checked.now c.in_ok-start.start c.args.inputs.now =
    omega (arith, c.in_err-ended.ensures.too_large other) in
    too_large_alone d i s one large ∙ ap Err (sym (c.in_err-ended.ensures.fault other)))
