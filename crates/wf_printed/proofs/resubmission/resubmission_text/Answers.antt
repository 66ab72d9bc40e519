use Rattle.std.proofs.Common.{◌<◌, ◌++◌, ap, arith, subst, sym, ◌∙◌}
use Rattle.std.proofs.lemmas.Result.{err_from_is_err_and}
use Rattle.wf_answers.specs.InputsSeen.{inputs_tree}
use Rattle.wf_run.specs.Resubmitted.{pinned}
use Rattle.wf_reading.specs.ReadSeen.{def_tree}
use Rattle.wf_record.specs.Cost.{cost}
use Rattle.wf_record.specs.Seen.{record_tree}
use Rattle.wf_resubmit.specs.declared.fault.ResubmitFault.{ResubmitFault}
use Rattle.wf_told.specs.Resubmissions.{IsNotResubmitted, IsResubmittedUnder, refused, too_large}
use Rattle.wf_told.specs.Text.{run_text}
use Rattle.wf_told.specs.declared.fault.ResubmissionFault.{ResubmissionFault}
use Rattle.wf_run.specs.Seen.{told}
use Rattle.wf_printed.proofs.RefusedLemmas.{refused_told}
use Rattle.wf_printed.proofs.resubmission.resubmission_text.Goals as goal

pub made_ready-requires : goal.made_ready-requires
made_ready-requires c =
    record { names = c.args.names.now; may = c.in_ok-from.ensures.may; from_is = c.in_ok-from.ensures.numbers }

pub returns-clause-text : goal.returns-clause-text
returns-clause-text c =
    let d = def_tree c.args.checked.now.def in
    let r = record_tree c.args.log.now in
    let i = inputs_tree c.args.inputs.now in
    record {
      may = c.in_ok-from.ensures.may;
      run = told c.in_ok-ended.ended;
      told = subst (λ f. IsResubmittedUnder d r i f c.args.schedule.now (told c.in_ok-ended.ended)) c.in_ok-from.ensures.numbers
          c.in_ok-ended.ensures.told;
      small = omega (arith, c.in_ok-ended.ensures.small);
      text_is = c.in_ok-text.ensures ∙ ap (λ xs. xs ++ run_text (told c.in_ok-ended.ended)) c.new.ensures.items;
    }

pub returns-in_err-from-clause-fault : goal.returns-in_err-from-clause-fault
returns-in_err-from-clause-fault c =
    let d = def_tree c.args.checked.now.def in
    let r = record_tree c.args.log.now in
    let i = inputs_tree c.args.inputs.now in
    let p = err_from_is_err_and c.from_residual.result c.from_residual.ensures.1 in
    rw (p.1, p.2) (λ other. refused_told d r c.args.names.now i _ c.in_err-from.ensures.fault other)

pub returns-in_err-ended-clause-fault : goal.returns-in_err-ended-clause-fault
returns-in_err-ended-clause-fault c =
    let d = def_tree c.args.checked.now.def in
    let r = record_tree c.args.log.now in
    let i = inputs_tree c.args.inputs.now in
    let p = err_from_is_err_and c.from_residual-in_err-ended.result c.from_residual-in_err-ended.ensures.1 in
    rw (p.1, p.2) (λ other.
    let large : 67108864 < cost (pinned d r i c.in_ok-from.from) = omega (arith, c.in_err-ended.ensures.too_large other) in
    subst (IsNotResubmitted d r c.args.names.now i) (sym (c.in_err-ended.ensures.fault other))
    (too_large c.in_ok-from.ensures.may (subst (λ f. 67108864 < cost (pinned d r i f)) c.in_ok-from.ensures.numbers large)))
