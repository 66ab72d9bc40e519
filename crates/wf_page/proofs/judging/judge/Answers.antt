use Rattle.std.proofs.Common.{rules, ◌≡◌, ◌∙◌, Err, ap, sym}
use Rattle.wf_files.specs.Form.{definition_form}
use Rattle.wf_page.specs.GivenSeen.{given_tree}
use Rattle.wf_page.specs.Judged.{by_definition, say}
use Rattle.wf_page.proofs.judging.judge.Goals as goal

-- a fault that isn't want of memory is the definition's
pub returns-in-Err : goal.returns-in-Err
returns-in-Err c =
    let files = given_tree c.args.given in
    let result = c.in-Err.is in
    let fault = c.in-Err.fault-is in
    let is : definition_form files.definition ≡ Err c.in-Err.fault = c.in-Err.ensures.fault (λ memory. search rules) in
    ap (say 1) c.in_ok-text-in-Err.ensures ∙ sym (ap (λ form. by_definition form files.log files.earlier) is)
