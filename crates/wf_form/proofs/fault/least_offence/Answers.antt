use Rattle.std.proofs.Common.{[], ap, ◌∙◌}
use Rattle.std.proofs.lemmas.Result.{IfOk-weaker}
use Rattle.wf_val.specs.Seen.{tree}
use Rattle.wf_after.specs.Pointer.{least}
use Rattle.wf_form.specs.Places.{places}
use Rattle.wf_form.specs.Whole.{Whole}
use Rattle.wf_form.specs.declared.role.Role.{Role}
use Rattle.wf_form.proofs.fault.least_offence.Goals as goal

pub returns : goal.returns
returns c =
    IfOk-weaker c.least_in.result _ _
    (λ p h. h ∙ ap (λ (whole : Whole). least (places c.args.rule whole Role.Definition [] (tree c.args.definition.now))) c.requires)
    c.least_in.ensures
