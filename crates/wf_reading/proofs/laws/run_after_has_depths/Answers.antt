use Rattle.std.proofs.Common.{◌≡◌, [], subst}
use Rattle.wf_form.specs.Fault.{inner_of, offences}
use Rattle.wf_form.specs.declared.rule.Rule.{Rule}
use Rattle.wf_def.specs.DefTree.{DefTree}
use Rattle.wf_reading.specs.Facts.{HasDepths}
use Rattle.wf_reading.specs.Meant.{names_of}
use Rattle.wf_reading.specs.Numbers.{number_among}
use Rattle.wf_reading.proofs.ReadLemmas.{inner-fine, inner-well_formed}
use Rattle.wf_reading.proofs.RunAfterLemmas.{definition-depths}
use Rattle.wf_reading.proofs.laws.run_after_has_depths.Goals as goal

pub returns : goal.returns
returns c = λ d r.
    let t = inner_of r.value in
    let fine : offences t Rule.RunAfter ≡ [] = (c.the_first_fault.ensures.none t (inner-fine r.value r.holds)).1.1.1.1.1.1.1.0 in
    subst (λ (e : DefTree). HasDepths e.top) r.means
    (definition-depths (number_among (names_of t)) c.paths_are_exact.ensures.paths t (inner-well_formed r.value r.well_formed) fine)
