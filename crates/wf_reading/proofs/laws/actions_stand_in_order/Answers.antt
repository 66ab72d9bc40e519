use Rattle.std.proofs.Common.{subst}
use Rattle.wf_form.specs.Fault.{inner_of}
use Rattle.wf_val.specs.NameOrder.{IsInNameOrder}
use Rattle.wf_def.specs.ActionTree.{action_name, actions_in}
use Rattle.wf_def.specs.DefTree.{DefTree}
use Rattle.wf_reading.specs.Meant.{names_of}
use Rattle.wf_reading.specs.Numbers.{number_among}
use Rattle.wf_reading.proofs.ReadLemmas.{inner-well_formed}
use Rattle.wf_reading.proofs.TopOrderLemmas.{top-order}
use Rattle.wf_reading.proofs.laws.actions_stand_in_order.Goals as goal

pub returns : goal.returns
returns c = λ d r.
    let t = inner_of r.value in
    subst (λ (e : DefTree). IsInNameOrder action_name (actions_in e.top)) r.means
    (top-order (number_among (names_of t)) t (inner-well_formed r.value r.well_formed))
