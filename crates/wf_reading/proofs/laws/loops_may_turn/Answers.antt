use Rattle.std.proofs.Common.{ℕ, List, Some, None, Option, subst}
use Rattle.std.specs.Prelude.{codes}
use Rattle.wf_val.specs.Get.{get}
use Rattle.wf_val.specs.ValueTree.{ValueTree}
use Rattle.wf_def.specs.Definition.{Turns}
use Rattle.wf_form.specs.Fault.{inner_of}
use Rattle.wf_def.specs.DefTree.{DefTree}
use Rattle.wf_def.specs.Layered.{layered}
use Rattle.wf_reading.specs.Meant.{names_of, top_at}
use Rattle.wf_reading.specs.Numbers.{number_among}
use Rattle.wf_reading.proofs.TurnLemmas.{graph-turns}
use Rattle.wf_reading.proofs.laws.loops_may_turn.Goals as goal

top-turns : (number_of : (List ℕ → ℕ)) (o : Option ValueTree) → Turns (layered (top_at number_of o))
top-turns number_of None = tt
top-turns number_of (Some t) = graph-turns number_of (codes "/actions") t

pub returns : goal.returns
returns c = λ d r. subst (λ (e : DefTree). Turns (layered e.top)) r.means
    (top-turns (number_among (names_of (inner_of r.value))) (get (codes "actions") (inner_of r.value)))
