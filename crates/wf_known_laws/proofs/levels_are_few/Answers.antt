use Rattle.std.proofs.Common.{◌≡◌, ◌+◌, ◌≤◌, [], subst, arith}
use Rattle.wf_reading.specs.Fault.{inner_of, offences}
use Rattle.wf_reading.specs.Whole.{whole_of}
use Rattle.wf_reading.specs.Rule.{Rule}
use Rattle.wf_reading.specs.DefTree.{DefTree}
use Rattle.wf_reading.specs.Meant.{names_of}
use Rattle.wf_reading.specs.Numbers.{number_among}
use Rattle.wf_reading.proofs.ReadLemmas.{inner-fine, inner-well_formed}
use Rattle.wf_known_laws.specs.Held.{levels}
use Rattle.wf_known_laws.proofs.LevelLemmas.{Cases, Graph, Kind, level_steps}
use Rattle.wf_known_laws.proofs.WalkLemmas.{top-shown}
use Rattle.wf_known_laws.proofs.levels_are_few.Goals as goal

pub returns : goal.returns
returns c = λ d r.
    let t = inner_of r.value in
    let number_of = number_among (names_of t) in
    let fine : offences t Rule.Limits ≡ [] = (c.the_first_fault.ensures.none t (inner-fine r.value r.holds)).1.1.0 in
    let few : levels d.top + 1 ≤ 9 = subst (λ (e : DefTree). levels e.top + 1 ≤ 9) r.means
    (top-shown Rule.Limits (whole_of t) number_of Graph Graph Kind Cases (level_steps (whole_of t) number_of) t
    (inner-well_formed r.value r.well_formed) fine
    (omega arith)) in
    omega (arith, few)
