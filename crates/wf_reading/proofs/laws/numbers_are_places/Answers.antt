use Rattle.std.proofs.Common.{◌≡◌, ◌≤◌, ℕ, List, [], length, map, ap, sym, subst, ◌∙◌}
use Rattle.std.specs.Prelude.{codes}
use Rattle.std.specs.List.{count_by}
use Rattle.wf_val.specs.Get.{get}
use Rattle.wf_form.specs.Fault.{inner_of, offences}
use Rattle.wf_form.specs.declared.rule.Rule.{Rule}
use Rattle.wf_def.specs.ActionTree.{ActionTrees}
use Rattle.wf_def.specs.DefTree.{DefTree}
use Rattle.wf_def.specs.Names.{graph_names}
use Rattle.wf_reading.specs.Facts.{AreNumbered, graph_numbers}
use Rattle.wf_reading.specs.Meant.{names_of, top_at}
use Rattle.wf_reading.specs.Numbers.{is_below, number_among}
use Rattle.wf_reading.proofs.NameLemmas.{names_agree}
use Rattle.wf_reading.proofs.NumberedLemmas.{map-uncut, top-numbered}
use Rattle.wf_reading.proofs.OnceLemmas.{actions-few}
use Rattle.wf_reading.proofs.ReadLemmas.{inner-fine, inner-well_formed}
use Rattle.wf_reading.proofs.laws.numbers_are_places.Goals as goal

pub returns : goal.returns
returns c = λ d r.
    let t = inner_of r.value in
    let names : List (List ℕ) = names_of t in
    let top : ActionTrees = top_at (number_among names) (get (codes "actions") t) in
    let fine : offences t Rule.Limits ≡ [] = (c.the_first_fault.ensures.none t (inner-fine r.value r.holds)).1.1.0 in
    let agree : graph_names top ≡ names = names_agree (number_among names) t (inner-well_formed r.value r.well_formed) in
    let few : length names ≤ 500 = actions-few t fine in
    let all : graph_numbers top ≡ map (λ k. count_by (is_below k) names) (graph_names top) =
    top-numbered (number_among names) (get (codes "actions") t) ∙ map-uncut names (graph_names top) few in
    subst (λ (e : DefTree). AreNumbered e.top) r.means
    (all ∙ ap (λ (ns : List (List ℕ)). map (λ k. count_by (is_below k) ns) (graph_names top)) (sym agree))
