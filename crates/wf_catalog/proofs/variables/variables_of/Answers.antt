use Rattle.std.proofs.Common.{map, ap, ◌∙◌}
use Rattle.wf_catalog.specs.PlacesSeen.{number_in}
use Rattle.wf_catalog.specs.Variables.{first_place}
use Rattle.wf_catalog.proofs.PlaceLemmas.{variables_found}
use Rattle.wf_catalog.proofs.variables.variables_of.Goals as goal

pub returns : goal.returns
returns c = λ k.
    ap (λ vs. number_in vs k) c.in_ok-table.ensures
    ∙ (variables_found c.in_ok-numbered.field-0.items (map (λ n. n.now) c.deref.result.now) c.in_ok-numbered.ensures k
    ∙ ap (λ ks. first_place 0 ks k) (ap (map (λ n. n.now)) c.deref.ensures.value ∙ c.in_ok-names.ensures))
