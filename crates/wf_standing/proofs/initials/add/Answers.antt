use Rattle.std.proofs.Common.{[], ◌∷◌, ◌++◌, List, map, refl, ap, ◌∙◌}
use Rattle.std.proofs.lemmas.List.{map-append}
use Rattle.wf_def.specs.ActionSeen.{initial_tree}
use Rattle.wf_standing.specs.Seen.{initialised_tree, standing_tree}
use Rattle.wf_standing.specs.Whole.{InitialisedTree}
use Rattle.wf_standing.specs.declared.initials.Initialised.{Initialised}
use Rattle.wf_standing.proofs.InitialLemmas.{one-kept}
use Rattle.wf_standing.proofs.initials.add.Goals as goal

pub returns : goal.returns
returns c k =
    let own : Initialised = record { standing = c.args.standing; sort = c.args.initial.now.sort } in
    one-kept c.args.variables.now c.taken-by.new.variables c.put.new.self _
    (standing_tree c.args.standing.now) (initial_tree c.args.initial.now)
    refl c.in_ok-put.ensures.ok c.taken-by.ensures.rest
    (ap (map initialised_tree) c.in_ok-push.ensures.items ∙ map-append initialised_tree c.taken-by.result.items (own ∷ [])
    ∙ ap (λ (l : List InitialisedTree). l ++ initialised_tree own ∷ []) c.taken-by.ensures.kept)
    k
