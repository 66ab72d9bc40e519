-- What the code's standings, names and variables stand for.
use Rattle.std.specs.Prelude.{ℕ, List, [], map, Option, Some, None, option_map}
use Rattle.wf_val.specs.NameOrder.{find_named}
use Rattle.wf_def.specs.ActionSeen.{action_tree}
use Rattle.wf_standing.specs.Standing.{StandingTree}
use Rattle.wf_standing.specs.Whole.{InitialisedTree}
use Rattle.wf_standing.specs.declared.standing.Standing.{Standing}
use Rattle.wf_standing.specs.declared.names.Named.{Named}
use Rattle.wf_standing.specs.declared.initials.Initialised.{Initialised}
use Rattle.wf_standing.specs.declared.initials.Variable.{Variable}

abbrev pub standing_tree : Standing → StandingTree
standing_tree s = record { action = action_tree s.action.now; round = map (λ a. action_tree a.now) s.round.items }

-- the action that is kept for a name
abbrev pub action_found : List Named → List ℕ → Option StandingTree
action_found names k = option_map (λ n. standing_tree n.standing.now) (find_named (λ n. n.name.now) k names)

abbrev pub initialised_tree : Initialised → InitialisedTree
initialised_tree i = record { standing = standing_tree i.standing.now; sort = i.sort }

abbrev pub initialised_in : Option Variable → List InitialisedTree
initialised_in None = []
initialised_in (Some v) = map initialised_tree v.by.items

-- the initialisations that are kept for a name
abbrev pub initialised_found : List Variable → List ℕ → List InitialisedTree
initialised_found variables k = initialised_in (find_named (λ v. v.name.now) k variables)
