-- Where a site stands among the containers of a definition. A site stands at an action, or in the section `outputs`, where there is no
-- action.
use Rattle.std.specs.Prelude.{ℕ, List, Bool, true, false, not, ◌&&◌, ◌||◌, nat_eq, bytes_eq, Option, Some, None, count_by}
use Rattle.std.specs.List.{list_any}
use Rattle.wf_def.specs.ActionTree.{ActionTree, action_kind, action_name, action_number}
use Rattle.wf_use_table.specs.Site.{Site}
use Rattle.wf_standing.specs.Kinds.{is_foreach, is_loop, is_of}
use Rattle.wf_standing.specs.Standing.{StandingTree}
use Rattle.wf_standing.specs.declared.kinds.Loop.{Loop}

abbrev pub is_test : Site → Bool
is_test (Site.Test n) = true
is_test site = false

abbrev pub is_items : Site → Bool
is_items (Site.Items n) = true
is_items site = false

abbrev pub is_tracked : Site → Bool
is_tracked (Site.Tracked n) = true
is_tracked site = false

-- A site stands inside a container for which `test` holds. The expression of an Until stands inside that Until, as it is evaluated after
-- each of its iterations; all else of an action stands inside the containers round the action, and an output in none.
abbrev pub is_inside : Site → Option StandingTree → (ActionTree → Bool) → Bool
is_inside site None test = false
is_inside site (Some y) test = list_any test y.round || (is_test site && test y.action)

abbrev pub is_loop_named : Loop → List ℕ → ActionTree → Bool
is_loop_named loop k c = is_of loop (action_kind c) && bytes_eq k (action_name c)

-- the name is that of no such loop round the site
abbrev pub is_outside : Loop → Site → Option StandingTree → List ℕ → Bool
is_outside loop site at k = not (is_inside site at (is_loop_named loop k))

-- `item` has a value at the site: at what a Select or a Query asks of each item, and inside a Foreach
abbrev pub has_item : Site → Option StandingTree → Bool
has_item site at = is_items site || is_inside site at (λ c. is_foreach (action_kind c))

abbrev pub is_in_loop : StandingTree → Bool
is_in_loop y = list_any (λ c. is_loop (action_kind c)) y.round

-- a loop, which isn't round the site
abbrev pub is_left : Site → Option StandingTree → ActionTree → Bool
is_left site at c = is_loop (action_kind c) && not (is_inside site at (λ r. nat_eq (action_number r) (action_number c)))

-- how many of the loops round an action a reference to it leaves; with `result` it leaves the action too, where that is a loop
abbrev pub loops_left : Site → Option StandingTree → StandingTree → ℕ
loops_left site at x = count_by (is_left site at) x.round
