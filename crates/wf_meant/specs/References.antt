-- Where a reference leads: the instances of an action that an expression names, and their views.
use Rattle.std.specs.Prelude.{ℕ, zero, suc, List, [], ◌∷◌, ◌++◌, map, length, take, flat_map, Option, Some, None, option_map}
use Rattle.std.specs.Option.{option_and_then}
use Rattle.wf_val.specs.NameOrder.{put_named}
use Rattle.wf_val.specs.ValueTree.{ValueTree, null, list, trees}
use Rattle.wf_refs.specs.Looked.{or_null}
use Rattle.wf_refs.specs.Address.{Table, address}
use Rattle.wf_refs.specs.ActionTree.{ActionTree, action_name, action_number, action_kind, KindTree, scope, branch, switch, switch_else}
use Rattle.wf_refs.specs.ActionTree.{foreach, until, CaseTrees, no_cases, case_then, actions_in}
use Rattle.wf_refs.specs.AllActions.{numbered}
use Rattle.wf_refs.specs.DefTree.{DefTree}
use Rattle.wf_meant.specs.Points.{Point, action_named}
use Rattle.wf_meant.specs.Rows.{turns_at, view_of}
use Rattle.wf_environment.specs.Record.{Row}

-- the numbers below n
abbrev pub upto : ℕ → List ℕ
upto zero = []
upto (suc n) = upto n ++ n ∷ []

-- The instances that are meant, by their indexes: one, where no loop is left; those of each iteration of a Foreach; that of the last
-- iteration of an Until, if it had one.
pub data Spots : Type 0 where
  one : List ℕ → Spots
  every : List (List ℕ) → Spots
  latest : Option (List ℕ) → Spots

abbrev pub last_of : List ℕ → ℕ → Option (List ℕ)
last_of at zero = None
last_of at (suc n) = Some (at ++ n ∷ [])

-- in a loop that stands at these indexes and had so many iterations
abbrev pub spots_of : KindTree → List ℕ → ℕ → Option Spots
spots_of (foreach items repetitions graph) at n = Some (every (map (λ j. at ++ j ∷ []) (upto n)))
spots_of (until test count fails graph) at n = Some (latest (last_of at n))
spots_of kind at n = None

abbrev pub spots_in : Option ActionTree → List ℕ → ℕ → Option Spots
spots_in None at n = None
spots_in (Some a) at n = spots_of (action_kind a) at n

-- where these loops are left, by their numbers; a reference leaves one at most
abbrev pub spots_by : DefTree → List ℕ → List ℕ → Table Row → Option Spots
spots_by d at [] known = Some (one at)
spots_by d at (l ∷ []) known = spots_in (numbered l d.top) at (turns_at d known l at)
spots_by d at (l ∷ m ∷ ls) known = None

-- the indexes in the loops round both the point and the action
abbrev pub shared : Point → ℕ → List ℕ
shared p x = take (length (p.paces x)) p.at

-- ---- `actions`, and by it `outputs` and `body`

module _ (a : ActionTree) (known : Table Row) where
  abbrev pub view_there : List ℕ → Option ValueTree
  view_there at = option_map (view_of (action_name a)) (known (address (action_number a) at))

  abbrev pub view_in : Spots → Option ValueTree
  view_in (one at) = view_there at
  view_in (every ats) = Some (list (trees (map (λ at. or_null (view_there at)) ats)))
  view_in (latest None) = Some null
  view_in (latest (Some at)) = view_there at

abbrev pub view_by : DefTree → Point → Table Row → Option ActionTree → Option ValueTree
view_by d p known None = None
view_by d p known (Some a) =
    let x = action_number a in option_and_then (view_in a known) (spots_by d (shared p x) (p.left x) known)

abbrev pub view_at : DefTree → Point → Table Row → List ℕ → Option ValueTree
view_at d p known k = view_by d p known (action_named d k)

-- ---- `result`

abbrev pub in_cases : CaseTrees → List ActionTree
in_cases no_cases = []
in_cases (case_then name value graph rest) = actions_in graph ++ in_cases rest

-- the actions of a container's own graphs; no other kind has one
abbrev pub first_level : KindTree → Option (List ActionTree)
first_level (scope graph) = Some (actions_in graph)
first_level (branch test yes' no') = Some (actions_in yes' ++ actions_in no')
first_level (switch on cases) = Some (in_cases cases)
first_level (switch_else on cases default) = Some (in_cases cases ++ actions_in default)
first_level (foreach items repetitions graph) = Some (actions_in graph)
first_level (until test count fails graph) = Some (actions_in graph)
first_level kind = None

abbrev pub by_name : List ActionTree → List ActionTree
by_name [] = []
by_name (a ∷ as') = put_named action_name a (by_name as')

-- a loop whose result is asked for is left, too
abbrev pub loop_itself : ℕ → KindTree → List ℕ
loop_itself n (foreach items repetitions graph) = n ∷ []
loop_itself n (until test count fails graph) = n ∷ []
loop_itself n kind = []

abbrev pub own_loop : ActionTree → List ℕ
own_loop a = loop_itself (action_number a) (action_kind a)

abbrev pub places_in : Spots → List (List ℕ)
places_in (one at) = at ∷ []
places_in (every ats) = ats
places_in (latest None) = []
places_in (latest (Some at)) = at ∷ []

-- one flat list: by iteration of the loop that is left, then by name
abbrev pub result_in : Table Row → List ActionTree → Spots → ValueTree
result_in known inner spots =
    list (trees (flat_map (λ at. map (λ a. or_null (view_there a known at)) (by_name inner)) (places_in spots)))

abbrev pub result_by : DefTree → Point → Table Row → Option ActionTree → Option ValueTree
result_by d p known None = None
result_by d p known (Some a) =
    let x = action_number a in
    option_and_then (λ inner. option_map (result_in known inner) (spots_by d (shared p x) (p.left x ++ own_loop a) known))
    (first_level (action_kind a))

abbrev pub result_at : DefTree → Point → Table Row → List ℕ → Option ValueTree
result_at d p known k = result_by d p known (action_named d k)
