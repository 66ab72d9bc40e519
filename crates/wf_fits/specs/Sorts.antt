-- The types of variables, and which variable an action writes that another initialised.
use Rattle.std.specs.Prelude.{ℕ, Bool, List, [], Option, Some, None, bytes_eq, flat_map, option_map}
use Rattle.std.specs.List.{find}
use Rattle.std.specs.Option.{option_and_then}
use Rattle.wf_def.specs.ActionTree.{ActionTree, action_kind, InitialTree, KindTree, initialize, set_to, increment, decrement, append_array}
use Rattle.wf_def.specs.ActionTree.{append_string}
use Rattle.wf_def.specs.AllActions.{all_actions, numbered}
use Rattle.wf_def.specs.DefTree.{DefTree}
use Rattle.wf_def.specs.declared.sort.Sort.{Sort}

-- the variables that an action initialises
abbrev pub initials_of : KindTree → List InitialTree
initials_of (initialize variables) = variables
initials_of kind = []

abbrev pub all_initials : List ActionTree → List InitialTree
all_initials as' = flat_map (λ a. initials_of (action_kind a)) as'

abbrev pub is_named : List ℕ → InitialTree → Bool
is_named k i = bytes_eq k i.name

-- The type that a variable is initialised with; the first, where it is so more than once.
abbrev pub sort_by : List InitialTree → List ℕ → Option Sort
sort_by is k = option_map (λ (i : InitialTree). i.sort) (find (is_named k) is)

abbrev pub sort_of : DefTree → List ℕ → Option Sort
sort_of d k = sort_by (all_initials (all_actions d.top)) k

-- the variable that an action writes and doesn't initialise
abbrev pub changes : KindTree → Option (List ℕ)
changes (set_to name value) = Some name
changes (increment name value) = Some name
changes (decrement name value) = Some name
changes (append_array name value) = Some name
changes (append_string name value) = Some name
changes kind = None

-- and its type
abbrev pub sort_changed : DefTree → Option ActionTree → Option Sort
sort_changed d None = None
sort_changed d (Some a) = option_and_then (sort_of d) (changes (action_kind a))

abbrev pub sort_at : DefTree → ℕ → Option Sort
sort_at d n = sort_changed d (numbered n d.top)
