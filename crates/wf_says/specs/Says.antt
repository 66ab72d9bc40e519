-- WHETHER A ROW MAY SAY WHAT IT SAYS: what a row has to be for its action, apart from where it stands.
use Rattle.std.specs.Prelude.{ℕ, ℤ, pos, List, [], ◌∷◌, map, length, Bool, true, false, not, ◌&&◌, ◌||◌, nat_le, Option, Some, None, if◌then◌else◌, bytes_eq, codes}
use Rattle.wf_asked.specs.Asked.{is_null, is_number, is_text}
use Rattle.wf_val.specs.ValueTree.{ValueTree, boolean, text, list, object, items, pairs, Member}
use Rattle.wf_def.specs.ActionTree.{InitialTree, KindTree, terminate, initialize, set_to, increment, decrement, append_array, append_string, branch, switch, switch_else, foreach, until}
use Rattle.wf_def.specs.Sorts.{has_sort}
use Rattle.wf_def.specs.declared.sort.Sort.{Sort}
use Rattle.wf_data.specs.Simple.{run_status_of}
use Rattle.wf_data.specs.Record.{Row}
use Rattle.wf_data.specs.RunStatus.{RunStatus}
use Rattle.wf_data.specs.Status.{Status}
use Rattle.wf_says.specs.Told.{told_rounds}

-- ---- statuses

abbrev pub skips : Status → Bool
skips Status.Skipped = true
skips s = false

abbrev pub is_skipped : Row → Bool
is_skipped r = skips r.status

abbrev pub succeeds : Status → Bool
succeeds Status.Succeeded = true
succeeds s = false

abbrev pub succeeded : Row → Bool
succeeded r = succeeds r.status

-- ---- containers

abbrev pub is_boolean : ValueTree → Bool
is_boolean (boolean b) = true
is_boolean t = false

abbrev pub is_text_or_number : ValueTree → Bool
is_text_or_number t = is_text t || is_number t

-- a list of a Foreach has at most 100,000 items
abbrev pub is_few : ValueTree → Bool
is_few (list ts) = nat_le (length (items ts)) 100000
is_few t = false

-- a Skipped one says nothing; another says something that is right, or nothing
abbrev pub says_or_nothing : Bool → (ValueTree → Bool) → ValueTree → Bool
says_or_nothing true is_right t = is_null t
says_or_nothing false is_right t = is_null t || is_right t

-- an Until goes round at least once, and at most as often as its count
abbrev pub is_count : ℕ → Option ℤ → Bool
is_count most (Some (pos n)) = nat_le 1 n && nat_le n most
is_count most o = false

abbrev pub says_rounds : Bool → ℕ → Option ℤ → Bool
says_rounds true most None = true
says_rounds true most (Some n) = false
says_rounds false most o = is_count most o

-- ---- variables

-- a variable: its name and its type
abbrev pub Variable : Type 0
Variable = List ℕ × Option Sort

abbrev pub is_of : Option Sort → ValueTree → Bool
is_of (Some sort) t = has_sort sort t
is_of None t = false

abbrev pub is_name_of : List ℕ → ValueTree → Bool
is_name_of name (text s) = bytes_eq s name
is_name_of name t = false

-- exactly `{"name":the variable's,"value":one of its type}`
abbrev pub tells_members : Variable → List Member → Bool
tells_members v (a ∷ b ∷ []) =
    bytes_eq a.0 (codes "name") && (is_name_of v.0 a.1 && (bytes_eq b.0 (codes "value") && is_of v.1 b.1))
tells_members v ms = false

abbrev pub tells : Variable → ValueTree → Bool
tells v (object ms) = tells_members v (pairs ms)
tells v t = false

abbrev pub tells_each : List Variable → List ValueTree → Bool
tells_each [] [] = true
tells_each (v ∷ vs) (t ∷ ts) = tells v t && tells_each vs ts
tells_each vs ts = false

abbrev pub tells_list : List Variable → ValueTree → Bool
tells_list vs (list ts) = tells_each vs (items ts)
tells_list vs t = false

-- one variable is told alone, several in a list
abbrev pub tells_body : List Variable → ValueTree → Bool
tells_body (v ∷ []) t = tells v t
tells_body vs t = tells_list vs t

-- outputs that are exactly `{"body":..}`
abbrev pub sole_body : List Member → Option ValueTree
sole_body (m ∷ []) = if bytes_eq m.0 (codes "body") then Some m.1 else None
sole_body ms = None

abbrev pub body_in : ValueTree → Option ValueTree
body_in (object ms) = sole_body (pairs ms)
body_in t = None

abbrev pub tells_told : List Variable → Option ValueTree → Bool
tells_told vs None = false
tells_told vs (Some t) = tells_body vs t

abbrev pub tells_variables : List Variable → ValueTree → Bool
tells_variables vs t = tells_told vs (body_in t)

abbrev pub initialized : InitialTree → Variable
initialized i = (i.name, Some i.sort)

-- the outputs of an InitializeVariable; where it has no variable, any
abbrev pub tells_initials : List InitialTree → ValueTree → Bool
tells_initials [] t = true
tells_initials (i ∷ is) t = tells_variables (map initialized (i ∷ is)) t

abbrev pub tells_one : List ℕ → Option Sort → ValueTree → Bool
tells_one name sort t = tells_variables ((name, sort) ∷ []) t

-- ---- all of it

-- whether the inputs of a Terminate have a run status
abbrev pub has_status : Option RunStatus → Bool
has_status (Some s) = true
has_status None = false

-- `sort` is the type of the variable that the action writes, where it writes one that another initialised
abbrev pub says : Option Sort → KindTree → Row → Bool
says sort (branch test yes' no') r = says_or_nothing (is_skipped r) is_boolean r.inputs
says sort (switch on cases) r = says_or_nothing (is_skipped r) is_text_or_number r.inputs
says sort (switch_else on cases default) r = says_or_nothing (is_skipped r) is_text_or_number r.inputs
says sort (foreach over repetitions graph) r = says_or_nothing (is_skipped r) is_few r.inputs
says sort (until test count fails graph) r = says_rounds (is_skipped r) count (told_rounds r.outputs)
says sort (terminate inputs) r = not (succeeded r) || has_status (run_status_of r.inputs)
says sort (initialize variables) r = not (succeeded r) || tells_initials variables r.outputs
says sort (set_to name value) r = not (succeeded r) || tells_one name sort r.outputs
says sort (increment name value) r = not (succeeded r) || tells_one name sort r.outputs
says sort (decrement name value) r = not (succeeded r) || tells_one name sort r.outputs
says sort (append_array name value) r = not (succeeded r) || tells_one name sort r.outputs
says sort (append_string name value) r = not (succeeded r) || tells_one name sort r.outputs
says sort kind r = true

-- a row of an action of this kind fits, where it has to be Skipped or not
abbrev pub fits_kind : Option Sort → KindTree → Bool → Row → Bool
fits_kind sort kind skipped r = (not skipped || is_skipped r) && says sort kind r
