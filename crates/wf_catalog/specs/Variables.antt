-- The numbers of variables, by which a run keeps who wrote last.
use Rattle.std.specs.Prelude.{ℕ, suc, List, [], ◌∷◌, Option, Some, None, bytes_eq, flat_map, if◌then◌else◌}
use Rattle.wf_def.specs.ActionTree.{ActionTree, action_kind}
use Rattle.wf_def.specs.AllActions.{all_actions, numbered}
use Rattle.wf_def.specs.DefTree.{DefTree}
use Rattle.wf_meant.specs.Sites.{writes_of}

-- the names of the variables that actions write, as often as they are written
abbrev pub written_names : List ActionTree → List (List ℕ)
written_names as' = flat_map (λ a. writes_of (action_kind a)) as'

-- where a name stands first among those from place i on
abbrev pub first_place : ℕ → List (List ℕ) → List ℕ → Option ℕ
first_place i [] k = None
first_place i (n ∷ ns) k = if bytes_eq k n then Some i else first_place (suc i) ns k

-- each with its place, from place i on
abbrev pub numbered_from : ℕ → List (List ℕ) → List (List ℕ × ℕ)
numbered_from i [] = []
numbered_from i (n ∷ ns) = (n, i) ∷ numbered_from (suc i) ns

-- The number of a variable: where its name stands first. What no action writes is no variable.
abbrev pub variable_number : DefTree → List ℕ → Option ℕ
variable_number d k = first_place 0 (written_names (all_actions d.top)) k

abbrev pub listed : Option ℕ → List ℕ
listed None = []
listed (Some n) = n ∷ []

-- of several names the numbers, as far as they have one
abbrev pub numbers_by : (List ℕ → Option ℕ) → List (List ℕ) → List ℕ
numbers_by number ks = flat_map (λ k. listed (number k)) ks

-- the numbers of the variables that an action writes
abbrev pub numbers_of : DefTree → Option ActionTree → List ℕ
numbers_of d None = []
numbers_of d (Some a) = numbers_by (variable_number d) (writes_of (action_kind a))

abbrev pub written : DefTree → ℕ → List ℕ
written d n = numbers_of d (numbered n d.top)
