-- What is found of the variables that are asked for.
use Rattle.std.specs.Prelude.{◌≡◌, ℕ, List, Option}
use Rattle.std.specs.List.{AllByRecursion}
use Rattle.wf_val.specs.ValueTree.{ValueTree}
use Rattle.wf_val.specs.declared.function.Fun.{Fun}
use Rattle.wf_views.specs.Told.{Told}
use Rattle.wf_views.specs.Uses.{Use, names}

abbrev pub WhereVariable : (List ℕ → Type 0) → Use → Type 0
WhereVariable Holds (names Fun.Variables k) = Holds k
WhereVariable Holds asked = Unit {0}

-- the values found are those told, of each variable that is asked for
abbrev pub FindsTold : (List ℕ → Option ValueTree) → Told → List Use → Type 0
FindsTold found l us = AllByRecursion (WhereVariable (λ k. found k ≡ l.variable k)) us
