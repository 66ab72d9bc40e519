-- The least of pointers, said of what is answered.
use Rattle.std.specs.Prelude.{◌≡◌, ℕ, List, [], Option, Some, None}
use Rattle.wf_json.specs.Pointer.{IsLeast}

-- it is one of them and none of them is below it; or it is none, and there are none
abbrev pub IsLeastOf : List (List ℕ) → Option (List ℕ) → Type 0
IsLeastOf ps None = ps ≡ []
IsLeastOf ps (Some p) = IsLeast ps p
