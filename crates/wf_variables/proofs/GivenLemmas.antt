-- The value that outputs give a variable is found by its name.
use Rattle.std.proofs.Common.{◌≡◌, ℕ, List, Bool, true, Some, None, refl, ap}
use Rattle.std.specs.Prelude.{codes, bytes_eq, if◌then◌else◌}
use Rattle.std.proofs.lemmas.Slice.Eq.{bytes_eq-Decides}
use Rattle.wf_val.specs.ValueTree.{ValueTree}
use Rattle.wf_data.specs.Made.{one_member}
use Rattle.wf_variables.specs.Given.{gives}
use Rattle.wf_variables.specs.Initials.{given_item}

same-name : (k : List ℕ) → bytes_eq k k ≡ true
same-name k = (bytes_eq-Decides k k).1 refl

pub given-found : (k : List ℕ) (v : ValueTree) → gives k (one_member (codes "body") (given_item k v)) ≡ Some v
given-found k v = ap (λ (b : Bool). if b then Some v else None) (same-name k)
