-- The text of an instance.
use Rattle.std.proofs.Common.{◌≡◌, ℕ, List, [], append-nil}
use Rattle.wf_val.specs.Address.{address_text}

-- outside of loops it is the name
pub outside_of_loops : (name : List ℕ) → address_text (record { name = name; at = [] }) ≡ name
outside_of_loops name = append-nil name
