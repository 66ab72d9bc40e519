-- Where there are two parts or more, there isn't just one.
use Rattle.std.proofs.Common.{◌≡◌, ◌≤◌, ℕ, List, [], ◌∷◌, length, map, false, ap, arith}
use Rattle.wf_val.specs.Seen.{member}
use Rattle.wf_val.specs.ValueTree.{Member, members}
use Rattle.wf_val.specs.declared.val.Val.{Val}
use Rattle.wf_kinds.specs.Conditions.{is_one_operation}

pub many_operations : (xs : List (List ℕ × Val)) (ms : List Member) → map member xs ≡ ms → 2 ≤ length xs
    → false ≡ is_one_operation (members ms)
many_operations [] ms is many = absurd (omega arith)
many_operations (x ∷ []) ms is many = absurd (omega arith)
many_operations (x ∷ y ∷ xs) ms is many = ap (λ ns. is_one_operation (members ns)) is
