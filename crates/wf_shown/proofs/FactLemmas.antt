-- Objects without members.
use Rattle.std.proofs.Common.{◌≡◌, List, [], ◌∷◌, length, nat_eq, refl, arith}
use Rattle.wf_val.specs.ValueTree.{Member, members, object}
use Rattle.wf_shown.specs.Facts.{is_bare}

pub bare_by_length : (ms : List Member) → nat_eq (length ms) 0 ≡ is_bare (object (members ms))
bare_by_length [] = refl
bare_by_length (m ∷ ms) = grind arith
