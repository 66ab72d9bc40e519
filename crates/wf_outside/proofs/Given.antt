-- A front of what is left is given, and the place moves behind it.
use Rattle.std.proofs.Common.{◌≡◌, ◌<◌, ℕ, ◌+◌, min, List, [], ◌++◌, length, take, drop, arith}
use Rattle.std.proofs.lemmas.List.{take-append-drop, drop-drop}
use Rattle.std.proofs.lemmas.Grind.{common_steps}

-- what was left is the front that was given, and what is left now
pub given_front : (bytes front : List ℕ) (place count : ℕ) → take count front ≡ take count (drop place bytes) →
    drop place bytes ≡ take count front ++ drop (place + count) bytes
given_front bytes front place count same = cc (same, take-append-drop count (drop place bytes), drop-drop count place bytes)

-- where nothing fits into some room, nothing was left
pub given_nothing : (bytes : List ℕ) (place count room : ℕ) → count ≡ min room (length (drop place bytes)) → count ≡ 0 → 0 < room →
    drop (place + count) bytes ≡ []
given_nothing bytes place count room fits none some = grind (arith, common_steps)
