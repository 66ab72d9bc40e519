-- What an escaped text is, said in another way.
use Rattle.std.specs.Prelude.{◌≡◌, ℕ, Bool, true, ◌||◌, List, [], ◌∷◌}
use Rattle.std.specs.Int.{is_in_range}
use Rattle.wf_fn_uri.specs.Escapes.{is_unreserved}

-- a hexadecimal digit as escapes write it: `0` to `9`, `A` to `F`
abbrev pub is_upper_hex : ℕ → Bool
is_upper_hex b = is_in_range 48 57 b || is_in_range 65 70 b

-- a text of unreserved characters and of escapes, `%` and two hexadecimal digits
pub data IsEscaped : List ℕ → Type 0 where
  nothing : IsEscaped []
  itself : (b : ℕ) (rest : List ℕ) → is_unreserved b ≡ true → IsEscaped rest → IsEscaped (b ∷ rest)
  escape : (high low : ℕ) (rest : List ℕ) → is_upper_hex high ≡ true → is_upper_hex low ≡ true → IsEscaped rest
      → IsEscaped (37 ∷ high ∷ low ∷ rest)
