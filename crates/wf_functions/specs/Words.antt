-- WORDS, from which identifiers and random numbers are made.
use Rattle.std.specs.Prelude.{ℕ, List, [], ◌∷◌, ◌++◌, decimal}
use Rattle.sha2.specs.Sha256.{sha256}

-- the word of a number: SHA-256 (FIPS 180-4) of the seed, a zero byte, the place, a zero byte and the number in decimal
abbrev pub word_of : List ℕ → List ℕ → ℕ → List ℕ
word_of seed place n = sha256 (seed ++ (0 ∷ []) ++ place ++ (0 ∷ []) ++ decimal n)
