-- Bytes that come one by one: the lines that a line feed has ended, and the bytes of the line that none has ended yet.
use Rattle.std.specs.Prelude.{ℕ, List, [], ◌∷◌, cond, nat_eq}

abbrev pub onto_first : ℕ → List (List ℕ) → List (List ℕ)
onto_first b [] = []
onto_first b (line ∷ lines) = (b ∷ line) ∷ lines

-- the lines that a line feed ends, without it
abbrev pub whole_lines : List ℕ → List (List ℕ)
whole_lines [] = []
whole_lines (b ∷ bytes) = cond (nat_eq b 10) ([] ∷ whole_lines bytes) (onto_first b (whole_lines bytes))

-- a byte belongs to the rest where no line feed comes behind it
abbrev pub onto_rest : ℕ → List (List ℕ) → List ℕ → List ℕ
onto_rest b [] rest = b ∷ rest
onto_rest b (line ∷ lines) rest = rest

-- the bytes behind the last line feed
abbrev pub rest_of : List ℕ → List ℕ
rest_of [] = []
rest_of (b ∷ bytes) = cond (nat_eq b 10) (rest_of bytes) (onto_rest b (whole_lines bytes) (rest_of bytes))

-- a line that no line feed ends: none where it has no bytes
abbrev pub unended : List ℕ → List (List ℕ)
unended [] = []
unended (b ∷ rest) = (b ∷ rest) ∷ []
