-- The options that `operationOptions` lists: words between commas, without letter case, and perhaps with blanks round them.
use Rattle.std.specs.Prelude.{ℕ, Bool, true, false, ◌&&◌, ◌||◌, ◌==◌, List, [], ◌∷◌, length, take, drop, if◌then◌else◌}
use Rattle.std.specs.Str.{str_eq_ignore_ascii_case}

-- up to the first comma
abbrev pub first_piece : List ℕ → List ℕ
first_piece [] = []
first_piece (b ∷ bs) = if b == 44 then [] else b ∷ first_piece bs

-- without the blanks at the front
abbrev pub behind_blanks : List ℕ → List ℕ
behind_blanks [] = []
behind_blanks (b ∷ bs) = if b == 32 then behind_blanks bs else b ∷ bs

abbrev pub is_blank : List ℕ → Bool
is_blank [] = true
is_blank (b ∷ bs) = (b == 32) && is_blank bs

-- the word, and nothing but blanks behind it
abbrev pub is_word_and_blanks : List ℕ → List ℕ → Bool
is_word_and_blanks word s = str_eq_ignore_ascii_case (take (length word) s) word && is_blank (drop (length word) s)

-- a text begins with a piece that is the word
abbrev pub begins_with_option : List ℕ → List ℕ → Bool
begins_with_option word s = is_word_and_blanks word (behind_blanks (first_piece s))

-- and so does what is behind some comma
abbrev pub has_later_option : List ℕ → List ℕ → Bool
has_later_option word [] = false
has_later_option word (b ∷ bs) = ((b == 44) && begins_with_option word bs) || has_later_option word bs

-- the text lists the word
abbrev pub lists_option : List ℕ → List ℕ → Bool
lists_option word s = begins_with_option word s || has_later_option word s
