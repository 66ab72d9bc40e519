-- Attempts that wait for their answers, and the lines that tell of them.
use Rattle.std.specs.Prelude.{ℕ, List, [], ◌∷◌, ◌++◌, Bool, true, false, not, codes, decimal, filter, flat_map}
use Rattle.std.specs.List.{list_any}
use Rattle.std.specs.Ordering.{is_eq}
use Rattle.wf_answers.specs.AnswerTree.{Key, key_cmp}
use Rattle.wf_val.specs.Address.{address_text}

abbrev pub is_empty : List Key → Bool
is_empty [] = true
is_empty (k ∷ keys) = false

abbrev pub is_among : Key → List Key → Bool
is_among k keys = list_any (λ j. is_eq (key_cmp k j)) keys

-- those of the keys that weren't among earlier ones
abbrev pub fresh : List Key → List Key → List Key
fresh earlier keys = filter (λ k. not (is_among k earlier)) keys

-- the text of the address, and the number of the attempt
abbrev pub key_words : Key → List ℕ
key_words k = address_text k.0 ++ (32 ∷ decimal k.1)

-- a word of the talk, and an attempt
abbrev pub key_line : List ℕ → Key → List ℕ
key_line word k = word ++ (key_words k ++ 10 ∷ [])

-- a line for each attempt that waits now and didn't wait before
abbrev pub want_lines : List Key → List ℕ
want_lines keys = flat_map (key_line (codes "# want ")) keys

-- a line for each attempt that still waits at the end
abbrev pub open_lines : List Key → List ℕ
open_lines keys = flat_map (key_line (codes "# open ")) keys
