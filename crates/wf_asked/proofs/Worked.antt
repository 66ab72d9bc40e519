-- What is asked, at worked values: each kind of value, and names and numbers at the ends of their ranges.
use Rattle.std.proofs.Common.{◌≡◌, ◌^◌, ◌-◌, ℕ, zero, suc, List, [], ◌∷◌, map, true, false, pos, negsuc, refl}
use Rattle.std.specs.Prelude.{codes, ⊤}
use Rattle.std.specs.Str.{chars}
use Rattle.wf_asked.specs.Asked.{is_index, is_list, is_name, is_null, is_number, is_text, is_within}
use Rattle.wf_val.specs.ValueTree.{ValueTree, null, boolean, number, text, list, object, trees, members}

-- what a row unfolds to be computed
unfoldable on_literals : ⊤
unfolding chars
on_literals = tt

-- a value of each kind: null, a boolean, a number from 0, one below, a text, a list, an object
abbrev of_each_kind : List ValueTree
of_each_kind =
    null ∷ boolean false ∷ number (pos 0) ∷ number (negsuc 0) ∷ text [] ∷ list (trees []) ∷ object (members []) ∷ []

nulls : map is_null of_each_kind ≡ true ∷ false ∷ false ∷ false ∷ false ∷ false ∷ false ∷ []
nulls = refl

numbers : map is_number of_each_kind ≡ false ∷ false ∷ true ∷ true ∷ false ∷ false ∷ false ∷ []
numbers = refl

indexes : map is_index of_each_kind ≡ false ∷ false ∷ true ∷ false ∷ false ∷ false ∷ false ∷ []
indexes = refl

texts : map is_text of_each_kind ≡ false ∷ false ∷ false ∷ false ∷ true ∷ false ∷ false ∷ []
texts = refl

lists : map is_list of_each_kind ≡ false ∷ false ∷ false ∷ false ∷ false ∷ true ∷ false ∷ []
lists = refl

names : map (is_name 80) of_each_kind ≡ false ∷ false ∷ false ∷ false ∷ false ∷ false ∷ false ∷ []
unfolding on_literals
names = refl

ranges : map (is_within 0 91) of_each_kind ≡ false ∷ false ∷ true ∷ false ∷ false ∷ false ∷ false ∷ []
ranges = refl

-- ---- numbers

within-least : is_within 100 599 (number (pos 100)) ≡ true
within-least = refl

within-below : is_within 100 599 (number (pos 99)) ≡ false
within-below = refl

within-most : is_within 100 599 (number (pos 599)) ≡ true
within-most = refl

within-above : is_within 100 599 (number (pos 600)) ≡ false
within-above = refl

index-greatest : is_index (number (pos (2 ^ 63 - 1))) ≡ true
index-greatest = refl

-- ---- names

-- so many letters
abbrev letters : ℕ → List ℕ
letters zero = []
letters (suc n) = 97 ∷ letters n

name-one : is_name 3 (text (letters 1)) ≡ true
unfolding on_literals
name-one = refl

name-most : is_name 3 (text (letters 3)) ≡ true
unfolding on_literals
name-most = refl

name-longer : is_name 3 (text (letters 4)) ≡ false
unfolding on_literals
name-longer = refl

-- by characters and not by bytes: three times the two bytes of an e with an accent
name-by_characters : is_name 3 (text (195 ∷ 169 ∷ 195 ∷ 169 ∷ 195 ∷ 169 ∷ [])) ≡ true
unfolding on_literals
name-by_characters = refl

name-of_a_blank : is_name 3 (text (codes " ")) ≡ true
unfolding on_literals
name-of_a_blank = refl

-- U+001F, U+007E, U+007F and U+0080, the last of which is no control character here
name-below_a_blank : is_name 3 (text (31 ∷ [])) ≡ false
unfolding on_literals
name-below_a_blank = refl

name-tilde : is_name 3 (text (126 ∷ [])) ≡ true
unfolding on_literals
name-tilde = refl

name-delete : is_name 3 (text (97 ∷ 127 ∷ [])) ≡ false
unfolding on_literals
name-delete = refl

name-behind_delete : is_name 3 (text (194 ∷ 128 ∷ [])) ≡ true
unfolding on_literals
name-behind_delete = refl

name-line_feed : is_name 3 (text (97 ∷ 10 ∷ [])) ≡ false
unfolding on_literals
name-line_feed = refl
