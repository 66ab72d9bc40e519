-- Lines at worked values.
use Rattle.std.proofs.Common.{◌≡◌, [], ◌∷◌, codes, refl}
use Rattle.wf_lines.specs.Lines.{line_length, lines_of, without_return}

-- ---- lines

no_bytes : lines_of [] ≡ []
no_bytes = refl

one_feed : lines_of (codes "\n") ≡ [] ∷ []
one_feed = refl

no_feed : lines_of (codes "ab") ≡ codes "ab" ∷ []
no_feed = refl

-- the line feed of the last line changes nothing
last_feed : lines_of (codes "a\nbc\n") ≡ codes "a" ∷ codes "bc" ∷ []
last_feed = refl

no_last_feed : lines_of (codes "a\nbc") ≡ codes "a" ∷ codes "bc" ∷ []
no_last_feed = refl

-- empty lines count, in front, between and at the end
empty_lines : lines_of (codes "\na\n\nb\n\n") ≡ [] ∷ codes "a" ∷ [] ∷ codes "b" ∷ [] ∷ []
empty_lines = refl

-- a carriage return ends no line
returns_alone : lines_of (97 ∷ 13 ∷ 98 ∷ 13 ∷ 10 ∷ 99 ∷ []) ≡ (97 ∷ 13 ∷ 98 ∷ 13 ∷ []) ∷ (99 ∷ []) ∷ []
returns_alone = refl

-- nor does any other byte near a line feed
others_alone : lines_of (9 ∷ 11 ∷ []) ≡ (9 ∷ 11 ∷ []) ∷ []
others_alone = refl

length-of_nothing : line_length [] ≡ 0
length-of_nothing = refl

length-to_the_feed : line_length (codes "ab\nc\n") ≡ 2
length-to_the_feed = refl

length-to_the_end : line_length (codes "abc") ≡ 3
length-to_the_end = refl

-- ---- the end of a line

return-dropped : without_return (97 ∷ 13 ∷ []) ≡ 97 ∷ []
return-dropped = refl

-- one of two
return-one : without_return (97 ∷ 13 ∷ 13 ∷ []) ≡ 97 ∷ 13 ∷ []
return-one = refl

return-alone : without_return (13 ∷ []) ≡ []
return-alone = refl

return-inside : without_return (97 ∷ 13 ∷ 98 ∷ []) ≡ 97 ∷ 13 ∷ 98 ∷ []
return-inside = refl

return-none : without_return [] ≡ []
return-none = refl

-- the bytes beside a carriage return stay
return-other : without_return (97 ∷ 12 ∷ []) ≡ 97 ∷ 12 ∷ []
return-other = refl

return-blank : without_return (97 ∷ 14 ∷ []) ≡ 97 ∷ 14 ∷ []
return-blank = refl
