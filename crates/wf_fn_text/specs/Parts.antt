-- Parts of a text between two places; places count characters, Unicode scalar values (Workflow Definition Language,
-- string functions substring and slice).
use Rattle.std.specs.Prelude.{ℕ, suc, ◌+◌, ◌-◌, min, ℤ, pos, negsuc, List, Option, Some, None, Err, length, take, drop, nat_le}
use Rattle.std.specs.Prelude.{if◌then◌else◌}
use Rattle.std.specs.Str.{chars, encode_utf8_all}
use Rattle.wf_val.specs.Arguments.{Answer, given, text_at, number_at, optional_number_at, bounded}
use Rattle.wf_val.specs.ValueTree.{ValueTree, text}
use Rattle.wf_val.specs.declared.fault.EvalFault.{EvalFault}
use Rattle.wf_val.specs.declared.function.Fun.{Fun}

-- so many characters of a text from a place on
abbrev pub part : ℕ → ℕ → List ℕ → List ℕ
part start count s = encode_utf8_all (take count (drop start (chars s)))

-- a start and a count, to the end where none is given, that lie within n characters
abbrev pub span : ℤ → Option ℤ → ℕ → Option (ℕ × ℕ)
span (pos a) None n = if nat_le a n then Some (a, n - a) else None
span (pos a) (Some (pos l)) n = if nat_le (a + l) n then Some (a, l) else None
span (pos a) (Some (negsuc l)) n = None
span (negsuc a) count n = None

abbrev pub part_or_range : Fun → List ℕ → Option (ℕ × ℕ) → Answer
part_or_range f s (Some p) = bounded (text (part p.0 p.1 s))
part_or_range f s None = Err (EvalFault.Range f)

-- the part from a start on; `Range` where it doesn't lie within the text
abbrev pub substring_row : List ValueTree → Answer
substring_row ts =
    given (text_at Fun.Substring ts 0) (λ s. given (number_at Fun.Substring ts 1) (λ start. given
    (optional_number_at Fun.Substring ts 2) (λ count.
    part_or_range Fun.Substring s (span start count (length (chars s))))))

-- a place, counted from the end where it is below 0, and cut to n characters
abbrev pub place_within : ℤ → ℕ → ℕ
place_within (pos i) n = min i n
place_within (negsuc i) n = n - suc i

abbrev pub end_within : Option ℤ → ℕ → ℕ
end_within (Some e) n = place_within e n
end_within None n = n

-- the part from a place up to another, left out; empty where that isn't behind the first
abbrev pub slice_row : List ValueTree → Answer
slice_row ts =
    given (text_at Fun.Slice ts 0) (λ s. given (number_at Fun.Slice ts 1) (λ start. given (optional_number_at Fun.Slice ts 2) (λ end.
    bounded (text (part (place_within start (length (chars s))) (end_within end (length (chars s)) - place_within start (length
    (chars s))) s)))))
