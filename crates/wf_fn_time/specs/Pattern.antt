-- Patterns by which moments are printed (.NET, standard and custom date and time format strings; of these the ones that
-- need no culture and no zone).
use Rattle.std.specs.Prelude.{ℕ, zero, suc, Bool, true, false, ◌||◌, not, List, [], ◌∷◌, Option, Some, None, option_map, length, ◌==◌}
use Rattle.std.specs.Prelude.{codes, nat_lt, slice_get, slice_index, if◌then◌else◌}
use Rattle.std.specs.Int.{is_in_range}
use Rattle.std.specs.Str.{chars}
use Rattle.wf_fn_time.specs.declared.pattern.Field.{Field}
use Rattle.wf_fn_time.specs.declared.pattern.Part.{Part}
use Rattle.wf_fn_time.specs.declared.pattern.Part.TheVariants.{Run, Itself}

-- what the runs of a letter stand for: of one letter, of two, and so on; by the letter
abbrev pub fields_of : ℕ → List (Option Field)
fields_of letter =
    if letter == 121 then None ∷ Some Field.YearOfCentury ∷ None ∷ Some Field.Year ∷ []
    else (if letter == 77 then Some Field.Month ∷ Some Field.PaddedMonth ∷ Some Field.MonthAbbreviation ∷ Some Field.MonthName ∷ []
    else (if letter == 100 then Some Field.DayOfMonth ∷ Some Field.PaddedDay ∷ Some Field.WeekdayAbbreviation ∷ Some Field.WeekdayName ∷ []
    else (if letter == 72 then Some Field.Hour ∷ Some Field.PaddedHour ∷ []
    else (if letter == 104 then Some Field.HalfDayHour ∷ Some Field.PaddedHalfDayHour ∷ []
    else (if letter == 109 then Some Field.Minute ∷ Some Field.PaddedMinute ∷ []
    else (if letter == 115 then Some Field.Second ∷ Some Field.PaddedSecond ∷ []
    else (if letter == 102 then
    Some Field.Fraction1 ∷ Some Field.Fraction2 ∷ Some Field.Fraction3 ∷ Some Field.Fraction4
    ∷ Some Field.Fraction5 ∷ Some Field.Fraction6 ∷ Some Field.Fraction7 ∷ []
    else (if letter == 116 then None ∷ Some Field.HalfDay ∷ [] else []))))))))

abbrev pub joined_option : {X : Type 0} → Option (Option X) → Option X
joined_option (Some o) = o
joined_option None = None

-- what a run of so many more of a letter stands for
abbrev pub field_of : ℕ → ℕ → Option Field
field_of letter more = joined_option (slice_get (fields_of letter) more)

abbrev pub is_letter : ℕ → Bool
is_letter c = is_in_range 65 90 c || is_in_range 97 122 c

-- `T`, `Z` and what is neither a letter nor `"`, `\` or `%` stand for themselves
abbrev pub is_plain : ℕ → Bool
is_plain c = (c == 84) || (c == 90) || not (is_letter c || (c == 34) || (c == 92) || (c == 37))

-- how many more of a character stand in front
abbrev pub repeats : ℕ → List ℕ → ℕ
repeats c [] = 0
repeats c (d ∷ ds) = if d == c then suc (repeats c ds) else 0

abbrev pub run_part : ℕ → Option Field → Option (Part × ℕ)
run_part more (Some f) = Some (Run f, more)
run_part more None = None

-- the part that a character begins, and how many characters more it takes: within quotes it stands for itself; else it may
-- begin a run of one letter, as long as can be, that stands for a field
abbrev pub part_of : Bool → ℕ → List ℕ → Option (Part × ℕ)
part_of true c cs = Some (Itself c, 0)
part_of false c cs = if is_plain c then Some (Itself c, 0) else run_part (repeats c cs) (field_of c (repeats c cs))

abbrev pub then_parts : Option (Part × ℕ) → (ℕ → Option (List Part)) → Option (List Part)
then_parts (Some p) next = option_map (λ ps. p.0 ∷ ps) (next p.1)
then_parts None next = None

-- the parts of a pattern's characters, outside single quotes and inside, where so many characters of the last part are still
-- to pass. None where a quote isn't closed, or a character stands for nothing
abbrev pub parts_past : ℕ → Bool → List ℕ → Option (List Part)
parts_past passed true [] = None
parts_past passed false [] = Some []
parts_past (suc passed) quoted (c ∷ cs) = parts_past passed quoted cs
parts_past zero quoted (c ∷ cs) =
    if c == 39 then parts_past 0 (not quoted) cs else then_parts (part_of quoted c cs) (λ more. parts_past more quoted cs)

abbrev pub default_pattern : List ℕ
default_pattern = codes "yyyy-MM-ddTHH:mm:ss.fffffffZ"

-- what the patterns of one character are short for
abbrev pub standard : ℕ → Option (List ℕ)
standard b =
    if (b == 111) || (b == 79) then Some default_pattern
    else (if b == 68 then Some (codes "dddd, MMMM d, yyyy")
    else (if b == 115 then Some (codes "yyyy-MM-ddTHH:mm:ss")
    else (if b == 117 then Some (codes "yyyy-MM-dd HH:mm:ssZ")
    else (if (b == 114) || (b == 82) then Some (codes "ddd, dd MMM yyyy HH:mm:ss 'GMT'") else None))))

-- a pattern in full: one of one character is short for another, or refused; so is the empty one
abbrev pub in_full : List ℕ → Option (List ℕ)
in_full s =
    if length s == 1 then standard (slice_index s 0)
    else (if nat_lt (length (chars s)) 2 then None else Some s)

abbrev pub parts_in_full : Option (List ℕ) → Option (List Part)
parts_in_full (Some s) = parts_past 0 false (chars s)
parts_in_full None = None

-- the parts of a pattern; none where it is refused
abbrev pub parts_of : List ℕ → Option (List Part)
parts_of pattern = parts_in_full (in_full pattern)
