-- Values of functions on timestamps, of a moment and of words, at worked calls, where a reader can work them out: the moment and the
-- argument that each takes, each form and bound, and the bytes of which a word is made. A SHA-256 itself doesn't compute here.
use lib.Utf8.{encode}
use Rattle.std.proofs.Common.{◌≡◌, ℕ, ◌-◌, ◌^◌, refl, List, [], ◌∷◌, Ok, Err}
use Rattle.std.specs.Prelude.{ℤ, pos, negsuc, codes, decimal}
use Rattle.std.specs.Str.{chars}
use Rattle.jiff_core.specs.Calendar.{days_of_months}
use Rattle.sha2.specs.Sha256.{sha256}
use Rattle.uuid.specs.Text.{by_index}
use Rattle.wf_val.specs.Arguments.{Answer}
use Rattle.wf_val.specs.ValueTree.{ValueTree, number, text}
use Rattle.wf_val.specs.declared.fault.EvalFault.{EvalFault}
use Rattle.wf_val.specs.declared.function.Fun.{Fun}
use Rattle.wf_fn_time.specs.Calendar.{day_at, days_of_first_years}
use Rattle.wf_functions.specs.declared.draw.Draw.{Draw}
use Rattle.wf_functions.specs.declared.draw.GuidForm.{GuidForm}
use Rattle.wf_functions.specs.Draws.{draw_of, made}
use Rattle.wf_functions.specs.Rows.{strict_row}
use Rattle.wf_functions.specs.Timed.{timed_row}
use Rattle.wf_functions.specs.Words.{word_of}

-- 0001-01-01T01:00:00Z
abbrev at_one : Fun → List ValueTree → Answer
at_one f ts = timed_row f (pos 36000000000) ts

abbrev int : ℤ → ValueTree
int n = number n

abbrev word : List ℕ → ValueTree
word s = text s

-- ---- functions on timestamps

addDays-of_a_day : strict_row Fun.AddDays (word (codes "0003-02-28") ∷ int (pos 1) ∷ []) ≡ Ok (text (codes "0003-03-01T00:00:00.0000000Z"))
unfolding chars encode day_at days_of_first_years days_of_months
addDays-of_a_day = refl

startOfHour-of_a_time :
    strict_row Fun.StartOfHour (word (codes "0001-01-01T02:03Z") ∷ word (codes "u") ∷ [])
    ≡ Ok (text (codes "0001-01-01 02:00:00Z"))
unfolding chars encode day_at days_of_first_years days_of_months
startOfHour-of_a_time = refl

ticks-of_a_time : strict_row Fun.Ticks (word (codes "0001-01-01T00:00:01Z") ∷ []) ≡ Ok (number (pos 10000000))
unfolding chars encode day_at days_of_first_years days_of_months
ticks-of_a_time = refl

-- ---- functions of a moment

utcNow-by_default : at_one Fun.UtcNow ([]) ≡ Ok (text (codes "0001-01-01T01:00:00.0000000Z"))
unfolding chars encode day_at days_of_first_years days_of_months
utcNow-by_default = refl

utcNow-by_a_pattern : at_one Fun.UtcNow (word (codes "yyyy-MM-dd HH") ∷ []) ≡ Ok (text (codes "0001-01-01 01"))
unfolding chars encode day_at days_of_first_years days_of_months
utcNow-by_a_pattern = refl

utcNow-pattern : at_one Fun.UtcNow (word (codes "q") ∷ []) ≡ Err (EvalFault.BadText Fun.UtcNow)
unfolding chars encode day_at days_of_first_years days_of_months
utcNow-pattern = refl

getFutureTime-later : at_one Fun.GetFutureTime (int (pos 1) ∷ word (codes "Day") ∷ []) ≡ Ok (text (codes "0001-01-02T01:00:00.0000000Z"))
unfolding chars encode day_at days_of_first_years days_of_months
getFutureTime-later = refl

getFutureTime-by_a_pattern : at_one Fun.GetFutureTime (int (pos 2) ∷ word (codes "hour") ∷ word (codes "HH") ∷ []) ≡ Ok (text (codes "03"))
unfolding chars encode day_at days_of_first_years days_of_months
getFutureTime-by_a_pattern = refl

getFutureTime-below_0 :
    at_one Fun.GetFutureTime (int (negsuc 0) ∷ word (codes "Hour") ∷ [])
    ≡ Ok (text (codes "0001-01-01T00:00:00.0000000Z"))
unfolding chars encode day_at days_of_first_years days_of_months
getFutureTime-below_0 = refl

getFutureTime-before_year_1 : at_one Fun.GetFutureTime (int (negsuc 1) ∷ word (codes "Hour") ∷ []) ≡ Err (EvalFault.Range Fun.GetFutureTime)
unfolding chars encode day_at days_of_first_years days_of_months
getFutureTime-before_year_1 = refl

getFutureTime-no_unit : at_one Fun.GetFutureTime (int (pos 1) ∷ word (codes "Days") ∷ []) ≡ Err (EvalFault.Range Fun.GetFutureTime)
unfolding chars encode day_at days_of_first_years days_of_months
getFutureTime-no_unit = refl

getFutureTime-pattern_first :
    at_one Fun.GetFutureTime (int (pos 1) ∷ word (codes "Days") ∷ word (codes "q") ∷ [])
    ≡ Err (EvalFault.BadText Fun.GetFutureTime)
unfolding chars encode day_at days_of_first_years days_of_months
getFutureTime-pattern_first = refl

-- the types are judged from left to right, so a unit that is no text comes before such a pattern
getFutureTime-unit_is_no_text : at_one Fun.GetFutureTime (int (pos 1) ∷ int (pos 2) ∷ int (pos 3) ∷ [])
    ≡ Err (EvalFault.WrongType Fun.GetFutureTime 2)
getFutureTime-unit_is_no_text = refl

getPastTime-unit_is_no_text : at_one Fun.GetPastTime (int (pos 1) ∷ int (pos 2) ∷ int (pos 3) ∷ [])
    ≡ Err (EvalFault.WrongType Fun.GetPastTime 2)
getPastTime-unit_is_no_text = refl

getFutureTime-number_is_none : at_one Fun.GetFutureTime (word (codes "1") ∷ int (pos 2) ∷ [])
    ≡ Err (EvalFault.WrongType Fun.GetFutureTime 1)
getFutureTime-number_is_none = refl

getFutureTime-pattern_is_no_text :
    at_one Fun.GetFutureTime (int (pos 1) ∷ word (codes "Days") ∷ int (pos 3) ∷ [])
    ≡ Err (EvalFault.WrongType Fun.GetFutureTime 3)
getFutureTime-pattern_is_no_text = refl

getPastTime-earlier : at_one Fun.GetPastTime (int (pos 30) ∷ word (codes "Minute") ∷ []) ≡ Ok (text (codes "0001-01-01T00:30:00.0000000Z"))
unfolding chars encode day_at days_of_first_years days_of_months
getPastTime-earlier = refl

getPastTime-below_0 : at_one Fun.GetPastTime (int (negsuc 0) ∷ word (codes "Month") ∷ []) ≡ Ok (text (codes "0001-02-01T01:00:00.0000000Z"))
unfolding chars encode day_at days_of_first_years days_of_months
getPastTime-below_0 = refl

getPastTime-before_year_1 : at_one Fun.GetPastTime (int (pos 1) ∷ word (codes "Day") ∷ []) ≡ Err (EvalFault.Range Fun.GetPastTime)
unfolding chars encode day_at days_of_first_years days_of_months
getPastTime-before_year_1 = refl

getPastTime-farthest : at_one Fun.GetPastTime (int (negsuc (2 ^ 63 - 1)) ∷ word (codes "Year") ∷ []) ≡ Err (EvalFault.Range Fun.GetPastTime)
unfolding chars encode day_at days_of_first_years days_of_months
getPastTime-farthest = refl

-- ---- what is to be made of a word: the bounds of `rand` are judged from left to right

rand-neither_is_a_number : draw_of Fun.Rand (word (codes "x") ∷ word (codes "y") ∷ []) ≡ Err (EvalFault.WrongType Fun.Rand 1)
rand-neither_is_a_number = refl

rand-least_is_no_number : draw_of Fun.Rand (word (codes "x") ∷ int (pos 1) ∷ []) ≡ Err (EvalFault.WrongType Fun.Rand 1)
rand-least_is_no_number = refl

rand-end_is_no_number : draw_of Fun.Rand (int (pos 1) ∷ word (codes "y") ∷ []) ≡ Err (EvalFault.WrongType Fun.Rand 2)
rand-end_is_no_number = refl

-- ---- a word: of the seed, the place and the number itself, with a zero byte between

word-of_a_number : word_of (codes "s") (codes "A") 7 ≡ sha256 (115 ∷ 0 ∷ 65 ∷ 0 ∷ decimal 7)
word-of_a_number = refl

word-of_no_seed : word_of [] (codes "A") 0 ≡ sha256 (0 ∷ 65 ∷ 0 ∷ decimal 0)
word-of_no_seed = refl

-- ---- what is made of a word

abbrev counting : List ℕ
counting =
    0 ∷ 1 ∷ 2 ∷ 3 ∷ 4 ∷ 5 ∷ 6 ∷ 7 ∷ 8 ∷ 9 ∷ 10 ∷ 11 ∷ 12 ∷ 13 ∷ 14 ∷ 15 ∷ 16 ∷ 17 ∷ 18 ∷ 19 ∷ 20 ∷ 21 ∷ 22 ∷ 23 ∷ 24 ∷ 25 ∷ 26 ∷ 27 ∷ 28
    ∷ 29 ∷ 30 ∷ 31 ∷ []

abbrev ones : List ℕ
ones =
    255 ∷ 255 ∷ 255 ∷ 255 ∷ 255 ∷ 255 ∷ 255 ∷ 255 ∷ 255 ∷ 255 ∷ 255 ∷ 255 ∷ 255 ∷ 255 ∷ 255 ∷ 255 ∷ []

made-Dashed-counting : made (Draw.Guid GuidForm.Dashed) counting ≡ text (codes "00010203-0405-4607-8809-0a0b0c0d0e0f")
unfolding by_index
made-Dashed-counting = refl

made-Digits-counting : made (Draw.Guid GuidForm.Digits) counting ≡ text (codes "000102030405460788090a0b0c0d0e0f")
unfolding by_index
made-Digits-counting = refl

made-Braced-counting : made (Draw.Guid GuidForm.Braced) counting ≡ text (codes "{00010203-0405-4607-8809-0a0b0c0d0e0f}")
unfolding by_index
made-Braced-counting = refl

made-Parenthesized-counting : made (Draw.Guid GuidForm.Parenthesized) counting ≡ text (codes "(00010203-0405-4607-8809-0a0b0c0d0e0f)")
unfolding by_index
made-Parenthesized-counting = refl

made-Dashed-ones : made (Draw.Guid GuidForm.Dashed) ones ≡ text (codes "ffffffff-ffff-4fff-bfff-ffffffffffff")
unfolding by_index
made-Dashed-ones = refl

made-number-first_byte_highest : made (Draw.Number (pos 0, pos 10)) counting ≡ number (pos 3)
made-number-first_byte_highest = refl

made-number-from_the_least : made (Draw.Number (negsuc 9, pos 0)) counting ≡ number (negsuc 6)
made-number-from_the_least = refl

made-number-one : made (Draw.Number (pos 4, pos 5)) ones ≡ number (pos 4)
made-number-one = refl

made-number-widest : made (Draw.Number (negsuc (2 ^ 63 - 1), pos (2 ^ 63 - 1))) ones ≡ number (negsuc (2 ^ 63 - 1))
made-number-widest = refl

made-number-widest_again : made (Draw.Number (negsuc (2 ^ 63 - 1), pos (2 ^ 63 - 1))) counting ≡ number (negsuc (9223088349902469624))
made-number-widest_again = refl
