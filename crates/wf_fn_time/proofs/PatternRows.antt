-- Patterns at chosen moments: each run, each pattern of one character, quotes, and what is refused.
use lib.Utf8.{encode}
use Rattle.std.proofs.Common.{◌≡◌, ℕ, List, Option, refl, Some, None, [], ◌∷◌}
use Rattle.std.specs.Prelude.{codes, option_map}
use Rattle.std.specs.Str.{chars}
use Rattle.wf_fn_time.specs.Pattern.{parts_of}
use Rattle.wf_fn_time.specs.Printing.{printed}
use Rattle.wf_fn_time.specs.declared.clock.Clock.{Clock}

-- 2024-05-01T09:08:07.0123456Z
abbrev morning : Clock
morning = record {
  day = record { year = 2024; month = 5; day = 1 };
  weekday = 3;
  hour = 9;
  minute = 8;
  second = 7;
  fraction = 123456;
}

-- 0907-12-10T00:00:00Z
abbrev midnight : Clock
midnight = record {
  day = record { year = 907; month = 12; day = 10 };
  weekday = 6;
  hour = 0;
  minute = 0;
  second = 0;
  fraction = 0;
}

-- 2000-11-25T12:34:56.9999999Z
abbrev noon : Clock
noon = record {
  day = record { year = 2000; month = 11; day = 25 };
  weekday = 6;
  hour = 12;
  minute = 34;
  second = 56;
  fraction = 9999999;
}

-- 1999-02-28T23:59:09.1000000Z
abbrev evening : Clock
evening = record {
  day = record { year = 1999; month = 2; day = 28 };
  weekday = 0;
  hour = 23;
  minute = 59;
  second = 9;
  fraction = 1000000;
}

-- 0007-01-01T00:00:00Z
abbrev first_years : Clock
first_years = record {
  day = record { year = 7; month = 1; day = 1 };
  weekday = 1;
  hour = 0;
  minute = 0;
  second = 0;
  fraction = 0;
}

-- what a pattern prints; none where it is refused
abbrev by : List ℕ → Clock → Option (List ℕ)
by pattern c = option_map (printed c) (parts_of pattern)

pattern-yyyy : by (codes "'a'yyyy") midnight ≡ Some (codes "a0907")
unfolding chars encode
pattern-yyyy = refl

pattern-yy_of_the_first_years : by (codes "yy yyyy") first_years ≡ Some (codes "07 0007")
unfolding chars encode
pattern-yy_of_the_first_years = refl

pattern-yy : by (codes "yy") midnight ≡ Some (codes "07")
unfolding chars encode
pattern-yy = refl

pattern-MMMM : by (codes "MMMM") morning ≡ Some (codes "May")
unfolding chars encode
pattern-MMMM = refl

pattern-MMM : by (codes "MMM") noon ≡ Some (codes "Nov")
unfolding chars encode
pattern-MMM = refl

pattern-MM : by (codes "MM") morning ≡ Some (codes "05")
unfolding chars encode
pattern-MM = refl

pattern-M : by (codes "M ") morning ≡ Some (codes "5 ")
unfolding chars encode
pattern-M = refl

pattern-M_two_digits : by (codes "M ") noon ≡ Some (codes "11 ")
unfolding chars encode
pattern-M_two_digits = refl

pattern-dddd : by (codes "dddd") morning ≡ Some (codes "Wednesday")
unfolding chars encode
pattern-dddd = refl

pattern-ddd : by (codes "ddd") noon ≡ Some (codes "Sat")
unfolding chars encode
pattern-ddd = refl

pattern-dd : by (codes "dd") morning ≡ Some (codes "01")
unfolding chars encode
pattern-dd = refl

pattern-d : by (codes "d ") morning ≡ Some (codes "1 ")
unfolding chars encode
pattern-d = refl

pattern-d_two_digits : by (codes "d ") noon ≡ Some (codes "25 ")
unfolding chars encode
pattern-d_two_digits = refl

pattern-HH : by (codes "HH") morning ≡ Some (codes "09")
unfolding chars encode
pattern-HH = refl

pattern-H : by (codes "H ") morning ≡ Some (codes "9 ")
unfolding chars encode
pattern-H = refl

pattern-H_midnight : by (codes "H ") midnight ≡ Some (codes "0 ")
unfolding chars encode
pattern-H_midnight = refl

pattern-hh_noon : by (codes "hh") noon ≡ Some (codes "12")
unfolding chars encode
pattern-hh_noon = refl

pattern-hh_midnight : by (codes "hh") midnight ≡ Some (codes "12")
unfolding chars encode
pattern-hh_midnight = refl

pattern-hh_evening : by (codes "hh") evening ≡ Some (codes "11")
unfolding chars encode
pattern-hh_evening = refl

pattern-h : by (codes "h ") morning ≡ Some (codes "9 ")
unfolding chars encode
pattern-h = refl

pattern-h_noon : by (codes "h ") noon ≡ Some (codes "12 ")
unfolding chars encode
pattern-h_noon = refl

pattern-mm : by (codes "mm") morning ≡ Some (codes "08")
unfolding chars encode
pattern-mm = refl

pattern-m : by (codes "m ") morning ≡ Some (codes "8 ")
unfolding chars encode
pattern-m = refl

pattern-ss : by (codes "ss") morning ≡ Some (codes "07")
unfolding chars encode
pattern-ss = refl

pattern-s : by (codes "s ") morning ≡ Some (codes "7 ")
unfolding chars encode
pattern-s = refl

pattern-s_two_digits : by (codes "s ") noon ≡ Some (codes "56 ")
unfolding chars encode
pattern-s_two_digits = refl

pattern-f : by (codes "f ") noon ≡ Some (codes "9 ")
unfolding chars encode
pattern-f = refl

pattern-ff : by (codes "ff") noon ≡ Some (codes "99")
unfolding chars encode
pattern-ff = refl

pattern-fff : by (codes "fff") noon ≡ Some (codes "999")
unfolding chars encode
pattern-fff = refl

pattern-ffff : by (codes "ffff") morning ≡ Some (codes "0123")
unfolding chars encode
pattern-ffff = refl

pattern-fffff : by (codes "fffff") morning ≡ Some (codes "01234")
unfolding chars encode
pattern-fffff = refl

pattern-ffffff : by (codes "ffffff") morning ≡ Some (codes "012345")
unfolding chars encode
pattern-ffffff = refl

pattern-fffffff : by (codes "fffffff") morning ≡ Some (codes "0123456")
unfolding chars encode
pattern-fffffff = refl

pattern-f_cut : by (codes "f ") morning ≡ Some (codes "0 ")
unfolding chars encode
pattern-f_cut = refl

pattern-tt_morning : by (codes "tt") morning ≡ Some (codes "AM")
unfolding chars encode
pattern-tt_morning = refl

pattern-tt_midnight : by (codes "tt") midnight ≡ Some (codes "AM")
unfolding chars encode
pattern-tt_midnight = refl

pattern-tt_noon : by (codes "tt") noon ≡ Some (codes "PM")
unfolding chars encode
pattern-tt_noon = refl

pattern-o : by (codes "o") morning ≡ Some (codes "2024-05-01T09:08:07.0123456Z")
unfolding chars encode
pattern-o = refl

pattern-O : by (codes "O") evening ≡ Some (codes "1999-02-28T23:59:09.1000000Z")
unfolding chars encode
pattern-O = refl

pattern-D : by (codes "D") morning ≡ Some (codes "Wednesday, May 1, 2024")
unfolding chars encode
pattern-D = refl

pattern-s_alone : by (codes "s") noon ≡ Some (codes "2000-11-25T12:34:56")
unfolding chars encode
pattern-s_alone = refl

pattern-u : by (codes "u") noon ≡ Some (codes "2000-11-25 12:34:56Z")
unfolding chars encode
pattern-u = refl

pattern-r : by (codes "r") morning ≡ Some (codes "Wed, 01 May 2024 09:08:07 GMT")
unfolding chars encode
pattern-r = refl

pattern-R : by (codes "R") evening ≡ Some (codes "Sun, 28 Feb 1999 23:59:09 GMT")
unfolding chars encode
pattern-R = refl

pattern-names : by (codes "ddd, d MMM yyyy") morning ≡ Some (codes "Wed, 1 May 2024")
unfolding chars encode
pattern-names = refl

pattern-itself : by (codes "TZTT 1-2/3:4.5,6_(7)") noon ≡ Some (codes "TZTT 1-2/3:4.5,6_(7)")
unfolding chars encode
pattern-itself = refl

pattern-quotes : by (codes "'day 'd','MMM") morning ≡ Some (codes "day 1,May")
unfolding chars encode
pattern-quotes = refl

pattern-nothing_quoted : by (codes "''") noon ≡ Some (codes "")
unfolding chars encode
pattern-nothing_quoted = refl

pattern-two_quotes : by (codes "'a''b'") noon ≡ Some (codes "ab")
unfolding chars encode
pattern-two_quotes = refl

pattern-runs_parted_by_quotes : by (codes "dd''dd") morning ≡ Some (codes "0101")
unfolding chars encode
pattern-runs_parted_by_quotes = refl

pattern-letters_quoted : by (codes "'yyyy'yyyy") morning ≡ Some (codes "yyyy2024")
unfolding chars encode
pattern-letters_quoted = refl

pattern-marks_quoted : by (39 ∷ 92 ∷ 37 ∷ 39 ∷ []) noon ≡ Some (92 ∷ 37 ∷ [])
unfolding chars encode
pattern-marks_quoted = refl

pattern-other_letters : by (195 ∷ 169 ∷ 32 ∷ 100 ∷ []) morning ≡ Some (195 ∷ 169 ∷ 32 ∷ 49 ∷ [])
unfolding chars encode
pattern-other_letters = refl

pattern-runs_side_by_side : by (codes "yyyyMMddTHHmmss") noon ≡ Some (codes "20001125T123456")
unfolding chars encode
pattern-runs_side_by_side = refl

pattern-empty : by (codes "") noon ≡ None
unfolding chars encode
pattern-empty = refl

pattern-one_blank : by (codes " ") noon ≡ None
unfolding chars encode
pattern-one_blank = refl

pattern-one_T : by (codes "T") noon ≡ None
unfolding chars encode
pattern-one_T = refl

pattern-one_quote : by (codes "'") noon ≡ None
unfolding chars encode
pattern-one_quote = refl

pattern-one_d : by (codes "d") noon ≡ None
unfolding chars encode
pattern-one_d = refl

pattern-one_other_letter : by (195 ∷ 169 ∷ []) noon ≡ None
unfolding chars encode
pattern-one_other_letter = refl

pattern-one_minus : by (codes "-") noon ≡ None
unfolding chars encode
pattern-one_minus = refl

pattern-open_quote : by (codes "d 'o") noon ≡ None
unfolding chars encode
pattern-open_quote = refl

pattern-y_alone : by (codes "y ") noon ≡ None
unfolding chars encode
pattern-y_alone = refl

pattern-yyy : by (codes "yyy") noon ≡ None
unfolding chars encode
pattern-yyy = refl

pattern-yyyyy : by (codes "yyyyy") noon ≡ None
unfolding chars encode
pattern-yyyyy = refl

pattern-MMMMM : by (codes "MMMMM") noon ≡ None
unfolding chars encode
pattern-MMMMM = refl

pattern-ddddd : by (codes "ddddd") noon ≡ None
unfolding chars encode
pattern-ddddd = refl

pattern-HHH : by (codes "HHH") noon ≡ None
unfolding chars encode
pattern-HHH = refl

pattern-hhh : by (codes "hhh") noon ≡ None
unfolding chars encode
pattern-hhh = refl

pattern-mmm : by (codes "mmm") noon ≡ None
unfolding chars encode
pattern-mmm = refl

pattern-sss : by (codes "sss") noon ≡ None
unfolding chars encode
pattern-sss = refl

pattern-ffffffff : by (codes "ffffffff") noon ≡ None
unfolding chars encode
pattern-ffffffff = refl

pattern-t_alone : by (codes "t ") noon ≡ None
unfolding chars encode
pattern-t_alone = refl

pattern-ttt : by (codes "ttt") noon ≡ None
unfolding chars encode
pattern-ttt = refl

pattern-F : by (codes "FF") noon ≡ None
unfolding chars encode
pattern-F = refl

pattern-K : by (codes "KK") noon ≡ None
unfolding chars encode
pattern-K = refl

pattern-z : by (codes "zz") noon ≡ None
unfolding chars encode
pattern-z = refl

pattern-g : by (codes "gg") noon ≡ None
unfolding chars encode
pattern-g = refl

pattern-percent : by (codes "%d") noon ≡ None
unfolding chars encode
pattern-percent = refl

pattern-backslash : by (92 ∷ 100 ∷ []) noon ≡ None
unfolding chars encode
pattern-backslash = refl

pattern-double_quote : by (34 ∷ 100 ∷ 34 ∷ []) noon ≡ None
unfolding chars encode
pattern-double_quote = refl
