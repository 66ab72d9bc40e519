-- What the default pattern prints of a moment is read as that moment.
use Rattle.std.proofs.Common.{◌≡◌, ℕ, zero, suc, ◌+◌, ◌-◌, ◌*◌, ◌/◌, ◌%◌, ◌≤◌, ◌<◌, List, [], ◌∷◌, ◌++◌, refl, sym, ap, ◌∙◌, arith, Bool}
use Rattle.std.proofs.Common.{true, false, cond, Option, Some, None, append_assoc}
use Rattle.std.proofs.lemmas.Bool.{cond-true, cond-false}
use Rattle.std.proofs.lemmas.Bool.Decides.{nat_tests}
use Rattle.std.specs.Char.{is_ascii_digit}
use Rattle.std.specs.Prelude.{◌||◌, nat_lt, if◌then◌else◌, option_map, option_and_then, pos, Ok}
use Rattle.std.specs.Str.{chars}
use lib.Utf8.{encode}
use Rattle.wf_val.specs.Arguments.{given}
use Rattle.wf_val.specs.ValueTree.{number}
use Rattle.wf_val.specs.declared.function.Fun.{Fun}
use Rattle.wf_fn_time.specs.Calendar.{is_day, day_number, day_at}
use Rattle.wf_fn_time.specs.Clock.{clock_at}
use Rattle.wf_fn_time.specs.Laws.{printed_by_default, IsReadBack, HasItsTicks}
use Rattle.wf_fn_time.specs.Moments.{ticks_a_day, last_tick}
use Rattle.wf_fn_time.specs.Times.{or_bad_text}
use Rattle.wf_fn_time.specs.declared.reading.Offset.{Offset}
use Rattle.wf_fn_time.specs.declared.reading.Offset.TheVariants.{East}
use Rattle.wf_fn_time.specs.declared.calendar.Day.{Day}
use Rattle.wf_fn_time.specs.Printing.{last_digits}
use Rattle.wf_fn_time.specs.Reading.{Read, digits, then_read, then_behind, behind, weighed, read_fraction, read_day, day_if, read_minutes}
use Rattle.wf_fn_time.specs.Reading.{read_second, with_fraction, read_clock, read_offset, read_time_of_day, at_offset, at_time_of_day}
use Rattle.wf_fn_time.specs.Reading.{read_time}

is_digit : (n : ℕ) → is_ascii_digit (48 + n % 10) ≡ true
is_digit n = grind (arith, nat_tests)

-- the number that its last digits write
abbrev pub low : ℕ → ℕ → ℕ
low zero n = 0
low (suc k) n = low k (n / 10) * 10 + n % 10

digits-more-at : (t : Bool) (k m b : ℕ) (bs : List ℕ) → ((m : ℕ) → digits (suc k) m bs ≡ then_read (digits k m bs) (λ n s. digits 1 n s))
    → cond {A = Read ℕ} t (digits (suc k) (m * 10 + (b - 48)) bs) None
    ≡ then_read (cond {A = Read ℕ} t (digits k (m * 10 + (b - 48)) bs) None) (λ n s. digits 1 n s)
digits-more-at true k m b bs more = more (m * 10 + (b - 48))
digits-more-at false k m b bs more = refl

-- one digit more is read behind the others
digits-more : (k m : ℕ) (s : List ℕ) → digits (suc k) m s ≡ then_read (digits k m s) (λ n s. digits 1 n s)
digits-more zero m s = refl
digits-more (suc k) m [] = refl
digits-more (suc k) m (b ∷ bs) = digits-more-at (is_ascii_digit b) k m b bs (λ n. digits-more k n bs)

digits-one : (m n : ℕ) (rest : List ℕ) → digits 1 m ((48 + n % 10) ∷ rest) ≡ Some (m * 10 + n % 10, rest)
digits-one m n rest =
    let digit : 48 + n % 10 - 48 ≡ n % 10 = omega arith in
    cond-true (is_ascii_digit (48 + n % 10)) _ _ (is_digit n) ∙ ap (λ d. Some (m * 10 + d, rest)) digit

pub digits-last : (k n : ℕ) (rest : List ℕ) → digits k 0 (last_digits k n ++ rest) ≡ Some (low k n, rest)
digits-last zero n rest = refl
digits-last (suc k) n rest =
    ap (digits (suc k) 0) (append_assoc (last_digits k (n / 10)) ((48 + n % 10) ∷ []) rest)
    ∙ digits-more k 0 (last_digits k (n / 10) ++ ((48 + n % 10) ∷ rest))
    ∙ ap (λ r. then_read r (λ n s. digits 1 n s)) (digits-last k (n / 10) ((48 + n % 10) ∷ rest))
    ∙ digits-one (low k (n / 10)) n rest

pub low-2 : (n : ℕ) → n < 100 → low 2 n ≡ n
low-2 n h = omega arith

pub low-4 : (n : ℕ) → n < 10000 → low 4 n ≡ n
low-4 n h = omega arith

weighed-digit : (w m n : ℕ) (ws rest : List ℕ) → weighed (w ∷ ws) m ((48 + n % 10) ∷ rest) ≡ weighed ws (m + w * (n % 10)) rest
weighed-digit w m n ws rest =
    let digit : 48 + n % 10 - 48 ≡ n % 10 = omega arith in
    cond-true (is_ascii_digit (48 + n % 10)) _ _ (is_digit n) ∙ ap (λ d. weighed ws (m + w * d) rest) digit

abbrev from_tenth : ℕ → List ℕ → Read ℕ
from_tenth n s = Some (weighed (100000 ∷ 10000 ∷ 1000 ∷ 100 ∷ 10 ∷ 1 ∷ []) (n * 1000000) s)

-- a fraction of seven digits
pub fraction-last : (f : ℕ) (rest : List ℕ) → f < 10000000 → read_fraction (last_digits 7 f ++ rest) ≡ Some (f, rest)
fraction-last f rest h =
    let a = f / 10 / 10 / 10 / 10 / 10 / 10 in
    let b = f / 10 / 10 / 10 / 10 / 10 in
    let c = f / 10 / 10 / 10 / 10 in
    let d = f / 10 / 10 / 10 in
    let e = f / 10 / 10 in
    let g = f / 10 in
    let first = (0 * 10 + a % 10) * 1000000 in
    let tail_g = (48 + f % 10) ∷ rest in
    let tail_e = (48 + g % 10) ∷ tail_g in
    let tail_d = (48 + e % 10) ∷ tail_e in
    let tail_c = (48 + d % 10) ∷ tail_d in
    let tail_b = (48 + c % 10) ∷ tail_c in
    let tail_a = (48 + b % 10) ∷ tail_b in
    let value : first + 100000 * (b % 10) + 10000 * (c % 10) + 1000 * (d % 10) + 100 * (e % 10) + 10 * (g % 10) + 1 * (f % 10)
    ≡ f = omega (arith, h) in
    ap (λ r. then_read r from_tenth) (digits-one 0 a tail_a)
    ∙ ap Some (
    weighed-digit 100000 first b (10000 ∷ 1000 ∷ 100 ∷ 10 ∷ 1 ∷ []) tail_b
    ∙ weighed-digit 10000 (first + 100000 * (b % 10)) c (1000 ∷ 100 ∷ 10 ∷ 1 ∷ []) tail_c
    ∙ weighed-digit 1000 (first + 100000 * (b % 10) + 10000 * (c % 10)) d (100 ∷ 10 ∷ 1 ∷ []) tail_d
    ∙ weighed-digit 100 (first + 100000 * (b % 10) + 10000 * (c % 10) + 1000 * (d % 10)) e (10 ∷ 1 ∷ []) tail_e
    ∙ weighed-digit 10 (first + 100000 * (b % 10) + 10000 * (c % 10) + 1000 * (d % 10) + 100 * (e % 10)) g (1 ∷ []) tail_g
    ∙ weighed-digit 1 (first + 100000 * (b % 10) + 10000 * (c % 10) + 1000 * (d % 10) + 100 * (e % 10) + 10 * (g % 10)) f [] rest
    ∙ ap (λ n. (n, rest)) value
    )

-- a date
abbrev from_day : ℕ → ℕ → ℕ → List ℕ → Read Day
from_day y m d s = day_if (record { year = y; month = m; day = d }) s

abbrev from_month : ℕ → ℕ → List ℕ → Read Day
from_month y m s = then_behind (behind 45 s) (λ s. then_read (digits 2 0 s) (from_day y m))

abbrev from_year : ℕ → List ℕ → Read Day
from_year y s = then_behind (behind 45 s) (λ s. then_read (digits 2 0 s) (from_month y))

date-digits : (y m d : ℕ) (rest : List ℕ)
    → read_day (last_digits 4 y ++ (45 ∷ (last_digits 2 m ++ (45 ∷ (last_digits 2 d ++ rest)))))
    ≡ from_day (low 4 y) (low 2 m) (low 2 d) rest
date-digits y m d rest =
    ap (λ r. then_read r from_year) (digits-last 4 y (45 ∷ (last_digits 2 m ++ (45 ∷ (last_digits 2 d ++ rest)))))
    ∙ ap (λ r. then_read r (from_month (low 4 y))) (digits-last 2 m (45 ∷ (last_digits 2 d ++ rest)))
    ∙ ap (λ r. then_read r (from_day (low 4 y) (low 2 m))) (digits-last 2 d rest)

pub date-last : (y m d : ℕ) (rest : List ℕ) → y < 10000 → m < 100 → d < 100 → is_day (record { year = y; month = m; day = d }) ≡ true
    → read_day (last_digits 4 y ++ (45 ∷ (last_digits 2 m ++ (45 ∷ (last_digits 2 d ++ rest)))))
    ≡ Some (record { year = y; month = m; day = d }, rest)
date-last y m d rest hy hm hd is =
    date-digits y m d rest ∙ ap (λ k. from_day k (low 2 m) (low 2 d) rest) (low-4 y hy) ∙ ap (λ k. from_day y k (low 2 d) rest) (low-2 m hm)
    ∙ ap (λ k. from_day y m k rest) (low-2 d hd) ∙ cond-true (is_day (record { year = y; month = m; day = d })) _ _ is

-- hours and minutes
abbrev in_minutes : ℕ → ℕ → ℕ → List ℕ → Read ℕ
in_minutes limit hours minutes s = if (nat_lt limit hours || nat_lt 59 minutes) then None else Some (hours * 60 + minutes, s)

abbrev from_hours : ℕ → ℕ → List ℕ → Read ℕ
from_hours limit hours s = then_behind (behind 58 s) (λ s. then_read (digits 2 0 s) (in_minutes limit hours))

pub minutes-last : (limit h m : ℕ) (rest : List ℕ) → h ≤ limit → h < 100 → m ≤ 59
    → read_minutes limit (last_digits 2 h ++ (58 ∷ (last_digits 2 m ++ rest))) ≡ Some (h * 60 + m, rest)
minutes-last limit h m rest hh h2 hm =
    ap (λ r. then_read r (from_hours limit)) (digits-last 2 h (58 ∷ (last_digits 2 m ++ rest)))
    ∙ ap (λ r. then_read r (in_minutes limit (low 2 h))) (digits-last 2 m rest)
    ∙ ap (λ k. in_minutes limit k (low 2 m) rest) (low-2 h h2) ∙ ap (λ k. in_minutes limit h k rest) (low-2 m (omega (arith, hm)))
    ∙ cond-false (nat_lt limit h || nat_lt 59 m) _ _ (grind (arith, nat_tests))

-- seconds with a fraction
abbrev with_ticks : ℕ → ℕ → List ℕ → Read ℕ
with_ticks seconds fraction s = Some (seconds * 10000000 + fraction, s)

abbrev in_seconds : ℕ → List ℕ → Read ℕ
in_seconds seconds s = if nat_lt 59 seconds then None else with_fraction seconds s (behind 46 s)

pub second-last : (s f : ℕ) (rest : List ℕ) → s ≤ 59 → f < 10000000
    → read_second (58 ∷ (last_digits 2 s ++ (46 ∷ (last_digits 7 f ++ rest)))) ≡ Some (s * 10000000 + f, rest)
second-last s f rest hs hf =
    ap (λ r. then_read r in_seconds) (digits-last 2 s (46 ∷ (last_digits 7 f ++ rest)))
    ∙ ap (λ k. in_seconds k (46 ∷ (last_digits 7 f ++ rest))) (low-2 s (omega (arith, hs)))
    ∙ cond-false (nat_lt 59 s) _ _ (grind (arith, nat_tests))
    ∙ ap (λ r. then_read r (with_ticks s)) (fraction-last f rest hf)

abbrev with_second : ℕ → ℕ → List ℕ → Read ℕ
with_second minutes second s = Some (minutes * 600000000 + second, s)

abbrev from_minutes : ℕ → List ℕ → Read ℕ
from_minutes minutes s = then_read (read_second s) (with_second minutes)

-- a time of the day
pub clock-last : (h m s f : ℕ) (rest : List ℕ) → h ≤ 23 → m ≤ 59 → s ≤ 59 → f < 10000000
    → read_clock (last_digits 2 h ++ (58 ∷ (last_digits 2 m ++ (58 ∷ (last_digits 2 s ++ (46 ∷ (last_digits 7 f ++ rest)))))))
    ≡ Some ((h * 60 + m) * 600000000 + (s * 10000000 + f), rest)
clock-last h m s f rest hh hm hs hf =
    ap (λ r. then_read r from_minutes) (minutes-last 23 h m (58 ∷ (last_digits 2 s ++ (46 ∷ (last_digits 7 f ++ rest)))) hh
    (omega (arith, hh)) hm)
    ∙ ap (λ r. then_read r (with_second (h * 60 + m))) (second-last s f rest hs hf)

-- the whole text
abbrev text_of : ℕ → ℕ → ℕ → ℕ → ℕ → ℕ → ℕ → List ℕ
text_of y mo d h m s f =
    last_digits 4 y ++ (45 ∷ (last_digits 2 mo ++ (45 ∷ (last_digits 2 d ++ (84 ∷ (last_digits 2 h ++ (58 ∷ (last_digits 2 m
    ++ (58 ∷ (last_digits 2 s
    ++ (46 ∷ (last_digits 7 f ++ (90 ∷ [])))))))))))))

abbrev with_offset : ℕ → List ℕ → Option (ℕ × Offset)
with_offset clock s = option_map (λ offset. (clock, offset)) (read_offset s)

abbrev on_day : Day → List ℕ → Option ℕ
on_day d s = at_time_of_day (day_number d * ticks_a_day) (read_time_of_day s)

at-none : (t : ℕ) → t ≤ last_tick → at_offset t (East 0) ≡ Some t
at-none t h = grind (arith, nat_tests)

text-read : (y mo d h m s f t : ℕ) → y < 10000 → mo < 100 → d < 100 → h ≤ 23 → m ≤ 59 → s ≤ 59 → f < 10000000
    → is_day (record { year = y; month = mo; day = d }) ≡ true
    → day_number (record { year = y; month = mo; day = d }) * ticks_a_day + ((h * 60 + m) * 600000000 + (s * 10000000 + f)) ≡ t
    → t ≤ last_tick
    → read_time (text_of y mo d h m s f) ≡ Some t
text-read y mo d h m s f t hy hmo hd hh hm hs hf is sum le =
    let day : Day = record { year = y; month = mo; day = d } in
    let clock = (h * 60 + m) * 600000000 + (s * 10000000 + f) in
    let rest = last_digits 2 h ++ (58 ∷ (last_digits 2 m ++ (58 ∷ (last_digits 2 s ++ (46 ∷ (last_digits 7 f ++ (90 ∷ []))))))) in
    ap (λ r. then_read r on_day) (date-last y mo d (84 ∷ rest) hy hmo hd is)
    ∙ ap (λ r. at_time_of_day (day_number day * ticks_a_day) (then_read r with_offset)) (clock-last h m s f (90 ∷ []) hh hm hs hf)
    ∙ ap (λ k. at_offset k (East 0)) sum ∙ at-none t le

printed-text : (t : ℕ) → let c = clock_at t in printed_by_default t
    ≡ Some (text_of c.day.year c.day.month c.day.day c.hour c.minute c.second c.fraction)
unfolding chars encode
printed-text t = refl

-- the bounds of a day's parts
small-year : (d : Day) → is_day d ≡ true → d.year < 10000
small-year d h = grind (arith, nat_tests)

small-month : (d : Day) → is_day d ≡ true → d.month < 100
small-month d h = grind (arith, nat_tests)

small-day : (d : Day) → is_day d ≡ true → d.day < 100
small-day d h = grind (arith, nat_tests)

pub read-back : (t : ℕ) → t ≤ last_tick → is_day (day_at (t / ticks_a_day)) ≡ true
    → day_number (day_at (t / ticks_a_day)) ≡ t / ticks_a_day → IsReadBack t
read-back t le is counted =
    let c = clock_at t in
    let d = day_at (t / ticks_a_day) in
    let sum : day_number d * ticks_a_day + ((c.hour * 60 + c.minute) * 600000000 + (c.second * 10000000 + c.fraction))
    ≡ t = omega (arith, counted) in
    ap (option_and_then read_time) (printed-text t)
    ∙ text-read d.year d.month d.day c.hour c.minute c.second c.fraction t (small-year d is) (small-month d is) (small-day d is)
    (omega arith) (omega arith) (omega arith) (omega arith) is sum le

pub has_its_ticks : (t : ℕ) → IsReadBack t → HasItsTicks t
has_its_ticks t read s printed =
    let is : read_time s ≡ Some t = ap (option_and_then read_time) (sym printed) ∙ read in
    ap (λ r. given (or_bad_text Fun.Ticks r) (λ t. Ok (number (pos t)))) is
