-- The test for durations and their grammar.
use Rattle.std.proofs.Common.{◌≡◌, ℕ, zero, suc, ◌+◌, ◌≤◌, Bool, true, false, not, ◌||◌, ◌&&◌, ◌==◌, List, [], ◌∷◌, length, drop, add-one, slice_get, unwrap_or, Option, Some, None, ◌⊎◌, inl, inr, refl, sym, ap, subst, ◌∙◌, arith}
use Rattle.std.specs.Prelude.{◌↔◌, nat_le, if◌then◌else◌}
use Rattle.std.proofs.lemmas.Bool.Decides.{nat_tests}
use Rattle.std.proofs.lemmas.Bool.{eq-eqb, eqb-true}
use Rattle.wf_retry.specs.Duration.{is_digit, leading, is_letter, behind, skipped, is_none_left, is_time_of_day, is_time, follows_days, ends_duration, is_duration}
use Rattle.wf_retry.specs.Grammar.{Digits, no_digit, digit, Part, part, Perhaps, left_out, there, IsTimeOfDay, time_of_day, IsDuration, days, time, days_and_time}

and_both : (a b : Bool) → a ≡ true → b ≡ true → (a && b) ≡ true
and_both true b h g = g
and_both false b h g = cc

and_split : (a b : Bool) → (a && b) ≡ true → (a ≡ true) × (b ≡ true)
and_split true b h = (refl, h)
and_split false b h = cc

or_right : (a b : Bool) → b ≡ true → (a || b) ≡ true
or_right true b h = refl
or_right false b h = h

or_split : (a b : Bool) → (a || b) ≡ true → (a ≡ true) ⊎ (b ≡ true)
or_split true b h = inl refl
or_split false b h = inr h

not_true : (b : Bool) → not b ≡ true → b ≡ true → ⊥
not_true true h is = cc
not_true false h is = cc

none_left : (s : List ℕ) → is_none_left s ≡ true → s ≡ []
none_left [] h = refl
none_left (b ∷ s) h = let is = eqb-true (length (b ∷ s)) 0 h in absurd (omega (arith, is))

some_left : (b : ℕ) (s : List ℕ) → not (is_none_left (b ∷ s)) ≡ true
some_left b s = grind (arith, nat_tests)

-- ---- digits

a_digit : (b : ℕ) → is_digit b ≡ true → (48 ≤ b) × (b ≤ 57)
a_digit b h = let both = and_split (nat_le 48 b) (nat_le b 57) h in let low = both.0 in let high = both.1 in
    (grind (arith, nat_tests), grind (arith, nat_tests))

digit_is : (b : ℕ) → 48 ≤ b → b ≤ 57 → is_digit b ≡ true
digit_is b low high = grind (arith, nat_tests)

leading-digit : (b : ℕ) (s : List ℕ) → is_digit b ≡ true → leading (b ∷ s) ≡ suc (leading s)
leading-digit b s h = rw h (omega arith)

leading-other : (b : ℕ) (s : List ℕ) → is_digit b ≡ false → leading (b ∷ s) ≡ 0
leading-other b s h = rw h refl

-- what a relation with digits says of their count and of what comes behind
record Ends (letter n : ℕ) (s r : List ℕ) : Type 0 where
  count : leading s ≡ n
  letter_there : slice_get s n ≡ Some letter
  behind_it : drop (suc n) s ≡ r

ends : (letter n : ℕ) (s r : List ℕ) → is_digit letter ≡ false → Digits n s (letter ∷ r) → Ends letter n s r
ends letter zero _ r out no_digit = record { count = leading-other letter r out; letter_there = refl; behind_it = refl }
ends letter (suc n) [] r out d = elim d [ ]
ends letter (suc n) (b ∷ s) r out (digit low high rest) =
    let e = ends letter n s r out rest in
    record {
      count = leading-digit b s (digit_is b low high) ∙ ap suc e.count;
      letter_there = e.letter_there;
      behind_it = e.behind_it;
    }

got : (n : ℕ) (s : List ℕ) (x : ℕ) → slice_get s n ≡ Some x → drop n s ≡ x ∷ drop (suc n) s
got n [] x h = absurd (cc)
got zero (b ∷ s) x h = cc
got (suc n) (b ∷ s) x h = got n s x h

digits : (s : List ℕ) → Digits (leading s) s (drop (leading s) s)
digits [] = no_digit
digits (b ∷ s) = elim (is_digit b) as (λ d. is_digit b ≡ d → Digits (leading (b ∷ s)) (b ∷ s) (drop (leading (b ∷ s)) (b ∷ s))) [
  | true ↦ λ is. subst (λ n. Digits n (b ∷ s) (drop n (b ∷ s))) (sym (leading-digit b s is))
      (let range = a_digit b is in digit range.0 range.1 (digits s))
  | false ↦ λ is. subst (λ n. Digits n (b ∷ s) (drop n (b ∷ s))) (sym (leading-other b s is)) no_digit
] refl

-- ---- one part

is_letter-some : (letter : ℕ) (o : Option ℕ) → is_letter letter o ≡ true → o ≡ Some letter
is_letter-some letter None h = absurd (cc)
is_letter-some letter (Some b) h = ap (λ (x : ℕ). Some x) (eqb-true b letter h)

abbrev fits : ℕ → List ℕ → Bool
fits letter s = nat_le 1 (leading s) && (nat_le (leading s) 9 && is_letter letter (slice_get s (leading s)))

chosen : (b : Bool) (s r : List ℕ) → (if b then Some s else None) ≡ Some r → (b ≡ true) × (s ≡ r)
chosen true s r h = (refl, cc)
chosen false s r h = cc

-- what the test finds behind a part is what comes after it
a_part : (letter : ℕ) (s r : List ℕ) → behind letter s ≡ Some r → Part letter s r
a_part letter s r h =
    let is = chosen (fits letter s) (drop (leading s + 1) s) r h in
    let some = and_split (nat_le 1 (leading s)) _ is.0 in
    let few = and_split (nat_le (leading s) 9) _ some.1 in
    let least : nat_le 1 (leading s) ≡ true = some.0 in
    let most : nat_le (leading s) 9 ≡ true = few.0 in
    let at = got (leading s) s letter (is_letter-some letter (slice_get s (leading s)) few.1) in
    part (grind (arith, nat_tests, least)) (grind (arith, nat_tests, most))
    (subst (λ t. Digits (leading s) s t) (at ∙ ap (λ t. letter ∷ t) (ap (λ k. drop k s) (sym (add-one (leading s))) ∙ is.1)) (digits s))

fits_is : (letter n : ℕ) (s r : List ℕ) → Ends letter n s r → 1 ≤ n → n ≤ 9 → fits letter s ≡ true
fits_is letter n s r e least most =
    rw (e.count, e.letter_there) (and_both (nat_le 1 n) _ (grind (arith, nat_tests))
    (and_both (nat_le n 9) _ (grind (arith, nat_tests)) (eq-eqb letter letter refl)))

part_is : (letter : ℕ) (s r : List ℕ) → is_digit letter ≡ false → Part letter s r → behind letter s ≡ Some r
part_is letter s r out (part {n = n} least most d) =
    let e = ends letter n s r out d in
    rw (fits_is letter n s r e least most) (rw (e.count, add-one) (ap (λ (t : List ℕ). Some t) e.behind_it))

not_letter : (letter other : ℕ) → (other == letter) ≡ false → is_letter letter (Some other) ≡ false
not_letter letter other h = h

-- a part with another letter isn't taken
other_part : (letter other : ℕ) (s r : List ℕ) → is_digit other ≡ false → (other == letter) ≡ false → Part other s r → skipped letter s ≡ s
other_part letter other s r out apart (part {n = n} least most d) =
    let e = ends other n s r out d in
    let no : fits letter s ≡ false =
    rw (e.count, e.letter_there) (grind (arith, nat_tests, apart)) in
    rw no refl

taken : (letter : ℕ) (s r : List ℕ) → is_digit letter ≡ false → Part letter s r → skipped letter s ≡ r
taken letter s r out p = ap (λ o. unwrap_or o s) (part_is letter s r out p)

perhaps : (letter : ℕ) (s : List ℕ) → Perhaps letter s (skipped letter s)
perhaps letter s = elim (behind letter s) as (λ o. behind letter s ≡ o → Perhaps letter s (unwrap_or o s)) [
  | None ↦ λ is. left_out
  | Some r ↦ λ is. there (a_part letter s r is)
] refl

-- ---- a time

seconds_end : (s : List ℕ) → Perhaps 83 s [] → skipped 83 s ≡ []
seconds_end _ left_out = refl
seconds_end s (there p) = taken 83 s [] refl p

minutes_stay : (s : List ℕ) → Perhaps 83 s [] → skipped 77 s ≡ s
minutes_stay _ left_out = refl
minutes_stay s (there p) = other_part 77 83 s [] refl refl p

minutes_end : (s m : List ℕ) → Perhaps 77 s m → Perhaps 83 m [] → skipped 83 (skipped 77 s) ≡ []
minutes_end s _ left_out seconds = ap (skipped 83) (minutes_stay s seconds) ∙ seconds_end s seconds
minutes_end s m (there p) seconds = ap (skipped 83) (taken 77 s m refl p) ∙ seconds_end m seconds

hours_stay : (s m : List ℕ) → Perhaps 77 s m → Perhaps 83 m [] → skipped 72 s ≡ s
hours_stay _ _ left_out left_out = refl
hours_stay s _ left_out (there p) = other_part 72 83 s [] refl refl p
hours_stay s m (there p) seconds = other_part 72 77 s m refl refl p

hours_end : (s h m : List ℕ) → Perhaps 72 s h → Perhaps 77 h m → Perhaps 83 m [] → skipped 83 (skipped 77 (skipped 72 s)) ≡ []
hours_end s _ m left_out minutes seconds = ap (λ t. skipped 83 (skipped 77 t)) (hours_stay s m minutes seconds)
    ∙ minutes_end s m minutes seconds
hours_end s h m (there p) minutes seconds = ap (λ t. skipped 83 (skipped 77 t)) (taken 72 s h refl p) ∙ minutes_end h m minutes seconds

a_time : (s : List ℕ) → is_time_of_day s ≡ true → IsTimeOfDay s
a_time [] h = absurd (cc)
a_time (b ∷ s) h =
    let both = and_split (not (is_none_left (b ∷ s))) _ h in
    let over = none_left (skipped 83 (skipped 77 (skipped 72 (b ∷ s)))) both.1 in
    time_of_day (perhaps 72 (b ∷ s)) (perhaps 77 (skipped 72 (b ∷ s)))
    (subst (λ r. Perhaps 83 (skipped 77 (skipped 72 (b ∷ s))) r) over (perhaps 83 (skipped 77 (skipped 72 (b ∷ s)))))

time_is : (s : List ℕ) → IsTimeOfDay s → is_time_of_day s ≡ true
time_is _ (time_of_day {b = b} {s = s} {m = h} {t = m} hours minutes seconds) =
    and_both (not (is_none_left (b ∷ s))) _ (some_left b s) (ap is_none_left (hours_end (b ∷ s) h m hours minutes seconds))

-- ---- a duration

of_time : (s : List ℕ) → is_time s ≡ true → (r : List ℕ) × (s ≡ 84 ∷ r) × IsTimeOfDay r
of_time [] h = absurd (cc)
of_time (b ∷ s) h = let both = and_split (b == 84) (is_time_of_day s) h in (s, ap (λ x. x ∷ s) (eqb-true b 84 both.0), a_time s both.1)

a_duration : (s : List ℕ) → is_duration s ≡ true → IsDuration s
a_duration [] h = absurd (cc)
a_duration (b ∷ s) h =
    let both = and_split (b == 80) (ends_duration s) h in
    subst (λ x. IsDuration (x ∷ s)) (sym (eqb-true b 80 both.0))
    (elim (behind 68 s) as (λ o. behind 68 s ≡ o → follows_days o s ≡ true → IsDuration (80 ∷ s)) [
      | None ↦ λ is after. let (r, spelled, of_day) = of_time s after in subst (λ t. IsDuration (80 ∷ t)) (sym spelled) (time of_day)
      | Some rest ↦ λ is after. elim (or_split (is_none_left rest) (is_time rest) after) [
        | inl over ↦ days (subst (λ t. Part 68 s t) (none_left rest over) (a_part 68 s rest is))
        | inr timed ↦ let (r, spelled, of_day) = of_time rest timed in
            days_and_time (subst (λ t. Part 68 s t) spelled (a_part 68 s rest is)) of_day
      ]
    ] refl both.1)

duration_is : (s : List ℕ) → IsDuration s → is_duration s ≡ true
duration_is _ (days {s = s} p) = ap (λ o. follows_days o s) (part_is 68 s [] refl p)
duration_is _ (time {s = s} of_day) = time_is s of_day
duration_is _ (days_and_time {s = s} {r = r} p of_day) =
    ap (λ o. follows_days o s) (part_is 68 s (84 ∷ r) refl p) ∙ or_right (is_none_left (84 ∷ r)) (is_time (84 ∷ r)) (time_is r of_day)

pub exact : (s : List ℕ) → (is_duration s ≡ true) ↔ IsDuration s
exact s = (a_duration s, duration_is s)
