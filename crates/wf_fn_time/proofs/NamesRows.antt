-- The names of the months and of the days of the week, and their first three letters.
use Rattle.std.proofs.Common.{◌≡◌, ℕ, List, refl, [], ◌∷◌, map, take}
use Rattle.std.specs.Prelude.{codes}
use Rattle.wf_fn_time.specs.Names.{month_name, month_abbreviation, weekday_name, weekday_abbreviation}

abbrev months : List ℕ
months = 1 ∷ 2 ∷ 3 ∷ 4 ∷ 5 ∷ 6 ∷ 7 ∷ 8 ∷ 9 ∷ 10 ∷ 11 ∷ 12 ∷ []

abbrev weekdays : List ℕ
weekdays = 0 ∷ 1 ∷ 2 ∷ 3 ∷ 4 ∷ 5 ∷ 6 ∷ []

names-months : map month_name months
    ≡ codes "January" ∷ codes "February" ∷ codes "March" ∷ codes "April" ∷ codes "May" ∷ codes "June" ∷ codes "July" ∷ codes "August"
    ∷ codes "September" ∷ codes "October" ∷ codes "November" ∷ codes "December" ∷ []
names-months = refl

names-weekdays : map weekday_name weekdays
    ≡ codes "Sunday" ∷ codes "Monday" ∷ codes "Tuesday" ∷ codes "Wednesday" ∷ codes "Thursday" ∷ codes "Friday" ∷ codes "Saturday" ∷ []
names-weekdays = refl

names-months_in_three_letters : map month_abbreviation months ≡ map (λ n. take 3 (month_name n)) months
names-months_in_three_letters = refl

names-weekdays_in_three_letters : map weekday_abbreviation weekdays ≡ map (λ n. take 3 (weekday_name n)) weekdays
names-weekdays_in_three_letters = refl
