-- Worked rows of schedules.
use Rattle.std.proofs.Common.{◌≡◌, [], ◌∷◌, Ok, Err, codes, refl}
use Rattle.wf_schedule.specs.Schedule.{schedule_of}
use Rattle.wf_schedule.specs.declared.fault.ScheduleFault.{ScheduleFault}

no_bytes : schedule_of [] ≡ Ok []
no_bytes = refl

two_lines : schedule_of (codes "0\n1") ≡ Ok (0 ∷ 1 ∷ [])
two_lines = refl

last_feed_allowed : schedule_of (codes "0\n12\n") ≡ Ok (0 ∷ 12 ∷ [])
last_feed_allowed = refl

one_feed : schedule_of (10 ∷ []) ≡ Err (ScheduleFault.Line 1)
one_feed = refl

two_feeds : schedule_of (codes "0\n\n") ≡ Err (ScheduleFault.Line 2)
two_feeds = refl

returns_dropped : schedule_of (48 ∷ 13 ∷ 10 ∷ 49 ∷ 13 ∷ []) ≡ Ok (0 ∷ 1 ∷ [])
returns_dropped = refl

one_return_alone : schedule_of (48 ∷ 13 ∷ 13 ∷ 10 ∷ []) ≡ Err (ScheduleFault.Line 1)
one_return_alone = refl

empty_line_with_return : schedule_of (13 ∷ 10 ∷ []) ≡ Err (ScheduleFault.Line 1)
empty_line_with_return = refl

letter : schedule_of (codes "0\nx") ≡ Err (ScheduleFault.Line 2)
letter = refl

first_bad_line : schedule_of (codes "0\nx\n-1") ≡ Err (ScheduleFault.Line 2)
first_bad_line = refl

sign : schedule_of (codes "+1") ≡ Err (ScheduleFault.Line 1)
sign = refl

-- the characters before 0 and behind 9
slash : schedule_of (codes "/") ≡ Err (ScheduleFault.Line 1)
slash = refl

colon : schedule_of (codes "1:") ≡ Err (ScheduleFault.Line 1)
colon = refl

each_digit : schedule_of (codes "0123456789") ≡ Ok (123456789 ∷ [])
each_digit = refl

blank : schedule_of (codes " 1") ≡ Err (ScheduleFault.Line 1)
blank = refl

ten_digits : schedule_of (codes "0000000001") ≡ Ok (1 ∷ [])
ten_digits = refl

eleven_digits : schedule_of (codes "00000000001") ≡ Err (ScheduleFault.Line 1)
eleven_digits = refl

greatest : schedule_of (codes "4294967295") ≡ Ok (4294967295 ∷ [])
greatest = refl

past_the_greatest : schedule_of (codes "4294967296") ≡ Err (ScheduleFault.Line 1)
past_the_greatest = refl
