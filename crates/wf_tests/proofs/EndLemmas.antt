-- How a call ends: with a report, or with why no test runs.
use Rattle.std.proofs.Common.{◌≡◌, ◌⊎◌, ◌≤◌, ◌∙◌, ℕ, List, [], ◌∷◌, ◌++◌, Bool, true, false, Option, None, Some, inl, inr}
use Rattle.std.proofs.Common.{refl, sym, ap, subst, arith}
use Rattle.std.proofs.lemmas.Option.{none-some}
use Rattle.std.specs.Io.KnownBytes.{Appends}
use Rattle.std.specs.List.{Contains}
use Rattle.wf_outside.specs.Outside.{Held}
use Rattle.wf_talk.specs.Written.{Writes}
use Rattle.wf_tap.specs.declared.report.Results.{Results}
use Rattle.wf_tests.proofs.ReadLemmas.{all_read}
use Rattle.wf_tests.specs.Asked.{AnyAsks, IsAsked, TellsOf}
use Rattle.wf_tests.specs.Loaded.{Stopped}
use Rattle.wf_tests.specs.Named.{HasReadAll}
use Rattle.wf_tests.specs.Runs.{Says}
use Rattle.wf_tests.specs.Served.{Comes, End, HasFailed, HasPassed, HasReport, HasTested, IsTested, StopsBy, passed}
use Rattle.wf_tests.specs.Served.{report_of, report_status, status_of, stop_line, stop_status, text_of}
use Rattle.wf_tests.specs.Words.{Wish, wish_of}
use Rattle.wf_tests.specs.declared.stop.Stop.{Stop}

passes : (b : Bool) → report_status b ≡ 0 → b ≡ true
passes true is = refl
passes false is = absurd (omega (arith, is))

fails : (b : Bool) → report_status b ≡ 1 → b ≡ false
fails true is = absurd (omega (arith, is))
fails false is = refl

reports : (b : Bool) → report_status b ≤ 1
reports true = omega arith
reports false = omega arith

stops : (stop : Stop) → 3 ≤ stop_status stop
stops (Stop.CannotRead name) = omega arith
stops (Stop.TooLong name) = omega arith
stops (Stop.NoTests file words) = omega arith
stops Stop.Memory = omega arith

module _ (held : Held) (old new : List (List ℕ)) where
  -- want of memory may come wherever a call stops
  as_memory : (stop : Stop) → Stopped held old new stop → Stopped held old new Stop.Memory
  as_memory (Stop.CannotRead name) is = inr (name, is)
  as_memory (Stop.TooLong name) is = inl is.0
  as_memory (Stop.NoTests file words) is = inl is.0
  as_memory Stop.Memory is = is

  module _ (says : Says) (words : List (List ℕ)) (before after : Option (List ℕ)) (result : ℕ) where
    abbrev Tested : Type 0
    Tested = IsTested says held words old new before after result

    pub stopped : (wish : Wish) (stop : Stop) → wish_of words ≡ Some wish → Stopped held old new stop
        → TellsOf (AnyAsks held wish.files) (Contains wish.files) stop
        → (Writes before after (stop_status stop) (stop_line stop) result ⊎ Writes before after 5 (stop_line Stop.Memory) result)
        → Tested
    stopped wish stop asked is told (inl w) = record { end' = End.Stops stop; comes = (wish, asked, is, told); writes = w }
    stopped wish stop asked is told (inr w) =
        record { end' = End.Stops Stop.Memory; comes = (wish, asked, as_memory stop is, tt); writes = w }

    pub reported : (wish : Wish) (results : List Results) (text : List ℕ) (pass : Bool) → wish_of words ≡ Some wish → new ≡ old
        → HasReport says held wish results text pass → Writes before after (report_status pass) text result → Tested
    reported wish results text pass asked same report w = record {
      end' = End.Reports wish.junit results;
      comes = (same, record { files = wish.files; loaded = report.loaded; asked = asked; read = report.read; tested = report.tested });
      writes =
          subst (λ (s : ℕ). Writes before after s (report_of wish.junit results) result) (ap report_status report.told)
          (subst (λ (t : List ℕ). Writes before after (report_status pass) t result) report.reported w);
    }

    -- a status that isn't 4 is the end's, whose whole text was written
    written : (status : ℕ) (text : List ℕ) → (result ≡ 4 → ⊥) → Writes before after status text result
        → (result ≡ status) × Appends before after text
    written status text other (inl w) = w
    written status text other (inr w) = absurd (other w.0)

    end-written : (t : Tested) → (result ≡ 4 → ⊥) → (result ≡ status_of t.end') × Appends before after (text_of t.end')
    end-written t other = written (status_of t.end') (text_of t.end') other t.writes

    -- ---- 0 and 1

    abbrev Ran : ℕ → Type 0
    Ran status =
        (junit : Bool) × (results : List Results) × HasTested says held words junit results × (status ≡ report_status (passed results))

    ran-of : (end' : End) → Comes says held words old new end' → status_of end' ≤ 1 → Ran (status_of end')
    ran-of End.Misused comes le = absurd (omega (arith, le))
    ran-of (End.Stops stop) comes le = absurd (omega (arith, le, stops stop))
    ran-of (End.Reports junit results) comes le = (junit, results, comes.1, refl)

    ran : Tested → result ≤ 1 → Ran result
    ran t le =
        let is = (end-written t (λ four. omega (arith, four, le))).0 in
        subst Ran (sym is) (ran-of t.end' t.comes (omega (arith, is, le)))

    -- where 0 is answered all tests passed
    pub zero_passes : Tested → result ≡ 0 → HasPassed says held words
    zero_passes t is =
        let r = ran t (omega (arith, is)) in
        record { junit = r.0; results = r.1; tested = r.2; told = passes (passed r.1) (sym r.3 ∙ is) }

    -- where 1 is answered one failed
    pub one_fails : Tested → result ≡ 1 → HasFailed says held words
    one_fails t is =
        let r = ran t (omega (arith, is)) in
        record { junit = r.0; results = r.1; tested = r.2; told = fails (passed r.1) (sym r.3 ∙ is) }

    -- where 0 or 1 is answered each file was read that is named
    pub answered_is_read : Tested → result ≤ 1 → HasReadAll held words
    answered_is_read t le =
        let r = ran t le in
        record {
          wish = record { junit = r.0; files = r.2.files };
          asked = r.2.asked;
          read = all_read held says r.2.files r.2.loaded r.1 r.2.read r.2.tested;
        }

    -- ---- 2

    two-of : (end' : End) → Comes says held words old new end' → status_of end' ≡ 2 → wish_of words ≡ None
    two-of End.Misused comes is = comes.0
    two-of (End.Stops stop) comes is = absurd (omega (arith, is, stops stop))
    two-of (End.Reports junit results) comes is = absurd (omega (arith, is, reports (passed results)))

    -- 2 is answered where the words are none
    pub two_misuses : Tested → result ≡ 2 → wish_of words ≡ None
    two_misuses t is = two-of t.end' t.comes (sym (end-written t (λ four. omega (arith, four, is))).0 ∙ is)

    misused-of : (end' : End) → Comes says held words old new end' → Writes before after (status_of end') (text_of end') result
        → wish_of words ≡ None → (result ≡ 2) ⊎ (result ≡ 4)
    misused-of End.Misused comes (inl w) none = inl w.0
    misused-of End.Misused comes (inr w) none = inr w.0
    misused-of (End.Stops stop) comes w none = absurd (none-some comes.0 (sym none ∙ comes.1))
    misused-of (End.Reports junit results) comes w none = absurd (none-some _ (sym none ∙ comes.1.asked))

    -- where the words are none 2 is answered, 4 apart
    pub misuse_is_told : Tested → wish_of words ≡ None → (result ≡ 2) ⊎ (result ≡ 4)
    misuse_is_told t none = misused-of t.end' t.comes t.writes none

    -- ---- 3 and 6

    abbrev HasStopped : ℕ → Type 0
    HasStopped status =
        (stop : Stop) × (status ≡ stop_status stop) × StopsBy held words old new stop × Appends before after (stop_line stop)

    stop-of : (end' : End) → Comes says held words old new end' → 3 ≤ status_of end' → Appends before after (text_of end')
        → HasStopped (status_of end')
    stop-of End.Misused comes ge wrote = absurd (omega (arith, ge))
    stop-of (End.Stops stop) comes ge wrote = (stop, refl, comes, wrote)
    stop-of (End.Reports junit results) comes ge wrote = absurd (omega (arith, ge, reports (passed results)))

    -- where 3, 5 or 6 is answered no test runs, for a cause that has this status, and it was told
    pub has_stopped : Tested → 3 ≤ result → (result ≡ 4 → ⊥) → HasStopped result
    has_stopped t ge other =
        let w = end-written t other in
        subst HasStopped (sym w.0) (stop-of t.end' t.comes (omega (arith, w.0, ge)) w.1)

    -- a read failed of a file that is asked for, and its name was written
    abbrev FailedToRead : Type 0
    FailedToRead =
        (name : List ℕ) × IsAsked held words name × (new ≡ old ++ name ∷ []) × Appends before after (stop_line (Stop.CannotRead name))

    three-of : (stop : Stop) → 3 ≡ stop_status stop → StopsBy held words old new stop → Appends before after (stop_line stop)
        → FailedToRead
    three-of (Stop.CannotRead name) is by wrote = (name, (by.0, by.1, by.3), by.2, wrote)
    three-of (Stop.TooLong name) is by wrote = absurd (omega (arith, is))
    three-of (Stop.NoTests file words') is by wrote = absurd (omega (arith, is))
    three-of Stop.Memory is by wrote = absurd (omega (arith, is))

    pub three_failed : Tested → result ≡ 3 → FailedToRead
    three_failed t is =
        let h = has_stopped t (omega (arith, is)) (λ four. omega (arith, four, is)) in three-of h.0 (sym is ∙ h.1) h.2 h.3

    pub six_stops : Tested → result ≡ 6 → HasStopped 6
    six_stops t is = subst HasStopped is (has_stopped t (omega (arith, is)) (λ four. omega (arith, four, is)))

    -- where a read failed the status tells it
    abbrev IsUnread : Type 0
    IsUnread =
        (new ≡ old) ⊎ ((name : List ℕ) × (new ≡ old ++ name ∷ []) × ((result ≡ 3) ⊎ (result ≡ 4) ⊎ (result ≡ 5)))

    unread-stop : (stop : Stop) → Stopped held old new stop → Writes before after (stop_status stop) (stop_line stop) result → IsUnread
    unread-stop (Stop.CannotRead name) is (inl w) = inr (name, is, inl w.0)
    unread-stop (Stop.CannotRead name) is (inr w) = inr (name, is, inr (inl w.0))
    unread-stop (Stop.TooLong name) is w = inl is.0
    unread-stop (Stop.NoTests file words') is w = inl is.0
    unread-stop Stop.Memory (inl same) w = inl same
    unread-stop Stop.Memory (inr failed) (inl w) = inr (failed.0, failed.1, inr (inr w.0))
    unread-stop Stop.Memory (inr failed) (inr w) = inr (failed.0, failed.1, inr (inl w.0))

    unread-of : (end' : End) → Comes says held words old new end' → Writes before after (status_of end') (text_of end') result → IsUnread
    unread-of End.Misused comes w = inl comes.1
    unread-of (End.Stops stop) comes w = unread-stop stop comes.2 w
    unread-of (End.Reports junit results) comes w = inl comes.0

    pub failed_is_told : Tested → IsUnread
    failed_is_told t = unread-of t.end' t.comes t.writes
