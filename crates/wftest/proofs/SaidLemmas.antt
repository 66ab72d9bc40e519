-- What is said of words that are no session: the status, and all that was taken.
use Rattle.std.proofs.Common.{◌≡◌, ◌⊎◌, Bool, ℕ, ◌<◌, List, [], ◌++◌, true, false, nat_le, suc, zero, Option, Some, inl, inr, refl, sym}
use Rattle.std.proofs.Common.{ap, subst, ◌∙◌, arith, true≢false}
use Rattle.std.specs.Prelude.{◌&&◌, None, if◌then◌else◌}
use Rattle.wf_outside.specs.Outside.{IsCalm}
use Rattle.wf_tests.specs.Command.{IsOfATest, again_words}
use Rattle.wf_top.specs.Commands.{plan_of}
use Rattle.wf_top.specs.Conversed.{HoldsTalk}
use Rattle.wf_top.specs.Served.{FailedAt, IsSaid, Say}
use Rattle.wf_top.specs.Words.{command_of}
use Rattle.wf_top.specs.declared.words.Command.{Command}
use Rattle.wf_top.specs.declared.words.Command.TheVariants.{ResubmitSet, Session}

-- ---- the command of a test is no session

abbrev is-session : Option Command → Bool
is-session (Some Session) = true
is-session command = false

set-apart : (b : Bool) → is-session (if b then Some ResubmitSet else None) ≡ false
set-apart true = refl
set-apart false = refl

again-apart : (run : List ℕ) (from : List (List ℕ)) → is-session (command_of (again_words run from)) ≡ false
again-apart run from = set-apart _

test-apart : (words : List (List ℕ)) → IsOfATest words → is-session (command_of words) ≡ false
test-apart words (inl check) = ap (λ (w : List (List ℕ)). is-session (command_of w)) check
test-apart words (inr (inl run)) = ap (λ (w : List (List ℕ)). is-session (command_of w)) run
test-apart words (inr (inr again)) =
    ap (λ (w : List (List ℕ)). is-session (command_of w)) again.2 ∙ again-apart again.0 again.1

pub no_session : (words : List (List ℕ)) → IsOfATest words → command_of words ≡ Some Session → ⊥
no_session words test session = true≢false (sym (ap is-session session) ∙ test-apart words test)

-- ---- what is said

-- a count that starts at 0 and doesn't rise is calm
pub calm : (count later status : ℕ) → count ≡ 0 → (status ≡ 4 → ⊥) → (count < later → status ≡ 4) → IsCalm count later
calm count zero status is written rose = omega (arith, is)
calm count (suc n) status is written rose = absurd (written (rose (omega (arith, is))))

module _ (bytes_of : List ℕ → Option (List ℕ)) (words old new : List (List ℕ)) (count later status : ℕ) (before taken : List ℕ) where
  -- what is said where no count rose and no talk begins
  abbrev pub IsTold : Type 0
  IsTold =
      (HoldsTalk bytes_of words → ⊥) → new ≡ old → IsCalm count later → IsSaid (Say bytes_of words) (Some before) (Some taken) status

  -- where a read failed the status tells it
  abbrev pub IsUnread : Type 0
  IsUnread =
      (new ≡ old) ⊎ ((name : List ℕ) × FailedAt (Some bytes_of) (plan_of words) old new name ×
      ((status ≡ 3) ⊎ (status ≡ 4) ⊎ (status ≡ 5)))

  pub no_talk : (command_of words ≡ Some Session → ⊥) → HoldsTalk bytes_of words → ⊥
  no_talk other talk = other talk.3.definition_held.names

  pub all_read : (status ≡ 3 → ⊥) → (status ≡ 4 → ⊥) → (status ≡ 5 → ⊥) → IsUnread → new ≡ old
  all_read read written spent (inl same) = same
  all_read read written spent (inr failed) = absurd (elim failed.2 [
    | inl three ↦ read three
    | inr (inl four) ↦ written four
    | inr (inr five) ↦ spent five
  ])

  pub text_said : (status ≡ 5 → ⊥) → before ≡ [] → IsSaid (Say bytes_of words) (Some before) (Some taken) status →
      Say bytes_of words status taken
  text_said spent empty (inl all) =
      subst (λ (t : List ℕ). Say bytes_of words status t) (sym (all.2 ∙ ap (λ (b : List ℕ). b ++ all.0) empty)) all.1
  text_said spent empty (inr none) = absurd (spent none.0)

  apart : (nat_le 3 status && nat_le status 5) ≡ false → (s : ℕ) → (nat_le 3 s && nat_le s 5) ≡ true → status ≡ s → ⊥
  apart done s within is = true≢false (sym within ∙ subst (λ (n : ℕ). (nat_le 3 n && nat_le n 5) ≡ false) is done)

  -- Words that are no session, and came to none of the ends for want of a read, a write or memory, said all that was taken.
  pub whole_said : (command_of words ≡ Some Session → ⊥) → before ≡ [] → count ≡ 0 → IsTold → IsUnread →
      (count < later → status ≡ 4) → (nat_le 3 status && nat_le status 5) ≡ false → Say bytes_of words status taken
  whole_said other empty none told unread rose done =
      let same : new ≡ old = all_read (apart done 3 refl) (apart done 4 refl) (apart done 5 refl) unread in
      text_said (apart done 5 refl) empty (told (no_talk other) same (calm count later status none (apart done 4 refl) rose))
