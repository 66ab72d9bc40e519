-- What follows from how a call ended, a talk or not.
use Rattle.std.proofs.Common.{◌≡◌, ◌⊎◌, ◌<◌, ◌≤◌, ℕ, List, Option, None, Some, inl, inr, ap, sym, ◌∙◌, arith}
use Rattle.std.specs.Option.{option_map}
use Rattle.std.specs.Io.KnownBytes.{Appends}
use Rattle.wf_outside.specs.Outside.{Held, Rose}
use Rattle.wf_stands.specs.Stands.{Stands}
use Rattle.wf_top.specs.Commands.{plan, plan_of}
use Rattle.wf_top.specs.Conversed.{IsServed, NoneStarts, Talked}
use Rattle.wf_top.specs.Served.{FailedAt, Serves, cannot_read}
use Rattle.wf_top.specs.Words.{command_of}
use Rattle.wf_top.specs.declared.words.Command.{Command}
use Rattle.wf_top.specs.declared.words.Command.TheVariants.{Session}
use Rattle.wf_top.proofs.Completeness.{IsTold}
use Rattle.wf_top.proofs.HeldTalks.{talk_held}
use Rattle.wf_top.proofs.Outcomes.{no_command, serves_le, serves_misused, serves_three, serves_told, serves_two, serves_unread}
use Rattle.wf_top.proofs.Spoken.{RefusedEight, RefusedOne, RefusedSeven, RefusedSix, serves_cost, serves_definition, serves_history}
use Rattle.wf_top.proofs.Spoken.{serves_inputs, serves_none, talked_eight, talked_six}
use Rattle.wf_top.proofs.TalkLemmas.{IsOfTalk, talks_status}

module _ (held : Held) (words : List (List ℕ)) (old new : List (List ℕ)) (faults faults' : ℕ)
    (left left' before after : Option (List ℕ)) (result : ℕ) where
  abbrev HasServed : Type 0
  HasServed = IsServed held words old new faults faults' left left' before after result

  abbrev IsTalked : Type 0
  IsTalked = Talked held words left left' before after result

  names_session : IsTalked → command_of words ≡ Some Session
  names_session talked = talked.given.definition_given.0

  status_of_talk : IsTalked → IsOfTalk result
  status_of_talk talked = talks_status (Stands talked.definition talked.start) talked.inputs left left' before after result talked.talks

  -- of another command than `session`
  pub apart : HasServed → (command : Command) → (command ≡ Session → ⊥) → command_of words ≡ Some command →
      Serves held (plan_of words) old new before after result
  apart served command other names = elim served [
    | inl said ↦ said.0
    | inr talk ↦ absurd (
        let e : Some command ≡ Some Session = sym names ∙ names_session talk.talked in
        let same : command ≡ Session = cc in other same
        )
  ]

  pub served_le : HasServed → result ≤ 9
  served_le served = elim served [
    | inl said ↦ (let le : result ≤ 8 = serves_le held (plan_of words) old new before after result said.0 in omega (arith, le))
    | inr talk ↦ (status_of_talk talk.talked).within
  ]

  pub served_two : HasServed → result ≡ 2 → command_of words ≡ None
  served_two served two = elim served [
    | inl said ↦ no_command (λ command. plan command words) (command_of words)
        (serves_two held (plan_of words) old new before after result said.0 two)
    | inr talk ↦ absurd ((status_of_talk talk.talked).not_two two)
  ]

  pub served_misused : HasServed → command_of words ≡ None → (result ≡ 2) ⊎ (result ≡ 4)
  served_misused served none = elim served [
    | inl said ↦ serves_misused held (plan_of words) old new before after result said.0
        (ap (λ o. option_map (λ command. plan command words) o) none)
    | inr talk ↦ absurd (let e : None ≡ Some Session = sym none ∙ names_session talk.talked in cc)
  ]

  pub served_three : HasServed → result ≡ 3 →
      ((name : List ℕ) × FailedAt held (plan_of words) old new name × Appends before after (cannot_read name))
      ⊎ (Rose faults faults' × IsTalked)
  served_three served three = elim served [
    | inl said ↦ inl (serves_three held (plan_of words) old new before after result said.0 three)
    | inr talk ↦ inr (talk.three three, talk.talked)
  ]

  pub served_unread : HasServed →
      (new ≡ old) ⊎ ((name : List ℕ) × FailedAt held (plan_of words) old new name × ((result ≡ 3) ⊎ ((result ≡ 4) ⊎ (result ≡ 5))))
  served_unread served = elim served [
    | inl said ↦ serves_unread held (plan_of words) old new before after result said.0
    | inr talk ↦ inl talk.same
  ]

  pub served_faults : HasServed → (faults' ≡ faults) ⊎ IsTalked
  served_faults served = elim served [ inl said ↦ inl said.1 | inr talk ↦ inr talk.talked ]

  pub served_left : HasServed → (left' ≡ left) ⊎ IsTalked
  served_left served = elim served [ inl said ↦ inl said.2 | inr talk ↦ inr talk.talked ]

  pub served_failed : HasServed → faults < faults' → (result ≡ 3) ⊎ ((result ≡ 4) ⊎ (result ≡ 5))
  served_failed served more = elim served [
    | inl said ↦ absurd (let same : faults' ≡ faults = said.1 in omega (arith, same, more))
    | inr talk ↦ talk.failed more
  ]

  pub served_nine : HasServed → result ≡ 9 → IsTalked
  served_nine served nine = elim served [
    | inl said ↦ absurd (
        let le : result ≤ 8 = serves_le held (plan_of words) old new before after result said.0 in omega (arith, le, nine)
        )
    | inr talk ↦ talk.talked
  ]

  pub served_definition : HasServed → result ≡ 1 → RefusedOne held words old new before after result
  served_definition served one = elim served [
    | inl said ↦ serves_definition held words old new before after result said.0 one
    | inr talk ↦ absurd ((status_of_talk talk.talked).not_one one)
  ]

  pub served_inputs : HasServed → result ≡ 6 → RefusedSix held words old new before after result left left'
  served_inputs served six = elim served [
    | inl said ↦ serves_inputs held words old new before after result left left' said.0 six
    | inr talk ↦ talked_six held words old new before after result left left' talk.talked
  ]

  pub served_history : HasServed → result ≡ 7 → RefusedSeven held words old new before after result
  served_history served seven = elim served [
    | inl said ↦ serves_history held words old new before after result said.0 seven
    | inr talk ↦ absurd ((status_of_talk talk.talked).not_seven seven)
  ]

  pub served_cost : HasServed → result ≡ 8 → RefusedEight held words old new before after result left left'
  served_cost served eight = elim served [
    | inl said ↦ serves_cost held words old new before after result left left' said.0 eight
    | inr talk ↦ talked_eight held words old new before after result left left' talk.talked
  ]

  pub served_none : HasServed → command_of words ≡ Some Session → result ≡ 0 → NoneStarts held words before after ⊎ IsTalked
  served_none served names zero = elim served [
    | inl said ↦ inl (serves_none held words old new before after result names said.0 zero)
    | inr talk ↦ inr talk.talked
  ]

-- where no count rose and no talk begins, that was said which the words say
pub served_told : (held : Held) (words : List (List ℕ)) (old new : List (List ℕ)) (faults faults' : ℕ)
    (left left' before after : Option (List ℕ)) (count later result : ℕ) →
    IsServed held words old new faults faults' left left' before after result → (result ≡ 4 → Rose count later) →
    IsTold held words old new before after count later result
served_told None words old new faults faults' left left' before after count later result served four = tt
served_told (Some bytes_of) words old new faults faults' left left' before after count later result served four = λ no same calm.
    elim served [
      | inl said ↦ serves_told (Some bytes_of) (plan_of words) old new before after count later result said.0 four same calm
      | inr talk ↦ absurd (no (talk_held bytes_of words left left' before after result talk.talked))
    ]
