-- How `session` ends by what the tests before its talk lead to.
use Rattle.std.proofs.Common.{◌≡◌, ◌⊎◌, ◌<◌, ℕ, List, Option, Some, Ok, inl, inr, refl, ap, subst, sym}
use Rattle.std.specs.Option.{option_map}
use Rattle.wf_answers.specs.InputsSeen.{inputs_tree}
use Rattle.wf_answers.specs.declared.inputs.Inputs.{Inputs}
use Rattle.wf_outside.specs.Outside.{Held, Rose}
use Rattle.wf_reading.specs.ReadSeen.{def_tree}
use Rattle.wf_files.specs.Checked.{Checked}
use Rattle.wf_stands.specs.Stands.{Stands}
use Rattle.wf_talk.specs.Talks.{Talks}
use Rattle.wf_top.proofs.Opening.{led_by_session}
use Rattle.wf_top.specs.Commands.{plan, plan_of}
use Rattle.wf_top.specs.Conversed.{IsServed}
use Rattle.wf_top.specs.Opening.{Opens}
use Rattle.wf_top.specs.Served.{Serves}
use Rattle.wf_top.specs.Session.{session}
use Rattle.wf_top.specs.Words.{command_of, word}
use Rattle.wf_top.specs.declared.session.Opened.{Opened}
use Rattle.wf_top.specs.declared.words.Command.TheVariants.{Session}
use Rattle.wf_trigger.specs.StartsSeen.{start_tree}
use Rattle.wf_trigger.specs.declared.starts.Start.{Start}

plan_of_session : (words : List (List ℕ)) → command_of words ≡ Some Session → plan_of words ≡ Some (session (word words 1) (word words 2))
unfolding plan
plan_of_session words names = ap (λ found. option_map (λ c. plan c words) found) names

module _ (held : Held) (words : List (List ℕ)) (first second : List ℕ) (old new : List (List ℕ)) (names : command_of words ≡ Some Session)
    (one : first ≡ word words 1) (two : second ≡ word words 2) where
  -- no talk: the source is as it was
  pub said_before : (faults : ℕ) (left before after : Option (List ℕ)) (result : ℕ) →
      Serves held (Some (session first second)) old new before after result →
      IsServed held words old new faults faults left left before after result
  said_before faults left before after result serves = inl (
    subst (λ p. Serves held p old new before after result) (sym (plan_of_session words names))
        (subst (λ x. Serves held (Some (session (word words 1) x)) old new before after result) two
        (subst (λ x. Serves held (Some (session x second)) old new before after result) one serves)),
    refl,
    refl,
  )

  -- a talk of what was opened
  pub begins_talk : (checked : Checked) (start : Start) (inputs : Inputs) →
      Opens held (session first second) old new (Ok (Opened.Talk checked start inputs)) →
      (faults faults' : ℕ) (left left' before after : Option (List ℕ)) (result : ℕ) →
      Talks (Stands (def_tree checked.def) (start_tree start)) (inputs_tree inputs) left left' before after result →
      (result ≡ 3 → Rose faults faults') → (faults < faults' → (result ≡ 3) ⊎ ((result ≡ 4) ⊎ (result ≡ 5))) →
      IsServed held words old new faults faults' left left' before after result
  begins_talk checked start inputs opens faults faults' left left' before after result talks three failed =
      let opened : Opens held (session (word words 1) (word words 2)) old new (Ok (Opened.Talk checked start inputs)) =
      subst (λ x. Opens held (session (word words 1) x) old new (Ok (Opened.Talk checked start inputs))) two
      (subst (λ x. Opens held (session x second) old new (Ok (Opened.Talk checked start inputs))) one opens) in
      let known = led_by_session held words names (def_tree checked.def) (start_tree start) (inputs_tree inputs) opened.1 in
      inr (record {
        talked = record {
          definition = def_tree checked.def;
          inputs = inputs_tree inputs;
          start = start_tree start;
          given = known.0;
          alone = known.1;
          talks = talks;
        };
        same = opened.0;
        three = three;
        failed = failed;
      })
