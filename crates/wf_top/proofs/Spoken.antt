-- What each status says of the files.
use Rattle.std.proofs.Common.{◌≡◌, ◌⊎◌, ℕ, List, true, false, Option, None, Some, Ok, inl, inr, refl, subst, sym, arith}
use Rattle.std.specs.Option.{option_map}
use Rattle.std.specs.Io.KnownBytes.{Appends}
use Rattle.wf_outside.specs.Outside.{Held}
use Rattle.wf_top.specs.Commands.{plan, plan_of}
use Rattle.wf_recur.proofs.ReadLemmas.{read-next}
use Rattle.wf_recur.specs.Moments.{moments_due}
use Rattle.wf_recur.specs.Reading.{recurrence_of}
use Rattle.wf_recur.specs.declared.recurrence.Recurrence.{Recurrence}
use Rattle.wf_val.specs.ValueTree.{ValueTree}
use Rattle.wf_top.specs.Drilled.{Drilled, RefusedDrill, RefusedDrillCost, RefusedDrillInputs, RefusedDrillTrigger}
use Rattle.wf_top.specs.Fires.{moments_text, trigger_in}
use Rattle.wf_top.specs.Ran.{Checked, Fired, GivesValue, Listed, Ran, RefusedCost, RefusedDefinition, RefusedHistory, RefusedInputs}
use Rattle.wf_top.specs.Ran.{RefusedName, RefusedRecurrence, RefusedSchedule, RefusedTrigger}
use Rattle.wf_top.specs.Resubmitted.{RefusedAnswers, RefusedLog, RefusedNames, RefusedNewCost, RefusedRun, RefusedTimes, Resubmitted}
use Rattle.wf_top.proofs.AgainOutcomes.{AgainOutcome, again_done, again_eight, again_names, again_not_one, again_seven, again_six}
use Rattle.wf_top.proofs.DrillOutcomes.{DrillOutcome, drill_done, drill_eight, drill_names, drill_not_seven, drill_one, drill_six, is_drill}
use Rattle.wf_top.proofs.Outcomes.{misused_at}
use Rattle.wf_top.specs.Served.{Comes, Outcome, Misused, Serves, Speaks, Spent, Unread, status_of, text_of}
use Rattle.wf_talk.specs.Written.{Writes}
use Rattle.wf_top.specs.Words.{command_of, makes_runs, resubmits, word}
use Rattle.wf_top.proofs.CommandOutcomes.{CommandOutcome, again, before_talk, checks, command_comes, costs, drilling, fires, lists}
use Rattle.wf_top.proofs.CommandOutcomes.{no_definition, no_history, no_inputs, no_name, no_recurrence, no_run, no_schedule, runs}
use Rattle.wf_top.proofs.SessionOutcomes.{SessionOutcome, session_done, session_names, session_six, session_status}
use Rattle.wf_top.specs.Conversed.{NoneStarts, RefusesTalk, Talked}
use Rattle.wf_top.specs.declared.words.Command.{Command}
use Rattle.wf_top.specs.declared.words.Command.TheVariants.{Check, Run, Trace, Resubmit, ResubmitSet, Drill, Fires, Session}

-- a command that makes runs, or resubmits one, is not `session`
pub makes_no_talk : (command : Command) → makes_runs command ≡ true → command ≡ Session → ⊥
makes_no_talk command makes is = cc

pub again_no_talk : (command : Command) → resubmits command ≡ true → command ≡ Session → ⊥
again_no_talk command anew is = cc

-- What was said, and what it says of the files: its status was answered, and its text taken.
record Spoke (held : Held) (words : List (List ℕ)) (before after : Option (List ℕ)) (result : ℕ) : Type 0 where
  text : List ℕ
  says : CommandOutcome held words result text
  written : Appends before after text

-- no status of another outcome
abbrev IsSpoken : ℕ → Type 0
IsSpoken result = (result ≡ 2 → ⊥) × (result ≡ 3 → ⊥) × (result ≡ 4 → ⊥) × (result ≡ 5 → ⊥)

module _ (held : Held) (words : List (List ℕ)) (old new : List (List ℕ)) (before after : Option (List ℕ)) (result : ℕ) where
  spoke_at : (command : Option Command) → command_of words ≡ command → (outcome : Outcome) →
      Comes held (option_map (λ c. plan c words) command) old new outcome →
      Writes before after (status_of outcome) (text_of outcome) result → IsSpoken result → Spoke held words before after result
  spoke_at None names outcome comes writes spoken =
      let status = misused_at before after result outcome comes.0 writes in
      absurd (elim status [ inl two ↦ spoken.0 two | inr four ↦ spoken.2 four ])
  spoke_at (Some command) names Misused comes writes spoken = absurd comes
  spoke_at (Some command) names (Speaks verdict text) comes writes spoken = elim writes [
    | inl all ↦ record {
      text = text;
      says = subst (λ status. CommandOutcome held words status text) (sym all.0)
          (command_comes held words verdict text command names comes.1);
      written = all.1;
    }
    | inr cut ↦ absurd (spoken.2 cut.0)
  ]
  spoke_at (Some command) names (Unread name) comes writes spoken =
      absurd (elim writes [ inl all ↦ spoken.1 all.0 | inr cut ↦ spoken.2 cut.0 ])
  spoke_at (Some command) names Spent comes writes spoken =
      absurd (elim writes [ inl all ↦ spoken.3 all.0 | inr cut ↦ spoken.2 cut.0 ])

  abbrev HasServed : Type 0
  HasServed = Serves held (plan_of words) old new before after result

  spoke : HasServed → IsSpoken result → Spoke held words before after result
  spoke serves spoken = spoke_at (command_of words) refl serves.outcome serves.comes serves.writes spoken

  zero_spoken : result ≡ 0 → IsSpoken result
  zero_spoken is = (λ h. omega arith, λ h. omega arith, λ h. omega arith, λ h. omega arith)

  one_spoken : result ≡ 1 → IsSpoken result
  one_spoken is = (λ h. omega arith, λ h. omega arith, λ h. omega arith, λ h. omega arith)

  six_spoken : result ≡ 6 → IsSpoken result
  six_spoken is = (λ h. omega arith, λ h. omega arith, λ h. omega arith, λ h. omega arith)

  seven_spoken : result ≡ 7 → IsSpoken result
  seven_spoken is = (λ h. omega arith, λ h. omega arith, λ h. omega arith, λ h. omega arith)

  eight_spoken : result ≡ 8 → IsSpoken result
  eight_spoken is = (λ h. omega arith, λ h. omega arith, λ h. omega arith, λ h. omega arith)

  -- the words are one command
  one_command : (c d : Command) → command_of words ≡ Some c → command_of words ≡ Some d → c ≡ d
  one_command c d first second = cc

  -- a command that resubmits is none that doesn't
  other_than_again : (command : Command) → resubmits command ≡ false → command_of words ≡ Some command → (status : ℕ) (text : List ℕ)
      → AgainOutcome held words status text → ⊥
  other_than_again command not_again names status text outcome =
      let found = again_names held words before after status text outcome in
      let same : found.0 ≡ command = one_command found.0 command found.2 names in
      let is : resubmits command ≡ true = subst (λ c. resubmits c ≡ true) same found.1 in cc

  -- and `drill` is no other
  other_than_drill : (command : Command) → is_drill command ≡ false → command_of words ≡ Some command → (status : ℕ) (text : List ℕ)
      → DrillOutcome words status text → ⊥
  other_than_drill command no_drill names status text outcome =
      let found = drill_names words before after text status outcome in
      let same : Drill found.0 ≡ command = one_command (Drill found.0) command found.1 names in
      let is : is_drill command ≡ true = subst (λ c. is_drill c ≡ true) same refl in cc

  -- and `session` is no other
  other_than_session : (command : Command) → (command ≡ Session → ⊥) → command_of words ≡ Some command → (status : ℕ) (text : List ℕ)
      → SessionOutcome held words status text → ⊥
  other_than_session command other names status text outcome =
      other (one_command command Session names (session_names held words before after text status outcome))

  checked_by : command_of words ≡ Some Check → result ≡ 0 → (text : List ℕ) → Appends before after text →
      CommandOutcome held words result text → Checked held words before after
  checked_by names zero text written (no_definition command fault given is said) = absurd (omega (arith, zero, is))
  checked_by names zero text written (checks d given is said) =
      record { definition = d; definition_given = given; written = rw said at written }
  checked_by names zero text written (no_inputs command d fault makes given handed is said) = absurd (omega (arith, zero, is))
  checked_by names zero text written (no_schedule command d inputs fault given timed is said) = absurd (omega (arith, zero, is))
  checked_by names zero text written (runs command d inputs schedule given timed is made) = absurd (
      let e : Check ≡ command = one_command _ _ names given.definition_given.0 in
      let makes : makes_runs command ≡ true = given.makes in cc
      )
  checked_by names zero text written (no_run command d inputs schedule fault given timed is made said) = absurd (omega (arith, zero, is))
  checked_by names zero text written (fires from count file trigger r given has reads is said) =
      absurd (let e : Check ≡ Fires from count = one_command _ _ names given.0 in cc)
  checked_by names zero text written (no_name from count file given has is said) = absurd (omega (arith, zero, is))
  checked_by names zero text written (no_recurrence from count file trigger fault given has reads is said) =
      absurd (omega (arith, zero, is))
  checked_by names zero text written (costs command d inputs schedule given timed is made said) = absurd (omega (arith, zero, is))
  checked_by names zero text written (no_history fault given is said) = absurd (omega (arith, zero, is))
  checked_by names zero text written (lists listing given is said) =
      absurd (let e : Check ≡ Command.List = one_command _ _ names given.0 in cc)
  checked_by names zero text written (again outcome) = absurd (other_than_again Check refl names result text outcome)
  checked_by names zero text written (drilling outcome) = absurd (other_than_drill Check refl names result text outcome)
  checked_by names zero text written (before_talk outcome) = absurd (other_than_session Check (λ is. cc) names result text outcome)

  pub serves_checked : HasServed → command_of words ≡ Some Check → result ≡ 0 → Checked held words before after
  serves_checked serves names zero =
      let s = spoke serves (zero_spoken zero) in checked_by names zero s.text s.written s.says

  runs_anew : (command : Command) → makes_runs command ≡ true → resubmits command ≡ false
  runs_anew Check makes = absurd (cc)
  runs_anew Run makes = refl
  runs_anew Trace makes = refl
  runs_anew Command.List makes = absurd (cc)
  runs_anew Resubmit makes = absurd (cc)
  runs_anew ResubmitSet makes = absurd (cc)
  runs_anew (Fires from count) makes = absurd (cc)
  runs_anew (Drill n) makes = absurd (cc)
  runs_anew Session makes = absurd (cc)

  runs_no_drill : (command : Command) → makes_runs command ≡ true → is_drill command ≡ false
  runs_no_drill Check makes = refl
  runs_no_drill Run makes = refl
  runs_no_drill Trace makes = refl
  runs_no_drill Command.List makes = refl
  runs_no_drill Resubmit makes = refl
  runs_no_drill ResubmitSet makes = refl
  runs_no_drill (Fires from count) makes = refl
  runs_no_drill (Drill n) makes = absurd (cc)
  runs_no_drill Session makes = absurd (cc)

  module _ (command : Command) (makes : makes_runs command ≡ true) where
    ran_by : command_of words ≡ Some command → result ≡ 0 → (text : List ℕ) → Appends before after text →
        CommandOutcome held words result text → Ran held words command before after
    ran_by names zero text written (no_definition c fault given is said) = absurd (omega (arith, zero, is))
    ran_by names zero text written (checks d given is said) = absurd (let e : Check ≡ command = one_command _ _ given.0 names in cc)
    ran_by names zero text written (no_inputs c d fault made given handed is said) = absurd (omega (arith, zero, is))
    ran_by names zero text written (no_schedule c d inputs fault given timed is said) = absurd (omega (arith, zero, is))
    ran_by names zero text written (runs c d inputs schedule given timed is made) =
        subst (λ called. Ran held words called before after) (one_command c command given.definition_given.0 names) (record {
          definition = d;
          inputs = inputs;
          schedule = schedule;
          text = text;
          given = given;
          schedule_given = timed;
          runs_made = made;
          written = written;
        })
    ran_by names zero text written (no_run c d inputs schedule fault given timed is made said) = absurd (omega (arith, zero, is))
    ran_by names zero text written (fires from count file trigger r given has reads is said) = absurd (
        let e : Fires from count ≡ command = one_command _ _ given.0 names in
        let makes_none : makes_runs command ≡ true = makes in cc
        )
    ran_by names zero text written (no_name from count file given has is said) = absurd (omega (arith, zero, is))
    ran_by names zero text written (no_recurrence from count file trigger fault given has reads is said) = absurd (omega (arith, zero, is))
    ran_by names zero text written (costs c d inputs schedule given timed is made said) = absurd (omega (arith, zero, is))
    ran_by names zero text written (no_history fault given is said) = absurd (omega (arith, zero, is))
    ran_by names zero text written (lists listing given is said) =
        absurd (let e : Command.List ≡ command = one_command _ _ given.0 names in cc)
    ran_by names zero text written (again outcome) = absurd (other_than_again command (runs_anew command makes) names result text outcome)
    ran_by names zero text written (drilling outcome) =
        absurd (other_than_drill command (runs_no_drill command makes) names result text outcome)
    ran_by names zero text written (before_talk outcome) =
        absurd (other_than_session command (makes_no_talk command makes) names result text outcome)

    pub serves_ran : HasServed → command_of words ≡ Some command → result ≡ 0 → Ran held words command before after
    serves_ran serves names zero = let s = spoke serves (zero_spoken zero) in ran_by names zero s.text s.written s.says

  module _ (from count : ℕ) (names : command_of words ≡ Some (Fires from count)) where
    -- `fires` has its own moment and its own number
    fired_with : (file trigger : ValueTree) (r : Recurrence) (text : List ℕ) → GivesValue held words from count (Ok file) →
        trigger_in (word words 2) file ≡ Some trigger → recurrence_of trigger ≡ Ok r → text ≡ moments_text (moments_due r from count) →
        Appends before after text → Fired held words from count before after
    fired_with file trigger r text given has reads said written = record {
      file = file;
      trigger = trigger;
      recurrence = r;
      moments = moments_due r from count;
      value_given = given;
      has_trigger = has;
      recurs = reads;
      next = read-next trigger r from count reads;
      written = rw said at written;
    }

    fired_by : result ≡ 0 → (text : List ℕ) → Appends before after text → CommandOutcome held words result text →
        Fired held words from count before after
    fired_by zero text written (no_definition c fault given is said) = absurd (omega (arith, zero, is))
    fired_by zero text written (checks d given is said) =
        absurd (let e : Check ≡ Fires from count = one_command _ _ given.0 names in cc)
    fired_by zero text written (no_inputs c d fault made given handed is said) = absurd (omega (arith, zero, is))
    fired_by zero text written (no_schedule c d inputs fault given timed is said) = absurd (omega (arith, zero, is))
    fired_by zero text written (runs c d inputs schedule given timed is made) = absurd (
        let e : Fires from count ≡ c = one_command _ _ names given.definition_given.0 in
        let makes : makes_runs c ≡ true = given.makes in cc
        )
    fired_by zero text written (no_run c d inputs schedule fault given timed is made said) = absurd (omega (arith, zero, is))
    fired_by zero text written (costs c d inputs schedule given timed is made said) = absurd (omega (arith, zero, is))
    fired_by zero text written (fires from' count' file trigger r given has reads is said) =
        let e : Fires from' count' ≡ Fires from count = one_command _ _ given.0 names in
        let same_from : from' ≡ from = cc in
        let same_count : count' ≡ count = cc in
        let P : ℕ → ℕ → Type 0 = λ f c. GivesValue held words f c (Ok file) in
        let Q : ℕ → ℕ → Type 0 = λ f c. text ≡ moments_text (moments_due r f c) in
        fired_with file trigger r text
        (subst (λ f. P f count) same_from (subst (λ c. P from' c) same_count given)) has reads
        (subst (λ f. Q f count) same_from (subst (λ c. Q from' c) same_count said)) written
    fired_by zero text written (no_name from' count' file given has is said) = absurd (omega (arith, zero, is))
    fired_by zero text written (no_recurrence from' count' file trigger fault given has reads is said) = absurd (omega (arith, zero, is))
    fired_by zero text written (no_history fault given is said) = absurd (omega (arith, zero, is))
    fired_by zero text written (lists listing given is said) =
        absurd (let e : Command.List ≡ Fires from count = one_command _ _ given.0 names in cc)
    fired_by zero text written (again outcome) = absurd (other_than_again (Fires from count) refl names result text outcome)
    fired_by zero text written (drilling outcome) = absurd (other_than_drill (Fires from count) refl names result text outcome)
    fired_by zero text written (before_talk outcome) =
        absurd (other_than_session (Fires from count) (λ is. cc) names result text outcome)

    pub serves_fired : HasServed → result ≡ 0 → Fired held words from count before after
    serves_fired serves zero = let s = spoke serves (zero_spoken zero) in fired_by zero s.text s.written s.says

  abbrev pub RefusedOne : Type 0
  RefusedOne = RefusedDefinition held words before after ⊎ RefusedDrill words before after

  definition_by : result ≡ 1 → (text : List ℕ) → Appends before after text → CommandOutcome held words result text → RefusedOne
  definition_by one text written (no_definition command fault given is said) =
      inl (record { command = command; fault = fault; definition_given = given; written = rw said at written })
  definition_by one text written (checks d given is said) = absurd (omega (arith, one, is))
  definition_by one text written (no_inputs command d fault makes given handed is said) = absurd (omega (arith, one, is))
  definition_by one text written (no_schedule command d inputs fault given timed is said) = absurd (omega (arith, one, is))
  definition_by one text written (runs command d inputs schedule given timed is made) = absurd (omega (arith, one, is))
  definition_by one text written (no_run command d inputs schedule fault given timed is made said) = absurd (omega (arith, one, is))
  definition_by one text written (fires from count file trigger r given has reads is said) = absurd (omega (arith, one, is))
  definition_by one text written (no_name from count file given has is said) = absurd (omega (arith, one, is))
  definition_by one text written (no_recurrence from count file trigger fault given has reads is said) = absurd (omega (arith, one, is))
  definition_by one text written (costs command d inputs schedule given timed is made said) = absurd (omega (arith, one, is))
  definition_by one text written (no_history fault given is said) = absurd (omega (arith, one, is))
  definition_by one text written (lists listing given is said) = absurd (omega (arith, one, is))
  definition_by one text written (again outcome) = absurd (again_not_one held words before after text result outcome one)
  definition_by one text written (drilling outcome) = inr (drill_one words before after text result written one outcome)
  definition_by one text written (before_talk outcome) =
      absurd (elim (session_status held words before after text result outcome) [
        | inl is ↦ omega (arith, one, is)
        | inr is ↦ omega (arith, one, is)
      ])

  pub serves_definition : HasServed → result ≡ 1 → RefusedOne
  serves_definition serves one = let s = spoke serves (one_spoken one) in definition_by one s.text s.written s.says

  -- the ends to which a talk may come too
  module _ (left left' : Option (List ℕ)) where
    abbrev IsTalked : Type 0
    IsTalked = Talked held words left left' before after result

    abbrev pub RefusedSix : Type 0
    RefusedSix =
        RefusedInputs held words before after ⊎ (RefusedSchedule held words before after ⊎ (RefusedTrigger held words before after
        ⊎ (RefusedName held words before after ⊎ (RefusedRecurrence held words before after
        ⊎ (RefusedAnswers held words before after ⊎ (RefusedTimes held words before after
        ⊎ (RefusedDrillInputs words before after ⊎ (RefusedDrillTrigger words before after
        ⊎ (RefusesTalk held words before after ⊎ IsTalked)))))))))

    inputs_by : result ≡ 6 → (text : List ℕ) → Appends before after text → CommandOutcome held words result text → RefusedSix
    inputs_by six text written (no_definition command fault given is said) = absurd (omega (arith, six, is))
    inputs_by six text written (checks d given is said) = absurd (omega (arith, six, is))
    inputs_by six text written (no_inputs command d fault makes given handed is said) = inl (record {
      command = command;
      definition = d;
      fault = fault;
      makes = makes;
      definition_given = given;
      inputs_given = handed;
      written = rw said at written;
    })
    inputs_by six text written (no_schedule command d inputs fault given timed is said) = inr (inl (record {
      command = command;
      definition = d;
      inputs = inputs;
      fault = fault;
      given = given;
      schedule_given = timed;
      written = rw said at written;
    }))
    inputs_by six text written (runs command d inputs schedule given timed is made) = absurd (omega (arith, six, is))
    inputs_by six text written (no_run command d inputs schedule fault given timed is made said) = inr (inr (inl (
      fault,
      record {
        command = command;
        definition = d;
        inputs = inputs;
        schedule = schedule;
        given = given;
        schedule_given = timed;
        runs_refused = made;
        written = rw said at written;
      },
    )))
    inputs_by six text written (fires from count file trigger r given has reads is said) = absurd (omega (arith, six, is))
    inputs_by six text written (no_name from count file given has is said) = inr (inr (inr (inl (record {
      from = from;
      count = count;
      file = file;
      value_given = given;
      has_none = has;
      written = rw said at written;
    }))))
    inputs_by six text written (no_recurrence from count file trigger fault given has reads is said) = inr (inr (inr (inr (inl (record {
      from = from;
      count = count;
      file = file;
      trigger = trigger;
      fault = fault;
      value_given = given;
      has_trigger = has;
      recurs_not = reads;
      written = rw said at written;
    })))))
    inputs_by six text written (costs command d inputs schedule given timed is made said) = absurd (omega (arith, six, is))
    inputs_by six text written (no_history fault given is said) = absurd (omega (arith, six, is))
    inputs_by six text written (lists listing given is said) = absurd (omega (arith, six, is))
    inputs_by six text written (again outcome) =
        inr (inr (inr (inr (inr (elim (again_six held words before after text written result outcome six) [
          | inl answers ↦ inl answers
          | inr times ↦ inr (inl times)
        ])))))
    inputs_by six text written (drilling outcome) =
        inr (inr (inr (inr (inr (inr (inr (elim (drill_six words before after text result written six outcome) [
          | inl inputs ↦ inl inputs
          | inr start ↦ inr (inl start)
        ])))))))
    inputs_by six text written (before_talk outcome) =
        inr (inr (inr (inr (inr (inr (inr (inr (inr (inl (session_six held words before after text result written six outcome))))))))))

    pub serves_inputs : HasServed → result ≡ 6 → RefusedSix
    serves_inputs serves six = let s = spoke serves (six_spoken six) in inputs_by six s.text s.written s.says

    abbrev pub RefusedEight : Type 0
    RefusedEight =
        RefusedCost held words before after ⊎ (RefusedNewCost held words before after ⊎ (RefusedDrillCost words before after ⊎ IsTalked))

    cost_by : result ≡ 8 → (text : List ℕ) → Appends before after text → CommandOutcome held words result text → RefusedEight
    cost_by eight text written (no_definition command fault given is said) = absurd (omega (arith, eight, is))
    cost_by eight text written (checks d given is said) = absurd (omega (arith, eight, is))
    cost_by eight text written (no_inputs command d fault makes given handed is said) = absurd (omega (arith, eight, is))
    cost_by eight text written (no_schedule command d inputs fault given timed is said) = absurd (omega (arith, eight, is))
    cost_by eight text written (runs command d inputs schedule given timed is made) = absurd (omega (arith, eight, is))
    cost_by eight text written (no_run command d inputs schedule fault given timed is made said) = absurd (omega (arith, eight, is))
    cost_by eight text written (fires from count file trigger r given has reads is said) = absurd (omega (arith, eight, is))
    cost_by eight text written (no_name from count file given has is said) = absurd (omega (arith, eight, is))
    cost_by eight text written (no_recurrence from count file trigger fault given has reads is said) = absurd (omega (arith, eight, is))
    cost_by eight text written (costs command d inputs schedule given timed is made said) = inl (record {
      command = command;
      definition = d;
      inputs = inputs;
      schedule = schedule;
      given = given;
      schedule_given = timed;
      runs_refused = made;
      written = rw said at written;
    })
    cost_by eight text written (no_history fault given is said) = absurd (omega (arith, eight, is))
    cost_by eight text written (lists listing given is said) = absurd (omega (arith, eight, is))
    cost_by eight text written (again outcome) = inr (inl (again_eight held words before after text written result outcome eight))
    cost_by eight text written (drilling outcome) = inr (inr (inl (drill_eight words before after text result written eight outcome)))
    cost_by eight text written (before_talk outcome) =
        absurd (elim (session_status held words before after text result outcome) [
          | inl is ↦ omega (arith, eight, is)
          | inr is ↦ omega (arith, eight, is)
        ])

    pub serves_cost : HasServed → result ≡ 8 → RefusedEight
    serves_cost serves eight = let s = spoke serves (eight_spoken eight) in cost_by eight s.text s.written s.says

    -- of a talk
    pub talked_six : IsTalked → RefusedSix
    talked_six talked = inr (inr (inr (inr (inr (inr (inr (inr (inr (inr talked)))))))))

    pub talked_eight : IsTalked → RefusedEight
    talked_eight talked = inr (inr (inr talked))

  listed_by : command_of words ≡ Some Command.List → result ≡ 0 → (text : List ℕ) → Appends before after text →
      CommandOutcome held words result text → Listed held words before after
  listed_by names zero text written (no_definition command fault given is said) = absurd (omega (arith, zero, is))
  listed_by names zero text written (checks d given is said) =
      absurd (let e : Check ≡ Command.List = one_command _ _ given.0 names in cc)
  listed_by names zero text written (no_inputs command d fault makes given handed is said) = absurd (omega (arith, zero, is))
  listed_by names zero text written (no_schedule command d inputs fault given timed is said) = absurd (omega (arith, zero, is))
  listed_by names zero text written (runs command d inputs schedule given timed is made) = absurd (
      let e : Command.List ≡ command = one_command _ _ names given.definition_given.0 in
      let makes : makes_runs command ≡ true = given.makes in cc
      )
  listed_by names zero text written (no_run command d inputs schedule fault given timed is made said) = absurd (omega (arith, zero, is))
  listed_by names zero text written (costs command d inputs schedule given timed is made said) = absurd (omega (arith, zero, is))
  listed_by names zero text written (fires from count file trigger r given has reads is said) =
      absurd (let e : Command.List ≡ Fires from count = one_command _ _ names given.0 in cc)
  listed_by names zero text written (no_name from count file given has is said) = absurd (omega (arith, zero, is))
  listed_by names zero text written (no_recurrence from count file trigger fault given has reads is said) =
      absurd (omega (arith, zero, is))
  listed_by names zero text written (no_history fault given is said) = absurd (omega (arith, zero, is))
  listed_by names zero text written (lists listing given is said) =
      record { listing = listing; history_given = given; written = rw said at written }
  listed_by names zero text written (again outcome) = absurd (other_than_again Command.List refl names result text outcome)
  listed_by names zero text written (drilling outcome) = absurd (other_than_drill Command.List refl names result text outcome)
  listed_by names zero text written (before_talk outcome) =
      absurd (other_than_session Command.List (λ is. cc) names result text outcome)

  pub serves_listed : HasServed → command_of words ≡ Some Command.List → result ≡ 0 → Listed held words before after
  serves_listed serves names zero = let s = spoke serves (zero_spoken zero) in listed_by names zero s.text s.written s.says

  abbrev pub RefusedSeven : Type 0
  RefusedSeven =
      RefusedHistory held words before after ⊎ (RefusedLog held words before after ⊎ (RefusedRun held words before after
      ⊎ RefusedNames held words before after))

  history_by : result ≡ 7 → (text : List ℕ) → Appends before after text → CommandOutcome held words result text → RefusedSeven
  history_by seven text written (no_definition command fault given is said) = absurd (omega (arith, seven, is))
  history_by seven text written (checks d given is said) = absurd (omega (arith, seven, is))
  history_by seven text written (no_inputs command d fault makes given handed is said) = absurd (omega (arith, seven, is))
  history_by seven text written (no_schedule command d inputs fault given timed is said) = absurd (omega (arith, seven, is))
  history_by seven text written (runs command d inputs schedule given timed is made) = absurd (omega (arith, seven, is))
  history_by seven text written (no_run command d inputs schedule fault given timed is made said) = absurd (omega (arith, seven, is))
  history_by seven text written (costs command d inputs schedule given timed is made said) = absurd (omega (arith, seven, is))
  history_by seven text written (fires from count file trigger r given has reads is said) = absurd (omega (arith, seven, is))
  history_by seven text written (no_name from count file given has is said) = absurd (omega (arith, seven, is))
  history_by seven text written (no_recurrence from count file trigger fault given has reads is said) =
      absurd (omega (arith, seven, is))
  history_by seven text written (no_history fault given is said) =
      inl (record { fault = fault; history_given = given; written = rw said at written })
  history_by seven text written (lists listing given is said) = absurd (omega (arith, seven, is))
  history_by seven text written (again outcome) = inr (again_seven held words before after text written result outcome seven)
  history_by seven text written (drilling outcome) = absurd (drill_not_seven words before after text result seven outcome)
  history_by seven text written (before_talk outcome) =
      absurd (elim (session_status held words before after text result outcome) [
        | inl is ↦ omega (arith, seven, is)
        | inr is ↦ omega (arith, seven, is)
      ])

  pub serves_history : HasServed → result ≡ 7 → RefusedSeven
  serves_history serves seven = let s = spoke serves (seven_spoken seven) in history_by seven s.text s.written s.says

  again_no_drill : (command : Command) → resubmits command ≡ true → is_drill command ≡ false
  again_no_drill Check anew = refl
  again_no_drill Run anew = refl
  again_no_drill Trace anew = refl
  again_no_drill Command.List anew = refl
  again_no_drill Resubmit anew = refl
  again_no_drill ResubmitSet anew = refl
  again_no_drill (Fires from count) anew = refl
  again_no_drill (Drill n) anew = absurd (cc)
  again_no_drill Session anew = absurd (cc)

  -- of the commands that resubmit
  again_by : (command : Command) → resubmits command ≡ true → command_of words ≡ Some command → result ≡ 0 → (text : List ℕ) →
      Appends before after text → CommandOutcome held words result text → Resubmitted held words command before after
  again_by command anew names zero text written (again outcome) =
      let done = again_done held words before after text written result outcome zero in
      subst (λ c. Resubmitted held words c before after) (one_command done.0 command done.1 names) done.2
  again_by command anew names zero text written (drilling outcome) =
      absurd (other_than_drill command (again_no_drill command anew) names result text outcome)
  again_by command anew names zero text written (before_talk outcome) =
      absurd (other_than_session command (again_no_talk command anew) names result text outcome)
  again_by command anew names zero text written (no_definition c fault given is said) = absurd (omega (arith, zero, is))
  again_by command anew names zero text written (checks d given is said) =
      absurd (let e : Check ≡ command = one_command _ _ given.0 names in let f : resubmits command ≡ true = anew in cc)
  again_by command anew names zero text written (no_inputs c d fault makes given handed is said) = absurd (omega (arith, zero, is))
  again_by command anew names zero text written (no_schedule c d inputs fault given timed is said) = absurd (omega (arith, zero, is))
  again_by command anew names zero text written (runs c d inputs schedule given timed is made) =
      let same : c ≡ command = one_command c command given.definition_given.0 names in
      let fresh : resubmits command ≡ false = subst (λ k. resubmits k ≡ false) same (runs_anew c given.makes) in
      absurd (let f : resubmits command ≡ true = anew in cc)
  again_by command anew names zero text written (no_run c d inputs schedule fault given timed is made said) =
      absurd (omega (arith, zero, is))
  again_by command anew names zero text written (costs c d inputs schedule given timed is made said) = absurd (omega (arith, zero, is))
  again_by command anew names zero text written (no_history fault given is said) = absurd (omega (arith, zero, is))
  again_by command anew names zero text written (lists listing given is said) =
      absurd (let e : Command.List ≡ command = one_command _ _ given.0 names in let f : resubmits command ≡ true = anew in cc)
  again_by command anew names zero text written (fires from count file trigger r given has reads is said) =
      absurd (let e : Fires from count ≡ command = one_command _ _ given.0 names in let f : resubmits command ≡ true = anew in cc)
  again_by command anew names zero text written (no_name from count file given has is said) = absurd (omega (arith, zero, is))
  again_by command anew names zero text written (no_recurrence from count file trigger fault given has reads is said) =
      absurd (omega (arith, zero, is))

  pub serves_again : (command : Command) → resubmits command ≡ true → HasServed → command_of words ≡ Some command → result ≡ 0 →
      Resubmitted held words command before after
  serves_again command anew serves names zero =
      let s = spoke serves (zero_spoken zero) in again_by command anew names zero s.text s.written s.says

  -- of `drill`
  module _ (n : ℕ) (names : command_of words ≡ Some (Drill n)) where
    drilled_by : result ≡ 0 → (text : List ℕ) → Appends before after text → CommandOutcome held words result text →
        Drilled words n before after
    drilled_by zero text written (drilling outcome) =
        let done = drill_done words before after text result written zero outcome in
        let e : Drill done.0 ≡ Drill n = one_command (Drill done.0) (Drill n) done.1 names in
        let same : done.0 ≡ n = cc in
        subst (λ size. Drilled words size before after) same done.2
    drilled_by zero text written (no_definition c fault given is said) = absurd (omega (arith, zero, is))
    drilled_by zero text written (checks d given is said) = absurd (let e : Check ≡ Drill n = one_command _ _ given.0 names in cc)
    drilled_by zero text written (no_inputs c d fault made given handed is said) = absurd (omega (arith, zero, is))
    drilled_by zero text written (no_schedule c d inputs fault given timed is said) = absurd (omega (arith, zero, is))
    drilled_by zero text written (runs c d inputs schedule given timed is made) = absurd (
        let e : Drill n ≡ c = one_command _ _ names given.definition_given.0 in
        let makes : makes_runs c ≡ true = given.makes in cc
        )
    drilled_by zero text written (no_run c d inputs schedule fault given timed is made said) = absurd (omega (arith, zero, is))
    drilled_by zero text written (costs c d inputs schedule given timed is made said) = absurd (omega (arith, zero, is))
    drilled_by zero text written (no_history fault given is said) = absurd (omega (arith, zero, is))
    drilled_by zero text written (lists listing given is said) =
        absurd (let e : Command.List ≡ Drill n = one_command _ _ given.0 names in cc)
    drilled_by zero text written (fires from count file trigger r given has reads is said) =
        absurd (let e : Fires from count ≡ Drill n = one_command _ _ given.0 names in cc)
    drilled_by zero text written (no_name from count file given has is said) = absurd (omega (arith, zero, is))
    drilled_by zero text written (no_recurrence from count file trigger fault given has reads is said) = absurd (omega (arith, zero, is))
    drilled_by zero text written (again outcome) = absurd (other_than_again (Drill n) refl names result text outcome)
    drilled_by zero text written (before_talk outcome) = absurd (other_than_session (Drill n) (λ is. cc) names result text outcome)

    pub serves_drilled : HasServed → result ≡ 0 → Drilled words n before after
    serves_drilled serves zero = let s = spoke serves (zero_spoken zero) in drilled_by zero s.text s.written s.says

  -- of `session`
  module _ (names : command_of words ≡ Some Session) where
    conversed_by : result ≡ 0 → (text : List ℕ) → Appends before after text → CommandOutcome held words result text →
        NoneStarts held words before after
    conversed_by zero text written (before_talk outcome) = session_done held words before after text result written zero outcome
    conversed_by zero text written (no_definition c fault given is said) = absurd (omega (arith, zero, is))
    conversed_by zero text written (checks d given is said) = absurd (let e : Check ≡ Session = one_command _ _ given.0 names in cc)
    conversed_by zero text written (no_inputs c d fault made given handed is said) = absurd (omega (arith, zero, is))
    conversed_by zero text written (no_schedule c d inputs fault given timed is said) = absurd (omega (arith, zero, is))
    conversed_by zero text written (runs c d inputs schedule given timed is made) =
        absurd (makes_no_talk c given.makes (one_command c Session given.definition_given.0 names))
    conversed_by zero text written (no_run c d inputs schedule fault given timed is made said) = absurd (omega (arith, zero, is))
    conversed_by zero text written (costs c d inputs schedule given timed is made said) = absurd (omega (arith, zero, is))
    conversed_by zero text written (no_history fault given is said) = absurd (omega (arith, zero, is))
    conversed_by zero text written (lists listing given is said) =
        absurd (let e : Command.List ≡ Session = one_command _ _ given.0 names in cc)
    conversed_by zero text written (fires from count file trigger r given has reads is said) =
        absurd (let e : Fires from count ≡ Session = one_command _ _ given.0 names in cc)
    conversed_by zero text written (no_name from count file given has is said) = absurd (omega (arith, zero, is))
    conversed_by zero text written (no_recurrence from count file trigger fault given has reads is said) =
        absurd (omega (arith, zero, is))
    conversed_by zero text written (again outcome) = absurd (other_than_again Session refl names result text outcome)
    conversed_by zero text written (drilling outcome) = absurd (other_than_drill Session refl names result text outcome)

    pub serves_none : HasServed → result ≡ 0 → NoneStarts held words before after
    serves_none serves zero = let s = spoke serves (zero_spoken zero) in conversed_by zero s.text s.written s.says
