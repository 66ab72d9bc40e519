-- What `session` comes to where its files tell.
use Rattle.std.proofs.Common.{◌≡◌, ◌≤◌, ℕ, List, [], ◌∷◌, length, Option, None, Some, Ok, inl, inr, refl, ap, subst, sym, ◌∙◌, arith}
use Rattle.std.specs.Prelude.{codes}
use Rattle.std.specs.Option.{IfSome, option_map}
use Rattle.wf_answers.specs.Inputs.{InputsTree}
use Rattle.wf_def.specs.DefTree.{DefTree}
use Rattle.wf_files.specs.Form.{Form, definition_form, inputs_form}
use Rattle.wf_outside.specs.Outside.{Held, IsCalm}
use Rattle.wf_stands.specs.Stands.{Stands}
use Rattle.wf_talk.specs.Talks.{Talks}
use Rattle.wf_talk.specs.Written.{Writes}
use Rattle.wf_told.specs.Records.{starts_of}
use Rattle.wf_top.specs.Commands.{plan}
use Rattle.wf_top.specs.Conversed.{HoldsStarts, HoldsTalk, IsRefusedWhole, IsServed, IsTalkedWhole, Talked}
use Rattle.wf_top.specs.Limits.{definition_bytes, inputs_bytes}
use Rattle.wf_top.specs.Plan.{Plan, within}
use Rattle.wf_top.specs.Ran.{Gives, Holds, IsWhole}
use Rattle.wf_top.specs.Resubmit.{judged}
use Rattle.wf_top.specs.Served.{Comes, IsSaid, Misused, Outcome, Say, Serves, Speaks, Spent, Unread, number, out_of_memory, status_of}
use Rattle.wf_top.specs.Served.{text_of}
use Rattle.wf_top.specs.Session.{joined, many_runs, no_run, started}
use Rattle.wf_top.specs.Words.{word}
use Rattle.wf_top.specs.declared.said.Verdict.{Verdict}
use Rattle.wf_top.specs.declared.said.Verdict.TheVariants.{Done, Definition, Inputs}
use Rattle.wf_top.specs.declared.words.Command.TheVariants.{Session}
use Rattle.wf_trigger.specs.Starts.{StartTree}
use Rattle.wf_top.proofs.Completeness.{IsTold, MayBeSaid, held_on, say_by, whole_from}
use Rattle.wf_top.proofs.Outcomes.{no_longer}

-- ---- what is held is one thing

module _ {T : Type 0} (bytes_of : List ℕ → Option (List ℕ)) (name : List ℕ) (limit : ℕ) (form : Form T) where
  -- what a file gave is what it holds
  gave_held : (t : T) → Gives (Some bytes_of) name limit form (Ok t) → Holds bytes_of name limit form t
  gave_held t gives = found (bytes_of name) refl gives.1
    where
      found : (there : Option (List ℕ)) → bytes_of name ≡ there → option_map (within limit) (bytes_of name) ≡ Some gives.0 →
          Holds bytes_of name limit form t
      found None is given = absurd (let e : None ≡ Some gives.0 = sym (ap (option_map (within limit)) is) ∙ given in cc)
      found (Some bytes) is given =
          let e : Some (within limit bytes) ≡ Some gives.0 = sym (ap (option_map (within limit)) is) ∙ given in
          let same : within limit bytes ≡ gives.0 = cc in (bytes, is, ap form same ∙ gives.2)

  held_alike : (t u : T) → Holds bytes_of name limit form t → Holds bytes_of name limit form u → t ≡ u
  held_alike t u first second =
      let e : Some first.0 ≡ Some second.0 = sym first.1 ∙ second.1 in
      let same : first.0 ≡ second.0 = cc in
      let found : Ok t ≡ Ok u = sym first.2 ∙ (ap (λ bytes. form (within limit bytes)) same ∙ second.2) in cc

module _ (bytes_of : List ℕ → Option (List ℕ)) (words : List (List ℕ)) where
  -- a talk was begun with what the files hold
  pub held_by_talk : (left left' before after : Option (List ℕ)) (result : ℕ) →
      (talked : Talked (Some bytes_of) words left left' before after result) →
      HoldsStarts bytes_of words talked.definition talked.inputs (talked.start ∷ [])
  held_by_talk left left' before after result talked = record {
    definition_held = record {
      names = talked.given.definition_given.0;
      held = gave_held bytes_of (word words 1) definition_bytes definition_form talked.definition talked.given.definition_given.1;
    };
    inputs_held = gave_held bytes_of (word words 2) inputs_bytes inputs_form talked.inputs talked.given.inputs_given;
    started = talked.alone;
  }

  pub talk_held : (left left' before after : Option (List ℕ)) (result : ℕ) →
      Talked (Some bytes_of) words left left' before after result → HoldsTalk bytes_of words
  talk_held left left' before after result talked =
      (talked.definition, talked.inputs, talked.start, held_by_talk left left' before after result talked)

  module _ (d e : DefTree) (i j : InputsTree) (starts others : List StartTree) (first : HoldsStarts bytes_of words d i starts)
      (second : HoldsStarts bytes_of words e j others) where
    definitions_alike : d ≡ e
    definitions_alike =
        held_alike bytes_of (word words 1) definition_bytes definition_form d e first.definition_held.held second.definition_held.held

    inputs_alike : i ≡ j
    inputs_alike = held_alike bytes_of (word words 2) inputs_bytes inputs_form i j first.inputs_held second.inputs_held

    starts_alike : starts ≡ others
    starts_alike =
        let found : Ok starts ≡ Ok others =
        sym first.started ∙ (ap (λ x. starts_of x i) definitions_alike ∙ (ap (λ y. starts_of e y) inputs_alike ∙ second.started)) in cc

  -- where a talk begins one run starts
  alone_by_talk : (d : DefTree) (i : InputsTree) (starts : List StartTree) → HoldsStarts bytes_of words d i starts →
      HoldsTalk bytes_of words → length starts ≡ 1
  alone_by_talk d i starts holds talk =
      ap (λ xs. length xs) (starts_alike d talk.0 i talk.1 starts (talk.2 ∷ []) holds talk.3)

  -- ---- what is said of the starts

  module _ (d : DefTree) (i : InputsTree) (starts : List StartTree) (holds : HoldsStarts bytes_of words d i starts) where
    session_on : (verdict : Verdict) (text : List ℕ) → MayBeSaid bytes_of words verdict text (plan Session words) →
        MayBeSaid bytes_of words verdict text (started d i (Ok starts))
    unfolding plan
    session_on verdict text saying =
        let Said : Plan → Type 0 = λ p. MayBeSaid bytes_of words verdict text p in
        subst (λ found. Said (started d i found)) holds.started
        (held_on bytes_of words verdict text inputs_form (word words 2) inputs_bytes i
        (judged Inputs (codes "inputs ") (λ i. started d i (starts_of d i))) holds.inputs_held
        (held_on bytes_of words verdict text definition_form (word words 1) definition_bytes d
        (judged Definition (codes "definition ") (joined (word words 2))) holds.definition_held.held saying))

    say_started : (status : ℕ) (text : List ℕ) → Say bytes_of words status text →
        (verdict : Verdict) × (status ≡ number verdict) × MayBeSaid bytes_of words verdict text (started d i (Ok starts))
    say_started status text saying =
        let s = say_by bytes_of words status text Session holds.definition_held.names saying in
        (s.0, s.1, session_on s.0 text s.2)

  said_of_none : (d : DefTree) (i : InputsTree) → HoldsStarts bytes_of words d i [] → (status : ℕ) (text : List ℕ) →
      Say bytes_of words status text → (status ≡ 0) × (text ≡ no_run)
  said_of_none d i holds status text saying =
      let s = say_started d i [] holds status text saying in
      let said : (s.0 ≡ Done) × (text ≡ no_run) = s.2 in (s.1 ∙ ap number said.0, said.1)

  said_of_several : (d : DefTree) (i : InputsTree) (starts : List StartTree) → HoldsStarts bytes_of words d i starts →
      2 ≤ length starts → (status : ℕ) (text : List ℕ) → Say bytes_of words status text →
      (status ≡ 6) × (text ≡ many_runs (length starts))
  said_of_several d i [] holds many status text saying = absurd (omega (arith, many))
  said_of_several d i (start ∷ []) holds many status text saying = absurd (omega (arith, many))
  said_of_several d i (start ∷ next ∷ starts) holds many status text saying =
      let s = say_started d i (start ∷ next ∷ starts) holds status text saying in
      let said : (s.0 ≡ Inputs) × (text ≡ many_runs (length (start ∷ next ∷ starts))) = s.2 in (s.1 ∙ ap number said.0, said.1)

-- ---- completeness

pub told_of_none : (held : Held) (words : List (List ℕ)) (old new : List (List ℕ)) (before after : Option (List ℕ))
    (count later result : ℕ) → IsTold held words old new before after count later result →
    IfSome held (λ bytes_of. (d : DefTree) (inputs : InputsTree) → HoldsStarts bytes_of words d inputs [] → new ≡ old →
    IsCalm count later → IsWhole before after no_run result)
told_of_none None words old new before after count later result said = tt
told_of_none (Some bytes_of) words old new before after count later result said = λ d inputs holds same calm.
    whole_from (Say bytes_of words) before after no_run result
    (λ text saying. said_of_none bytes_of words d inputs holds result text saying)
    (said (λ talk. let one : length {A = StartTree} [] ≡ 1 = alone_by_talk bytes_of words d inputs [] holds talk in omega (arith, one))
    same calm)

refused_from : (said : ℕ → List ℕ → Type 0) (before after : Option (List ℕ)) (line : List ℕ) (result : ℕ) →
    ((text : List ℕ) → said result text → (result ≡ 6) × (text ≡ line)) → IsSaid said before after result →
    IsRefusedWhole before after line result
refused_from said before after line result only saying = elim saying [
  | inl all ↦ let is = only all.0 all.1 in inl (is.0, rw is.1 at all.2)
  | inr spent ↦ inr spent
]

pub told_of_several : (held : Held) (words : List (List ℕ)) (old new : List (List ℕ)) (before after : Option (List ℕ))
    (count later result : ℕ) → IsTold held words old new before after count later result →
    IfSome held (λ bytes_of. (d : DefTree) (inputs : InputsTree) (starts : List StartTree) →
    HoldsStarts bytes_of words d inputs starts → 2 ≤ length starts → new ≡ old → IsCalm count later →
    IsRefusedWhole before after (many_runs (length starts)) result)
told_of_several None words old new before after count later result said = tt
told_of_several (Some bytes_of) words old new before after count later result said = λ d inputs starts holds many same calm.
    refused_from (Say bytes_of words) before after (many_runs (length starts)) result
    (λ text saying. said_of_several bytes_of words d inputs starts holds many result text saying)
    (said (λ talk. let one : length starts ≡ 1 = alone_by_talk bytes_of words d inputs starts holds talk in omega (arith, one, many)) same
    calm)

-- ---- the talk

-- no outcome but want of memory, where a talk begins and no file failed
spent_before : (bytes_of : List ℕ → Option (List ℕ)) (words : List (List ℕ)) (d : DefTree) (start : StartTree) (inputs : InputsTree)
    (old new : List (List ℕ)) (before after : Option (List ℕ)) (result : ℕ) →
    HoldsStarts bytes_of words d inputs (start ∷ []) → new ≡ old → (outcome : Outcome) →
    Comes (Some bytes_of) (Some (plan Session words)) old new outcome → Writes before after (status_of outcome) (text_of outcome) result →
    Writes before after 5 out_of_memory result
spent_before bytes_of words d start inputs old new before after result holds same Misused comes writes = absurd comes
spent_before bytes_of words d start inputs old new before after result holds same (Speaks verdict text) comes writes =
    absurd (session_on bytes_of words d inputs (start ∷ []) holds verdict text comes.1)
spent_before bytes_of words d start inputs old new before after result holds same (Unread name) comes writes =
    absurd (no_longer old new name comes.1 same)
spent_before bytes_of words d start inputs old new before after result holds same Spent comes writes = writes

pub talked_whole : (held : Held) (words : List (List ℕ)) (old new : List (List ℕ)) (faults faults' : ℕ)
    (left left' before after : Option (List ℕ)) (result : ℕ) →
    IsServed held words old new faults faults' left left' before after result →
    IfSome held (λ bytes_of. (d : DefTree) (inputs : InputsTree) (start : StartTree) →
    HoldsStarts bytes_of words d inputs (start ∷ []) → new ≡ old → IsTalkedWhole d start inputs left left' before after result)
talked_whole None words old new faults faults' left left' before after result served = tt
talked_whole (Some bytes_of) words old new faults faults' left left' before after result served = λ d inputs start holds same.
    elim served [
      | inl said ↦
          let serves : Serves (Some bytes_of) (Some (plan Session words)) old new before after result =
          subst (λ found. Serves (Some bytes_of) (option_map (λ c. plan c words) found) old new before after result)
          holds.definition_held.names said.0 in
          inr (
            spent_before bytes_of words d start inputs old new before after result holds same serves.outcome serves.comes serves.writes,
            said.2,
          )
      | inr talk ↦
          let talked = talk.talked in
          let known = held_by_talk bytes_of words left left' before after result talked in
          let one : talked.start ∷ [] ≡ start ∷ [] =
          starts_alike bytes_of words talked.definition d talked.inputs inputs (talked.start ∷ []) (start ∷ []) known holds in
          let same_start : talked.start ≡ start = cc in
          let same_definition : talked.definition ≡ d =
          definitions_alike bytes_of words talked.definition d talked.inputs inputs (talked.start ∷ []) (start ∷ []) known holds in
          let same_inputs : talked.inputs ≡ inputs =
          inputs_alike bytes_of words talked.definition d talked.inputs inputs (talked.start ∷ []) (start ∷ []) known holds in
          inl (
          subst (λ i. Talks (Stands d start) i left left' before after result) same_inputs
          (subst (λ s. Talks (Stands d s) talked.inputs left left' before after result) same_start
          (subst (λ x. Talks (Stands x talked.start) talked.inputs left left' before after result) same_definition talked.talks))
          )
    ]
