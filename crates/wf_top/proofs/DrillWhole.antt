-- Where all tests of `drill` pass and no count rose, the whole line was taken, or memory ran out.
use Rattle.std.proofs.Common.{◌≡◌, ℕ, List, Option, None, Some, Ok, Err, inl, inr, ap, subst, sym, ◌∙◌}
use Rattle.std.specs.Option.{IfSome}
use Rattle.wf_answers.specs.Inputs.{InputsTree}
use Rattle.wf_def.specs.DefTree.{DefTree}
use Rattle.wf_drill.specs.Drill.{drill_inputs}
use Rattle.wf_files.specs.Form.{inputs_of}
use Rattle.wf_outside.specs.Outside.{Held, IsCalm}
use Rattle.wf_top.specs.Commands.{plan}
use Rattle.wf_top.specs.Drill.{drilled_by, drilled_with}
use Rattle.wf_top.specs.Drilled.{IsToldDrill, PassesDrill}
use Rattle.wf_top.specs.Drilling.{SaysDrill, TellsDrill}
use Rattle.wf_top.specs.Plan.{Drills}
use Rattle.wf_top.specs.Served.{Say, number}
use Rattle.wf_top.specs.declared.said.Verdict.{Verdict}
use Rattle.wf_top.specs.declared.words.Command.TheVariants.{Drill}
use Rattle.wf_top.proofs.Completeness.{IsTold, MayBeSaid, no_talk, say_by}

module _ (bytes_of : List ℕ → Option (List ℕ)) (words : List (List ℕ)) (verdict : Verdict) (text : List ℕ) where
  -- a drill whose run leaves a record is told
  drill_on : (n : ℕ) (d : DefTree) (inputs : InputsTree) → PassesDrill words n d inputs →
      MayBeSaid bytes_of words verdict text (plan (Drill n) words) → SaysDrill n d inputs verdict text
  unfolding plan
  drill_on n d inputs passes saying =
      let given = passes.given in
      let with_d : MayBeSaid bytes_of words verdict text (drilled_with n d (inputs_of (drill_inputs n))) =
      subst (λ form. MayBeSaid bytes_of words verdict text (drilled_by n form)) given.accepted saying in
      let told : MayBeSaid bytes_of words verdict text (Drills n d inputs) =
      subst (λ form. MayBeSaid bytes_of words verdict text (drilled_with n d form)) given.read with_d in
      elim told [
        | inl done ↦ done
        | inr none ↦ absurd (let e : Ok passes.records ≡ Err none.0 = sym passes.runs_made ∙ none.1 in cc)
      ]

module _ (bytes_of : List ℕ → Option (List ℕ)) (words : List (List ℕ)) (status : ℕ) (text : List ℕ) where
  says_drill : (n : ℕ) (d : DefTree) (inputs : InputsTree) → PassesDrill words n d inputs → Say bytes_of words status text →
      (status ≡ 0) × TellsDrill n d inputs text
  says_drill n d inputs passes saying =
      let s = say_by bytes_of words status text (Drill n) passes.given.names saying in
      let said = drill_on bytes_of words s.0 text n d inputs passes s.2 in (s.1 ∙ ap number said.0, said.1)

pub serves_drill : (held : Held) (words : List (List ℕ)) (old new : List (List ℕ)) (before after : Option (List ℕ))
    (count later result : ℕ) → IsTold held words old new before after count later result →
    IfSome held (λ bytes_of. (n : ℕ) (d : DefTree) (inputs : InputsTree) → PassesDrill words n d inputs → new ≡ old → IsCalm count later →
    IsToldDrill n d inputs before after result)
serves_drill None words old new before after count later result said = tt
serves_drill (Some bytes_of) words old new before after count later result said = λ n d inputs passes same calm.
    elim (said (no_talk bytes_of words (Drill n) (λ is. cc) passes.given.names) same calm) [
      | inl all ↦
          let is = says_drill bytes_of words result all.0 n d inputs passes all.1 in
          inl (all.0, is.0, is.1, all.2)
      | inr spent ↦ inr spent
    ]
