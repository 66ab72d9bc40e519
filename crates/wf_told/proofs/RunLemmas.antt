-- What the text of runs says of the runs that start.
use Rattle.std.proofs.Common.{◌≡◌, ◌↔◌, ℕ, ◌<◌, Bool, List, [], ◌∷◌, Result, Ok, Err, codes}
use Rattle.std.proofs.Common.{refl, sym, ap, ◌∙◌, subst}
use Rattle.wf_answers.specs.Inputs.{InputsTree}
use Rattle.wf_def.specs.DefTree.{DefTree}
use Rattle.wf_prepare.specs.Environment.{Environment, fresh}
use Rattle.wf_told.specs.Under.{IsRunUnder, Told}
use Rattle.wf_prepare.specs.Starts.{StartTree}
use Rattle.wf_prepare.specs.TriggerFault.{TriggerFault}
use Rattle.wf_told.specs.Records.{records_of, runs_records, started_records, starts_of}
use Rattle.wf_told.specs.Runs.{AreTold, TellsRuns}
use Rattle.wf_told.specs.Text.{text_of, total_cost}
use Rattle.wf_told.specs.declared.fault.RunsFault.{RunsFault}
use Rattle.wf_told.proofs.TextLemmas.{by-limit, past, text-some}

module _ (d : DefTree) (i : InputsTree) where
  -- ---- the records, by what starts

  too_large-so : (starts : Result (List StartTree) TriggerFault) → started_records d i starts ≡ Err RunsFault.TooLarge
      → (ss : List StartTree) × (starts ≡ Ok ss) × (67108864 < total_cost (records_of d i ss))
  too_large-so (Err f) said = absurd (cc)
  too_large-so (Ok ss) said = (
    ss,
    refl,
    by-limit (records_of d i ss) (λ r. r ≡ Err RunsFault.TooLarge → 67108864 < total_cost (records_of d i ss))
        (λ fine e. absurd (cc)) (λ over e. over) said,
  )

  fault-so : (starts : Result (List StartTree) TriggerFault) (f : TriggerFault) → started_records d i starts ≡ Err (RunsFault.Trigger f)
      → starts ≡ Err f
  fault-so (Err g) f said = let same : g ≡ f = cc in ap Err same
  fault-so (Ok ss) f said =
      absurd (by-limit (records_of d i ss) (λ r. r ≡ Err (RunsFault.Trigger f) → ⊥) (λ fine e. cc) (λ over e. cc) said)

  not-memory : (starts : Result (List StartTree) TriggerFault) → started_records d i starts ≡ Err RunsFault.Memory → ⊥
  not-memory (Err f) said = cc
  not-memory (Ok ss) said = by-limit (records_of d i ss) (λ r. r ≡ Err RunsFault.Memory → ⊥) (λ fine e. cc) (λ over e. cc) said

  pub too_large : (runs_records d i ≡ Err RunsFault.TooLarge) ↔ ((ss : List StartTree)
      × (starts_of d i ≡ Ok ss) × (67108864 < total_cost (records_of d i ss)))
  too_large = (
    too_large-so (starts_of d i),
    λ found. ap (started_records d i) found.1 ∙ past (records_of d i found.0) found.2,
  )

  pub fault_told : (f : TriggerFault) → (runs_records d i ≡ Err (RunsFault.Trigger f)) ↔ (starts_of d i ≡ Err f)
  fault_told f = (fault-so (starts_of d i) f, λ is. ap (started_records d i) is)

  -- want of memory is never what runs come to
  pub never_memory : runs_records d i ≡ Err RunsFault.Memory → ⊥
  never_memory = not-memory (starts_of d i)

  module _ (schedule : List ℕ) (traced : Bool) where
    -- ---- the text, by what starts

    -- where no run is told none starts
    none-start : (starts : List StartTree) (runs : List Told) → AreTold d i schedule traced starts runs
        → text_of runs ≡ codes "# no run\n" → starts ≡ []
    none-start [] runs told said = refl
    none-start (s ∷ ss) [] told said = absurd told
    none-start (s ∷ ss) (t ∷ ts) told said = absurd (text-some t ts said)

    none-told : (starts : List StartTree) (runs : List Told) → AreTold d i schedule traced starts runs → starts ≡ []
        → text_of runs ≡ codes "# no run\n"
    none-told starts [] told none = refl
    none-told [] (t ∷ ts) told none = absurd told
    none-told (s ∷ ss) (t ∷ ts) told none = absurd (cc)

    pub started : (ss ts : List StartTree) → starts_of d i ≡ Ok ss → starts_of d i ≡ Ok ts → ss ≡ ts
    started ss ts first second = cc

    pub no_run : (text : List ℕ) → TellsRuns d i schedule traced text → (text ≡ codes "# no run\n") ↔ (starts_of d i ≡ Ok [])
    no_run text tells = (
      λ said. tells.start ∙ ap Ok (none-start tells.starts tells.runs tells.told (sym tells.text_is ∙ said)),
      λ none. tells.text_is ∙ none-told tells.starts tells.runs tells.told (started tells.starts [] tells.start none),
    )

    -- where each run is told alike, all are
    module _ (alike : (e : Environment) (t u : Told) → IsRunUnder d e schedule traced t → IsRunUnder d e schedule traced u → t ≡ u) where
      pub same-runs : (starts : List StartTree) (ts us : List Told) → AreTold d i schedule traced starts ts
          → AreTold d i schedule traced starts us → ts ≡ us
      same-runs [] [] [] first second = refl
      same-runs [] [] (u ∷ us) first second = absurd second
      same-runs [] (t ∷ ts) us first second = absurd first
      same-runs (s ∷ ss) [] us first second = absurd first
      same-runs (s ∷ ss) (t ∷ ts) [] first second = absurd second
      same-runs (s ∷ ss) (t ∷ ts) (u ∷ us) first second =
          ap (λ r. r ∷ ts) (alike (fresh s i) t u first.0 second.0) ∙ ap (λ rs. u ∷ rs) (same-runs ss ts us first.1 second.1)

      pub one_text : (text other : List ℕ) → TellsRuns d i schedule traced text → TellsRuns d i schedule traced other → text ≡ other
      one_text text other first second =
          let starts = started first.starts second.starts first.start second.start in
          let told = subst (λ ss. AreTold d i schedule traced ss first.runs) starts first.told in
          first.text_is ∙ ap text_of (same-runs second.starts first.runs second.runs told second.told) ∙ sym second.text_is
