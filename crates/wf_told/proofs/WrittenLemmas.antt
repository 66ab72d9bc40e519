-- How what is written grows, run by run.
use Rattle.std.proofs.Common.{◌≡◌, ℕ, ◌+◌, ◌<◌, ◌≤◌, Bool, List, [], ◌∷◌, ◌++◌, take, length, Some, Ok, slice_get}
use Rattle.std.proofs.Common.{codes, refl, sym, ap, ◌∙◌, subst, arith}
use Rattle.std.proofs.lemmas.List.{map-append, nil_from_length, take-map, take_all}
use Rattle.std.proofs.lemmas.List.Sums.{sum_by-take-le, sum_by_push}
use Rattle.wf_answers.specs.Inputs.{InputsTree}
use Rattle.wf_def.specs.DefTree.{DefTree}
use Rattle.wf_prepare.specs.Environment.{fresh}
use Rattle.wf_prepare.specs.Record.{meaning}
use Rattle.wf_record.specs.Cost.{cost}
use Rattle.wf_told.specs.Under.{IsRunUnder, Told}
use Rattle.wf_prepare.specs.Starts.{StartTree}
use Rattle.wf_told.specs.Records.{records_of}
use Rattle.wf_told.specs.Runs.{AreTold}
use Rattle.wf_told.specs.Text.{records_left, run_text, runs_in_a_row, text_of, total_cost}
use Rattle.wf_told.specs.Written.{AreWritten, TellsStarts}
use Rattle.wf_told.proofs.TextLemmas.{cost-more, first-more, text-more, within}

module _ (d : DefTree) (i : InputsTree) (schedule : List ℕ) (traced : Bool) where
  -- the records that the runs left are those of their starts
  pub records-told : (starts : List StartTree) (runs : List Told) → AreTold d i schedule traced starts runs
      → records_left runs ≡ records_of d i starts
  records-told [] [] told = refl
  records-told [] (t ∷ ts) told = absurd told
  records-told (s ∷ ss) [] told = absurd told
  records-told (s ∷ ss) (t ∷ ts) told =
      ap (λ r. r ∷ records_left ts) told.0.left_is ∙ ap (λ rs. meaning d (fresh s i) ∷ rs) (records-told ss ts told.1)

  -- one run more at the end
  told-more : (starts : List StartTree) (runs : List Told) (s : StartTree) (t : Told) → AreTold d i schedule traced starts runs
      → IsRunUnder d (fresh s i) schedule traced t → AreTold d i schedule traced (starts ++ s ∷ []) (runs ++ t ∷ [])
  told-more [] [] s t told run = (run, tt)
  told-more [] (u ∷ us) s t told run = absurd told
  told-more (r ∷ rs) [] s t told run = absurd told
  told-more (r ∷ rs) (u ∷ us) s t told run = (told.0, told-more rs us s t told.1 run)

  -- ---- a run of each of the first starts

  pub none-written : (starts : List StartTree) → AreWritten d i schedule traced (take 0 starts) [] 0
  none-written starts = record { runs = []; told = tt; text_is = refl; cost_is = refl }

  module _ (starts : List StartTree) (k : ℕ) (s : StartTree) (is : slice_get starts k ≡ Some s) where
    pub more-written : (text after : List ℕ) (spent cost_after : ℕ) (t : Told)
        → AreWritten d i schedule traced (take k starts) text spent → IsRunUnder d (fresh s i) schedule traced t
        → after ≡ text ++ run_text t → cost_after ≡ spent + cost t.left
        → AreWritten d i schedule traced (take (k + 1) starts) after cost_after
    more-written text after spent cost_after t written run after_is cost_is = record {
      runs = written.runs ++ t ∷ [];
      told =
          subst (λ ss. AreTold d i schedule traced ss (written.runs ++ t ∷ [])) (sym (first-more starts k s is))
          (told-more (take k starts) written.runs s t written.told run);
      text_is = after_is ∙ ap (λ l. l ++ run_text t) written.text_is ∙ sym (text-more written.runs t);
      cost_is = cost_is ∙ ap (λ c. c + cost t.left) written.cost_is ∙ sym (cost-more written.runs t);
    }

    -- With one more they cost no more than all.
    pub cost-within : (text : List ℕ) (spent : ℕ) → AreWritten d i schedule traced (take k starts) text spent
        → spent + cost (meaning d (fresh s i)) ≤ total_cost (records_of d i starts)
    cost-within text spent written =
        let before : spent ≡ total_cost (records_of d i (take k starts)) =
        written.cost_is ∙ ap total_cost (records-told (take k starts) written.runs written.told) in
        let more : total_cost (records_of d i (take (k + 1) starts))
        ≡ total_cost (records_of d i (take k starts)) + cost (meaning d (fresh s i)) =
        ap (λ ss. total_cost (records_of d i ss)) (first-more starts k s is)
        ∙ ap total_cost (map-append (λ u. meaning d (fresh u i)) (take k starts) (s ∷ []))
        ∙ sum_by_push cost (records_of d i (take k starts)) (meaning d (fresh s i)) in
        let most : total_cost (records_of d i (take (k + 1) starts)) ≤ total_cost (records_of d i starts) =
        subst (λ rs. total_cost rs ≤ total_cost (records_of d i starts)) (take-map (λ u. meaning d (fresh u i)) (k + 1) starts)
        (sum_by-take-le cost (records_of d i starts) (k + 1)) in
        omega (arith, before, more, most)

  pub all-taken : (starts : List StartTree) (k : ℕ) (text : List ℕ) (spent : ℕ) → length starts ≤ k
      → AreWritten d i schedule traced (take k starts) text spent → AreWritten d i schedule traced starts text spent
  all-taken starts k text spent le written =
      subst (λ ss. AreWritten d i schedule traced ss text spent) (take_all k starts le) written

  -- ---- the text of all

  pub none-tell : (starts : List StartTree) → length starts ≡ 0 → TellsStarts d i schedule traced starts (codes "# no run\n")
  none-tell starts none =
      subst (λ ss. TellsStarts d i schedule traced ss (codes "# no run\n")) (sym (nil_from_length starts none))
      (record { runs = []; told = tt; records = refl; text_is = refl })

  some-text : (starts : List StartTree) (runs : List Told) → AreTold d i schedule traced starts runs → 0 < length starts
      → runs_in_a_row runs ≡ text_of runs
  some-text [] runs told some = absurd (omega (arith, some))
  some-text (s ∷ ss) [] told some = absurd told
  some-text (s ∷ ss) (t ∷ ts) told some = refl

  pub all-tell : (starts : List StartTree) (text : List ℕ) (spent : ℕ) → 0 < length starts → spent ≤ 67108864
      → AreWritten d i schedule traced starts text spent → TellsStarts d i schedule traced starts text
  all-tell starts text spent some le written =
      let left : records_left written.runs ≡ records_of d i starts = records-told starts written.runs written.told in
      let fine : total_cost (records_of d i starts) ≤ 67108864 =
      subst (λ c. c ≤ 67108864) (written.cost_is ∙ ap total_cost left) le in
      record {
        runs = written.runs;
        told = written.told;
        records = within (records_of d i starts) fine ∙ ap Ok (sym left);
        text_is = written.text_is ∙ some-text starts written.runs written.told some;
      }
