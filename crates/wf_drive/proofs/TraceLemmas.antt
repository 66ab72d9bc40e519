-- Lines, one more at a time.
use Rattle.std.proofs.Common.{◌≡◌, ◌∙◌, ℕ, suc, List, [], ◌∷◌, ◌++◌, length, append_assoc, sym, ap}
use Rattle.std.proofs.lemmas.List.{append-nil}
use Rattle.wf_layers.specs.Machine.{Event}
use Rattle.wf_scheduled.specs.Counts.{number_of}
use Rattle.wf_drive.specs.Lines.{event_line, lines_from, trace_of}

module _ (told : Event → ℕ → List ℕ) where
  abbrev line : List Event → Event → List ℕ
  line before e = event_line (suc (length before)) (told e (number_of before e))

  more_lines : (before es : List Event) (e : Event) → lines_from told before (es ++ e ∷ [])
      ≡ lines_from told before es ++ line (before ++ es) e
  more_lines before [] e = append-nil (line before e) ∙ ap (λ b. line b e) (sym (append-nil before))
  more_lines before (x ∷ es) e =
      ap (λ text. line before x ++ text)
      (more_lines (before ++ x ∷ []) es e
      ∙ ap (λ b. lines_from told (before ++ x ∷ []) es ++ line b e) (append_assoc before (x ∷ []) es))
      ∙ sym (append_assoc (line before x) (lines_from told (before ++ x ∷ []) es) (line (before ++ x ∷ es) e))

  pub trace_more : (es : List Event) (e : Event) → trace_of told (es ++ e ∷ []) ≡ trace_of told es ++ line es e
  trace_more es e = more_lines [] es e
