-- Rows that a source doesn't keep of an older run give what they write.
use Rattle.std.proofs.Common.{◌≡◌, ◌⊎◌, ℕ, Bool, true, List, Some, inl, inr, refl, sym, ap, ◌∙◌, subst}
use Rattle.std.proofs.lemmas.Option.{none-some}
use Rattle.wf_val.specs.ValueTree.{ValueTree}
use Rattle.wf_layers.specs.Address.{Address, Table}
use Rattle.wf_layers.specs.Rule.{Obeys}
use Rattle.wf_layers.specs.Seen.{Once}
use Rattle.wf_layers.specs.Source.{leaf}
use Rattle.wf_seen_laws.specs.AllActions.{numbered}
use Rattle.wf_seen_laws.specs.DefTree.{DefTree}
use Rattle.wf_seen_laws.specs.Laws.{IsKept}
use Rattle.wf_seen_laws.proofs.LeafLemmas.{new_leaf}
use Rattle.wf_record.specs.Record.{Row}
use Rattle.wf_record.specs.declared.status.Status.{Status}
use Rattle.wf_instance.specs.Environment.{Environment}
use Rattle.wf_instance.specs.Answering.{AnswersAs, RowSource}
use Rattle.wf_instance.specs.Points.{graph_of}
use Rattle.wf_instance.specs.Rows.{skipped}
use Rattle.wf_instance.specs.Source.{source}
use Rattle.wf_instance.specs.MeantVariables.{given_by}
use Rattle.wf_meant_laws.specs.Answered.{NewGiveWhatTheyWrite}
use Rattle.wf_meant_laws.specs.Writers.{is_writer}
use Rattle.wf_meant_laws.proofs.AccessLemmas.{writer_is_leaf}
use Rattle.wf_meant_laws.proofs.GivesLemmas.{Known, RowGives, ended_gives}

module _ (d : DefTree) (e : Environment) (m : RowSource) (answers : AnswersAs d e m) (once : Once (graph_of d)) (known : Known)
    (rows : Table Row) where
  ended_as : (y : Address) → leaf m y rows ≡ leaf (source d e) y rows
  ended_as y =
      ap (λ ends. ends y (m.start y rows) rows) answers.finish ∙ ap (λ starts. (source d e).finish y (starts y rows) rows) answers.start

  row_gives : (k : List ℕ) (y : Address) (row : Row) → (row ≡ m.skipped) ⊎ (row ≡ leaf m y rows) → is_writer d k y.name ≡ true
      → RowGives known k row
  row_gives k y row (inl same) wr = λ is. no_success (sym (ap (λ (r : Row). r.status) (same ∙ answers.skipped)) ∙ is)
    where
      no_success : skipped.status ≡ Status.Succeeded → (v : ValueTree) × (given_by k row ≡ Some v)
      no_success is = absurd (cc)
  row_gives k y row (inr same) wr =
      subst (RowGives known k) (sym (same ∙ ended_as y)) (ended_gives known d e (numbered y.name d.top) y rows k wr)

  -- THE LAW
  pub new_rows_give : (redo again : ℕ → Bool) → IsKept (graph_of d) m redo again → Obeys m (graph_of d) rows
      → NewGiveWhatTheyWrite d redo again rows
  new_rows_give redo again keeps obeys k y row there new wr is none =
      let came = new_leaf (graph_of d) m redo again rows keeps obeys y row there new
      (writer_is_leaf d once k y.name (numbered y.name d.top) refl wr) in
      let given = row_gives k y row came wr is in
      none-some given.0 (sym none ∙ given.1)
