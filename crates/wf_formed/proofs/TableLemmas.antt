-- All rows that a definition means are ones that a record of the form may have, and so are those of a resubmission.
use Rattle.std.proofs.Common.{◌≡◌, ℕ, ◌^◌, Bool, true, false, cond, List, [], ◌∷◌, Option, Some, None, Ok, refl, sym}
use Rattle.std.proofs.Common.{option_map, subst, Ordering, Less, Equal, Greater}
use Rattle.std.specs.Prelude.{if◌then◌else◌}
use Rattle.std.specs.List.{AllByRecursion}
use Rattle.std.specs.Cmp.Lexicographic.{slice_cmp}
use Rattle.std.specs.Ordering.{is_eq, nat_cmp, ordering_then}
use Rattle.std.proofs.lemmas.Map.Lookups.{exact_bytes}
use Rattle.wf_val.specs.Address.{address_cmp}
use Rattle.wf_val.specs.NameOrder.{bytes_cmp}
use Rattle.wf_val.specs.ValueTree.{ValueTree, null, boolean, number, text, list, object, fits}
use Rattle.wf_val.specs.declared.address.Address as named
use Rattle.wf_layers.specs.Address.{Address}
use Rattle.wf_layers.specs.Redo.{closed_again}
use Rattle.wf_def.specs.ActionTree.{ActionTree, action_kind, CaseTrees, KindTree, branch, switch, switch_else}
use Rattle.wf_def.specs.AllActions.{numbered}
use Rattle.wf_def.specs.DefTree.{DefTree}
use Rattle.wf_answers.specs.Inputs.{InputsTree}
use Rattle.wf_record.specs.Record.{RecordTree, Row, RowTree, find_row}
use Rattle.wf_record_form.specs.Fitting.{IsFittingRow}
use Rattle.wf_opening.specs.Decisions.{DecisionTree, chosen_as, held_as}
use Rattle.wf_environment.specs.Environment.{Environment, facts_of}
use Rattle.wf_pinned.specs.Look.{instance}
use Rattle.wf_pinned.specs.Points.{graph_of}
use Rattle.wf_pinned.specs.Record.{depth_of}
use Rattle.wf_pinned.specs.Resubmitted.{is_chosen, pinned_source, pinned_table, recalled, resubmitted, rows_by, said, said_by}
use Rattle.wf_pinned.specs.Source.{source, table_of}
use Rattle.wf_formed.specs.Formed.{IsFormedRow}
use Rattle.wf_formed.specs.Known.{FewTries, Promised}
use Rattle.wf_formed.proofs.AnswerLemmas.{AreFormedAnswers}
use Rattle.wf_formed.proofs.MeaningLemmas.{AreSmall, Gives, OfRow, OfTable, TurnsSmall, all_meant}
use Rattle.wf_formed.proofs.RowLemmas.{KeepsFit, closed_row, decided_fits, few_of, leaf_row, skipped_row}

module _ (promised : Promised) (d : DefTree) (e : Environment)
    (answers : (name : List ℕ) → AreFormedAnswers (facts_of e name).answers) (few : FewTries d e)
    (small : TurnsSmall (2 ^ 63) (graph_of d)) where
  own_gives : Gives (2 ^ 63) (source d e) IsFormedRow KeepsFit
  own_gives = record {
    skipped = skipped_row;
    old = λ x. tt;
    leaves = λ x k. leaf_row promised d e answers (numbered x.name d.top) x k (few x k);
    decides = λ x k. decided_fits promised d e answers (numbered x.name d.top) _;
    items = λ p keeps. few_of p keeps;
    closes = λ x p keeps n v k. closed_row promised d e answers (numbered x.name d.top) x p keeps n v k;
  }

  -- THE LAW, of a run of its own
  pub table_formed : OfTable (2 ^ 63) IsFormedRow (table_of d e (depth_of d))
  table_formed = all_meant (2 ^ 63) (source d e) IsFormedRow KeepsFit own_gives (depth_of d) (graph_of d) small

-- ---- rows that are kept of an older record

formed_row : (r : RowTree) → IsFittingRow r → IsFormedRow r.row
formed_row r fit = record {
  inputs = fit.inputs;
  outputs = fit.outputs;
  error = fit.error;
  tracked = fit.tracked;
  few = fit.few;
  attempts = fit.attempts;
}

chosen_fits : (cases : CaseTrees) (v : ValueTree) → fits v ≡ true → KeepsFit (chosen_as cases (Ok v))
chosen_fits cases (text s) fit = fit
chosen_fits cases (number n) fit = fit
chosen_fits cases null fit = tt
chosen_fits cases (boolean b) fit = tt
chosen_fits cases (list ts) fit = tt
chosen_fits cases (object ms) fit = tt

held_fits : (v : ValueTree) → KeepsFit (held_as (Ok v))
held_fits (boolean b) = tt
held_fits null = tt
held_fits (number n) = tt
held_fits (text s) = tt
held_fits (list ts) = tt
held_fits (object ms) = tt

said_fits : (kind : KindTree) (row : Row) → fits row.inputs ≡ true → KeepsFit (said kind row)
said_fits (branch test yes' no') row fit = held_fits row.inputs
said_fits (switch on cases) row fit = chosen_fits cases row.inputs fit
said_fits (switch_else on cases default) row fit = chosen_fits cases row.inputs fit
said_fits kind row fit = tt

abbrev FitsIf : Option Row → Type 0
FitsIf None = Unit {0}
FitsIf (Some row) = fits row.inputs ≡ true

said_by_fits : (o : Option ActionTree) (row : Option Row) → FitsIf row → KeepsFit (said_by o row)
said_by_fits None row fit = tt
said_by_fits (Some a) None fit = tt
said_by_fits (Some a) (Some row) fit = said_fits (action_kind a) row fit

inputs_fit : (x : Address) (o : Option Row) → OfRow (2 ^ 63) IsFormedRow x o → FitsIf o
inputs_fit x None formed = tt
inputs_fit x (Some row) formed = formed.1.inputs

either_fits : (b : Bool) (p q : DecisionTree) → KeepsFit p → KeepsFit q → KeepsFit (cond b p q)
either_fits true p q one other = one
either_fits false p q one other = other

-- two addresses that are the same stand in the same iterations
same_second : (p q : Ordering) → ordering_then p q ≡ Equal → q ≡ Equal
same_second Less q is = absurd (cc)
same_second Equal q is = is
same_second Greater q is = absurd (cc)

same_at : (a b : named.Address) → address_cmp a b ≡ Equal → a.at ≡ b.at
same_at a b is = exact_bytes a.at b.at (same_second (bytes_cmp a.name b.name) (slice_cmp nat_cmp a.at b.at) is)

module _ (d : DefTree) (x : Address) where
  found_formed : (rows : List RowTree) → AllByRecursion IsFittingRow rows → OfRow (2 ^ 63) IsFormedRow x (rows_by d rows x)
  found_formed [] all = tt
  found_formed (r ∷ rows) all = by (address_cmp (instance d x) r.address) refl (found_formed rows all.1)
    where
      by : (o : Ordering) → address_cmp (instance d x) r.address ≡ o → OfRow (2 ^ 63) IsFormedRow x (rows_by d rows x)
          → OfRow (2 ^ 63) IsFormedRow x (option_map (λ (q : RowTree). q.row) (if is_eq o then Some r else find_row (instance d x) rows))
      by Less is rest = rest
      by Equal is rest = (subst (AreSmall (2 ^ 63)) (sym (same_at (instance d x) r.address is)) all.0.at_in_range, formed_row r all.0)
      by Greater is rest = rest

module _ (promised : Promised) (d : DefTree) (r : RecordTree) (i : InputsTree) (from : List ℕ)
    (answers : (name : List ℕ) → AreFormedAnswers (facts_of (resubmitted r i) name).answers) (few : FewTries d (resubmitted r i))
    (small : TurnsSmall (2 ^ 63) (graph_of d)) (rows : AllByRecursion IsFittingRow r.rows) where
  abbrev e : Environment
  e = resubmitted r i

  pinned_gives : Gives (2 ^ 63) (pinned_source d r i from) IsFormedRow KeepsFit
  pinned_gives = record {
    skipped = skipped_row;
    old = λ x. found_formed d x r.rows rows;
    leaves = λ x k. leaf_row promised d e answers (numbered x.name d.top) x k (few x k);
    decides = λ x k.
        either_fits (closed_again (graph_of d) (depth_of d) (is_chosen from) x.name) (recalled d r.rows x) _
        (said_by_fits (numbered x.name d.top) (rows_by d r.rows x) (inputs_fit x (rows_by d r.rows x) (found_formed d x r.rows rows)))
        (decided_fits promised d e answers (numbered x.name d.top) _);
    items = λ p keeps. few_of p keeps;
    closes = λ x p keeps n v k. closed_row promised d e answers (numbered x.name d.top) x p keeps n v k;
  }

  -- THE LAW, of a resubmission
  pub pinned_formed : OfTable (2 ^ 63) IsFormedRow (pinned_table d r i from)
  pinned_formed = all_meant (2 ^ 63) (pinned_source d r i from) IsFormedRow KeepsFit pinned_gives (depth_of d) (graph_of d) small
