-- A resubmission of what a definition means in an environment is what it means with one layer more.
use Rattle.std.proofs.Common.{◌≡◌, ℕ, Bool, true, not, ◌&&◌, List, [], Option, Some, None, option_map, inl, inr, refl, sym, ap, ◌∙◌}
use Rattle.std.proofs.Common.{true≢false}
use Rattle.wf_layers.specs.Address.{Address, Table, address, is_within}
use Rattle.wf_layers.specs.Definition.{Graph, Kind, has, kind_of}
use Rattle.wf_layers.specs.Laws.{IsFresh}
use Rattle.wf_layers.specs.Meaning as layered_meaning
use Rattle.wf_layers.specs.Meaning.{deepest}
use Rattle.wf_layers.specs.Redo.{IsRedo, any_kind, closed_again, redone}
use Rattle.wf_layers.specs.Resubmission.{IsResubmission, IsSetResubmission, OthersKept, layered}
use Rattle.wf_layers.specs.Rule.{Obeys}
use Rattle.wf_layers.specs.Source.{Source}
use Rattle.wf_layers.proofs.Answered.{old_tables_agree}
use Rattle.wf_layers.proofs.Basics.{and_in, two}
use Rattle.wf_layers.proofs.Chosen.{set_is_resubmission, set_keeps_others}
use Rattle.wf_layers.proofs.Layers.{out_layers}
use Rattle.wf_layers.proofs.Meaning.{meaning_solves}
use Rattle.wf_layers.proofs.Redone.{a_set_has_its_parts}
use Rattle.wf_layers.proofs.Resubmission.{resubmission_is_fresh}
use Rattle.wf_def.specs.ActionTree.{ActionTree, action_name}
use Rattle.wf_def.specs.AllActions.{numbered}
use Rattle.wf_def.specs.DefTree.{DefTree}
use Rattle.wf_answers.specs.Inputs.{InputsTree}
use Rattle.wf_record.specs.Record.{RecordTree, Row, RowTree, find_row}
use Rattle.wf_opening.specs.Decisions.{DecisionTree}
use Rattle.wf_opening.specs.Verdicts.{VerdictTree}
use Rattle.wf_done.specs.Leaf.{BegunTree}
use Rattle.wf_environment.specs.Environment.{Environment, last_facts, layer_facts}
use Rattle.wf_turns.specs.Look.{instance}
use Rattle.wf_turns.specs.Points.{graph_of}
use Rattle.wf_turns.specs.Record.{depth_of, record_of_table, rows_of}
use Rattle.wf_turns.specs.Resubmitted.{is_chosen, pinned_source, pinned_table, recalled, resubmitted, rows_by, said_by}
use Rattle.wf_turns.specs.Rows.{skipped}
use Rattle.wf_turns.specs.Source.{source, table_of}
use Rattle.wf_resubmit.specs.Refused.{has_run, ran_as}
use Rattle.wf_anew.specs.Asked.{IsAskedOf}
use Rattle.wf_anew.specs.Known.{IsKnown}
use Rattle.wf_anew.specs.Layer.{if_found, layer_of, redone_names, with_layer}
use Rattle.wf_anew.specs.Same.{SameWords}
use Rattle.wf_anew.proofs.LayerLemmas.{last_with, layered_source, same_words}
use Rattle.wf_anew.proofs.LoopLemmas.{loops_as_inside, no_loop_round}
use Rattle.wf_anew.proofs.NameLemmas.{named_is, number_is, one_number}
use Rattle.wf_anew.proofs.RanLemmas.{Closed as ClosedAgain, choice, closed_again_ran, scope}
use Rattle.wf_anew.proofs.RecordLemmas.{record_same}
use Rattle.wf_anew.proofs.TableLemmas.{rows_back}
use Rattle.wf_anew.proofs.ToldLemmas.{SameStart}
use Rattle.wf_anew.proofs.TrackedLemmas.{closed_alike}

-- of a record that has the rows of the meaning and was started alike
module _ (d : DefTree) (known : IsKnown d) (e : Environment) (r : RecordTree) (i : InputsTree) (from : List ℕ)
    (rows_are : r.rows ≡ rows_of d (table_of d e (depth_of d))) (start : SameStart e.start (resubmitted r i).start)
    (asked : IsAskedOf d r from) where
  abbrev pub g : Graph
  g = graph_of d

  abbrev pub depth : ℕ → ℕ
  depth = depth_of d

  abbrev pub a : Source Row BegunTree DecisionTree VerdictTree
  a = source d e

  abbrev pub b : Source Row BegunTree DecisionTree VerdictTree
  b = source d (resubmitted r i)

  abbrev pub t : Table Row
  t = table_of d e depth

  abbrev pub chosen : ℕ → Bool
  chosen = is_chosen from

  abbrev pub redo : ℕ → Bool
  redo = redone g depth chosen

  abbrev pub again : ℕ → Bool
  again = closed_again g depth chosen

  own : IsFresh a
  own n = (refl, refl)

  pub parts : IsRedo g chosen redo again
  parts = a_set_has_its_parts g depth chosen known.falls known.once known.closed asked.may.out_of_loops

  follows : Obeys a g t
  follows = meaning_solves a depth g known.falls (known.local e)

  -- the record's rows are those of the table
  pub rows_of_it : (x : Address) → has g x.name ≡ true → rows_by d r.rows x ≡ t x
  rows_of_it x there =
      ap (λ (rows : List RowTree). rows_by d rows x) rows_are
      ∙ rows_back d (one_number d known.named) t (known.whole e).instances (known.listed t (known.whole e)) x there

  -- ---- what is chosen ran

  not_skipped : (o : Option RowTree) → has_run o ≡ true → option_map (λ (q : RowTree). q.row) o ≡ Some skipped → ⊥
  not_skipped None run is = true≢false (sym run)
  not_skipped (Some q) run is =
      let it : q.row ≡ skipped = cc in true≢false (sym run ∙ ap (λ (row : Row). ran_as row.status) it)

  ran : (n : ℕ) → chosen n ≡ true → t (address n []) ≡ Some a.skipped → ⊥
  ran n is idle =
      not_skipped (find_row (instance d (address n [])) r.rows) (asked.ran n is)
      (rows_of_it (address n []) (asked.may.present n is) ∙ idle)

  -- ---- what is closed again is recalled

  recalled_as : (n : ℕ) (kind : Kind) → kind_of g n ≡ Some kind → has g n ≡ true
      → ClosedAgain a own g chosen redo again t ran n kind → recalled d r.rows (address n []) ≡ a.decide (address n []) t
  recalled_as n _ is there (scope {g = inner} row) =
      ap (said_by (numbered n d.top)) (rows_of_it (address n []) there ∙ row) ∙ (known.recalls e t).scopes (address n []) inner is
  recalled_as n _ is there (choice {bs = bs} row taken) =
      ap (said_by (numbered n d.top)) (rows_of_it (address n []) there ∙ row) ∙ (known.recalls e t).choices (address n []) bs is taken

  recalls : (n : ℕ) → again n ≡ true → recalled d r.rows (address n []) ≡ a.decide (address n []) t
  recalls n is =
      let both = and_in (has g n) (not (redo n) && any_kind chosen (kind_of g n)) is in
      go (kind_of g n) refl both.0 (and_in (not (redo n)) (any_kind chosen (kind_of g n)) both.1).1
    where
      go : (o : Option Kind) → kind_of g n ≡ o → has g n ≡ true → any_kind chosen o ≡ true
          → recalled d r.rows (address n []) ≡ a.decide (address n []) t
      go None none there some = absurd (true≢false (sym some))
      go (Some kind) one there some =
          recalled_as n kind one there (closed_again_ran a own g chosen redo again t ran known.once follows parts n kind is one)

  -- ---- the resubmission

  pub turned : SameStart (resubmitted r i).start e.start
  turned = record { trigger = sym start.trigger; parameters = sym start.parameters }

  is_set : IsSetResubmission g depth a b chosen redo again (recalled d r.rows)
  is_set = record {
    redone = parts;
    ran = ran;
    recalls = recalls;
    closes = λ x p c v u is.
        closed_alike d (resubmitted r i) e turned known.tracks known.quiet x (no_loop_round g chosen redo again parts x.name is) p c v u;
  }

  pub is_one : IsResubmission g depth a b redo again (recalled d r.rows)
  is_one = set_is_resubmission g depth a b chosen redo again (recalled d r.rows) known.falls (known.local e) own is_set

  pub others : OthersKept g a redo again t (recalled d r.rows)
  others = set_keeps_others g depth a b chosen redo again (recalled d r.rows) known.falls (known.local e) own is_set

  abbrev pub more : Environment
  more = with_layer e (layer_of d from i)

  names_redone : (n : ℕ) (q : ActionTree) → numbered n d.top ≡ Some q → redone_names d from (action_name q) ≡ redo n
  names_redone n q is =
      ap (if_found redo) (named_is d known.named n q is) ∙ ap redo (sym (number_is d known.named n q is))

  pub layers : source d more ≡ layered a b redo
  layers =
      layered_source d e (layer_of d from i) (resubmitted r i) redo names_redone (loops_as_inside g chosen redo again parts) start
      (λ name. refl)

  pub table_is : pinned_table d r i from ≡ table_of d more depth
  table_is = λ k x. each x k
    where
      each : (x : Address) → pinned_table d r i from x ≡ table_of d more depth x
      each x = elim (two (is_within g [] x)) [
        | inl w ↦
            old_tables_agree g depth b b redo again (recalled d r.rows) known.falls (known.local (resubmitted r i)) (rows_by d r.rows) t
            (λ y v. rows_of_it y (and_in (has g y.name) true v).0) x w
            ∙ resubmission_is_fresh a b redo again g depth known.falls (known.local e) (known.local (resubmitted r i)) own is_one.split
            (recalled d r.rows) is_one x w
            ∙ ap (λ (m : Source Row BegunTree DecisionTree VerdictTree). layered_meaning.meaning m depth g x) (sym layers)
        | inr w ↦
            out_layers (pinned_source d r i from) depth g [] (deepest depth g) (λ y. None) x w
            ∙ sym (out_layers (source d more) depth g [] (deepest depth g) (λ y. None) x w)
      ]

  pub last_words : SameWords (last_facts (resubmitted r i)) (last_facts more)
  last_words = same_words (layer_facts i) (last_facts more) (sym (last_with e (layer_of d from i)))

  -- THE LAW
  pub is_fresh : record_of_table d (resubmitted r i) (pinned_table d r i from) ≡ record_of_table d more (table_of d more depth)
  is_fresh =
      ap (record_of_table d (resubmitted r i)) table_is ∙ record_same d (resubmitted r i) more turned last_words (table_of d more depth)
