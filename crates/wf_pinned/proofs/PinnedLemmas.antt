-- The rows of a resubmission are whole and give what they write: kept ones as the older run's, new ones by the rule that they obey.
use Rattle.std.proofs.Common.{◌≡◌, ℕ, ◌<◌, true, List, [], Option, Some, None, inl, inr, refl, sym, ◌∙◌, subst}
use Rattle.std.proofs.lemmas.Option.{none-some}
use Rattle.wf_layers.specs.Address.{Address, SeenIn, Table, address, is_within}
use Rattle.wf_layers.specs.Definition.{IsDepth, has}
use Rattle.wf_layers.specs.Meaning.{deepest}
use Rattle.wf_layers.specs.Rule.{Obeys}
use Rattle.wf_layers.specs.Seen.{Once}
use Rattle.wf_layers.specs.Source.{Sound}
use Rattle.wf_layers.proofs.Basics.{and_in, two, unless, when}
use Rattle.wf_layers.proofs.Layers.{out_layers}
use Rattle.wf_layers.proofs.Meaning.{meaning_solves}
use Rattle.wf_layers.proofs.OldTable.{kept_row}
use Rattle.wf_layers.proofs.Resubmission.{pin_sound}
use Rattle.wf_seen_laws.specs.Laws.{IsInTurnOf, IsKept}
use Rattle.wf_seen_laws.proofs.RowLemmas.{new_turn}
use Rattle.wf_seen_laws.proofs.StandLemmas.{new_stands}
use Rattle.wf_def.specs.ActionTree.{ActionTree}
use Rattle.wf_def.specs.AllActions.{numbered}
use Rattle.wf_def.specs.DefTree.{DefTree}
use Rattle.wf_answers.specs.Inputs.{InputsTree}
use Rattle.wf_record.specs.Record.{RecordTree, Row}
use Rattle.wf_meant_laws.specs.Environment.{Environment}
use Rattle.wf_meant_laws.specs.Answering.{AnswersAs, RowSource}
use Rattle.wf_meant_laws.specs.Points.{graph_of}
use Rattle.wf_meant_laws.specs.Record.{depth_of}
use Rattle.wf_meant_laws.specs.Resubmitted.{pinned_source, pinned_table, recalled, resubmitted, rows_by}
use Rattle.wf_meant_laws.specs.Rows.{iterations_of, turns_at}
use Rattle.wf_meant_laws.specs.Source.{source}
use Rattle.wf_meant_laws.specs.Answered.{GiveWhatTheyWrite, IsAnswered, NewGiveWhatTheyWrite}
use Rattle.wf_meant_laws.specs.Tables.{LoopsTell, StandAtInstances}
use Rattle.wf_meant_laws.proofs.WholeLemmas.{had_tells, stands}
use Rattle.wf_pinned.specs.Old.{MayGoOn, keeps, recloses, redoes}
use Rattle.wf_pinned.proofs.LoopLemmas.{no_loop, round_kept}

module _ (d : DefTree) (r : RecordTree) (i : InputsTree) (from : List ℕ) (on : MayGoOn d r i from)
    (falls : IsDepth (graph_of d) (depth_of d))
    (local : Sound (source d (resubmitted r i)) (SeenIn (graph_of d)) (graph_of d) 0) where
  abbrev e : Environment
  e = resubmitted r i

  abbrev m : RowSource
  m = pinned_source d r i from

  abbrev rows : Table Row
  rows = pinned_table d r i from

  abbrev old : Table Row
  old = rows_by d r.rows

  -- ---- kept rows

  pub kept_is : (x : Address) → keeps d from x.name ≡ true → rows x ≡ old x
  kept_is x stays =
      kept_row (source d e) (source d e) (redoes d from) (recloses d from) (graph_of d) (depth_of d) falls local old (recalled d r.rows)
      on.table x stays

  kept_there : (x : Address) (row : Row) → keeps d from x.name ≡ true → rows x ≡ Some row → old x ≡ Some row
  kept_there x row stays there = sym (kept_is x stays) ∙ there

  -- ---- new rows

  sound : Sound m (SeenIn (graph_of d)) (graph_of d) 0
  sound =
      pin_sound (source d e) (source d e) (redoes d from) (SeenIn (graph_of d)) (recloses d from) old (recalled d r.rows) (graph_of d) 0
      local

  obeys : Obeys m (graph_of d) rows
  obeys = meaning_solves m (depth_of d) (graph_of d) falls sound

  division : IsKept (graph_of d) m (redoes d from) (recloses d from)
  division = record { split = on.table.split.tree; pinned = λ n. refl }

  -- ---- the source

  answers : AnswersAs d e m
  answers = record {
    status = refl;
    skipped = refl;
    start = refl;
    tries = refl;
    finish = refl;
    decide = λ x known no. unless (recloses d from x.name) (recalled d r.rows x) ((source d e).decide x known) no;
    recalls = λ x known yes. (old x, when (recloses d from x.name) (recalled d r.rows x) ((source d e).decide x known) yes);
    taken = refl;
    items = refl;
    test = refl;
    ends = refl;
    close = refl;
    halts = refl;
    loops = λ n kind is loop. no_loop (redoes d from) (recloses d from) (graph_of d) n kind on.table.split.tree is loop;
  }

  module _ (once : Once (graph_of d)) (numbers : (l : ℕ) → has (graph_of d) l ≡ true → (a : ActionTree) × (numbered l d.top ≡ Some a))
      (news : AnswersAs d e m → IsKept (graph_of d) m (redoes d from) (recloses d from) → Obeys m (graph_of d) rows
      → NewGiveWhatTheyWrite d (redoes d from) (recloses d from) rows) where
    -- ---- the rows are whole

    stand : StandAtInstances d rows
    stand x row there = elim (two (keeps d from x.name)) [
      | inl stays ↦ on.whole.instances x row (kept_there x row stays there)
      | inr new ↦ elim (two (is_within (graph_of d) [] x)) [
        | inl within ↦
            let held = (and_in (has (graph_of d) x.name) true within).0 in
            stands d x (
              held,
              new_stands (graph_of d) m (redoes d from) (recloses d from) rows once division obeys x row there new held,
            )
        | inr outside ↦
            absurd (none-some row (sym (out_layers m (depth_of d) (graph_of d) [] (deepest (depth_of d) (graph_of d)) (λ y. None) x outside)
            ∙ there))
      ]
    ]

    -- a loop round a kept row is kept, too, and its own row tells what the older run's did
    kept_tells : (x : Address) (l : ℕ) (outer at : List ℕ) (turn : ℕ) → IsInTurnOf (graph_of d) x l outer at turn
        → keeps d from x.name ≡ true → turn < turns_at d old l at → turn < turns_at d rows l at
    kept_tells x l outer at turn of stays tells =
        subst (λ (o : Option Row). turn < iterations_of (numbered l d.top) o)
        (sym (kept_is (address l at)
        (round_kept (redoes d from) (recloses d from) x.name stays (graph_of d) l outer of.inner on.table.split.tree of.loops)))
        tells

    tell : LoopsTell d rows
    tell x row there l outer at turn of = elim (two (keeps d from x.name)) [
      | inl stays ↦ kept_tells x l outer at turn of stays (on.whole.loops x row (kept_there x row stays there) l outer at turn of)
      | inr new ↦
          had_tells d e rows m answers once numbers l at turn
          (new_turn (graph_of d) m (redoes d from) (recloses d from) rows once division obeys x row there new l outer at turn of)
    ]

    -- ---- and give what they write

    give : GiveWhatTheyWrite d rows
    give v y row there writes is none = elim (two (keeps d from y.name)) [
      | inl stays ↦ on.given v y row (kept_there y row stays there) writes is none
      | inr new ↦ news answers division obeys v y row there new writes is none
    ]

    -- THE LAW
    pub is_answered : IsAnswered d e m
    is_answered = record { answers = answers; whole = record { instances = stand; loops = tell }; given = give }
