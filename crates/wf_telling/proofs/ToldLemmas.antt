-- The line by what stands at the instance of an event that has happened is what the definition means to be told of it.
use Rattle.std.proofs.Common.{◌≡◌, ◌∙◌, ℕ, suc, ◌-◌, List, [], ◌∷◌, Option, Some, None, codes, decimal, slice_get, refl, sym, ap, arith}
use Rattle.wf_layers.specs.Address.{Address, Table, address}
use Rattle.wf_layers.specs.Machine.{Event}
use Rattle.wf_scheduled.specs.Happened.{HasHappened}
use Rattle.wf_answers.specs.Inputs.{InputsTree}
use Rattle.wf_def.specs.ActionTree.{ActionTree, action_kind, action_name}
use Rattle.wf_def.specs.AllActions.{numbered}
use Rattle.wf_def.specs.DefTree.{DefTree}
use Rattle.wf_record.specs.Record.{Row, status_name}
use Rattle.wf_trace.specs.Leaf.{BegunTree, tries_in}
use Rattle.wf_doing.specs.Starts.{StartTree}
use Rattle.wf_doing.specs.Environment.{fresh}
use Rattle.wf_doing.specs.Answering.{AnswersAs, RowSource}
use Rattle.wf_doing.specs.Look.{name_in}
use Rattle.wf_doing.specs.Source.{finished}
use Rattle.wf_tables.specs.Tables.{event_at}
use Rattle.wf_tables.specs.declared.entries.EventKind.{EventKind}
use Rattle.wf_making.specs.Standing.{standing}
use Rattle.wf_doing.specs.Places.{named}
use Rattle.wf_trace.specs.Texts.{end_text, open_text, start_text}
use Rattle.wf_trace.specs.Told.{line_at, line_of, of_attempt, of_attempts, of_row, test_text, told}
use Rattle.wf_telling.specs.Lines.{Container, Leaf, action_line, attempt_by, begin_by, close_by, end_by, line_by, open_by, start_by}
use Rattle.wf_telling.specs.Lines.{test_by, verdict_by}

below : (n k : ℕ) → n ≡ suc k → n - 1 ≡ k
below n k is = omega arith

module _ (d : DefTree) (s : StartTree) (i : InputsTree) (m : RowSource) (answers : AnswersAs d (fresh s i) m) (f : Table Row) where
  -- what the row of a leaf keeps of its attempts
  attempts_are : (x : Address) (b : BegunTree) (a : ActionTree) → numbered x.name d.top ≡ Some a
      → (m.finish x b f).attempts ≡ tries_in i.answers (named (action_name a) x.at) b
  attempts_are x b a is =
      ap (λ ends. (ends x b f).attempts) answers.finish ∙ ap (λ o. (finished d (fresh s i) o x b f).attempts) is
      ∙ ap (λ o. tries_in i.answers (named (name_in o) x.at) b) is

  module _ (row : Option Row) (leaf : Option Leaf) (container : Option Container) where
    -- where no action has the number, neither has a line
    by_action : (e : Event) (kind at : List ℕ) (value : ActionTree → List ℕ) (o : Option ActionTree)
        → ((a : ActionTree) → o ≡ Some a → action_line i.answers a e row leaf container ≡ line_at kind (action_name a) at (value a))
        → line_by i.answers o e row leaf container ≡ line_of kind o at value
    by_action e kind at value None is = refl
    by_action e kind at value (Some a) is = is a refl

    pub told_is : (kind : EventKind) (n : ℕ) (at : List ℕ) (k : ℕ)
        → HasHappened m f (standing row leaf container) (event_at kind n at) k
        → line_by i.answers (numbered n d.top) (event_at kind n at) row leaf container ≡ told d m f (event_at kind n at) k
    told_is EventKind.Start n at k (w, is, begun) =
        by_action (event_at EventKind.Start n at) (codes "Start") at (λ a. 32 ∷ start_text (m.start (address n at) f)) (numbered n d.top)
        (λ a found. ap (start_by (action_name a) at) is ∙ ap (λ b. line_at (codes "Start") (action_name a) at (32 ∷ start_text b)) begun)
    told_is EventKind.Try n at k (w, is, begun, tries, has) =
        by_action (event_at EventKind.Try n at) (codes "Try") at (λ a. of_attempts k (f (address n at))) (numbered n d.top)
        (λ a found. ap (attempt_by i.answers (action_name a) at) is
        ∙ ap (λ t. line_at (codes "Try") (action_name a) at
        (of_attempt t (slice_get (tries_in i.answers (named (action_name a) at) w.begun) (t - 1)))) tries
        ∙ ap (λ b. line_at (codes "Try") (action_name a) at
        (of_attempt k (slice_get (tries_in i.answers (named (action_name a) at) b) (k - 1)))) begun
        ∙ ap (λ ts. line_at (codes "Try") (action_name a) at (of_attempt k (slice_get ts (k - 1))))
        (sym (attempts_are (address n at) (m.start (address n at) f) a found))
        ∙ ap (λ r. line_at (codes "Try") (action_name a) at (of_attempts k r)) (sym has))
    told_is EventKind.End n at k (r, is, has) =
        by_action (event_at EventKind.End n at) (codes "End") at (λ a. of_row end_text (f (address n at))) (numbered n d.top)
        (λ a found. ap (end_by (action_name a) at) is
        ∙ ap (λ q. line_at (codes "End") (action_name a) at (of_row end_text q)) (sym has))
    told_is EventKind.Skip n at k happened =
        by_action (event_at EventKind.Skip n at) (codes "Skip") at (λ a. []) (numbered n d.top) (λ a found. refl)
    told_is EventKind.Open n at k (w, is, decided) =
        by_action (event_at EventKind.Open n at) (codes "Open") at (λ a. open_text (action_kind a) (m.decide (address n at) f))
        (numbered n d.top)
        (λ a found. ap (open_by (action_kind a) (action_name a) at) is
        ∙ ap (λ q. line_at (codes "Open") (action_name a) at (open_text (action_kind a) q)) decided)
    told_is EventKind.Begin n at k (w, is, next) =
        by_action (event_at EventKind.Begin n at) (codes "Begin") at (λ a. 32 ∷ decimal k) (numbered n d.top)
        (λ a found. ap (begin_by (action_name a) at) is
        ∙ ap (λ j. line_at (codes "Begin") (action_name a) at (32 ∷ decimal j)) (below w.next k next))
    told_is EventKind.Test n at k (w, is, next, test) =
        by_action (event_at EventKind.Test n at) (codes "Test") at (λ a. 32 ∷ test_text k (m.test (address n at) k f)) (numbered n d.top)
        (λ a found. ap (test_by (action_name a) at) is ∙ ap (verdict_by (action_name a) at (w.next - 1)) test
        ∙ ap (λ j. line_at (codes "Test") (action_name a) at (32 ∷ test_text j (m.test (address n at) k f))) (below w.next k next))
    told_is EventKind.Close n at k (r, is, has) =
        by_action (event_at EventKind.Close n at) (codes "Close") at (λ a. of_row (λ q. status_name q.status) (f (address n at)))
        (numbered n d.top)
        (λ a found. ap (close_by (action_name a) at) is
        ∙ ap (λ q. line_at (codes "Close") (action_name a) at (of_row (λ p. status_name p.status) q)) (sym has))
