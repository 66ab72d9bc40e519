-- What the actions of a definition come to in two environments that tell them the same and answer them alike.
use Rattle.std.proofs.Common.{◌≡◌, ℕ, List, [], Option, None, Some, length, refl, sym, ap, ◌∙◌, subst}
use Rattle.wf_val.specs.ValueTree.{object, no_members}
use Rattle.wf_val.specs.declared.address.Address as named
use Rattle.wf_layers.specs.Address.{Address, Table}
use Rattle.wf_look.specs.Told.{Told}
use Rattle.wf_def.specs.ActionTree.{ActionTree, action_kind, action_name}
use Rattle.wf_def.specs.AllActions.{numbered}
use Rattle.wf_def.specs.DefTree.{DefTree}
use Rattle.wf_answers.specs.AnswerTree.{AnswerTree}
use Rattle.wf_connect.specs.Last.{Answered, answered_at, ending, tries_of as attempts}
use Rattle.wf_record.specs.Record.{Row}
use Rattle.wf_record.specs.declared.attempt.Try.{Try}
use Rattle.wf_opening.specs.Decisions.{DecisionTree, decided}
use Rattle.wf_opening.specs.Verdicts.{VerdictTree}
use Rattle.wf_done.specs.Done.{DoneTree}
use Rattle.wf_done.specs.Leaf as leaf
use Rattle.wf_done.specs.Leaf.{BegunTree, acted, calling, done_by, ended, tries_in}
use Rattle.wf_done.specs.Tracked.{tracked_value}
use Rattle.wf_environment.specs.Environment.{Environment, facts_of}
use Rattle.wf_turns.specs.Containers.{closed, tested}
use Rattle.wf_turns.specs.Look.{decided_by, instance, name_in, told_at}
use Rattle.wf_turns.specs.Rows.{row_of, view_of}
use Rattle.wf_turns.specs.Source.{begun, close_of, finished, source, test_of, tracked_of, tries_of, with_tracked}
use Rattle.wf_anew.specs.Same.{SameAnswers}
use Rattle.wf_anew.proofs.ToldLemmas.{SameStart, WordsAt, WordsRound, told_at_same, told_ending_same, told_in_test_same}

-- ---- attempts are told by the answers at their address

module _ (one other : List AnswerTree) (x : named.Address) (same : answered_at one x ≡ answered_at other x) where
  ended_same : (b : BegunTree) → ended one x b ≡ ended other x b
  ended_same (acted done) = refl
  ended_same (calling inputs policy) = ap (λ (answers : Answered). done_by inputs (ending policy answers)) same

  tried_same : (b : BegunTree) → tries_in one x b ≡ tries_in other x b
  tried_same (acted done) = refl
  tried_same (calling inputs policy) = ap (λ (answers : Answered). attempts policy answers) same

-- ---- at an instance

-- the action of this number is told and answered the same in both environments
pub record SameAt (d : DefTree) (e e' : Environment) (start : SameStart e.start e'.start) (n : ℕ) : Type 0 where
  pub words : WordsAt d e e' start n
  pub round : WordsRound d e e' start n
  pub answers : (a : ActionTree) → numbered n d.top ≡ Some a
      → SameAnswers (action_name a) (facts_of e (action_name a)) (facts_of e' (action_name a))

module _ (d : DefTree) (e e' : Environment) (start : SameStart e.start e'.start) (x : Address) (same : SameAt d e e' start x.name) where
  answered_same : (a : ActionTree) → numbered x.name d.top ≡ Some a
      → answered_at (facts_of e (action_name a)).answers (instance d x) ≡ answered_at (facts_of e' (action_name a)).answers (instance d x)
  answered_same a is =
      subst (λ (k : List ℕ). answered_at (facts_of e (action_name a)).answers (record { name = k; at = x.at })
      ≡ answered_at (facts_of e' (action_name a)).answers (record { name = k; at = x.at }))
      (sym (ap name_in is)) (λ i attempt. same.answers a is x.at attempt i)

  tracked_same : (a : ActionTree) → numbered x.name d.top ≡ Some a → (done : DoneTree) (tries : List Try) (known : Table Row)
      → with_tracked d e a x done tries known ≡ with_tracked d e' a x done tries known
  tracked_same a is done tries known =
      ap (λ (l : Told). row_of done (tracked_value l (tracked_of a)) tries)
      (told_ending_same d e e' start known x a is same.words same.round (view_of (action_name a) (row_of done (object no_members) tries)))

  begun_as : (found : Option ActionTree) → numbered x.name d.top ≡ found → (known : Table Row)
      → begun d e found x known ≡ begun d e' found x known
  begun_as None is known = refl
  begun_as (Some a) is known =
      ap (λ (l : Told). leaf.begun l (action_kind a)) (told_at_same d e e' start known x a is same.words same.round)

  tries_as : (found : Option ActionTree) → numbered x.name d.top ≡ found → (b : BegunTree)
      → tries_of d e found x b ≡ tries_of d e' found x b
  tries_as None is b = refl
  tries_as (Some a) is b =
      tried_same (facts_of e (action_name a)).answers (facts_of e' (action_name a)).answers (instance d x) (answered_same a is) b

  finished_as : (found : Option ActionTree) → numbered x.name d.top ≡ found → (b : BegunTree) (known : Table Row)
      → finished d e found x b known ≡ finished d e' found x b known
  finished_as None is b known = refl
  finished_as (Some a) is b known =
      ap (λ (tries : List Try). with_tracked d e a x (ended (facts_of e (action_name a)).answers (instance d x) b) tries known)
      (tries_as (Some a) is b)
      ∙ ap (λ (done : DoneTree). with_tracked d e a x done (tries_of d e' (Some a) x b) known)
      (ended_same (facts_of e (action_name a)).answers (facts_of e' (action_name a)).answers (instance d x) (answered_same a is) b)
      ∙ tracked_same a is (ended (facts_of e' (action_name a)).answers (instance d x) b) (tries_of d e' (Some a) x b) known

  decided_as : (found : Option ActionTree) → numbered x.name d.top ≡ found → (known : Table Row)
      → decided_by found (told_at d e x known) ≡ decided_by found (told_at d e' x known)
  decided_as None is known = refl
  decided_as (Some a) is known =
      ap (λ (l : Told). decided l (action_kind a)) (told_at_same d e e' start known x a is same.words same.round)

  tested_as : (found : Option ActionTree) → numbered x.name d.top ≡ found → (k : ℕ) (known : Table Row)
      → test_of d e found x k known ≡ test_of d e' found x k known
  tested_as None is k known = refl
  tested_as (Some a) is k known =
      ap (λ (l : Told). tested l (action_kind a)) (told_in_test_same d e e' start known x k a is same.words same.round)

  closed_as : (found : Option ActionTree) → numbered x.name d.top ≡ found → (decision : DecisionTree) (n : ℕ) (v : Option VerdictTree)
      (known : Table Row) → close_of d e found x decision n v known ≡ close_of d e' found x decision n v known
  closed_as None is decision n v known = refl
  closed_as (Some a) is decision n v known = tracked_same a is (closed (action_kind a) x.at decision n v known) [] known

  -- ---- as the source has it

  pub start_same : (known : Table Row) → (source d e).start x known ≡ (source d e').start x known
  start_same known = begun_as (numbered x.name d.top) refl known

  pub tries_same : (b : BegunTree) → (source d e).tries x b ≡ (source d e').tries x b
  tries_same b = ap length (tries_as (numbered x.name d.top) refl b)

  pub finish_same : (b : BegunTree) (known : Table Row) → (source d e).finish x b known ≡ (source d e').finish x b known
  finish_same b known = finished_as (numbered x.name d.top) refl b known

  pub decide_same : (known : Table Row) → (source d e).decide x known ≡ (source d e').decide x known
  decide_same known = decided_as (numbered x.name d.top) refl known

  pub test_same : (k : ℕ) (known : Table Row) → (source d e).test x k known ≡ (source d e').test x k known
  test_same k known = tested_as (numbered x.name d.top) refl k known

  pub close_same : (decision : DecisionTree) (n : ℕ) (v : Option VerdictTree) (known : Table Row)
      → (source d e).close x decision n v known ≡ (source d e').close x decision n v known
  close_same decision n v known = closed_as (numbered x.name d.top) refl decision n v known
