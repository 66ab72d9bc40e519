-- What ran isn't Skipped: no attempt follows the last.
use Rattle.std.proofs.Common.{◌≡◌, ℕ, Bool, true, false, ◌&&◌, List, Option, Some, None, Result, Ok, Err, refl, nat_le}
use Rattle.std.specs.Prelude.{◌↔◌, if◌then◌else◌}
use Rattle.wf_val.specs.Arguments.{Answer}
use Rattle.wf_val.specs.ValueTree.{ValueTree}
use Rattle.wf_val.specs.declared.address.Address.{Address}
use Rattle.wf_val.specs.declared.fault.EvalFault.{EvalFault}
use Rattle.wf_retry.specs.Again.{again}
use Rattle.wf_retry.specs.declared.policy.Outcome.{Outcome}
use Rattle.wf_retry.specs.declared.policy.Policy.{Policy}
use Rattle.wf_connect.specs.AnswerTree.{AnswerTree}
use Rattle.wf_connect.specs.Status.{Status}
use Rattle.wf_schema.specs.Reading.{SchemaTree}
use Rattle.wf_def.specs.ActionTree.{KindTree, connector, parse_json}
use Rattle.wf_variables.specs.Told.{Told}
use Rattle.wf_variables.specs.TreeValue.{tree_value}
use Rattle.wf_connect.specs.Attempts.{repeated, ends, status_by, tried}
use Rattle.wf_connect.specs.Last.{Answered, IsLast, answered_at, ending, is_final, last_attempt}
use Rattle.wf_variables.specs.Made.{MadeTree}
use Rattle.wf_done.specs.Done.{DoneTree}
use Rattle.wf_done.specs.Leaf.{begun_from, called_with, done_by, done_of, ended, judged, made_by, unless_at}

abbrev Ran : DoneTree → Type 0
Ran d = d.status ≡ Status.Skipped → ⊥

by_code : (b : Bool) (s : Status) → (if b then Status.Succeeded else Status.Failed) ≡ s → s ≡ Status.Skipped → ⊥
by_code true s e skipped = cc
by_code false s e skipped = cc

status-ran : (o : Outcome) → status_by o ≡ Status.Skipped → ⊥
status-ran (Outcome.Code n) e = by_code (nat_le 200 n && nat_le n 299) _ refl e
status-ran Outcome.NoConnection e = cc
status-ran Outcome.TimedOut e = cc

tried-ran : (policy : Policy) (k : ℕ) (o : Option AnswerTree) (v : ValueTree) → (tried policy k o ≡ repeated → ⊥) →
    Ran (done_by v (tried policy k o))
tried-ran policy k None v not e = cc
tried-ran policy k (Some a) v not e = elim (again policy k a.outcome) as (λ b. ((if b then repeated else ends a) ≡ repeated → ⊥) →
    (done_by v (if b then repeated else ends a)).status ≡ Status.Skipped → ⊥) [
      | true ↦ λ n s. n refl
      | false ↦ λ n s. status-ran a.outcome s
    ] not e

-- what is promised of attempts: there is a last, which is final, and none that is final is followed by another
abbrev IsThere : Type 0
IsThere = (policy : Policy) (answers : Answered) → IsLast policy answers (last_attempt policy answers)

abbrev GoesOn : Type 0
GoesOn = (policy : Policy) (k : ℕ) (answer : Option AnswerTree) → (tried policy k answer ≡ repeated) ↔ (is_final policy k answer ≡ false)

not_both : (b : Bool) → b ≡ true → b ≡ false → ⊥
not_both b t f = cc

unless-ran : (m : MadeTree) (p : Option (List ℕ)) → Ran (unless_at m p)
unless-ran m None e = cc
unless-ran m (Some pointer) e = cc

judged-ran : (schema : Option SchemaTree) (m : MadeTree) → Ran (judged schema m)
judged-ran None m e = cc
judged-ran (Some schema) m e = unless-ran m _ e

done-ran : (kind : KindTree) (r : Result MadeTree EvalFault) → Ran (done_of kind r)
done-ran kind (Err f) e = cc
done-ran (parse_json content schema) (Ok m) e = judged-ran schema m e
done-ran kind (Ok m) e = cc

module _ (there : IsThere) (goes_on : GoesOn) where
  ending-ran : (policy : Policy) (answers : Answered) (v : ValueTree) → Ran (done_by v (ending policy answers))
  ending-ran policy answers v =
      let last = last_attempt policy answers in
      tried-ran policy last (answers last) v
      (λ e. not_both (is_final policy last (answers last)) (there policy answers).final ((goes_on policy last (answers last)).0 e))

  called-ran : (policy : Policy) (answers : List AnswerTree) (x : Address) (a : Answer) → Ran (ended answers x (called_with policy a))
  called-ran policy answers x (Ok v) e = ending-ran policy (answered_at answers x) v e
  called-ran policy answers x (Err f) e = cc

  pub begun-ran : (l : Told) (kind : KindTree) (n : ℕ) (answers : List AnswerTree) (x : Address) →
      Ran (ended answers x (begun_from l kind n))
  begun-ran l (connector t policy) n answers x = called-ran policy answers x (tree_value l t n).0
  begun-ran l kind n answers x = done-ran kind (made_by l kind n).0
