-- WHAT COMES OF AN ATTEMPT OF A CONNECTOR, by the answer that is for it, if there is one (Workflow Definition Language, "Retry policies").
use Rattle.std.specs.Prelude.{ℕ, pos, ◌&&◌, List, [], ◌∷◌, Option, Some, None, codes, decimal, nat_le, if◌then◌else◌}
use Rattle.wf_val.specs.ValueTree.{ValueTree, null, number, object, members}
use Rattle.wf_retry.specs.Again.{again}
use Rattle.wf_retry.specs.declared.policy.Outcome.{Outcome}
use Rattle.wf_retry.specs.declared.policy.Policy.{Policy}
use Rattle.wf_answers.specs.AnswerTree.{AnswerTree}
use Rattle.wf_record.specs.declared.attempt.Try.{Try}
use Rattle.wf_record.specs.declared.status.Status.{Status}

-- another attempt follows; or none does, and the action ends with a status, a code and outputs
pub data TriedTree : Type 0 where
  repeated : TriedTree
  final : (status : Status) (code : List ℕ) (outputs : ValueTree) → TriedTree

-- a status code of HTTP from 200 to 299 is a success, and nothing else is
abbrev pub status_by : Outcome → Status
status_by (Outcome.Code n) = if nat_le 200 n && nat_le n 299 then Status.Succeeded else Status.Failed
status_by Outcome.NoConnection = Status.Failed
status_by Outcome.TimedOut = Status.TimedOut

abbrev pub code_by : Outcome → List ℕ
code_by (Outcome.Code n) = decimal n
code_by Outcome.NoConnection = codes "NoConnection"
code_by Outcome.TimedOut = codes "TimedOut"

-- only what answered with a status code gave something out
abbrev pub outputs_by : Outcome → ValueTree → ValueTree → ValueTree
outputs_by (Outcome.Code n) headers body = object (members (
    (codes "body", body) ∷ (codes "headers", headers) ∷ (codes "statusCode", number (pos n)) ∷ []))
outputs_by o headers body = null

abbrev pub ends : AnswerTree → TriedTree
ends a = final (status_by a.outcome) (code_by a.outcome) (outputs_by a.outcome a.headers a.body)

-- what comes of attempt number k; one that has no answer isn't repeated
abbrev pub tried : Policy → ℕ → Option AnswerTree → TriedTree
tried policy k None = final Status.Failed (codes "NoAnswer") null
tried policy k (Some a) = if again policy k a.outcome then repeated else ends a

-- ---- what a row keeps of an attempt

abbrev pub try_by : Outcome → Try
try_by (Outcome.Code n) = Try.Code n
try_by Outcome.NoConnection = Try.NoConnection
try_by Outcome.TimedOut = Try.TimedOut

abbrev pub try_of : Option AnswerTree → Try
try_of None = Try.NoAnswer
try_of (Some a) = try_by a.outcome
