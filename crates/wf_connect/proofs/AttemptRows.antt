-- Worked attempts: what comes of one, by its policy, its number and its answer.
use Rattle.std.proofs.Common.{◌≡◌, [], ◌∷◌, Some, None, Option, map, refl}
use Rattle.std.specs.Fmt.{digits}
use Rattle.std.specs.Prelude.{pos, codes, ⊤}
use Rattle.wf_val.specs.ValueTree.{ValueTree, null, number, text, object, members, no_members, list, trees}
use Rattle.wf_retry.specs.declared.policy.Outcome.{Outcome}
use Rattle.wf_retry.specs.declared.policy.Policy.{Policy}
use Rattle.wf_answers.specs.AnswerTree.{AnswerTree}
use Rattle.wf_record.specs.declared.attempt.Try.{Try}
use Rattle.wf_record.specs.declared.status.Status.{Status}
use Rattle.wf_connect.specs.Attempts.{code_by, final, outputs_by, repeated, status_by, tried, try_of}

-- codes are numbers in decimal
unfoldable in_decimal : ⊤
unfolding digits
in_decimal = tt

-- ---- statuses: 199, 300 and what lies beyond are no success

succeeded : map status_by (Outcome.Code 200 ∷ Outcome.Code 201 ∷ Outcome.Code 250 ∷ Outcome.Code 299 ∷ [])
    ≡ Status.Succeeded ∷ Status.Succeeded ∷ Status.Succeeded ∷ Status.Succeeded ∷ []
succeeded = refl

failed-below : map status_by (Outcome.Code 100 ∷ Outcome.Code 199 ∷ []) ≡ Status.Failed ∷ Status.Failed ∷ []
failed-below = refl

failed-above : map status_by (
    Outcome.Code 300 ∷ Outcome.Code 304 ∷ Outcome.Code 399 ∷ Outcome.Code 404 ∷ Outcome.Code 500 ∷ Outcome.Code 599 ∷ [])
    ≡ Status.Failed ∷ Status.Failed ∷ Status.Failed ∷ Status.Failed ∷ Status.Failed ∷ Status.Failed ∷ []
failed-above = refl

failed-connection : status_by Outcome.NoConnection ≡ Status.Failed
failed-connection = refl

timed_out : status_by Outcome.TimedOut ≡ Status.TimedOut
timed_out = refl

-- ---- codes

code-numbers : map code_by (Outcome.Code 100 ∷ Outcome.Code 200 ∷ Outcome.Code 404 ∷ Outcome.Code 599 ∷ [])
    ≡ codes "100" ∷ codes "200" ∷ codes "404" ∷ codes "599" ∷ []
unfolding in_decimal
code-numbers = refl

code-words : map code_by (Outcome.NoConnection ∷ Outcome.TimedOut ∷ []) ≡ codes "NoConnection" ∷ codes "TimedOut" ∷ []
code-words = refl

-- ---- outputs

abbrev headers : ValueTree
headers = object (members ((codes "a", text (codes "h")) ∷ []))

abbrev body : ValueTree
body = list (trees (number (pos 7) ∷ []))

outputs-number : outputs_by (Outcome.Code 404) headers body
    ≡ object (members ((codes "body", body) ∷ (codes "headers", headers) ∷ (codes "statusCode", number (pos 404)) ∷ []))
outputs-number = refl

outputs-null_body : outputs_by (Outcome.Code 204) (object no_members) null
    ≡ object (members ((codes "body", null) ∷ (codes "headers", object no_members) ∷ (codes "statusCode", number (pos 204)) ∷ []))
outputs-null_body = refl

-- what had no status code gives nothing out, though its answer has headers and a body
outputs-connection : outputs_by Outcome.NoConnection headers body ≡ null
outputs-connection = refl

outputs-timed_out : outputs_by Outcome.TimedOut headers body ≡ null
outputs-timed_out = refl

-- ---- one attempt

abbrev answer : Outcome → Option AnswerTree
answer o = Some (record { address = record { name = codes "A"; at = [] }; attempt = 1; outcome = o; headers = headers; body = body })

repeated-first : tried Policy.Standard 1 (answer (Outcome.Code 503)) ≡ repeated
repeated-first = refl

repeated-fourth : tried Policy.Standard 4 (answer Outcome.NoConnection) ≡ repeated
repeated-fourth = refl

final-fifth : tried Policy.Standard 5 (answer Outcome.NoConnection) ≡ final Status.Failed (codes "NoConnection") null
final-fifth = refl

final-success : tried Policy.Standard 1 (answer (Outcome.Code 200))
    ≡ final Status.Succeeded (codes "200") (object (members (
    (codes "body", body) ∷ (codes "headers", headers) ∷ (codes "statusCode", number (pos 200)) ∷ [])))
unfolding in_decimal
final-success = refl

-- 404 won't pass, 429 may
final-not_found : tried (Policy.Count 90) 1 (answer (Outcome.Code 404))
    ≡ final Status.Failed (codes "404") (object (members (
    (codes "body", body) ∷ (codes "headers", headers) ∷ (codes "statusCode", number (pos 404)) ∷ [])))
unfolding in_decimal
final-not_found = refl

repeated-too_many : tried (Policy.Count 90) 1 (answer (Outcome.Code 429)) ≡ repeated
repeated-too_many = refl

final-never : tried Policy.Never 1 (answer Outcome.NoConnection) ≡ final Status.Failed (codes "NoConnection") null
final-never = refl

repeated-once : tried (Policy.Count 1) 1 (answer Outcome.NoConnection) ≡ repeated
repeated-once = refl

final-once : tried (Policy.Count 1) 2 (answer Outcome.NoConnection) ≡ final Status.Failed (codes "NoConnection") null
final-once = refl

repeated-ninetieth : tried (Policy.Count 90) 90 (answer (Outcome.Code 500)) ≡ repeated
repeated-ninetieth = refl

final-ninety_first : tried (Policy.Count 90) 91 (answer Outcome.NoConnection) ≡ final Status.Failed (codes "NoConnection") null
final-ninety_first = refl

-- a request that ran out of time isn't repeated, nor one that has no answer
final-timed_out : tried Policy.Standard 1 (answer Outcome.TimedOut) ≡ final Status.TimedOut (codes "TimedOut") null
final-timed_out = refl

final-no_answer : tried Policy.Standard 1 None ≡ final Status.Failed (codes "NoAnswer") null
final-no_answer = refl

-- ---- what is kept of it

kept : map try_of (
    answer (Outcome.Code 100) ∷ answer (Outcome.Code 599) ∷ answer Outcome.NoConnection ∷ answer Outcome.TimedOut ∷ None ∷ [])
    ≡ Try.Code 100 ∷ Try.Code 599 ∷ Try.NoConnection ∷ Try.TimedOut ∷ Try.NoAnswer ∷ []
kept = refl
