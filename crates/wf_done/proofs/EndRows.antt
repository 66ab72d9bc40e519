-- What actions come to as they end, and what is kept of their attempts, at worked answers.
use Rattle.std.proofs.Common.{◌≡◌, ℕ, suc, List, [], ◌∷◌, ◌++◌, refl}
use Rattle.std.specs.Prelude.{pos, codes}
use Rattle.wf_val.specs.ValueTree.{ValueTree, null, number, object, members, no_members}
use Rattle.wf_val.specs.declared.address.Address.{Address}
use Rattle.wf_retry.specs.declared.policy.Outcome.{Outcome}
use Rattle.wf_retry.specs.declared.policy.Policy.{Policy}
use Rattle.wf_connect.specs.AnswerTree.{AnswerTree}
use Rattle.wf_connect.specs.Try.{Try}
use Rattle.wf_connect.specs.Status.{Status}
use Rattle.wf_connect.specs.Attempts.{repeated}
use Rattle.wf_variables.proofs.RowParts.{plus}
use Rattle.wf_done.specs.Done.{DoneTree, skipped}
use Rattle.wf_done.specs.Leaf.{calling, done_by, ended, tries_in}
use Rattle.wf_done.proofs.RowParts.{acts, done, done_well, done_wrong, faults, in_decimal}

abbrev call : List ℕ → Address
call is = record { name = codes "Call"; at = is }

-- an answer has the number of its attempt for a body, so that each has another
abbrev answer : Address → ℕ → Outcome → AnswerTree
answer x k o = record { address = x; attempt = k; outcome = o; headers = object no_members; body = number (pos k) }

-- answers of these outcomes for the attempts from number k on
abbrev from : Address → ℕ → List Outcome → List AnswerTree
from x k [] = []
from x k (o ∷ os) = answer x k o ∷ from x (suc k) os

abbrev first : List Outcome → List AnswerTree
first os = from (call []) 1 os

-- what a connector comes to that called with 7
abbrev comes : Policy → List AnswerTree → DoneTree
comes policy answers = ended answers (call []) (calling (plus 7) policy)

abbrev tries : Policy → List AnswerTree → List Try
tries policy answers = tries_in answers (call []) (calling (plus 7) policy)

-- the outputs of an attempt that was answered with a status code
abbrev gives : ℕ → ℕ → ValueTree
gives n body = object (members (
    (codes "body", number (pos body)) ∷ (codes "headers", object no_members) ∷ (codes "statusCode", number (pos n)) ∷ []))

ends-at_once : comes Policy.Standard (first (Outcome.Code 200 ∷ [])) ≡ done Status.Succeeded (codes "200") (plus 7) (gives 200 1) null
unfolding in_decimal
ends-at_once = refl

-- as the last attempt, with its outputs
ends-third :
    comes Policy.Standard (first (Outcome.Code 500 ∷ Outcome.NoConnection ∷ Outcome.Code 201 ∷ []))
    ≡ done Status.Succeeded (codes "201") (plus 7) (gives 201 3) null
unfolding in_decimal
ends-third = refl

tries-third :
    tries Policy.Standard (first (Outcome.Code 500 ∷ Outcome.NoConnection ∷ Outcome.Code 201 ∷ []))
    ≡ Try.Code 500 ∷ Try.NoConnection ∷ Try.Code 201 ∷ []
tries-third = refl

-- a failure keeps inputs and outputs, and has no error
ends-never :
    comes Policy.Never (first (Outcome.Code 500 ∷ Outcome.Code 200 ∷ []))
    ≡ done Status.Failed (codes "500") (plus 7) (gives 500 1) null
unfolding in_decimal
ends-never = refl

tries-never : tries Policy.Never (first (Outcome.Code 500 ∷ Outcome.Code 200 ∷ [])) ≡ Try.Code 500 ∷ []
tries-never = refl

ends-counted :
    comes (Policy.Count 1) (first (Outcome.NoConnection ∷ Outcome.NoConnection ∷ Outcome.Code 200 ∷ []))
    ≡ done Status.Failed (codes "NoConnection") (plus 7) null null
ends-counted = refl

tries-counted :
    tries (Policy.Count 1) (first (Outcome.NoConnection ∷ Outcome.NoConnection ∷ Outcome.Code 200 ∷ []))
    ≡ Try.NoConnection ∷ Try.NoConnection ∷ []
tries-counted = refl

ends-timed_out : comes Policy.Standard (first (Outcome.TimedOut ∷ [])) ≡ done Status.TimedOut (codes "TimedOut") (plus 7) null null
ends-timed_out = refl

ends-unanswered : comes Policy.Standard [] ≡ done Status.Failed (codes "NoAnswer") (plus 7) null null
ends-unanswered = refl

tries-unanswered : tries Policy.Standard (first (Outcome.Code 503 ∷ [])) ≡ Try.Code 503 ∷ Try.NoAnswer ∷ []
tries-unanswered = refl

-- answers for other addresses aren't its own
ends-elsewhere :
    ended (from (call []) 1 (Outcome.Code 400 ∷ []) ++ from (call (1 ∷ [])) 1 (Outcome.Code 204 ∷ [])) (call (1 ∷ []))
    (calling null Policy.Standard)
    ≡ done Status.Succeeded (codes "204") null (gives 204 1) null
unfolding in_decimal
ends-elsewhere = refl

-- what has acted has come to that as it started, whatever answers there are, and made no attempt
ends-acted : ended (first (Outcome.Code 200 ∷ [])) (call []) (acts (plus 1) (plus 2)) ≡ done_well (plus 1) (plus 2)
ends-acted = refl

tries-acted : tries_in (first (Outcome.Code 200 ∷ [])) (call []) (acts (plus 1) (plus 2)) ≡ []
tries-acted = refl

ends-fault : ended (first (Outcome.Code 200 ∷ [])) (call []) (faults (codes "Range div")) ≡ done_wrong (codes "Range div")
ends-fault = refl

-- none that ends comes here
ends-repeated : done_by (plus 7) repeated ≡ skipped
ends-repeated = refl
