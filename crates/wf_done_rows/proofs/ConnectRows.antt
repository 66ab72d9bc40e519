-- Each status code of HTTP from 100 to 599: whether it is a success, whether another attempt follows it, and what is kept of it.
use Rattle.std.proofs.Common.{◌≡◌, refl, ℕ, zero, suc, List, [], ◌∷◌, ◌++◌, map, Bool, true, false, Option, Some, None}
use Rattle.std.specs.Prelude.{pos, codes, not, replicate}
use Rattle.wf_val.specs.ValueTree.{ValueTree, null, number, object, members}
use Rattle.wf_retry.specs.declared.policy.Outcome.{Outcome}
use Rattle.wf_retry.specs.declared.policy.Policy.{Policy}
use Rattle.wf_answers.specs.AnswerTree.{AnswerTree}
use Rattle.wf_record.specs.declared.attempt.Try.{Try}
use Rattle.wf_record.specs.declared.status.Status.{Status}
use Rattle.wf_connect.specs.Attempts.{TriedTree, final, outputs_by, repeated, status_by, tried, try_by}
use Rattle.wf_connect.specs.Last.{is_final}

-- so many numbers from one on
abbrev numbers : ℕ → ℕ → List ℕ
numbers n zero = []
numbers n (suc count) = n ∷ numbers (suc n) count

abbrev status_codes : List ℕ
status_codes = numbers 100 500

status-each :
    map (λ n. status_by (Outcome.Code n)) status_codes
    ≡ replicate 100 Status.Failed ++ replicate 100 Status.Succeeded ++ replicate 300 Status.Failed
status-each = refl

abbrev answer : ℕ → Option AnswerTree
answer n = Some (record {
  address = record { name = codes "A"; at = [] };
  attempt = 1;
  outcome = Outcome.Code n;
  headers = null;
  body = null;
})

abbrev is_repeated : TriedTree → Bool
is_repeated repeated = true
is_repeated (final status code outputs) = false

-- of these 408, 429 and all from 500 on are tried again
abbrev passing : List Bool
passing = replicate 308 false ++ true ∷ replicate 20 false ++ true ∷ replicate 70 false ++ replicate 100 true

repeated-each : map (λ n. is_repeated (tried Policy.Standard 1 (answer n))) status_codes ≡ passing
repeated-each = refl

repeated-counted : map (λ n. is_repeated (tried (Policy.Count 90) 90 (answer n))) status_codes ≡ passing
repeated-counted = refl

-- and none where the policy allows none, or no more
repeated-never : map (λ n. is_repeated (tried Policy.Never 1 (answer n))) status_codes ≡ replicate 500 false
repeated-never = refl

repeated-no_more : map (λ n. is_repeated (tried Policy.Standard 5 (answer n))) status_codes ≡ replicate 500 false
repeated-no_more = refl

-- an attempt is final exactly where none follows
final-each : map (λ n. not (is_final Policy.Standard 1 (answer n))) status_codes ≡ passing
final-each = refl

-- each gives out what it was answered with
outputs-each : (n : ℕ) (h b : ValueTree) → outputs_by (Outcome.Code n) h b
    ≡ object (members ((codes "body", b) ∷ (codes "headers", h) ∷ (codes "statusCode", number (pos n)) ∷ []))
outputs-each n h b = refl

-- one without an answer is final whatever the policy, and however many came before it
unanswered-failed : (policy : Policy) (k : ℕ) → tried policy k None ≡ final Status.Failed (codes "NoAnswer") null
unanswered-failed policy k = refl

unanswered-final : (policy : Policy) (k : ℕ) → is_final policy k None ≡ true
unanswered-final policy k = refl

kept-each : map (λ n. try_by (Outcome.Code n)) status_codes ≡ map (λ n. Try.Code n) status_codes
kept-each = refl
