-- Whether another attempt follows (Workflow Definition Language, "Retry policies").
use Rattle.std.specs.Prelude.{ℕ, Bool, true, false, ◌==◌, ◌||◌, ◌&&◌, nat_le}
use Rattle.wf_retry.specs.declared.policy.Outcome.{Outcome}
use Rattle.wf_retry.specs.declared.policy.Policy.{Policy}

-- how often a policy allows a repetition
abbrev pub retries : Policy → ℕ
retries Policy.Standard = 4
retries Policy.Never = 0
retries (Policy.Count n) = n

-- the outcomes that may pass: a request that took too long to arrive, too many requests, a fault of the server, no connection
abbrev pub is_retried : Outcome → Bool
is_retried (Outcome.Code n) = (n == 408) || (n == 429) || (nat_le 500 n && nat_le n 599)
is_retried Outcome.NoConnection = true
is_retried Outcome.TimedOut = false

-- after so many attempts another follows where repetitions are left and the last outcome may pass
abbrev pub again : Policy → ℕ → Outcome → Bool
again policy tries outcome = nat_le tries (retries policy) && is_retried outcome
