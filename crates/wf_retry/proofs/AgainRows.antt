-- Worked attempts: whether another follows.
use Rattle.std.proofs.Common.{◌≡◌, true, false, refl}
use Rattle.wf_retry.specs.Again.{again}
use Rattle.wf_retry.specs.declared.policy.Outcome.{Outcome}
use Rattle.wf_retry.specs.declared.policy.Policy.{Policy}

-- how often: after the standard policy's fourth attempt a fifth, and no sixth
standard-first : again Policy.Standard 1 (Outcome.Code 503) ≡ true
standard-first = refl

standard-fourth : again Policy.Standard 4 (Outcome.Code 503) ≡ true
standard-fourth = refl

standard-fifth : again Policy.Standard 5 (Outcome.Code 503) ≡ false
standard-fifth = refl

never-first : again Policy.Never 1 (Outcome.Code 503) ≡ false
never-first = refl

never-none_yet : again Policy.Never 0 (Outcome.Code 503) ≡ true
never-none_yet = refl

once-first : again (Policy.Count 1) 1 (Outcome.Code 503) ≡ true
once-first = refl

once-second : again (Policy.Count 1) 2 (Outcome.Code 503) ≡ false
once-second = refl

ninety-ninetieth : again (Policy.Count 90) 90 (Outcome.Code 503) ≡ true
ninety-ninetieth = refl

ninety-ninety_first : again (Policy.Count 90) 91 (Outcome.Code 503) ≡ false
ninety-ninety_first = refl

-- after which outcomes
status-100 : again Policy.Standard 1 (Outcome.Code 100) ≡ false
status-100 = refl

status-200 : again Policy.Standard 1 (Outcome.Code 200) ≡ false
status-200 = refl

status-204 : again Policy.Standard 1 (Outcome.Code 204) ≡ false
status-204 = refl

status-299 : again Policy.Standard 1 (Outcome.Code 299) ≡ false
status-299 = refl

status-302 : again Policy.Standard 1 (Outcome.Code 302) ≡ false
status-302 = refl

status-400 : again Policy.Standard 1 (Outcome.Code 400) ≡ false
status-400 = refl

status-401 : again Policy.Standard 1 (Outcome.Code 401) ≡ false
status-401 = refl

status-404 : again Policy.Standard 1 (Outcome.Code 404) ≡ false
status-404 = refl

status-407 : again Policy.Standard 1 (Outcome.Code 407) ≡ false
status-407 = refl

status-408 : again Policy.Standard 1 (Outcome.Code 408) ≡ true
status-408 = refl

status-409 : again Policy.Standard 1 (Outcome.Code 409) ≡ false
status-409 = refl

status-428 : again Policy.Standard 1 (Outcome.Code 428) ≡ false
status-428 = refl

status-429 : again Policy.Standard 1 (Outcome.Code 429) ≡ true
status-429 = refl

status-430 : again Policy.Standard 1 (Outcome.Code 430) ≡ false
status-430 = refl

status-499 : again Policy.Standard 1 (Outcome.Code 499) ≡ false
status-499 = refl

status-500 : again Policy.Standard 1 (Outcome.Code 500) ≡ true
status-500 = refl

status-501 : again Policy.Standard 1 (Outcome.Code 501) ≡ true
status-501 = refl

status-503 : again Policy.Standard 1 (Outcome.Code 503) ≡ true
status-503 = refl

status-504 : again Policy.Standard 1 (Outcome.Code 504) ≡ true
status-504 = refl

status-599 : again Policy.Standard 1 (Outcome.Code 599) ≡ true
status-599 = refl

status-600 : again Policy.Standard 1 (Outcome.Code 600) ≡ false
status-600 = refl

status-0 : again Policy.Standard 1 (Outcome.Code 0) ≡ false
status-0 = refl

status-4294967295 : again Policy.Standard 1 (Outcome.Code 4294967295) ≡ false
status-4294967295 = refl

no_connection : again Policy.Standard 1 Outcome.NoConnection ≡ true
no_connection = refl

no_connection-never : again Policy.Never 1 Outcome.NoConnection ≡ false
no_connection-never = refl

no_connection-last : again Policy.Standard 5 Outcome.NoConnection ≡ false
no_connection-last = refl

timed_out : again Policy.Standard 1 Outcome.TimedOut ≡ false
timed_out = refl

timed_out-ninety : again (Policy.Count 90) 1 Outcome.TimedOut ≡ false
timed_out-ninety = refl
