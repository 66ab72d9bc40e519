-- Which status codes from 100 to 599 may pass, so that another attempt follows where the policy allows one.
use Rattle.std.proofs.Common.{◌≡◌, refl, ℕ, zero, suc, List, [], ◌∷◌, ◌++◌, map, Bool, true, false}
use Rattle.std.specs.Prelude.{replicate}
use Rattle.wf_retry.specs.Again.{again, is_retried}
use Rattle.wf_retry.specs.declared.policy.Outcome.{Outcome}
use Rattle.wf_retry.specs.declared.policy.Policy.{Policy}

-- so many numbers from one on
abbrev numbers : ℕ → ℕ → List ℕ
numbers n zero = []
numbers n (suc count) = n ∷ numbers (suc n) count

-- 408, 429 and all from 500 on
abbrev passing : List Bool
passing = replicate 308 false ++ true ∷ replicate 20 false ++ true ∷ replicate 70 false ++ replicate 100 true

retried-each : map (λ n. is_retried (Outcome.Code n)) (numbers 100 500) ≡ passing
retried-each = refl

again-each : map (λ n. again Policy.Standard 4 (Outcome.Code n)) (numbers 100 500) ≡ passing
again-each = refl

-- how often each policy allows a repetition, of 408
standard-each : map (λ n. again Policy.Standard n (Outcome.Code 408)) (numbers 1 6) ≡ true ∷ true ∷ true ∷ true ∷ false ∷ false ∷ []
standard-each = refl

counted-each : map (λ n. again (Policy.Count 3) n (Outcome.Code 408)) (numbers 1 5) ≡ true ∷ true ∷ true ∷ false ∷ false ∷ []
counted-each = refl

never-each : map (λ n. again Policy.Never n (Outcome.Code 408)) (numbers 1 2) ≡ false ∷ false ∷ []
never-each = refl
