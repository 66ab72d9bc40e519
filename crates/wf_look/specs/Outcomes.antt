-- What evaluation comes to: an answer and the number of words drawn; and how parts follow one another.
use Rattle.std.specs.Prelude.{ℕ, List, [], ◌∷◌, ◌++◌, Result, Ok, Err}
use Rattle.wf_val.specs.Arguments.{Answer, given}
use Rattle.wf_val.specs.ValueTree.{ValueTree}
use Rattle.wf_val.specs.declared.fault.EvalFault.{EvalFault}

-- an answer, and the number of words drawn after it
abbrev pub Outcome : Type 0
Outcome = Answer × ℕ

-- what an expression comes to in a look, by the number of words drawn before it
abbrev pub Run : Type 0
Run = ℕ → Outcome

-- a value goes on, a fault stands
abbrev pub go_on : {Y : Type 0} → Answer → ℕ → (ValueTree → ℕ → Result Y EvalFault × ℕ) → Result Y EvalFault × ℕ
go_on (Ok t) n next = next t n
go_on (Err f) n next = (Err f, n)

-- an outcome, and what follows its value
abbrev pub then_run : {Y : Type 0} → Outcome → (ValueTree → ℕ → Result Y EvalFault × ℕ) → Result Y EvalFault × ℕ
then_run o next = go_on o.0 o.1 next

-- an outcome whose value, or whose parts, are turned by what draws nothing
abbrev pub turned : {X : Type 0} → (X → Answer) → Result X EvalFault × ℕ → Outcome
turned row o = (given o.0 row, o.1)

-- the values of all from left to right, behind those that are there; the first fault stands
abbrev pub all_after : List Run → List ValueTree → ℕ → Result (List ValueTree) EvalFault × ℕ
all_after [] done n = (Ok done, n)
all_after (r ∷ rs) done n = then_run (r n) (λ t m. all_after rs (done ++ t ∷ []) m)

-- a function of the values of all
abbrev pub strictly : (List ValueTree → Answer) → List Run → Run
strictly row rs n = turned row (all_after rs [] n)
