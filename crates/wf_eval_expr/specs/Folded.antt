-- What is made of values as they come, so that none has to be kept longer than it is needed.
use Rattle.std.specs.Prelude.{ℕ, List, [], ◌∷◌, Result, Ok}
use Rattle.wf_val.specs.ValueTree.{ValueTree}
use Rattle.wf_val.specs.declared.fault.EvalFault.{EvalFault}
use Rattle.wf_look.specs.Outcomes.{Run, then_run}

-- what the values of all make from left to right, each by a step, behind what is there
abbrev pub folded : {S : Type 0} → (ValueTree → S → S) → List Run → S → ℕ → Result S EvalFault × ℕ
folded step [] s n = (Ok s, n)
folded step (r ∷ rs) s n = then_run (r n) (λ t m. folded step rs (step t s) m)
