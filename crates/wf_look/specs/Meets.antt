-- When what a call answers is what the definitions give. Want of memory is the one answer that they don't have.
use Rattle.std.specs.Prelude.{ℕ, ◌≡◌, ◌≤◌, Bool, true, false, Result, Ok, Err}
use Rattle.wf_val.specs.Arguments.{Answer, is_memory}
use Rattle.wf_val.specs.ValueTree.{boolean}
use Rattle.wf_val.specs.declared.fault.EvalFault.{EvalFault}

-- a fault is the outcome's, with the words that it counts; where memory ran out, at most so many were drawn
pub record MeetsFault {X : Type 0} (f : EvalFault) (o : Result X EvalFault × ℕ) (n : ℕ) : Type 0 where
  pub fault : is_memory f ≡ false → o.0 ≡ Err f
  pub words : is_memory f ≡ false → o.1 ≡ n
  pub memory : is_memory f ≡ true → n ≤ o.1

-- the answer, and the number of words drawn after it, are the outcome's
abbrev pub Meets : {X : Type 0} → Result X EvalFault → Result X EvalFault × ℕ → ℕ → Type 0
Meets (Ok x) o n = (o.0 ≡ Ok x) × (o.1 ≡ n)
Meets (Err f) o n = MeetsFault f o n

-- a truth value as the answer of a condition
abbrev pub truth_seen : Result Bool EvalFault → Answer
truth_seen (Ok b) = Ok (boolean b)
truth_seen (Err f) = Err f
