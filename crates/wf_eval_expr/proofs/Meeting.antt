-- From what a call gives to what an outcome is.
use Rattle.std.proofs.Common.{◌≡◌, ℕ, ◌≤◌, false, Result, Ok, Err, refl, sym, le_refl}
use Rattle.std.specs.Prelude.{◌≢◌}
use Rattle.wf_val.specs.Arguments.{Gives, is_memory}
use Rattle.wf_val.specs.declared.fault.EvalFault.{EvalFault}
use Rattle.wf_look.specs.Meets.{Meets, MeetsFault}

-- any fault but want of memory
memory_apart : {X : Type 0} (r : Result X EvalFault) (f : EvalFault) → r ≡ Err f → is_memory f ≡ false → r ≢ Err EvalFault.Memory
memory_apart r EvalFault.Memory is not e = cc
memory_apart r f is not e = cc

-- want of memory, at no more words than the outcome's
pub of_memory : {X : Type 0} (o : Result X EvalFault × ℕ) (n : ℕ) → n ≤ o.1 → MeetsFault EvalFault.Memory o n
of_memory o n le = record { fault = λ e. cc; words = λ e. cc; memory = λ e. le }

-- a fault that is known
pub of_fault : {X : Type 0} (f : EvalFault) (o : Result X EvalFault × ℕ) (n : ℕ) → is_memory f ≡ false → o.0 ≡ Err f → o.1 ≡ n →
    MeetsFault f o n
of_fault f o n not e w = record { fault = λ h. e; words = λ h. w; memory = λ h. cc }

-- what a call gives that draws no word
pub meets : {X : Type 0} (r : Result X EvalFault) (o : Result X EvalFault × ℕ) (n : ℕ) → Gives r o.0 → o.1 ≡ n → Meets r o n
meets (Ok x) o n gives words = (sym (gives (λ e. cc)), words)
meets (Err f) o n gives words = record {
  fault = λ not. sym (gives (memory_apart (Err f) f refl not));
  words = λ not. words;
  memory = λ yes. rw words (le_refl n);
}
