-- WHAT AN ACTION THAT CALLS NOTHING TAKES IN AND GIVES OUT (Workflow Definition Language, "Schema reference guide for trigger and action
-- types"), and how parts follow one another.
use Rattle.std.specs.Prelude.{◌≡◌, ℕ, false, List, [], ◌∷◌, Result, Ok, Err}
use Rattle.wf_val.specs.Arguments.{bounded, given, is_memory}
use Rattle.wf_val.specs.ValueTree.{ValueTree, object, members}
use Rattle.wf_val.specs.declared.fault.EvalFault.{EvalFault}

pub record MadeTree : Type 0 where
  pub inputs : ValueTree
  pub outputs : ValueTree

-- what an action comes to, by the number of words drawn before it: what it keeps or its fault, and the number of words drawn after it
abbrev pub Making : Type 0
Making = ℕ → Result MadeTree EvalFault × ℕ

-- a result goes on, a fault stands; the same where what follows draws no word
abbrev pub goes_on : {X Y : Type 0} → Result X EvalFault × ℕ → (X → ℕ → Result Y EvalFault × ℕ) → Result Y EvalFault × ℕ
goes_on (Ok x, n) next = next x n
goes_on (Err f, n) next = (Err f, n)

abbrev pub followed : {X Y : Type 0} → Result X EvalFault × ℕ → (X → Result Y EvalFault) → Result Y EvalFault × ℕ
followed o next = (given o.0 next, o.1)

-- What an action keeps has to fit, the inputs first. This is the last fault that it may have.
abbrev pub fitting : ValueTree → ValueTree → Result MadeTree EvalFault
fitting i o = given (bounded i) (λ inputs. given (bounded o) (λ outputs. Ok (record { inputs = inputs; outputs = outputs })))

-- an object with one member
abbrev pub one_member : List ℕ → ValueTree → ValueTree
one_member k t = object (members ((k, t) ∷ []))

-- A call comes to an outcome: it gives the result and has drawn as many words, or it gives the fault. Want of memory is the one answer
-- that no outcome has. How many words were drawn before a fault isn't said: nothing is drawn after it.
abbrev pub Comes : {X : Type 0} → Result X EvalFault → Result X EvalFault × ℕ → ℕ → Type 0
Comes (Ok x) o n = (o.0 ≡ Ok x) × (o.1 ≡ n)
Comes (Err f) o n = is_memory f ≡ false → o.0 ≡ Err f
