-- WHAT IS KEPT OF A FUNCTION'S ARGUMENTS while they come, where each is taken with what those before it come to.
use Rattle.std.specs.Prelude.{ℕ, suc, List, [], ◌∷◌, Ok, Err}
use Rattle.std.specs.List.{fold}
use Rattle.wf_val.specs.Arguments.{Answer, wrong_type}
use Rattle.wf_val.specs.Cut.{cut_u64}
use Rattle.wf_val.specs.ValueTree.{ValueTree}
use Rattle.wf_val.specs.declared.fault.EvalFault.{EvalFault}
use Rattle.wf_val.specs.declared.function.Fun.{Fun}
use Rattle.wf_functions.specs.Rows.{strict_row}

-- there is no argument yet, one as it is, the value of several, or their fault
pub data SoFar : Type 0 where
  nothing : SoFar
  only : ValueTree → SoFar
  together : ValueTree → SoFar
  refused : EvalFault → SoFar

-- a function, what its arguments so far come to, and how many they are, cut to the greatest of the type
abbrev pub PairedSoFar : Type 0
PairedSoFar = Fun × (SoFar × ℕ)

-- no argument
abbrev pub nothing_paired : Fun → PairedSoFar
nothing_paired f = (f, (nothing, 0))

-- what a function gives of two values, of which the second is the argument at a place: there it is told where its type is wrong
abbrev pub at_place : ℕ → Answer → Answer
at_place i (Err (EvalFault.WrongType f p)) = Err (wrong_type f i)
at_place i a = a

-- what several come to
abbrev pub so_far_of : Answer → SoFar
so_far_of (Ok t) = together t
so_far_of (Err f) = refused f

-- with the argument at a place
abbrev pub so_far_with : Fun → ℕ → SoFar → ValueTree → SoFar
so_far_with f i nothing t = only t
so_far_with f i (only u) t = so_far_of (strict_row f (u ∷ t ∷ []))
so_far_with f i (together u) t = so_far_of (at_place i (strict_row f (u ∷ t ∷ [])))
so_far_with f i (refused e) t = refused e

abbrev pub with_value : ValueTree → PairedSoFar → PairedSoFar
with_value t p = (p.0, (so_far_with p.0 p.1.1 p.1.0 t, cut_u64 (suc p.1.1)))

-- what the function gives of them
abbrev pub so_far_answer : Fun → SoFar → Answer
so_far_answer f nothing = strict_row f []
so_far_answer f (only u) = strict_row f (u ∷ [])
so_far_answer f (together u) = Ok u
so_far_answer f (refused e) = Err e

abbrev pub paired_answer : PairedSoFar → Answer
paired_answer p = so_far_answer p.0 p.1.0

-- what is kept of arguments from left to right
abbrev pub paired_of : Fun → List ValueTree → PairedSoFar
paired_of f ts = fold (λ p t. with_value t p) (nothing_paired f) ts
