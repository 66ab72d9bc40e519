-- Where an address stands to a table of rows, by the decisions that the rows of containers say: whether a row is called for there.
use Rattle.std.specs.Prelude.{ℕ, Bool, true, false, not, ◌||◌, cond, List, [], ◌∷◌, ◌++◌, Option, Some, None, nat_eq, nat_lt}
use Rattle.wf_layers.specs.Definition.{Kind, Leaf, Scope, Choice, Foreach, Until, Branches, no_branch, branch, Graph, done, add, is_one, less_one, holds, has}
use Rattle.wf_layers.specs.Address.{Address, address, Table}
use Rattle.wf_layers.specs.Shape.{Reading}

-- A row is called for, and perhaps has to be Skipped; or nothing is said, since the row of a container round the address is missing or
-- wrong; or no row is called for.
pub data Standing : Type 0 where
  called : (skipped : Bool) → Standing
  unsaid : Standing
  uncalled : Standing

-- the address of an action that is called for, if no further index is left
abbrev pub own : Bool → List ℕ → Standing
own skipped [] = called skipped
own skipped (j ∷ rest) = uncalled

-- inside a loop with so many iterations: by the next index
abbrev pub at_turn : ℕ → List ℕ → (ℕ → List ℕ → Standing) → Standing
at_turn count [] inside = uncalled
at_turn count (j ∷ rest) inside = cond (nat_lt j count) (inside j rest) uncalled

-- inside a container whose row fits or not, or is missing
abbrev pub if_fits : {Row : Type 0} → (Row → Bool) → Option Row → (Row → Standing) → Standing
if_fits fits None inside = unsaid
if_fits fits (Some row) inside = cond (fits row) (inside row) unsaid

-- `fits n skipped row`: the row is one of the action n, where it has to be Skipped or not.
module _ {Row : Type 0} (read : Reading Row) (is_skipped : Row → Bool) (fits : ℕ → Bool → Row → Bool) (r : Table Row) where
  -- The action x at the indexes i and then `rest`, in a graph at the indexes i, or in the container n there; `skipped`: all in it has to
  -- be Skipped.
  abbrev mutual
    pub stand_in : Kind → ℕ → ℕ → Row → List ℕ → List ℕ → Standing
    stand_in Leaf n x row i rest = uncalled
    stand_in (Scope g) n x row i rest = stand g x (is_skipped row) i rest
    stand_in (Choice bs) n x row i rest = stand_any bs (read.taken n row) x (is_skipped row) i rest
    stand_in (Foreach pace g) n x row i rest = at_turn (read.items row) rest (λ j more. stand g x false (i ++ j ∷ []) more)
    stand_in (Until most g) n x row i rest = at_turn (read.rounds row) rest (λ j more. stand g x false (i ++ j ∷ []) more)

    pub stand_any : Branches → ℕ → ℕ → Bool → List ℕ → List ℕ → Standing
    stand_any no_branch c x skipped i rest = uncalled
    stand_any (branch b bs) c x skipped i rest =
        cond (has b x) (stand b x (skipped || not (is_one c)) i rest) (stand_any bs (less_one c) x skipped i rest)

    pub stand : Graph → ℕ → Bool → List ℕ → List ℕ → Standing
    stand done x skipped i rest = uncalled
    stand (add n after kind g) x skipped i rest =
        cond (nat_eq n x) (own skipped rest)
        (cond (holds kind x) (if_fits (fits n skipped) (r (address n i)) (λ row. stand_in kind n x row i rest)) (stand g x skipped i rest))

  abbrev pub standing : Graph → Address → Standing
  standing d y = stand d y.name false [] y.at

  -- a row is missing, fails, or is one too many
  abbrev pub fails_as : ℕ → Standing → Option Row → Bool
  fails_as n (called skipped) None = true
  fails_as n (called skipped) (Some row) = not (fits n skipped row)
  fails_as n unsaid o = false
  fails_as n uncalled None = false
  fails_as n uncalled (Some row) = true

  abbrev pub fails : Graph → Address → Bool
  fails d y = fails_as y.name (standing d y) (r y)
