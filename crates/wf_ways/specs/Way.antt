-- The way to an action: the containers round it, outermost first, and how each is entered.
use Rattle.std.specs.Prelude.{ℕ, suc, Bool, false, cond, List, [], ◌∷◌, nat_eq}
use Rattle.wf_layers.specs.Definition.{Kind, Leaf, Scope, Choice, Foreach, Until, Branches, no_branch, branch, Graph, done, add, is_one, less_one, holds, has, has_own}

-- into the graph of a Scope, into the branch of a Choice that has the number, counted from 1, or into an iteration of a Foreach or an Until
pub data Into : Type 0 where
  whole : Into
  branch_of : (number : ℕ) → Into
  item : Into
  round : Into

pub record Step : Type 0 where
  pub container : ℕ
  pub into : Into

abbrev pub step : ℕ → Into → Step
step n into = record { container = n; into = into }

abbrev mutual
  pub way_in : Kind → ℕ → ℕ → List Step
  way_in Leaf n x = []
  way_in (Scope g) n x = step n whole ∷ way g x
  way_in (Choice bs) n x = way_any bs n 1 x
  way_in (Foreach pace g) n x = step n item ∷ way g x
  way_in (Until most g) n x = step n round ∷ way g x

  pub way_any : Branches → ℕ → ℕ → ℕ → List Step
  way_any no_branch n k x = []
  way_any (branch b bs) n k x = cond (has b x) (step n (branch_of k) ∷ way b x) (way_any bs n (suc k) x)

  pub way : Graph → ℕ → List Step
  way done x = []
  way (add n after kind g) x = cond (nat_eq n x) [] (cond (holds kind x) (way_in kind n x) (way g x))

-- the action x stands in that very graph of the container
abbrev pub enters_branch : Branches → ℕ → ℕ → Bool
enters_branch no_branch k x = false
enters_branch (branch b bs) k x = cond (is_one k) (has_own b x) (enters_branch bs (less_one k) x)

abbrev pub enters : Kind → Into → ℕ → Bool
enters (Scope g) whole x = has_own g x
enters (Choice bs) (branch_of k) x = enters_branch bs k x
enters (Foreach pace g) item x = has_own g x
enters (Until most g) round x = has_own g x
enters kind into x = false
