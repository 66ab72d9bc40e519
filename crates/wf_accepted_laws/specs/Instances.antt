-- What an accepted definition names in the expressions of its actions, at the addresses of a run.
use Rattle.std.specs.Prelude.{◌≡◌, ◌⊎◌, ℕ, true, List, Some}
use Rattle.std.specs.List.{AllByRecursion, find}
use Rattle.wf_layers.specs.Address.{SeenIn, address}
use Rattle.wf_layers.specs.Definition.{Graph}
use Rattle.wf_known_laws.specs.DefTree.{DefTree}
use Rattle.wf_known_laws.specs.Layered.{layered}
use Rattle.wf_known_laws.specs.Indexes.{HaveSameIndexes}
use Rattle.wf_known_laws.specs.Order.{Contains}
use Rattle.wf_rules.specs.Site.{Site}
use Rattle.wf_rules.specs.Inside.{is_test}
use Rattle.wf_rules.specs.Standing.{StandingTree, number_at, standings_of}
use Rattle.wf_rules.specs.Whole.{has_name}
use Rattle.wf_accepted_laws.specs.Seen.{IsNamedAt, IsSiteOf}

-- each instance of y sees those of x that have the same indexes in the loops round both
abbrev pub Sees : Graph → ℕ → ℕ → Type 0
Sees g y x = (i j : List ℕ) → HaveSameIndexes g (address x i) (address y j) → SeenIn g (address y j) (address x i)

-- a site of an action may look at x: the action's instances see those of x; or the site is the expression of an Until, which is evaluated
-- after each of its iterations, and x stands inside that Until
abbrev pub MayLookAt : Graph → StandingTree → Site → ℕ → Type 0
MayLookAt g s site x = Sees g (number_at s) x ⊎ ((is_test site ≡ true) × Contains g (number_at s) x)

-- an action has the name, and the site may look at its rows, and at those of all that stands inside it, which `result` asks for
pub record IsSeenAt (d : DefTree) (s : StandingTree) (site : Site) (k : List ℕ) : Type 0 where
  pub standing : StandingTree
  pub named : find (has_name k) (standings_of d.top) ≡ Some standing
  pub row : MayLookAt (layered d.top) s site (number_at standing)
  pub inside : (z : ℕ) → Contains (layered d.top) (number_at standing) z → MayLookAt (layered d.top) s site z

-- so it is of each name at each site of each action
abbrev pub InstancesAreSeen : DefTree → Type 0
InstancesAreSeen d =
    AllByRecursion (λ s. (site : Site) → IsSiteOf s site → (k : List ℕ) → IsNamedAt d site k → IsSeenAt d s site k) (standings_of d.top)
