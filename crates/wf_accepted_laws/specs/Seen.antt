-- What an accepted definition names in the expressions of its actions, and where that stands.
use Rattle.std.specs.Prelude.{◌≡◌, ◌⊎◌, ℕ, true, ◌||◌, List, Some, bytes_eq}
use Rattle.std.specs.List.{AllByRecursion, find, list_any}
use Rattle.wf_known_laws.specs.DefTree.{DefTree}
use Rattle.wf_known_laws.specs.Layered.{layered}
use Rattle.wf_known_laws.specs.Order.{Before, Contains}
use Rattle.wf_rules.specs.Sites.{uses_of}
use Rattle.wf_rules.specs.UsesTree.{UsesTree}
use Rattle.wf_rules.specs.Site.{Site}
use Rattle.wf_rules.specs.Inside.{is_test}
use Rattle.wf_rules.specs.Standing.{StandingTree, number_at, standings_of}
use Rattle.wf_rules.specs.Whole.{has_name}

-- the sites of an action
pub data IsSiteOf (s : StandingTree) : Site → Type 0 where
  at_inputs : IsSiteOf s (Site.Inputs (number_at s))
  at_items : IsSiteOf s (Site.Items (number_at s))
  at_test : IsSiteOf s (Site.Test (number_at s))
  at_tracked : IsSiteOf s (Site.Tracked (number_at s))

-- the name is handed there to `actions`, `body`, `outputs` or `result`
pub record IsNamedAt (d : DefTree) (site : Site) (k : List ℕ) : Type 0 where
  pub uses : UsesTree
  pub there : uses_of d site ≡ Some uses
  pub named : (list_any (bytes_eq k) uses.names || list_any (bytes_eq k) uses.results) ≡ true

-- an action has the name, and it is before the action of the site; or the site is the expression of an Until, and the action of the name
-- stands inside that Until
pub record IsSeenFrom (d : DefTree) (s : StandingTree) (site : Site) (k : List ℕ) : Type 0 where
  pub standing : StandingTree
  pub named : find (has_name k) (standings_of d.top) ≡ Some standing
  pub seen : Before (layered d.top) (number_at standing) (number_at s)
      ⊎ ((is_test site ≡ true) × Contains (layered d.top) (number_at s) (number_at standing))

-- so it is of each name at each site of each action
abbrev pub AreSeen : DefTree → Type 0
AreSeen d =
    AllByRecursion (λ s. (site : Site) → IsSiteOf s site → (k : List ℕ) → IsNamedAt d site k → IsSeenFrom d s site k) (standings_of d.top)
