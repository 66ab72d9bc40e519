-- What the rules on two actions say, in the words of the order of actions.
use Rattle.std.specs.Prelude.{◌≡◌, ◌⊎◌, ℕ, true, List}
use Rattle.std.specs.List.{AllByRecursion}
use Rattle.wf_def.specs.DefTree.{DefTree}
use Rattle.wf_def.specs.Layered.{layered}
use Rattle.wf_standing.specs.Kinds.{is_response, is_terminate}
use Rattle.wf_standing.specs.Standing.{StandingTree, kind_at, number_at, standings_of}
use Rattle.wf_standing.specs.Whole.{whole_of}
use Rattle.wf_standing.specs.Turns.{AreSettled, IsInTurn, IsReadWith}
use Rattle.wf_varorder.specs.Pairs.{reads, tracks, writes}

-- Of a variable that y writes: another action a writes it, or tracks it, in one order with y or in another branch; and what reads it as it
-- starts, opens or is tested may also have y inside it.
pub record IsAccessedWith (d : DefTree) (y a : StandingTree) : Type 0 where
  pub writers : (k : List ℕ) → writes (whole_of d) k y ≡ true → writes (whole_of d) k a ≡ true
      → (number_at y ≡ number_at a) ⊎ AreSettled (layered d.top) (number_at y) (number_at a)
  pub trackers : (k : List ℕ) → writes (whole_of d) k y ≡ true → tracks (whole_of d) k a ≡ true
      → (number_at y ≡ number_at a) ⊎ AreSettled (layered d.top) (number_at y) (number_at a)
  pub readers : (k : List ℕ) → writes (whole_of d) k y ≡ true → reads (whole_of d) k a ≡ true
      → IsReadWith (layered d.top) (number_at a) (number_at y)

-- and the loops round it go one iteration after the other
pub record IsWrittenInOrder (d : DefTree) (y : StandingTree) : Type 0 where
  pub in_turn : (k : List ℕ) → writes (whole_of d) k y ≡ true → IsInTurn (layered d.top) (number_at y)
  pub with_others : AllByRecursion (IsAccessedWith d y) (standings_of d.top)

-- V13
abbrev pub VariablesAreInOrder : DefTree → Type 0
VariablesAreInOrder d = AllByRecursion (IsWrittenInOrder d) (standings_of d.top)

-- V15: every other action is settled with a Terminate, or contains it
abbrev pub TerminatesAreInOrder : DefTree → Type 0
TerminatesAreInOrder d =
    AllByRecursion (λ t. is_terminate (kind_at t) ≡ true
    → AllByRecursion (λ a. IsReadWith (layered d.top) (number_at a) (number_at t)) (standings_of d.top)) (standings_of d.top)

-- V16: Responses are settled with each other
abbrev pub ResponsesAreInOrder : DefTree → Type 0
ResponsesAreInOrder d =
    AllByRecursion (λ r. is_response (kind_at r) ≡ true
    → AllByRecursion (λ a. is_response (kind_at a) ≡ true
    → (number_at r ≡ number_at a) ⊎ AreSettled (layered d.top) (number_at r) (number_at a)) (standings_of d.top)) (standings_of d.top)
