-- What ends a run and what answers it in an accepted definition, at the addresses of a run. Neither is in a loop, so its address has no
-- index.
use Rattle.std.specs.Prelude.{◌≡◌, ◌⊎◌, ℕ, true, List, [], Some}
use Rattle.std.specs.List.{AllByRecursion}
use Rattle.wf_layers.specs.Address.{address}
use Rattle.wf_layers.specs.Definition.{Kind, kind_of}
use Rattle.wf_layers.specs.Variables.{HasOrder, IsOrdered}
use Rattle.wf_known_laws.specs.DefTree.{DefTree}
use Rattle.wf_known_laws.specs.Layered.{layered}
use Rattle.wf_known_laws.specs.Indexes.{loops_round}
use Rattle.wf_known_laws.specs.Turns.{IsInstance}
use Rattle.wf_rules.specs.Kinds.{ends_or_responds, is_response, is_terminate}
use Rattle.wf_rules.specs.Standing.{kind_at, number_at, standings_of}

-- no loop is round a Terminate or a Response and any other action
abbrev pub EndsStandInNoLoop : DefTree → Type 0
EndsStandInNoLoop d =
    AllByRecursion (λ s. ends_or_responds (kind_at s) ≡ true → (m : ℕ) → loops_round (layered d.top) (number_at s) m ≡ 0)
    (standings_of d.top)

-- V15 at the addresses of a run: a Terminate is in each instance of an action, in one order with it, or excludes it
abbrev pub EndsAreInOrder : DefTree → Type 0
EndsAreInOrder d =
    AllByRecursion (λ t. is_terminate (kind_at t) ≡ true
    → (n : ℕ) (i : List ℕ) (kind : Kind) → kind_of (layered d.top) n ≡ Some kind → IsInstance (layered d.top) (address n i)
    → HasOrder (layered d.top) n kind i (address (number_at t) [])) (standings_of d.top)

-- V16: two Responses are in one order or exclude each other
abbrev pub ResponsesAreInOneOrder : DefTree → Type 0
ResponsesAreInOneOrder d =
    AllByRecursion (λ r. is_response (kind_at r) ≡ true
    → AllByRecursion (λ a. is_response (kind_at a) ≡ true
    → (address (number_at r) [] ≡ address (number_at a) [])
    ⊎ IsOrdered (layered d.top) (address (number_at r) []) (address (number_at a) [])) (standings_of d.top)) (standings_of d.top)
