-- The rules on two actions: accesses of a variable are in one order (V13), all else is before or after a Terminate (V15), and one Response
-- answers (V16). What breaks one of them is a pair of actions.
use Rattle.std.specs.Prelude.{ℕ, List, [], ◌∷◌, ◌++◌, Bool, false, not, ◌&&◌, ◌||◌, bytes_eq, nat_eq, cond, Option, Some, None}
use Rattle.std.specs.List.{list_any}
use Rattle.std.specs.Ordering.{match_ordering}
use Rattle.wf_val.specs.NameOrder.{bytes_cmp}
use Rattle.wf_def.specs.ActionTree.{action_kind}
use Rattle.wf_def.specs.DefTree.{DefTree}
use Rattle.wf_standing.specs.Site.{Site}
use Rattle.wf_standing.specs.UsesTree.{UsesTree}
use Rattle.wf_standing.specs.Kinds.{is_concurrent, is_response, is_terminate}
use Rattle.wf_standing.specs.Standing.{StandingTree, kind_at, number_at, pointer_at, standings_of}
use Rattle.wf_standing.specs.Whole.{Whole, whole_of}
use Rattle.wf_varorder.specs.declared.rule.PairRule.{PairRule}

abbrev pub Pair : Type 0
Pair = StandingTree × StandingTree

-- What an action y claims of the others, a: a writer of a variable, that whoever reads or writes it is ordered with y or excludes it; a
-- Terminate, that each action does; a Response, that each Response does.
pub data Claim : Type 0 where
  writes_it : (variable : List ℕ) → Claim
  ends_it : Claim
  answers_it : Claim

abbrev pub reads_if : Option UsesTree → List ℕ → Bool
reads_if None k = false
reads_if (Some u) k = list_any (bytes_eq k) u.reads

abbrev pub writes_if : Option UsesTree → List (List ℕ)
writes_if None = []
writes_if (Some u) = u.writes

module _ (whole : Whole) where
  -- the variables that an action writes, and whether it writes this one
  abbrev pub written_by : StandingTree → List (List ℕ)
  written_by a = writes_if (whole.uses (Site.Inputs (number_at a)))

  abbrev pub writes : List ℕ → StandingTree → Bool
  writes k a = list_any (bytes_eq k) (written_by a)

  -- it reads the variable as it starts, opens or is tested
  abbrev pub reads : List ℕ → StandingTree → Bool
  reads k a =
      reads_if (whole.uses (Site.Inputs (number_at a))) k
      || (reads_if (whole.uses (Site.Items (number_at a))) k || reads_if (whole.uses (Site.Test (number_at a))) k)

  -- and as it ends
  abbrev pub tracks : List ℕ → StandingTree → Bool
  tracks k a = reads_if (whole.uses (Site.Tracked (number_at a))) k

  -- Two actions are in one order, or exclude each other.
  abbrev pub are_settled : StandingTree → StandingTree → Bool
  are_settled y a =
      whole.before (number_at y) (number_at a)
      || (whole.before (number_at a) (number_at y) || whole.exclusive (number_at y) (number_at a))

  -- a container of y
  abbrev pub holds : StandingTree → StandingTree → Bool
  holds a y = whole.contains (number_at a) (number_at y)

  -- The claim of y is on a. What a container reads as it opens is read before all inside it, and an Until's expression after each of its
  -- iterations; what it tracks isn't.
  abbrev pub concerns : Claim → StandingTree → StandingTree → Bool
  concerns (writes_it k) y a = writes k a || (tracks k a || (reads k a && not (holds a y)))
  concerns ends_it y a = not (holds a y)
  concerns answers_it y a = is_response (kind_at a)

  abbrev pub clashes : Claim → StandingTree → StandingTree → Bool
  clashes claim y a = not (nat_eq (number_at y) (number_at a)) && (not (are_settled y a) && concerns claim y a)

-- A pair is told at the lesser pointer, but for a Terminate, which is the one that is told of.
abbrev pub by_pointer : StandingTree → StandingTree → Pair
by_pointer y a = match_ordering (bytes_cmp (pointer_at y) (pointer_at a)) (y, a) (y, a) (a, y)

abbrev pub pair_of : Claim → StandingTree → StandingTree → Pair
pair_of (writes_it k) y a = by_pointer y a
pair_of ends_it y a = (y, a)
pair_of answers_it y a = by_pointer y a

module _ (whole : Whole) where
  abbrev pub pair_if : Claim → StandingTree → StandingTree → List Pair
  pair_if claim y a = cond (clashes whole claim y a) (pair_of claim y a ∷ []) []

  abbrev pub pairs_with : Claim → StandingTree → List StandingTree → List Pair
  pairs_with claim y [] = []
  pairs_with claim y (a ∷ as') = pair_if claim y a ++ pairs_with claim y as'

  abbrev pub pairs_over : StandingTree → List StandingTree → List (List ℕ) → List Pair
  pairs_over y all [] = []
  pairs_over y all (k ∷ ks) = pairs_with (writes_it k) y all ++ pairs_over y all ks

abbrev pub is_any : List (List ℕ) → Bool
is_any [] = false
is_any (k ∷ ks) = Bool.true

module _ (whole : Whole) where
  -- Iterations that go side by side write in no order. The pair is the writer twice.
  abbrev pub is_beside_itself : StandingTree → Bool
  is_beside_itself y = is_any (written_by whole y) && list_any (λ c. is_concurrent (action_kind c)) y.round

  abbrev pub pairs_by : PairRule → List StandingTree → StandingTree → List Pair
  pairs_by PairRule.Variables all y = cond (is_beside_itself y) ((y, y) ∷ []) [] ++ pairs_over whole y all (written_by whole y)
  pairs_by PairRule.Terminates all y = cond (is_terminate (kind_at y)) (pairs_with whole ends_it y all) []
  pairs_by PairRule.Responses all y = cond (is_response (kind_at y)) (pairs_with whole answers_it y all) []

  abbrev pub pairs_among : PairRule → List StandingTree → List StandingTree → List Pair
  pairs_among rule all [] = []
  pairs_among rule all (y ∷ ys) = pairs_by rule all y ++ pairs_among rule all ys

-- all pairs of a definition that break the rule
abbrev pub pairs_of : DefTree → PairRule → List Pair
pairs_of d rule = pairs_among (whole_of d) rule (standings_of d.top) (standings_of d.top)
