-- The least of pairs: by the pointer of the first, then by that of the other.
use Rattle.std.specs.Prelude.{◌≢◌, ℕ, List, [], ◌∷◌, Option, Some, None, All, Contains, option_map}
use Rattle.std.specs.Ordering.{match_ordering, ordering_then}
use Rattle.std.specs.declared.cmp.Ordering.{Ordering}
use Rattle.std.specs.declared.cmp.Ordering.TheVariants.{Less}
use Rattle.wf_val.specs.NameOrder.{bytes_cmp}
use Rattle.wf_def.specs.DefTree.{DefTree}
use Rattle.wf_standing.specs.Standing.{StandingTree, number_at, pointer_at, standings_of}
use Rattle.wf_standing.specs.Whole.{Whole, whole_of}
use Rattle.wf_varorder.specs.Pairs.{Pair, pairs_among}
use Rattle.wf_varorder.specs.declared.rule.PairRule.{PairRule}

abbrev pub pair_cmp : Pair → Pair → Ordering
pair_cmp p q = ordering_then (bytes_cmp (pointer_at p.0) (pointer_at q.0)) (bytes_cmp (pointer_at p.1) (pointer_at q.1))

-- the lesser of the best so far, if there is one, and another
abbrev pub lesser : Option Pair → Pair → Pair
lesser None q = q
lesser (Some p) q = match_ordering (pair_cmp p q) p p q

abbrev pub least_from : Option Pair → List Pair → Option Pair
least_from best [] = best
least_from best (p ∷ ps) = least_from (Some (lesser best p)) ps

-- by the numbers of its actions
abbrev pub numbers_of : Pair → ℕ × ℕ
numbers_of p = (number_at p.0, number_at p.1)

-- the numbers of the least pair among these actions that breaks the rule, where this is known of them
abbrev pub fault_among : Whole → List StandingTree → PairRule → Option (ℕ × ℕ)
fault_among whole all rule = option_map numbers_of (least_from None (pairs_among whole rule all all))

-- and of a definition
abbrev pub fault_of : DefTree → PairRule → Option (ℕ × ℕ)
fault_of d rule = fault_among (whole_of d) (standings_of d.top) rule

-- in words of its own: the pair is one of these, and none of them is below it
pub record IsLeastPair (ps : List Pair) (p : Pair) : Type 0 where
  pub listed : Contains ps p
  pub lowest : All (λ q. pair_cmp q p ≢ Less) ps
