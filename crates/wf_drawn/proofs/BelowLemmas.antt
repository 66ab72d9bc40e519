-- Each action stands below all that it waits for.
use Rattle.std.proofs.Common.{◌≡◌, ◌≢◌, ℕ, ◌-◌, ◌^◌, ◌<◌, Bool, true, false, nat_lt, List, count_by, length, refl, sym, ap, arith}
use Rattle.std.specs.List.{AllByRecursion}
use Rattle.std.proofs.lemmas.Bool.{lt-ltb, ltb-true}
use Rattle.wf_def.specs.ActionTree.{ActionTree, ActionTrees, action_after, action_number}
use Rattle.wf_def.specs.AllActions.{all_actions}
use Rattle.wf_def.specs.declared.after.After.{After}
use Rattle.wf_drawn.proofs.AmongLemmas.{Among, all_of, count_less, count_short, first, later, of_all}
use Rattle.wf_drawn.proofs.LevelBounds.{AreWithin, levels_within}
use Rattle.wf_drawn.proofs.RestLemmas.{IsSettled, come_to_rest}
use Rattle.wf_drawn.specs.Below.{AreOrdered, NumbersDiffer}
use Rattle.wf_drawn.specs.Levels.{below_all, level_at, levels, levels_of}

-- a number tells its action
told_apart : (a b : ActionTree) (as' : List ActionTree) → NumbersDiffer as' → Among a as' → Among b as'
    → action_number a ≡ action_number b → a ≡ b
told_apart a b as' differ (first rest) (first rest') same = refl
told_apart a b as' differ (first rest) (later x rest' at') same =
    absurd (of_all (λ c. action_number a ≢ action_number c) b rest differ.0 at' same)
told_apart a b as' differ (later x rest at') (first rest') same =
    absurd (of_all (λ c. action_number b ≢ action_number c) a rest differ.0 at' (sym same))
told_apart a b as' differ (later x rest at') (later y rest' at'') same = told_apart a b rest differ.1 at' at'' same

module _ (as' : List ActionTree) (rank : ℕ → ℕ) (ordered : AreOrdered rank as') where
  -- how many actions have a lower rank
  abbrev place : ℕ → ℕ
  place n = count_by (λ a. nat_lt (rank (action_number a)) (rank n)) as'

  not_lower : (n : ℕ) → nat_lt n n ≡ false
  not_lower n = by (nat_lt n n) refl
    where
      by : (t : Bool) → nat_lt n n ≡ t → nat_lt n n ≡ false
      by true e = let less = ltb-true n n e in absurd (omega (arith, less))
      by false e = e

  place_falls : (a b : ActionTree) (e : After) → Among a as' → Among b as' → Among e (action_after a) → action_number b ≡ e.number
      → place (action_number b) < place (action_number a)
  place_falls a b e at' is within same =
      let less : rank e.number < rank (action_number a) =
      of_all (λ x. rank x.number < rank (action_number a)) e (action_after a)
      (of_all (λ c. AllByRecursion (λ x. rank x.number < rank (action_number c)) (action_after c)) a as' ordered.fall at') within in
      let equal : rank (action_number b) ≡ rank e.number = ap rank same in
      let lower : rank (action_number b) < rank (action_number a) = omega (arith, less, equal) in
      count_less (λ c. nat_lt (rank (action_number c)) (rank (action_number b)))
      (λ c. nat_lt (rank (action_number c)) (rank (action_number a)))
      b as' (λ c lt. let one = ltb-true (rank (action_number c)) (rank (action_number b)) lt in
      lt-ltb (rank (action_number c)) (rank (action_number a)) (omega (arith, one, lower))) is (not_lower (rank (action_number b)))
      (lt-ltb (rank (action_number b)) (rank (action_number a)) lower)

  all_settled : (a : ActionTree) → Among a as' → IsSettled (levels_of as') a
  all_settled =
      come_to_rest as' place (λ a b. told_apart a b as' ordered.differ)
      (λ a. of_all (λ c. action_number c < length as') a as' ordered.below)
      place_falls
      (λ a at'. count_short (λ c. nat_lt (rank (action_number c)) (rank (action_number a))) a as' at' (not_lower (rank (action_number a))))

pub stand_exactly : (graph : ActionTrees) (rank : ℕ → ℕ) → AreOrdered rank (all_actions graph)
    → AllByRecursion (λ a. level_at (levels graph) (action_number a) ≡ below_all (levels graph) (action_after a)) (all_actions graph)
stand_exactly graph rank ordered = all_of (IsSettled (levels graph)) (all_actions graph) (all_settled (all_actions graph) rank ordered)

-- what stands below all of some stands below each
below_each : (ls : List ℕ) (e : After) (es : List After) → AreWithin (2 ^ 64 - 2) ls → Among e es → level_at ls e.number < below_all ls es
below_each ls e es few (first rest) = let within = few e.number in omega (arith, within)
below_each ls e es few (later x rest at') = let less = below_each ls e rest few at' in omega (arith, less)

pub stand_below : (graph : ActionTrees) (rank : ℕ → ℕ) → AreOrdered rank (all_actions graph) → length (all_actions graph) < 2 ^ 32
    → AllByRecursion (λ a. AllByRecursion (λ e. level_at (levels graph) e.number < level_at (levels graph) (action_number a))
    (action_after a)) (all_actions graph)
stand_below graph rank ordered few =
    all_of (λ a. AllByRecursion (λ e. level_at (levels graph) e.number < level_at (levels graph) (action_number a)) (action_after a))
    (all_actions graph) (λ a at'.
    all_of (λ e. level_at (levels graph) e.number < level_at (levels graph) (action_number a)) (action_after a) (λ e within.
    let rests = all_settled (all_actions graph) rank ordered a at' in
    let less = below_each (levels graph) e (action_after a) (levels_within graph few) within in
    omega (arith, rests, less)))
