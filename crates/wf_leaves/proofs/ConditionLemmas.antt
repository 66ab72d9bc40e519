-- The one member of an object that has just one.
use Rattle.std.proofs.Common.{◌≡◌, ◌≤◌, ◌≢◌, List, [], ◌∷◌, Option, Some, None, length, slice_get, refl, ap, arith}
use Rattle.wf_val.specs.ValueTree.{Member, members, members_count, node_count}
use Rattle.wf_template.specs.CondTree.{CondTree}
use Rattle.wf_leaves.specs.Conditions.{condition_by, condition_named, condition_of, conditions_in, no_condition, only}

pub only_one : (ms : List Member) → length ms ≡ 1 → slice_get ms 0 ≡ only ms
only_one [] is = absurd (omega arith)
only_one (m ∷ []) is = refl
only_one (m ∷ n ∷ ms) is = absurd (omega arith)

pub only_other : (ms : List Member) → length ms ≢ 1 → only ms ≡ None
only_other [] other = refl
only_other (m ∷ []) other = absurd (other refl)
only_other (m ∷ n ∷ ms) other = refl

abbrev pub by_only : Option Member → CondTree
by_only None = no_condition
by_only (Some m) = condition_named m.0 (conditions_in m.1) (condition_of m.1) m.1

pub condition_by_only : (ms : List Member) → condition_by (members ms) ≡ by_only (only ms)
condition_by_only [] = refl
condition_by_only (m ∷ []) = refl
condition_by_only (m ∷ n ∷ ms) = refl

some_one : {X : Type 0} {x y : X} → Some x ≡ Some y → x ≡ y
some_one is = cc

pub only_smaller : (ms : List Member) (m : Member) → only ms ≡ Some m → node_count m.1 ≤ members_count (members ms)
only_smaller [] m is = absurd (cc)
only_smaller (n ∷ []) m is = omega (arith, ap (λ (o : Member). node_count o.1) (some_one is))
only_smaller (n ∷ o ∷ ms) m is = absurd (cc)
