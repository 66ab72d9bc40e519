-- What is left of the items of a list, or of the members of an object, is no deeper and no heavier.
use Rattle.std.proofs.Common.{◌≡◌, ℕ, suc, ◌+◌, ◌≤◌, ◌^◌, Bool, true, false, cond, List, [], ◌∷◌, Ok, refl, sym, ap, arith}
use Rattle.std.specs.Prelude.{nat_le}
use Rattle.std.specs.List.{filter}
use Rattle.std.proofs.lemmas.Bool.{le-leb}
use Rattle.wf_val.specs.Arguments.{bounded}
use Rattle.wf_val.specs.ValueTree.{ValueTree, ValueTrees, no_values, value_then, MemberTrees, no_members, member_then, Member, trees, items}
use Rattle.wf_val.specs.ValueTree.{members, pairs, list, object, depth, weight, trees_depth, trees_weight, members_depth}
use Rattle.wf_val.specs.ValueTree.{members_weight, Fits}
use Rattle.wf_fn_list.specs.Membership.{is_among}
use Rattle.wf_fn_sets.specs.Sets.{distinct_after}

-- a value that fits passes the test
pub bounded-fits : (t : ValueTree) → Fits t → bounded t ≡ Ok t
bounded-fits t fit = rw (le-leb (depth t) 64 fit.0) (rw (le-leb (weight t) (2 ^ 20) fit.1) refl)

pub trees-items : (ts : ValueTrees) → trees (items ts) ≡ ts
trees-items no_values = refl
trees-items (value_then t ts) = ap (value_then t) (trees-items ts)

pub members-pairs : (ms : MemberTrees) → members (pairs ms) ≡ ms
members-pairs no_members = refl
members-pairs (member_then k t ms) = ap (member_then k t) (members-pairs ms)

-- these items are no deeper and no heavier than those
pub record AreLighter (us ts : List ValueTree) : Type 0 where
  pub deep : trees_depth (trees us) ≤ trees_depth (trees ts)
  pub heavy : trees_weight (trees us) ≤ trees_weight (trees ts)

dropped : (t : ValueTree) (us ts : List ValueTree) → AreLighter us ts → AreLighter us (t ∷ ts)
dropped t us ts is = record { deep = omega (arith, is.deep); heavy = omega (arith, is.heavy) }

kept : (t : ValueTree) (us ts : List ValueTree) → AreLighter us ts → AreLighter (t ∷ us) (t ∷ ts)
kept t us ts is = record { deep = omega (arith, is.deep); heavy = omega (arith, is.heavy) }

pub lighter-twice : (us vs ts : List ValueTree) → AreLighter us vs → AreLighter vs ts → AreLighter us ts
lighter-twice us vs ts one two = record { deep = omega (arith, one.deep, two.deep); heavy = omega (arith, one.heavy, two.heavy) }

pub filter-lighter : (test : ValueTree → Bool) (ts : List ValueTree) → AreLighter (filter test ts) ts
filter-lighter test [] = record { deep = omega arith; heavy = omega arith }
filter-lighter test (t ∷ ts) = go (test t) (filter-lighter test ts)
  where
    go : (b : Bool) → AreLighter (filter test ts) ts → AreLighter (cond b (t ∷ filter test ts) (filter test ts)) (t ∷ ts)
    go true is = kept t (filter test ts) ts is
    go false is = dropped t (filter test ts) ts is

pub distinct-lighter : (before ts : List ValueTree) → AreLighter (distinct_after before ts) ts
distinct-lighter before [] = record { deep = omega arith; heavy = omega arith }
distinct-lighter before (t ∷ ts) = go (is_among before t) (distinct-lighter before ts) (distinct-lighter (t ∷ before) ts)
  where
    go : (b : Bool) → AreLighter (distinct_after before ts) ts → AreLighter (distinct_after (t ∷ before) ts) ts →
        AreLighter (cond b (distinct_after before ts) (t ∷ distinct_after (t ∷ before) ts)) (t ∷ ts)
    go true there new = dropped t (distinct_after before ts) ts there
    go false there new = kept t (distinct_after (t ∷ before) ts) ts new

pub lighter-fits : (us ts : List ValueTree) → AreLighter us ts → Fits (list (trees ts)) → Fits (list (trees us))
lighter-fits us ts is fit = (omega (arith, is.deep, fit.0), omega (arith, is.heavy, fit.1))

-- and so for members
record AreFewer (ms ns : List Member) : Type 0 where
  deep : members_depth (members ms) ≤ members_depth (members ns)
  heavy : members_weight (members ms) ≤ members_weight (members ns)

filter-fewer : (test : Member → Bool) (ms : List Member) → AreFewer (filter test ms) ms
filter-fewer test [] = record { deep = omega arith; heavy = omega arith }
filter-fewer test (m ∷ ms) = go (test m) (filter-fewer test ms)
  where
    go : (b : Bool) → AreFewer (filter test ms) ms → AreFewer (cond b (m ∷ filter test ms) (filter test ms)) (m ∷ ms)
    go true is = record { deep = omega (arith, is.deep); heavy = omega (arith, is.heavy) }
    go false is = record { deep = omega (arith, is.deep); heavy = omega (arith, is.heavy) }

pub chosen-fit : (test : Member → Bool) (ms : List Member) → Fits (object (members ms)) → Fits (object (members (filter test ms)))
chosen-fit test ms fit = let is = filter-fewer test ms in (omega (arith, is.deep, fit.0), omega (arith, is.heavy, fit.1))
