-- What fits, as a test says it; and what is measured of parts of a value that fits.
use Rattle.std.proofs.Common.{◌≡◌, ℕ, ◌≤◌, ◌^◌, Bool, true, false, ◌&&◌, List, [], ◌∷◌, refl, arith}
use Rattle.std.proofs.Common.{Less, Equal, Greater, nat_le}
use Rattle.std.specs.List.{AllByRecursion}
use Rattle.std.specs.Ordering.{match_ordering}
use Rattle.std.specs.declared.cmp.Ordering.{Ordering}
use Rattle.std.proofs.lemmas.Bool.{le-leb, leb-true}
use Rattle.wf_val.specs.Get.{name_of}
use Rattle.wf_val.specs.NameOrder.{bytes_cmp, put_named}
use Rattle.wf_val.specs.ValueTree.{ValueTree, null, boolean, number, text, list, object, ValueTrees, no_values, value_then, MemberTrees}
use Rattle.wf_val.specs.ValueTree.{no_members, member_then, items, members, Member, Fits, fits, depth, weight}
use Rattle.wf_val.specs.ValueTree.{members_depth, members_weight, trees_depth, trees_weight}
use Rattle.wf_record_form.specs.Fitting.{AllFit, IsMeasured}

pub and_parts : (a b : Bool) → (a && b) ≡ true → (a ≡ true) × (b ≡ true)
and_parts true b e = (refl, e)
and_parts false b e = absurd (cc)

both_hold : (a b : Bool) → a ≡ true → b ≡ true → (a && b) ≡ true
both_hold true b one other = other
both_hold false b one other = one

pub tested : (t : ValueTree) → fits t ≡ true → Fits t
tested t e =
    let p = and_parts (nat_le (depth t) 64) (nat_le (weight t) (2 ^ 20)) e in
    (leb-true (depth t) 64 p.0, leb-true (weight t) (2 ^ 20) p.1)

pub passes : (t : ValueTree) → Fits t → fits t ≡ true
passes t fit = both_hold (nat_le (depth t) 64) (nat_le (weight t) (2 ^ 20)) (le-leb (depth t) 64 fit.0) (le-leb (weight t) (2 ^ 20) fit.1)

pub null_fits : fits null ≡ true
null_fits = passes null (omega arith, omega arith)

-- ---- of lists

abbrev pub AllItemsFit : List ValueTree → Type 0
AllItemsFit ts = AllByRecursion (λ t. fits t ≡ true) ts

items_within : (ts : ValueTrees) → trees_depth ts ≤ 64 → trees_weight ts ≤ 2 ^ 20 → AllItemsFit (items ts)
items_within no_values shallow light = tt
items_within (value_then t ts) shallow light =
    (passes t (omega (arith, shallow), omega (arith, light)), items_within ts (omega (arith, shallow)) (omega (arith, light)))

pub items_fit : (ts : ValueTrees) → fits (list ts) ≡ true → AllItemsFit (items ts)
items_fit ts is = let fit = tested (list ts) is in items_within ts (omega (arith, fit.0)) (omega (arith, fit.1))

-- ---- of objects

members_within : (ms : MemberTrees) → members_depth ms ≤ 64 → members_weight ms ≤ 2 ^ 20 → AllFit ms
members_within no_members shallow light = tt
members_within (member_then k t ms) shallow light =
    (passes t (omega (arith, shallow), omega (arith, light)), members_within ms (omega (arith, shallow)) (omega (arith, light)))

pub members_fit : (ms : MemberTrees) → fits (object ms) ≡ true → AllFit ms
members_fit ms is = let fit = tested (object ms) is in members_within ms (omega (arith, fit.0)) (omega (arith, fit.1))

pub measured : (t : ValueTree) → fits t ≡ true → IsMeasured t
measured null is = is
measured (boolean b) is = is
measured (number n) is = is
measured (text s) is = is
measured (list ts) is = is
measured (object ms) is = members_fit ms is

-- one more that fits, beside others
pub put_fits : (k : List ℕ) (t : ValueTree) (ms : List Member) → fits t ≡ true → AllFit (members ms)
    → AllFit (members (put_named name_of (k, t) ms))
put_fits k t [] fit all = (fit, tt)
put_fits k t (m ∷ ms) fit all = by (bytes_cmp k m.0) (put_fits k t ms fit all.1)
  where
    by : (o : Ordering) → AllFit (members (put_named name_of (k, t) ms))
        → AllFit (members (match_ordering o ((k, t) ∷ m ∷ ms) ((k, t) ∷ ms) (m ∷ put_named name_of (k, t) ms)))
    by Less rest = (fit, all)
    by Equal rest = (fit, all.1)
    by Greater rest = (all.0, rest)
