-- What an expression gives fits: calls and literals are tested, and a part of a value that fits does too.
use Rattle.std.proofs.Common.{◌≡◌, ℕ, zero, suc, ◌≤◌, ◌^◌, Bool, true, false, List, [], ◌∷◌, Option, Some, None, option_map, Result, Ok}
use Rattle.std.proofs.Common.{Err, slice_get, refl, subst, arith}
use Rattle.std.specs.Fmt.{signed_decimal}
use Rattle.std.specs.Ordering.{is_eq}
use Rattle.std.specs.Prelude.{map, pos, negsuc, ◌&&◌, nat_le, if◌then◌else◌}
use Rattle.std.proofs.lemmas.Bool.{leb-true}
use Rattle.wf_val.specs.Arguments.{Answer, given, wrong_type, bounded}
use Rattle.wf_val.specs.Cut.{cut_u32, cut_u64}
use Rattle.wf_val.specs.Function.{function_of}
use Rattle.wf_val.specs.Get as look_up
use Rattle.wf_val.specs.NameOrder.{bytes_cmp, find_named}
use Rattle.wf_val.specs.ValueTree.{ValueTree, null, boolean, number, text, list, object, ValueTrees, no_values, value_then, MemberTrees}
use Rattle.wf_val.specs.ValueTree.{no_members, member_then, items, pairs, depth, trees_depth, members_depth, weight}
use Rattle.wf_val.specs.ValueTree.{trees_weight, members_weight, Fits, fits}
use Rattle.wf_val.specs.declared.function.Fun.{Fun}
use Rattle.wf_val.specs.declared.fault.EvalFault.{EvalFault}
use Rattle.wf_template.specs.ExprTree.{ExprTree, ExprTrees, literal, call, member, index, no_exprs, expr_then}
use Rattle.wf_look.specs.Draw.{Draw}
use Rattle.wf_eval_expr.specs.declared.way.Way.{Way}
use Rattle.wf_look.specs.Accesses.{found, member_row, index_row}
use Rattle.wf_look.specs.Draws.{draw_of, made}
use Rattle.wf_look.specs.Looked.{named_by, told_row}
use Rattle.wf_look.specs.Outcomes.{Outcome, Run, go_on, then_run, turned, all_after}
use Rattle.wf_look.specs.Rows.{fitted, strict_row, as_text, joined_row}
use Rattle.wf_look.specs.Timed.{timed_row}
use Rattle.wf_look.specs.Told.{Told, next_word}
use Rattle.wf_look.specs.Args.{literal_name}
use Rattle.wf_look.specs.Early.{stop, at_end}
use Rattle.wf_look.specs.Drawn.{drawn}
use Rattle.wf_eval_expr.specs.Value.{chosen, if_run, or_go_on, early, called, called_by, value, runs}
use Rattle.wf_eval_expr.specs.Ways.{way_of}

-- ---- tests

and-parts : (a b : Bool) → (a && b) ≡ true → (a ≡ true) × (b ≡ true)
and-parts true b e = (refl, e)
and-parts false b e = cc

tested : (t : ValueTree) → fits t ≡ true → Fits t
tested t e =
    let p = and-parts (nat_le (depth t) 64) (nat_le (weight t) (2 ^ 20)) e in
    (leb-true (depth t) 64 p.0, leb-true (weight t) (2 ^ 20) p.1)

-- an answer that is a value is one that fits
abbrev pub IsGood : Answer → Type 0
IsGood a = (u : ValueTree) → a ≡ Ok u → Fits u

pub value-good : (t : ValueTree) → Fits t → IsGood (Ok t)
value-good t fit u e = let same : t ≡ u = cc in subst Fits same fit

fault-good : (f : EvalFault) → IsGood (Err f)
fault-good f u e = absurd cc

pub bounded-good : (t : ValueTree) → IsGood (bounded t)
bounded-good t = go (fits t) refl
  where
    go : (b : Bool) → fits t ≡ b → IsGood (if b then Ok t else Err (EvalFault.TooBig (cut_u32 (depth t)) (cut_u64 (weight t))))
    go true e = value-good t (tested t e)
    go false e = fault-good (EvalFault.TooBig (cut_u32 (depth t)) (cut_u64 (weight t)))

pub given-good : {X : Type 0} (a : Result X EvalFault) (row : X → Answer) → ((x : X) → IsGood (row x)) → IsGood (given a row)
given-good (Ok x) row good = good x
given-good (Err f) row good = fault-good f

fitted-good : (a : Answer) → IsGood (fitted a)
fitted-good a = given-good a bounded bounded-good

-- ---- parts of a value

-- not deeper and not heavier than so much
record IsWithin (u : ValueTree) (d w : ℕ) : Type 0 where
  not_deeper : depth u ≤ d
  not_heavier : weight u ≤ w

member-within : (k : List ℕ) (ms : MemberTrees) (u : ValueTree) → look_up.value_of k (pairs ms) ≡ Some u →
    IsWithin u (members_depth ms) (members_weight ms)
member-within k no_members u e = absurd cc
member-within k (member_then n t ms) u e = go (member-within k ms u) (is_eq (bytes_cmp k n)) e
  where
    go : (look_up.value_of k (pairs ms) ≡ Some u → IsWithin u (members_depth ms) (members_weight ms)) → (b : Bool) →
        option_map (λ m. m.1) (if b then Some (n, t) else find_named look_up.name_of k (pairs ms)) ≡ Some u →
        IsWithin u (members_depth (member_then n t ms)) (members_weight (member_then n t ms))
    go rest true here =
        let same : t ≡ u = cc in
        subst (λ x. IsWithin x (members_depth (member_then n t ms)) (members_weight (member_then n t ms))) same
        (record { not_deeper = omega arith; not_heavier = omega arith })
    go rest false there = let w = rest there in
        record { not_deeper = omega (arith, w.not_deeper); not_heavier = omega (arith, w.not_heavier) }

item-within : (ts : ValueTrees) (i : ℕ) (u : ValueTree) → slice_get (items ts) i ≡ Some u → IsWithin u (trees_depth ts) (trees_weight ts)
item-within no_values i u e = absurd cc
item-within (value_then t ts) zero u e =
    let same : t ≡ u = cc in
    subst (λ x. IsWithin x (trees_depth (value_then t ts)) (trees_weight (value_then t ts))) same
    (record { not_deeper = omega arith; not_heavier = omega arith })
item-within (value_then t ts) (suc i) u e =
    let w = item-within ts i u e in
    record { not_deeper = omega (arith, w.not_deeper); not_heavier = omega (arith, w.not_heavier) }

get-fits : (k : List ℕ) (t u : ValueTree) → Fits t → look_up.get k t ≡ Some u → Fits u
get-fits k (object ms) u fit e = let w = member-within k ms u e in (omega (arith, w.not_deeper, fit.0), omega (arith, w.not_heavier, fit.1))
get-fits k t u fit e = absurd cc

item-fits : (i : ℕ) (t u : ValueTree) → Fits t → look_up.item i t ≡ Some u → Fits u
item-fits i (list ts) u fit e = let w = item-within ts i u e in (omega (arith, w.not_deeper, fit.0), omega (arith, w.not_heavier, fit.1))
item-fits i t u fit e = absurd cc

found-good : (k : List ℕ) (soft : Bool) (o : Option ValueTree) → ((u : ValueTree) → o ≡ Some u → Fits u) → IsGood (found k soft o)
found-good k soft (Some t) fit = value-good t (fit t refl)
found-good k true None fit = value-good null (omega arith, omega arith)
found-good k false None fit = fault-good (EvalFault.NoMember k)

member-good : (k : List ℕ) (soft : Bool) (t : ValueTree) → Fits t → IsGood (member_row k soft t)
member-good k soft t fit = found-good k soft (look_up.get k t) (λ u e. get-fits k t u fit e)

index-good : (soft : Bool) (t key : ValueTree) → Fits t → IsGood (index_row soft t key)
index-good soft t (text k) fit = member-good k soft t fit
index-good soft t (number (pos i)) fit = found-good (signed_decimal (pos i)) soft (look_up.item i t) (λ u e. item-fits i t u fit e)
index-good soft t (number (negsuc i)) fit = found-good (signed_decimal (negsuc i)) soft None (λ u e. absurd cc)
index-good soft t key fit = fault-good (wrong_type Fun.Index 1)

-- ---- runs

abbrev pub IsFitting : Run → Type 0
IsFitting r = (n : ℕ) → IsGood (r n).0

abbrev pub AreFitting : List Run → Type 0
AreFitting [] = Unit {0}
AreFitting (r ∷ rs) = IsFitting r × AreFitting rs

then_run-good : (o : Outcome) (next : ValueTree → Run) → IsGood o.0 → ((t : ValueTree) → Fits t → IsFitting (next t)) →
    IsGood (then_run o next).0
then_run-good o next good follows = go o.0 good
  where
    go : (a : Answer) → IsGood a → IsGood (go_on a o.1 next).0
    go (Ok t) fit = follows t (fit t refl) o.1
    go (Err f) fit = fault-good f

pub truth-fits : (b : Bool) → Fits (boolean b)
truth-fits b = (omega arith, omega arith)

chosen-fits : (first second : Run) → IsFitting first → IsFitting second → (t : ValueTree) → IsFitting (chosen first second t)
chosen-fits first second one two (boolean true) = one
chosen-fits first second one two (boolean false) = two
chosen-fits first second one two t = λ n. fault-good (wrong_type Fun.If 0)

if_run-fits : (rs : List Run) → AreFitting rs → IsFitting (if_run rs)
if_run-fits [] fit n = fault-good (wrong_type Fun.If 0)
if_run-fits (r ∷ []) fit n = fault-good (wrong_type Fun.If 1)
if_run-fits (r ∷ s ∷ []) fit n = fault-good (wrong_type Fun.If 2)
if_run-fits (r ∷ first ∷ second ∷ rs) fit n =
    then_run-good (r n) (chosen first second) (fit.0 n) (λ t h. chosen-fits first second fit.1.0 fit.1.1.0 t)

stop-good : (f : Fun) (i : ℕ) (t : ValueTree) → Fits t → (rest : Run) → IsFitting rest → IsFitting (or_go_on (stop f i t) rest)
stop-good Fun.And i (boolean true) fit rest good = good
stop-good Fun.And i (boolean false) fit rest good = λ n. value-good (boolean false) (truth-fits false)
stop-good Fun.And i t fit rest good = λ n. fault-good (wrong_type Fun.And i)
stop-good Fun.Or i (boolean true) fit rest good = λ n. value-good (boolean true) (truth-fits true)
stop-good Fun.Or i (boolean false) fit rest good = good
stop-good Fun.Or i t fit rest good = λ n. fault-good (wrong_type Fun.Or i)
stop-good Fun.Coalesce i null fit rest good = good
stop-good Fun.Coalesce i t fit rest good = λ n. value-good t fit
stop-good f i t fit rest good = λ n. fault-good (wrong_type f i)

at_end-fits : (f : Fun) → Fits (at_end f)
at_end-fits Fun.And = truth-fits true
at_end-fits Fun.Or = truth-fits false
at_end-fits f = (omega arith, omega arith)

early-fits : (f : Fun) (rs : List Run) → AreFitting rs → (i : ℕ) → IsFitting (early f rs i)
early-fits f [] fit i n = value-good (at_end f) (at_end-fits f)
early-fits f (r ∷ rs) fit i n =
    then_run-good (r n) (λ t m. or_go_on (stop f i t) (λ k. early f rs (suc i) k) m) (fit.0 n)
    (λ t h. stop-good f i t h (λ k. early f rs (suc i) k) (early-fits f rs fit.1 (suc i)))

drawn-fits : (l : Told) (d : Result Draw EvalFault) → IsFitting (drawn l d)
drawn-fits l (Ok d) n = fitted-good (Ok (made d (next_word l n)))
drawn-fits l (Err f) n = fault-good f

called-fits : (l : Told) (f : Fun) (es : ExprTrees) (rs : List Run) → AreFitting rs → (w : Way) → IsFitting (called l f es rs w)
called-fits l f es rs fit Way.Chosen n = if_run-fits rs fit n
called-fits l f es rs fit Way.Early n = early-fits f rs fit 0 n
called-fits l f es rs fit Way.Joined n =
    given-good (all_after rs [] n).0 joined_row (λ ts. fitted-good (strict_row Fun.Concat (map as_text ts)))
called-fits l f es rs fit Way.Collected n =
    given-good (all_after rs [] n).0 (λ ts. fitted (strict_row Fun.CreateArray ts)) (λ ts. fitted-good (strict_row Fun.CreateArray ts))
called-fits l f es rs fit Way.Paired n =
    given-good (all_after rs [] n).0 (λ ts. fitted (strict_row f ts)) (λ ts. fitted-good (strict_row f ts))
called-fits l f es rs fit Way.United n =
    given-good (all_after rs [] n).0 (λ ts. fitted (strict_row Fun.Union ts)) (λ ts. fitted-good (strict_row Fun.Union ts))
called-fits l f es rs fit Way.Named n = fitted-good (named_by l f (literal_name es))
called-fits l f es rs fit Way.Told n = fitted-good (told_row l f)
called-fits l f es rs fit Way.Timed n =
    given-good (all_after rs [] n).0 (λ ts. fitted (timed_row f l.moment ts)) (λ ts. fitted-good (timed_row f l.moment ts))
called-fits l f es rs fit Way.Drawn n = drawn-fits l (given (all_after rs [] n).0 (draw_of f)) (all_after rs [] n).1
called-fits l f es rs fit Way.Strict n =
    given-good (all_after rs [] n).0 (λ ts. fitted (strict_row f ts)) (λ ts. fitted-good (strict_row f ts))

called_by-fits : (l : Told) (name : List ℕ) (es : ExprTrees) (rs : List Run) → AreFitting rs → (f : Option Fun) →
    IsFitting (called_by l name es rs f)
called_by-fits l name es rs fit (Some f) n = called-fits l f es rs fit (way_of f) n
called_by-fits l name es rs fit None n =
    given-good (all_after rs [] n).0 (λ ts. Err (EvalFault.NoValue name)) (λ ts. fault-good (EvalFault.NoValue name))

-- what an access makes of a value that fits
part-good : (a : Answer) (row : ValueTree → Answer) → IsGood a → ((t : ValueTree) → Fits t → IsGood (row t)) → IsGood (given a row)
part-good (Ok t) row good turns = turns t (good t refl)
part-good (Err f) row good turns = fault-good f

mutual
  pub value-fits : (l : Told) (e : ExprTree) → IsFitting (value l e)
  value-fits l (literal t) n = bounded-good t
  value-fits l (call name es) n = called_by-fits l name es (runs l es) (runs-fit l es) (function_of name) n
  value-fits l (member e k soft) n = part-good (value l e n).0 (member_row k soft) (value-fits l e n) (λ t fit. member-good k soft t fit)
  value-fits l (index e k soft) n =
      then_run-good (value l e n) (λ t m. turned (index_row soft t) (value l k m)) (value-fits l e n)
      (λ t fit m. given-good (value l k m).0 (index_row soft t) (λ key. index-good soft t key fit))

  pub runs-fit : (l : Told) (es : ExprTrees) → AreFitting (runs l es)
  runs-fit l no_exprs = tt
  runs-fit l (expr_then e es) = (value-fits l e, runs-fit l es)
