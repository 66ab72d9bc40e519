-- What Skipped rows say, and variables told one by one.
use Rattle.std.proofs.Common.{◌≡◌, ◌≢◌, ℕ, zero, suc, ◌+◌, ◌<◌, ◌≤◌, ℤ, List, [], ◌∷◌, length, map, drop, get_or, Bool, true, false, not, ◌&&◌, ◌||◌, Option, Some, None, refl, sym, ap, ◌∙◌, subst, arith}
use Rattle.std.proofs.lemmas.List.{length-map}
use Rattle.wf_asked.specs.Asked.{is_null}
use Rattle.wf_val.specs.ValueTree.{ValueTree, null, boolean, number, text, list, object}
use Rattle.wf_val.specs.Seen.{tree}
use Rattle.wf_val.specs.declared.val.Val.{Val}
use Rattle.wf_def.specs.ActionSeen.{initial_tree}
use Rattle.wf_def.specs.ActionTree.{KindTree, foreach, until}
use Rattle.wf_def.specs.declared.sort.Initial.{Initial}
use Rattle.wf_def.specs.declared.sort.Sort.{Sort}
use Rattle.wf_def.proofs.SizeLemmas.{drop_at_place}
use Rattle.wf_data.specs.Record.{Row}
use Rattle.wf_says.specs.Laws.{IsForeach, IsUntil, SkippedSaysNothing}
use Rattle.wf_says.specs.Says.{Variable, fits_kind, initialized, is_few, is_skipped, says, says_or_nothing, says_rounds, tells, tells_each}
use Rattle.wf_says.specs.Told.{count_told, items_said, rounds_said, told_rounds}

and_in : (p q : Bool) → (p && q) ≡ true → (p ≡ true) × (q ≡ true)
and_in true q is = (refl, is)
and_in false q is = absurd (cc)

null_is : (t : ValueTree) → is_null t ≡ true → t ≡ null
null_is null is = refl
null_is (boolean b) is = absurd (cc)
null_is (number n) is = absurd (cc)
null_is (text s) is = absurd (cc)
null_is (list ts) is = absurd (cc)
null_is (object ms) is = absurd (cc)

nothing_told : (most : ℕ) (o : Option ℤ) → says_rounds true most o ≡ true → count_told o ≡ 0
nothing_told most None is = refl
nothing_told most (Some n) is = absurd (cc)

no_items : (sort : Option Sort) (kind : KindTree) (r : Row) (skipped : Bool) → fits_kind sort kind skipped r ≡ true
    → is_skipped r ≡ true → IsForeach kind → items_said r ≡ 0
no_items sort (foreach over repetitions graph) r skipped f s is =
    let said = (and_in (not skipped || is_skipped r) (says sort (foreach over repetitions graph) r) f).1 in
    let nothing : is_null r.inputs ≡ true = ap (λ b. says_or_nothing b is_few r.inputs) (sym s) ∙ said in
    none r.inputs (null_is r.inputs nothing)
  where
    none : (t : ValueTree) → t ≡ null → items_said (record r { inputs = t }) ≡ 0
    none t is = subst (λ (u : ValueTree). items_said (record r { inputs = u }) ≡ 0) (sym is) refl
no_items sort kind r skipped f s is = absurd is

no_rounds : (sort : Option Sort) (kind : KindTree) (r : Row) (skipped : Bool) → fits_kind sort kind skipped r ≡ true
    → is_skipped r ≡ true → IsUntil kind → rounds_said r ≡ 0
no_rounds sort (until test count fails graph) r skipped f s is =
    let said = (and_in (not skipped || is_skipped r) (says sort (until test count fails graph) r) f).1 in
    nothing_told count (told_rounds r.outputs) (ap (λ b. says_rounds b count (told_rounds r.outputs)) (sym s) ∙ said)
no_rounds sort kind r skipped f s is = absurd is

pub says_nothing : (sort : Option Sort) (kind : KindTree) (r : Row) → SkippedSaysNothing sort kind r
says_nothing sort kind r = record {
  is_one = λ f. (and_in (is_skipped r) (says sort kind r) f).0;
  no_items = no_items sort kind r;
  no_rounds = no_rounds sort kind r;
}

-- as many are told as there are variables
pub unequal : (vs : List Variable) (ts : List ValueTree) → length vs ≢ length ts → tells_each vs ts ≡ false
unequal [] [] other = absurd (other refl)
unequal [] (t ∷ ts) other = refl
unequal (v ∷ vs) [] other = refl
unequal (v ∷ vs) (t ∷ ts) other = neither (tells v t) (tells_each vs ts) (unequal vs ts (λ same. other (ap suc same)))
  where
    neither : (p q : Bool) → q ≡ false → (p && q) ≡ false
    neither true q is = is
    neither false q is = refl

pub lengths_differ : (is : List Initial) (vs : List Val) → length is ≢ length vs
    → tells_each (map initialized (map initial_tree is)) (map tree vs) ≡ false
lengths_differ is vs other =
    unequal (map initialized (map initial_tree is)) (map tree vs) (λ same. other (simp length-map at same))

-- the variables from a place on: the one that stands there, and the others
pub one_told : (is : List Initial) (vs : List Val) (i : ℕ) (x : Initial) (v : Val) → i < length is → i < length vs → x ≡ get_or is i x
    → v ≡ get_or vs i v
    → tells_each (map initialized (map initial_tree (drop i is))) (map tree (drop i vs))
    ≡ (tells (x.name, Some x.sort) (tree v)
    && tells_each (map initialized (map initial_tree (drop (i + 1) is))) (map tree (drop (i + 1) vs)))
one_told is vs i x v below within own its =
    ap (λ (xs : List Initial). tells_each (map initialized (map initial_tree xs)) (map tree (drop i vs))) (drop_at_place is i x below own)
    ∙ ap (λ (ws : List Val). tells_each (map initialized (map initial_tree (x ∷ drop (i + 1) is))) (map tree ws))
    (drop_at_place vs i v within its)

drop_none : {X : Type 0} (xs : List X) (i : ℕ) → length xs ≤ i → drop i xs ≡ []
drop_none [] zero past = refl
drop_none [] (suc i) past = refl
drop_none (x ∷ xs) zero past = absurd (omega arith)
drop_none (x ∷ xs) (suc i) past = drop_none xs i (omega arith)

pub all_told : (is : List Initial) (vs : List Val) (i : ℕ) → length is ≤ i → length vs ≤ i
    → tells_each (map initialized (map initial_tree (drop i is))) (map tree (drop i vs)) ≡ true
all_told is vs i past over =
    ap (λ (xs : List Initial). tells_each (map initialized (map initial_tree xs)) (map tree (drop i vs))) (drop_none is i past)
    ∙ ap (λ (ws : List Val). tells_each [] (map tree ws)) (drop_none vs i over)
