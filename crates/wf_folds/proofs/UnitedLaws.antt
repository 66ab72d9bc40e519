-- What is put together of arguments as they come is their union.
use Rattle.std.proofs.Common.{◌≡◌, ℕ, suc, ◌+◌, ◌<◌, ◌≤◌, ◌^◌, ◌-◌, Bool, true, false, List, [], ◌∷◌, ◌++◌, Option, Some, Result, Ok, Err}
use Rattle.std.proofs.Common.{length, refl, sym, ◌∙◌, ap, subst, arith, length-append, append_assoc, ◌⊎◌, inl, inr}
use Rattle.std.proofs.lemmas.Bool.{le-leb, lt-leb, cases_lt}
use Rattle.std.proofs.lemmas.List.{append-nil}
use Rattle.std.proofs.lemmas.List.Concat.{flat_map-append}
use Rattle.std.specs.List.{fold, flat_map}
use Rattle.std.specs.Prelude.{slice_get, nat_le, if◌then◌else◌}
use Rattle.wf_val.specs.Arguments.{Answer, given, wrong_type, bounded, list_of, object_of}
use Rattle.wf_val.specs.Cut.{cut_u32, cut_u64}
use Rattle.wf_val.specs.ValueTree.{ValueTree, null, boolean, number, text, list, object, trees, items, members, pairs, Member}
use Rattle.wf_val.specs.declared.fault.EvalFault.{EvalFault}
use Rattle.wf_val.specs.declared.function.Fun.{Fun}
use Rattle.wf_fn_sets.specs.Sets.{distinct, put_all, each_from, union_items, union_members, union_row}
use Rattle.wf_fn_sets.proofs.MemberLemmas.{put-joined}
use Rattle.wf_functions.specs.Rows.{strict_row}
use Rattle.wf_folds.specs.Items.{Items, no_items, items_more}
use Rattle.wf_folds.specs.United.{HeldSoFar, nothing, lists, objects, refused, UnitedSoFar, nothing_united, refused_at, held_with_items}
use Rattle.wf_folds.specs.United.{held_with_members, held_with, with_argument, held_answer, united_answer, united_of}
use Rattle.wf_folds.proofs.CollectedLaws.{all-is}
use Rattle.wf_folds.proofs.EachLaws.{each-snoc}
use Rattle.wf_folds.proofs.ItemsLaws.{IsUnion, no-items, more-items}

-- these arguments have such parts, all of them
abbrev Parts : {X : Type 0} → (ℕ → Option ValueTree → Result X EvalFault) → List ValueTree → List X → Type 0
Parts part ts xs = each_from part 0 ts ≡ Ok xs

-- what holds of what is held
abbrev IsHeld : HeldSoFar → List ValueTree → Type 0
IsHeld nothing ts = ts ≡ []
IsHeld (lists u) ts =
    (1 ≤ length ts) × ((ls : List (List ValueTree)) × (Parts (list_of Fun.Union) ts ls × IsUnion u (flat_map (λ xs. xs) ls)))
IsHeld (objects ms) ts = (1 ≤ length ts) × ((os : List (List Member)) × (Parts (object_of Fun.Union) ts os × (ms ≡ union_members os)))
IsHeld (refused f) ts = (more : List ValueTree) → union_row (ts ++ more) ≡ Err f

joined : {X : Type 0} (ls : List (List X)) (ys : List X) → flat_map (λ xs. xs) (ls ++ ys ∷ []) ≡ flat_map (λ xs. xs) ls ++ ys
joined ls ys = flat_map-append (λ xs. xs) ls (ys ∷ []) ∙ ap (λ l. flat_map (λ xs. xs) ls ++ l) (append-nil ys)

longer : (ts : List ValueTree) (t : ValueTree) → 1 ≤ length (ts ++ t ∷ [])
longer ts t = omega (arith, length-append ts (t ∷ []))

-- one more of the same type
list-more : (ts : List ValueTree) (ls : List (List ValueTree)) (xs : List ValueTree) (t : ValueTree) (u : Items) →
    ((i : ℕ) → list_of Fun.Union i (Some t) ≡ Ok xs) →
    Parts (list_of Fun.Union) ts ls → IsUnion u (flat_map (λ ys. ys) ls) → IsHeld (lists (items_more xs u)) (ts ++ t ∷ [])
list-more ts ls xs t u is parts held = (
  longer ts t,
  (
    ls ++ xs ∷ [],
    (
      each-snoc (list_of Fun.Union) 0 ts t
          ∙ (ap (λ r. given r (λ ys. given (list_of Fun.Union (0 + length ts) (Some t)) (λ y. Ok (ys ++ y ∷ [])))) parts
          ∙ ap (λ r. given r (λ y. Ok (ls ++ y ∷ []))) (is (0 + length ts))),
      subst (IsUnion (items_more xs u)) (sym (joined ls xs)) (more-items xs u (flat_map (λ ys. ys) ls) held),
    ),
  ),
)

object-more : (ts : List ValueTree) (os : List (List Member)) (ms all : List Member) (t : ValueTree) →
    ((i : ℕ) → object_of Fun.Union i (Some t) ≡ Ok ms) →
    Parts (object_of Fun.Union) ts os → all ≡ union_members os → IsHeld (objects (put_all all ms)) (ts ++ t ∷ [])
object-more ts os ms all t is parts held = (
  longer ts t,
  (
    os ++ ms ∷ [],
    (
      each-snoc (object_of Fun.Union) 0 ts t
          ∙ (ap (λ r. given r (λ ys. given (object_of Fun.Union (0 + length ts) (Some t)) (λ y. Ok (ys ++ y ∷ [])))) parts
          ∙ ap (λ r. given r (λ y. Ok (os ++ y ∷ []))) (is (0 + length ts))),
      ap (λ l. put_all l ms) held ∙ (sym (put-joined [] (flat_map (λ ys. ys) os) ms) ∙ ap (put_all []) (sym (joined os ms))),
    ),
  ),
)

-- ---- one of the wrong type

behind : {X : Type 0} (part : ℕ → Option ValueTree → Result X EvalFault) (i : ℕ) (ts more : List ValueTree) (f : EvalFault) →
    each_from part i ts ≡ Err f → each_from part i (ts ++ more) ≡ Err f
behind part i [] more f is = absurd cc
behind {X} part i (t ∷ ts) more f is =
    go (part i (Some t)) (each_from part (suc i) ts) (λ g rest. behind part (suc i) ts more g rest) is
  where
    go : (a : Result X EvalFault) (b : Result (List X) EvalFault) →
        ((g : EvalFault) → b ≡ Err g → each_from part (suc i) (ts ++ more) ≡ Err g) →
        given a (λ x. given b (λ xs. Ok (x ∷ xs))) ≡ Err f →
        given a (λ x. given (each_from part (suc i) (ts ++ more)) (λ xs. Ok (x ∷ xs))) ≡ Err f
    go (Err g) b rest is = is
    go (Ok x) (Err g) rest is =
        let same : g ≡ f = cc in
        ap (λ r. given r (λ xs. Ok (x ∷ xs))) (rest g refl) ∙ ap Err same
    go (Ok x) (Ok xs) rest is = absurd cc

refused-part : {X : Type 0} (part : ℕ → Option ValueTree → Result X EvalFault) (ts : List ValueTree) (xs : List X) (t : ValueTree)
    (f : EvalFault) → each_from part 0 ts ≡ Ok xs → part (length ts) (Some t) ≡ Err f → (more : List ValueTree) →
    each_from part 0 ((ts ++ t ∷ []) ++ more) ≡ Err f
refused-part part ts xs t f parts is more =
    let place : 0 + length ts ≡ length ts = omega arith in
    behind part 0 (ts ++ t ∷ []) more f
    (each-snoc part 0 ts t
    ∙ (ap (λ r. given r (λ ys. given (part (0 + length ts) (Some t)) (λ y. Ok (ys ++ y ∷ [])))) parts
    ∙ (ap (λ n. given (part n (Some t)) (λ y. Ok (xs ++ y ∷ []))) place ∙ ap (λ r. given r (λ y. Ok (xs ++ y ∷ []))) is)))

-- where all so far are lists, the first is one, and so lists are taken together
of-lists : (ts : List ValueTree) (ls : List (List ValueTree)) (more : List ValueTree) (f : EvalFault) → 1 ≤ length ts →
    Parts (list_of Fun.Union) ts ls → each_from (list_of Fun.Union) 0 (ts ++ more) ≡ Err f → union_row (ts ++ more) ≡ Err f
of-lists [] ls more f le parts is = absurd (omega (arith, le))
of-lists (list xs ∷ ts) ls more f le parts is = ap (λ r. given r (λ l. bounded (list (trees (union_items l))))) is
of-lists (t ∷ ts) ls more f le parts is = absurd cc

of-objects : (ts : List ValueTree) (os : List (List Member)) (more : List ValueTree) (f : EvalFault) → 1 ≤ length ts →
    Parts (object_of Fun.Union) ts os → each_from (object_of Fun.Union) 0 (ts ++ more) ≡ Err f → union_row (ts ++ more) ≡ Err f
of-objects [] os more f le parts is = absurd (omega (arith, le))
of-objects (object ms ∷ ts) os more f le parts is = ap (λ r. given r (λ l. bounded (object (members (union_members l))))) is
of-objects (t ∷ ts) os more f le parts is = absurd cc

-- the place is the argument's, and cut as it is in the fault
place-is : (i n : ℕ) → i ≡ cut_u64 n → wrong_type Fun.Union i ≡ wrong_type Fun.Union n
place-is i n is = let same : cut_u32 (suc i) ≡ cut_u32 (suc n) = omega (arith, is) in ap (EvalFault.WrongType Fun.Union) same

list-refused : (ts : List ValueTree) (t : ValueTree) (u : Items) (i : ℕ) → i ≡ cut_u64 (length ts) →
    ((n : ℕ) → list_of Fun.Union n (Some t) ≡ Err (wrong_type Fun.Union n)) → IsHeld (lists u) ts →
    IsHeld (refused (wrong_type Fun.Union i)) (ts ++ t ∷ [])
list-refused ts t u i count wrong is more =
    let all : each_from (list_of Fun.Union) 0 ((ts ++ t ∷ []) ++ more) ≡ Err (wrong_type Fun.Union i) =
    refused-part (list_of Fun.Union) ts is.1.0 t (wrong_type Fun.Union i) is.1.1.0
    (wrong (length ts) ∙ ap Err (sym (place-is i (length ts) count))) more in
    let joined_at : (ts ++ t ∷ []) ++ more ≡ ts ++ t ∷ more = append_assoc ts (t ∷ []) more in
    ap union_row joined_at
    ∙ of-lists ts is.1.0 (t ∷ more) (wrong_type Fun.Union i) is.0 is.1.1.0
    (ap (each_from (list_of Fun.Union) 0) (sym joined_at) ∙ all)

object-refused : (ts : List ValueTree) (t : ValueTree) (ms : List Member) (i : ℕ) → i ≡ cut_u64 (length ts) →
    ((n : ℕ) → object_of Fun.Union n (Some t) ≡ Err (wrong_type Fun.Union n)) → IsHeld (objects ms) ts →
    IsHeld (refused (wrong_type Fun.Union i)) (ts ++ t ∷ [])
object-refused ts t ms i count wrong is more =
    let all : each_from (object_of Fun.Union) 0 ((ts ++ t ∷ []) ++ more) ≡ Err (wrong_type Fun.Union i) =
    refused-part (object_of Fun.Union) ts is.1.0 t (wrong_type Fun.Union i) is.1.1.0
    (wrong (length ts) ∙ ap Err (sym (place-is i (length ts) count))) more in
    let joined_at : (ts ++ t ∷ []) ++ more ≡ ts ++ t ∷ more = append_assoc ts (t ∷ []) more in
    ap union_row joined_at
    ∙ of-objects ts is.1.0 (t ∷ more) (wrong_type Fun.Union i) is.0 is.1.1.0
    (ap (each_from (object_of Fun.Union) 0) (sym joined_at) ∙ all)

stays-refused : (ts : List ValueTree) (t : ValueTree) (f : EvalFault) → IsHeld (refused f) ts → IsHeld (refused f) (ts ++ t ∷ [])
stays-refused ts t f is more = ap union_row (append_assoc ts (t ∷ []) more) ∙ is (t ∷ more)

-- ---- one argument more

-- neither a list nor an object
record IsOther (t : ValueTree) : Type 0 where
  no_list : (n : ℕ) → list_of Fun.Union n (Some t) ≡ Err (wrong_type Fun.Union n)
  no_object : (n : ℕ) → object_of Fun.Union n (Some t) ≡ Err (wrong_type Fun.Union n)
  first : (more : List ValueTree) → union_row (t ∷ more) ≡ Err (wrong_type Fun.Union 0)

other-more : (h : HeldSoFar) (ts : List ValueTree) (t : ValueTree) (i : ℕ) → i ≡ cut_u64 (length ts) → IsOther t → IsHeld h ts →
    IsHeld (refused_at i h) (ts ++ t ∷ [])
other-more nothing ts t i count other is = λ more.
    ap (λ l. union_row ((l ++ t ∷ []) ++ more)) is
    ∙ (other.first more ∙ ap Err (sym (place-is i (length ts) count ∙ ap (λ l. wrong_type Fun.Union (length l)) is)))
other-more (lists u) ts t i count other is = list-refused ts t u i count other.no_list is
other-more (objects ms) ts t i count other is = object-refused ts t ms i count other.no_object is
other-more (refused f) ts t i count other is = stays-refused ts t f is

no-parts : {X : Type 0} (part : ℕ → Option ValueTree → Result X EvalFault) (ts : List ValueTree) → ts ≡ [] → Parts part ts []
no-parts part ts is = ap (each_from part 0) is

one-more : (h : HeldSoFar) (ts : List ValueTree) (t : ValueTree) (i : ℕ) → i ≡ cut_u64 (length ts) → IsHeld h ts →
    IsHeld (held_with i h t) (ts ++ t ∷ [])
one-more nothing ts (list xs) i count is =
    list-more ts [] (items xs) (list xs) no_items (λ n. refl) (no-parts (list_of Fun.Union) ts is) no-items
one-more (lists u) ts (list xs) i count is = list-more ts is.1.0 (items xs) (list xs) u (λ n. refl) is.1.1.0 is.1.1.1
one-more (objects ms) ts (list xs) i count is = object-refused ts (list xs) ms i count (λ n. refl) is
one-more (refused f) ts (list xs) i count is = stays-refused ts (list xs) f is
one-more nothing ts (object ms) i count is =
    object-more ts [] (pairs ms) [] (object ms) (λ n. refl) (no-parts (object_of Fun.Union) ts is) refl
one-more (lists u) ts (object ms) i count is = list-refused ts (object ms) u i count (λ n. refl) is
one-more (objects all) ts (object ms) i count is =
    object-more ts is.1.0 (pairs ms) all (object ms) (λ n. refl) is.1.1.0 is.1.1.1
one-more (refused f) ts (object ms) i count is = stays-refused ts (object ms) f is
one-more h ts null i count is =
    other-more h ts null i count (record { no_list = λ n. refl; no_object = λ n. refl; first = λ more. refl }) is
one-more h ts (boolean b) i count is =
    other-more h ts (boolean b) i count (record { no_list = λ n. refl; no_object = λ n. refl; first = λ more. refl }) is
one-more h ts (number n) i count is =
    other-more h ts (number n) i count (record { no_list = λ n. refl; no_object = λ n. refl; first = λ more. refl }) is
one-more h ts (text s) i count is =
    other-more h ts (text s) i count (record { no_list = λ n. refl; no_object = λ n. refl; first = λ more. refl }) is

-- ---- the answer

lists-answer : (ts : List ValueTree) (u : Items) → IsHeld (lists u) ts → held_answer (lists u) ≡ union_row ts
lists-answer [] u is = absurd (omega (arith, is.0))
lists-answer (list xs ∷ ts) u is =
    all-is u.0 (distinct (flat_map (λ ys. ys) is.1.0)) is.1.1.1.kept
    ∙ sym (ap (λ r. given r (λ l. bounded (list (trees (union_items l))))) is.1.1.0)
lists-answer (t ∷ ts) u is = let parts : Parts (list_of Fun.Union) (t ∷ ts) is.1.0 = is.1.1.0 in absurd cc

objects-answer : (ts : List ValueTree) (ms : List Member) → IsHeld (objects ms) ts → held_answer (objects ms) ≡ union_row ts
objects-answer [] ms is = absurd (omega (arith, is.0))
objects-answer (object os ∷ ts) ms is =
    ap (λ l. bounded (object (members l))) is.1.1.1
    ∙ sym (ap (λ r. given r (λ l. bounded (object (members (union_members l))))) is.1.1.0)
objects-answer (t ∷ ts) ms is = let parts : Parts (object_of Fun.Union) (t ∷ ts) is.1.0 = is.1.1.0 in absurd cc

is-answer : (h : HeldSoFar) (ts : List ValueTree) → IsHeld h ts → held_answer h ≡ union_row ts
is-answer nothing ts is = ap union_row (sym is)
is-answer (lists u) ts is = lists-answer ts u is
is-answer (objects ms) ts is = objects-answer ts ms is
is-answer (refused f) ts is = sym (ap union_row (sym (append-nil ts)) ∙ is [])

-- a count is judged alike before it is cut and after
enough : (n : ℕ) → nat_le 2 (cut_u64 n) ≡ nat_le 2 n
enough n = go (cases_lt n 2)
  where
    go : (n < 2) ⊎ (2 ≤ n) → nat_le 2 (cut_u64 n) ≡ nat_le 2 n
    go (inl lt) = lt-leb 2 (cut_u64 n) (omega (arith, lt)) ∙ sym (lt-leb 2 n lt)
    go (inr le) = le-leb 2 (cut_u64 n) (omega (arith, le)) ∙ sym (le-leb 2 n le)

-- what is kept is of these arguments
pub record IsOf (u : UnitedSoFar) (ts : List ValueTree) : Type 0 where
  pub held : IsHeld u.0 ts
  pub count : u.1 ≡ cut_u64 (length ts)

pub none-yet : IsOf nothing_united []
none-yet = record { held = refl; count = refl }

pub with-more : (u : UnitedSoFar) (ts : List ValueTree) (t : ValueTree) → IsOf u ts → IsOf (with_argument t u) (ts ++ t ∷ [])
with-more u ts t is = record {
  held = one-more u.0 ts t u.1 is.count is.held;
  count = omega (arith, is.count, length-append ts (t ∷ []));
}

pub answer-is : (u : UnitedSoFar) (ts : List ValueTree) → IsOf u ts → united_answer u ≡ strict_row Fun.Union ts
answer-is u ts is =
    ap (λ b. if b then held_answer u.0 else Err (wrong_type Fun.Union u.1)) (ap (nat_le 2) is.count ∙ enough (length ts))
    ∙ (ap (λ a. if nat_le 2 (length ts) then a else Err (wrong_type Fun.Union u.1)) (is-answer u.0 ts is.held)
    ∙ ap (λ e. if nat_le 2 (length ts) then union_row ts else Err e) (place-is u.1 (length ts) is.count))

all-more : (u : UnitedSoFar) (done ts : List ValueTree) → IsOf u done → IsOf (fold (λ v t. with_argument t v) u ts) (done ++ ts)
all-more u done [] is = subst (IsOf u) (sym (append-nil done)) is
all-more u done (t ∷ ts) is =
    subst (IsOf (fold (λ v x. with_argument x v) (with_argument t u) ts)) (append_assoc done (t ∷ []) ts)
    (all-more (with_argument t u) (done ++ t ∷ []) ts (with-more u done t is))

pub unions-are-the-row : (ts : List ValueTree) → united_answer (united_of ts) ≡ strict_row Fun.Union ts
unions-are-the-row ts = answer-is (united_of ts) ts (all-more nothing_united [] ts none-yet)
