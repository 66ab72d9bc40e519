-- The values that names have in objects taken together.
use Rattle.std.proofs.Common.{◌≡◌, ℕ, ◌-◌, List, [], ◌∷◌, ◌++◌, length, refl, sym, ◌∙◌, ap, arith, cond, Bool, true, false, Option, Some}
use Rattle.std.proofs.Common.{None, option_map}
use Rattle.std.proofs.lemmas.Cmp.{nat_list_cmp_total}
use Rattle.std.proofs.lemmas.List.{append-nil, length-append}
use Rattle.std.proofs.lemmas.List.Concat.{flat_map-append}
use Rattle.std.proofs.lemmas.List.Sums.{fold-append}
use Rattle.std.proofs.lemmas.Map.Lookups.{exact_bytes}
use Rattle.std.specs.List.{AllByRecursion, filter, flat_map}
use Rattle.std.specs.Option.{option_or}
use Rattle.std.specs.Ordering.{is_eq}
use Rattle.std.specs.Prelude.{slice_get, unwrap_or}
use Rattle.std.specs.declared.cmp.Ordering.TheVariants.{Less, Equal}
use Rattle.wf_lists.proofs.KeyOrderLemmas.{find-put}
use Rattle.wf_val.specs.Get.{name_of, value_of}
use Rattle.wf_val.specs.NameOrder.{bytes_cmp, find_named, put_named, IsInNameOrder}
use Rattle.wf_val.specs.ValueTree.{ValueTree, Member}
use Rattle.wf_fn_list.proofs.MembershipLemmas.{equal-from_test}
use Rattle.wf_fn_sets.specs.Sets.{all_have, common_members, put_all, union_members}

-- a name that ties with one below all others isn't among them
absent : (name first : List ℕ) (ms : List Member) → bytes_cmp name first ≡ Equal
    → AllByRecursion (λ m. bytes_cmp first (name_of m) ≡ Less) ms → value_of name ms ≡ None
absent name first [] ties below = refl
absent name first (m ∷ ms) ties below =
    let less : bytes_cmp name (name_of m) ≡ Less = nat_list_cmp_total.congr name first (name_of m) ties ∙ below.0 in
    ap (λ o. option_map (λ x. x.1) (cond (is_eq o) (Some m) (find_named name_of name ms))) less ∙ absent name first ms ties below.1

put-value : (name : List ℕ) (m : Member) (all : List Member) → value_of name (put_named name_of m all)
    ≡ cond (is_eq (bytes_cmp name m.0)) (Some m.1) (value_of name all)
put-value name m all =
    ap (option_map (λ x. x.1)) (find-put nat_list_cmp_total name_of name m all)
    ∙ moved (is_eq (bytes_cmp name m.0)) (find_named name_of name all)
  where
    moved : (b : Bool) (found : Option Member) → option_map (λ x. x.1) (cond b (Some m) found)
        ≡ cond b (Some m.1) (option_map (λ x. x.1) found)
    moved true found = refl
    moved false found = refl

-- what stands under a name once members are put in turn
put_all-value : (name : List ℕ) (all ms : List Member) → IsInNameOrder name_of ms → value_of name (put_all all ms)
    ≡ option_or (value_of name ms) (value_of name all)
put_all-value name all [] order = refl
put_all-value name all (m ∷ ms) order =
    put_all-value name (put_named name_of m all) ms order.1
    ∙ ap (λ o. option_or (value_of name ms) o) (put-value name m all)
    ∙ joined (is_eq (bytes_cmp name m.0)) refl
  where
    joined : (b : Bool) → b ≡ is_eq (bytes_cmp name m.0)
        → option_or (value_of name ms) (cond b (Some m.1) (value_of name all))
        ≡ option_or (option_map (λ x. x.1) (cond b (Some m) (find_named name_of name ms))) (value_of name all)
    joined true is = ap (λ o. option_or o (Some m.1)) (absent name m.0 ms (equal-from_test (bytes_cmp name m.0) (sym is)) order.0)
    joined false is = refl

pub union-value : (objects : List (List Member)) (ms : List Member) (name : List ℕ) → IsInNameOrder name_of ms
    → value_of name (union_members (objects ++ ms ∷ [])) ≡ option_or (value_of name ms) (value_of name (union_members objects))
union-value objects ms name order =
    ap (λ l. value_of name (put_all [] l))
    (flat_map-append (λ x. x) objects (ms ∷ []) ∙ ap (λ l. flat_map (λ x. x) objects ++ l) (append-nil ms))
    ∙ ap (value_of name) (fold-append (λ all m. put_named name_of m all) [] (flat_map (λ x. x) objects) ms)
    ∙ put_all-value name (union_members objects) ms order

-- what stands under a name among members that are chosen by their names
chosen-value : (test : List ℕ → Bool) (name : List ℕ) (ms : List Member) → value_of name (filter (λ m. test m.0) ms)
    ≡ cond (test name) (value_of name ms) None
chosen-value test name [] = nothing (test name)
  where
    nothing : (b : Bool) → None ≡ cond {A = Option ValueTree} b None None
    nothing true = refl
    nothing false = refl
chosen-value test name (m ∷ ms) = at (test m.0) refl (is_eq (bytes_cmp name m.0)) refl (test name) refl (chosen-value test name ms)
  where
    differ : true ≡ false → ⊥
    differ e = cc

    at : (kept : Bool) → kept ≡ test m.0 → (same : Bool) → same ≡ is_eq (bytes_cmp name m.0) → (passes : Bool) → passes ≡ test name
        → value_of name (filter (λ x. test x.0) ms) ≡ cond passes (value_of name ms) None
        → value_of name (cond kept (m ∷ filter (λ x. test x.0) ms) (filter (λ x. test x.0) ms))
        ≡ cond passes (option_map (λ x. x.1) (cond same (Some m) (find_named name_of name ms))) None
    at true is true eq true p rest =
        ap (λ b. option_map (λ x. x.1) (cond b (Some m) (find_named name_of name (filter (λ x. test x.0) ms)))) (sym eq)
    at true is false eq passes p rest =
        ap (λ b. option_map (λ x. x.1) (cond b (Some m) (find_named name_of name (filter (λ x. test x.0) ms)))) (sym eq) ∙ rest
    at false is false eq passes p rest = rest
    at true is true eq false p rest =
        let named : name ≡ m.0 = exact_bytes name m.0 (equal-from_test (bytes_cmp name m.0) (sym eq)) in
        absurd (differ (is ∙ ap test (sym named) ∙ sym p))
    at false is true eq true p rest =
        let named : name ≡ m.0 = exact_bytes name m.0 (equal-from_test (bytes_cmp name m.0) (sym eq)) in
        absurd (differ (p ∙ ap test named ∙ sym is))
    at false is true eq false p rest = rest

last-of : (objects : List (List Member)) (ms : List Member)
    → unwrap_or (slice_get (objects ++ ms ∷ []) (length (objects ++ ms ∷ []) - 1)) [] ≡ ms
last-of objects ms =
    let place : length (objects ++ ms ∷ []) - 1 ≡ length objects = rw (length-append objects (ms ∷ [])) (omega arith) in
    ap (λ n. unwrap_or (slice_get (objects ++ ms ∷ []) n) []) place ∙ ap (λ o. unwrap_or o []) (at-end objects)
  where
    at-end : (objects : List (List Member)) → slice_get (objects ++ ms ∷ []) (length objects) ≡ Some ms
    at-end [] = refl
    at-end (o ∷ objects) = at-end objects

pub common-value : (objects : List (List Member)) (ms : List Member) (name : List ℕ)
    → value_of name (common_members (objects ++ ms ∷ [])) ≡ cond (all_have (objects ++ ms ∷ []) name) (value_of name ms) None
common-value objects ms name =
    ap (λ l. value_of name (filter (λ m. all_have (objects ++ ms ∷ []) m.0) l)) (last-of objects ms)
    ∙ chosen-value (all_have (objects ++ ms ∷ [])) name ms
