-- The distinct items that are put together as they come are those of all items.
use Rattle.std.proofs.Common.{◌≡◌, Bool, true, false, ◌||◌, cond, List, [], ◌∷◌, ◌++◌, refl, sym, ◌∙◌, ap, subst, append_assoc}
use Rattle.std.proofs.lemmas.List.{append-nil}
use Rattle.std.proofs.lemmas.List.Folds.{list_any-append}
use Rattle.std.specs.BTreeSet.{insert_key}
use Rattle.std.specs.List.{fold}
use Rattle.std.specs.Ordering.{is_eq, match_ordering}
use Rattle.std.specs.declared.cmp.Ordering.{Ordering}
use Rattle.std.specs.declared.cmp.Ordering.TheVariants.{Less, Equal, Greater}
use Rattle.wf_val.specs.ValueOrder.{order}
use Rattle.wf_val.specs.ValueOrderLaws.{same_from_order}
use Rattle.wf_val.specs.ValueTree.{ValueTree}
use Rattle.wf_fn_list.specs.Membership.{is_among}
use Rattle.wf_fn_list.proofs.MembershipLemmas.{same-from_equal}
use Rattle.wf_fn_sets.specs.Sets.{distinct}
use Rattle.wf_fn_sets.proofs.SetLaws.{distinct-more}
use Rattle.wf_functions.specs.Collected.{with_item}
use Rattle.wf_folds.specs.Items.{Items, no_items, with_one, one_more, items_more}
use Rattle.wf_folds.proofs.CollectedLaws.{IsOf, item-more, none-yet}

or-swap : (a b c : Bool) → b || (a || c) ≡ a || (b || c)
or-swap true true c = refl
or-swap true false c = refl
or-swap false b c = refl

or-twice : (a c : Bool) → a || c ≡ a || (a || c)
or-twice true c = refl
or-twice false c = refl

inserted-at : (q x y : ValueTree) (ys : List ValueTree) (o : Ordering) → order x y ≡ o →
    is_among (insert_key order ys x) q ≡ is_eq (order q x) || is_among ys q →
    is_among (match_ordering o (x ∷ y ∷ ys) (y ∷ ys) (y ∷ insert_key order ys x)) q
    ≡ is_eq (order q x) || (is_eq (order q y) || is_among ys q)
inserted-at q x y ys Less is later = refl
inserted-at q x y ys Equal is later =
    or-twice (is_eq (order q y)) (is_among ys q)
    ∙ ap (λ z. is_eq (order q z) || (is_eq (order q y) || is_among ys q)) (sym (same_from_order x y is))
inserted-at q x y ys Greater is later =
    ap (λ b. is_eq (order q y) || b) later ∙ or-swap (is_eq (order q x)) (is_eq (order q y)) (is_among ys q)

-- a value is among those of a set with one more where it is that one, or was there
inserted : (q x : ValueTree) (ys : List ValueTree) → is_among (insert_key order ys x) q ≡ is_eq (order q x) || is_among ys q
inserted q x [] = refl
inserted q x (y ∷ ys) = inserted-at q x y ys (order x y) refl (inserted q x ys)

-- what is kept is of these items
pub record IsUnion (u : Items) (xs : List ValueTree) : Type 0 where
  pub there : (q : ValueTree) → is_among u.1 q ≡ is_among xs q
  pub kept : IsOf u.0 (distinct xs)

pub no-items : IsUnion no_items []
no-items = record { there = λ q. refl; kept = none-yet }

or-behind : (a b : Bool) → a || b ≡ b || (a || false)
or-behind true true = refl
or-behind true false = refl
or-behind false true = refl
or-behind false false = refl

known : (a b : Bool) → (a ≡ true → b ≡ true) → b ≡ b || (a || false)
known true true holds = refl
known true false holds = holds refl
known false true holds = refl
known false false holds = refl

behind : (xs : List ValueTree) (x q : ValueTree) → is_among (xs ++ x ∷ []) q ≡ is_among xs q || (is_eq (order q x) || false)
behind xs x q = list_any-append (λ y. is_eq (order q y)) xs (x ∷ [])

one-item : (u : Items) (xs : List ValueTree) (x : ValueTree) → IsUnion u xs → IsUnion (one_more u x) (xs ++ x ∷ [])
one-item u xs x is = go (is_among u.1 x) refl
  where
    go : (b : Bool) → is_among u.1 x ≡ b → IsUnion (with_one u x b) (xs ++ x ∷ [])
    go true here =
        let among : is_among xs x ≡ true = sym (is.there x) ∙ here in
        record {
          there = λ q. is.there q
              ∙ (known (is_eq (order q x)) (is_among xs q) (λ same. ap (is_among xs) (same-from_equal q x same) ∙ among)
              ∙ sym (behind xs x q));
          kept = subst (IsOf u.0)
              (sym (distinct-more xs x ∙ ap (λ b. cond b (distinct xs) (distinct xs ++ x ∷ [])) among)) is.kept;
        }
    go false here =
        let among : is_among xs x ≡ false = sym (is.there x) ∙ here in
        record {
          there = λ q. inserted q x u.1
              ∙ (ap (λ b. is_eq (order q x) || b) (is.there q)
              ∙ (or-behind (is_eq (order q x)) (is_among xs q) ∙ sym (behind xs x q)));
          kept = subst (IsOf (with_item x u.0))
              (sym (distinct-more xs x ∙ ap (λ b. cond b (distinct xs) (distinct xs ++ x ∷ [])) among))
              (item-more u.0 (distinct xs) x is.kept);
        }

pub more-items : (xs : List ValueTree) (u : Items) (done : List ValueTree) → IsUnion u done → IsUnion (items_more xs u) (done ++ xs)
more-items [] u done is = subst (IsUnion u) (sym (append-nil done)) is
more-items (x ∷ xs) u done is =
    subst (IsUnion (items_more xs (one_more u x))) (append_assoc done (x ∷ []) xs)
    (more-items xs (one_more u x) (done ++ x ∷ []) (one-item u done x is))
