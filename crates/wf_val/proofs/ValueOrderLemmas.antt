-- The order of trees, item by item.
use Rattle.std.proofs.Common.{◌≡◌, ℕ, zero, suc, ◌<◌, ◌≤◌, List, [], ◌∷◌, map, drop, drop_of_length-le, length, Ordering, Less, Equal, Greater, get_or, refl, sym, arith}
use Rattle.std.specs.Ordering.{ordering_then}
use Rattle.wf_val.specs.NameOrder.{bytes_cmp}
use Rattle.wf_val.specs.Seen.{tree, member}
use Rattle.wf_val.specs.ValueTree.{trees, no_values, members, no_members}
use Rattle.wf_val.specs.ValueOrder.{order, trees_order, members_order}
use Rattle.wf_val.specs.declared.val.Val.{Val}

-- an order that decides is not changed by what follows
pub then_decided : (o p : Ordering) → (o ≡ Equal → ⊥) → ordering_then o p ≡ o
then_decided Less p other = refl
then_decided Equal p other = absurd (other refl)
then_decided Greater p other = refl

-- what has ended is below what has not
trees_order-none : (ys : List Val) (i : ℕ) → i < length ys → trees_order no_values (trees (map tree (drop i ys))) ≡ Less
trees_order-none [] i lt = absurd (omega arith)
trees_order-none (y ∷ ys) zero lt = refl
trees_order-none (y ∷ ys) (suc i) lt = trees_order-none ys i (omega arith)

pub trees_order-ended : (xs ys : List Val) (i : ℕ) → length xs ≤ i → i < length ys → trees_order (trees (map tree (drop i xs))) (trees (map tree (drop i ys))) ≡ Less
trees_order-ended xs ys i le lt = rw (drop_of_length-le xs le) (trees_order-none ys i lt)

members_order-none : (ys : List (List ℕ × Val)) (i : ℕ) → i < length ys → members_order no_members (members (map member (drop i ys))) ≡ Less
members_order-none [] i lt = absurd (omega arith)
members_order-none (y ∷ ys) zero lt = refl
members_order-none (y ∷ ys) (suc i) lt = members_order-none ys i (omega arith)

pub members_order-ended : (xs ys : List (List ℕ × Val)) (i : ℕ) → length xs ≤ i → i < length ys → members_order (members (map member (drop i xs))) (members (map member (drop i ys))) ≡ Less
members_order-ended xs ys i le lt = rw (drop_of_length-le xs le) (members_order-none ys i lt)

-- members that differ decide
pub members_order-decided : (xs ys : List (List ℕ × Val)) (i : ℕ) (d e : List ℕ × Val) → i < length xs → i < length ys → (o : Ordering)
    → o ≡ ordering_then (bytes_cmp (get_or xs i d).0 (get_or ys i e).0) (order (tree (get_or xs i d).1) (tree (get_or ys i e).1)) → (o ≡ Equal → ⊥)
    → o ≡ members_order (members (map member (drop i xs))) (members (map member (drop i ys)))
members_order-decided [] ys i d e lt lt' o is other = absurd (omega arith)
members_order-decided (x ∷ xs) [] i d e lt lt' o is other = absurd (omega arith)
members_order-decided (x ∷ xs) (y ∷ ys) zero d e lt lt' o is other = rw (← is) (sym (then_decided o _ other))
members_order-decided (x ∷ xs) (y ∷ ys) (suc i) d e lt lt' o is other = members_order-decided xs ys i d e (omega arith) (omega arith) o is other
