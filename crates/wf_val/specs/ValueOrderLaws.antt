-- The order of trees is total, and equal at equal trees alone.
use Rattle.std.proofs.Common.{◌≡◌, Bool, true, false, Ordering, Less, Equal, Greater, ◌⊎◌, inl, inr, ◌↔◌, ◌==◌, IsTrue, refl, ap, ap₂, sym}
use Rattle.std.specs.Cmp.{IsTotalOrder, bool_cmp_total}
use Rattle.std.specs.Ordering.{bool_cmp, ordering_then, ordering_reverse, ordering_index}
use Rattle.std.proofs.lemmas.Cmp.{nat_list_cmp_total, int_cmp_total, tied_itself}
use Rattle.std.proofs.lemmas.Map.Lookups.{exact_bytes, exact_signed}
use Rattle.wf_val.specs.NameOrder.{bytes_cmp}
use Rattle.wf_val.specs.ValueTree.{ValueTree, null, boolean, number, text, list, object, ValueTrees, no_values, value_then, MemberTrees, no_members, member_then}
use Rattle.wf_val.specs.ValueOrder.{order, trees_order, members_order}

-- two that tie in a row tie each
tied_first : (o p : Ordering) → ordering_then o p ≡ Equal → o ≡ Equal
tied_first Less p is = cc
tied_first Equal p is = refl
tied_first Greater p is = cc

tied_second : (o p : Ordering) → ordering_then o p ≡ Equal → p ≡ Equal
tied_second Less p is = cc
tied_second Equal p is = is
tied_second Greater p is = cc

exact_bool : (a b : Bool) → bool_cmp a b ≡ Equal → a ≡ b
exact_bool true true is = refl
exact_bool false false is = refl
exact_bool a b is = cc

mutual
  pub same_from_order : (x y : ValueTree) → order x y ≡ Equal → x ≡ y
  same_from_order null null is = refl
  same_from_order (boolean a) (boolean b) is = ap boolean (exact_bool a b is)
  same_from_order (number a) (number b) is = ap number (exact_signed a b is)
  same_from_order (text a) (text b) is = ap text (exact_bytes a b is)
  same_from_order (list a) (list b) is = ap list (same_from_trees_order a b is)
  same_from_order (object a) (object b) is = ap object (same_from_members_order a b is)
  same_from_order x y is = cc

  same_from_trees_order : (x y : ValueTrees) → trees_order x y ≡ Equal → x ≡ y
  same_from_trees_order no_values no_values is = refl
  same_from_trees_order (value_then a more) (value_then b rest) is =
      let first = same_from_order a b (tied_first (order a b) _ is) in
      let others = same_from_trees_order more rest (tied_second (order a b) _ is) in cc
  same_from_trees_order x y is = cc

  same_from_members_order : (x y : MemberTrees) → members_order x y ≡ Equal → x ≡ y
  same_from_members_order no_members no_members is = refl
  same_from_members_order (member_then k a more) (member_then l b rest) is =
      let both = tied_first (ordering_then (bytes_cmp k l) (order a b)) _ is in
      let name = exact_bytes k l (tied_first (bytes_cmp k l) _ both) in
      let value = same_from_order a b (tied_second (bytes_cmp k l) _ both) in
      let others = same_from_members_order more rest (tied_second (ordering_then (bytes_cmp k l) (order a b)) _ is) in cc
  same_from_members_order x y is = cc

mutual
  pub order-self : (x : ValueTree) → order x x ≡ Equal
  order-self null = refl
  order-self (boolean b) = tied_itself bool_cmp_total b
  order-self (number n) = tied_itself int_cmp_total n
  order-self (text s) = tied_itself nat_list_cmp_total s
  order-self (list ts) = trees_order-self ts
  order-self (object ms) = members_order-self ms

  trees_order-self : (x : ValueTrees) → trees_order x x ≡ Equal
  trees_order-self no_values = refl
  trees_order-self (value_then t ts) = rw (order-self t) (trees_order-self ts)

  members_order-self : (x : MemberTrees) → members_order x x ≡ Equal
  members_order-self no_members = refl
  members_order-self (member_then k t ms) = rw (tied_itself nat_list_cmp_total k, order-self t) (members_order-self ms)

Less≢Equal : Less ≡ Equal → ⊥
Less≢Equal is = cc

Greater≢Equal : Greater ≡ Equal → ⊥
Greater≢Equal is = cc

-- ---- the order the other way round

reverse-then : (o p o' p' : Ordering) → o ≡ ordering_reverse o' → p ≡ ordering_reverse p' → ordering_then o p ≡ ordering_reverse (ordering_then o' p')
reverse-then o p Less p' e f = rw e
reverse-then o p Equal p' e f = rw e f
reverse-then o p Greater p' e f = rw e

mutual
  pub order-reverse : (x y : ValueTree) → order x y ≡ ordering_reverse (order y x)
  order-reverse null null = refl
  order-reverse (boolean a) (boolean b) = bool_cmp_total.antisymm a b
  order-reverse (number a) (number b) = int_cmp_total.antisymm a b
  order-reverse (text a) (text b) = nat_list_cmp_total.antisymm a b
  order-reverse (list a) (list b) = trees_order-reverse a b
  order-reverse (object a) (object b) = members_order-reverse a b
  order-reverse x y = refl

  trees_order-reverse : (x y : ValueTrees) → trees_order x y ≡ ordering_reverse (trees_order y x)
  trees_order-reverse no_values no_values = refl
  trees_order-reverse (value_then a more) (value_then b rest) = reverse-then _ _ (order b a) (trees_order rest more) (order-reverse a b) (trees_order-reverse more rest)
  trees_order-reverse x y = refl

  members_order-reverse : (x y : MemberTrees) → members_order x y ≡ ordering_reverse (members_order y x)
  members_order-reverse no_members no_members = refl
  members_order-reverse (member_then k a more) (member_then l b rest) =
      reverse-then _ _ (ordering_then (bytes_cmp l k) (order b a)) (members_order rest more)
      (reverse-then _ _ (bytes_cmp l k) (order b a) (nat_list_cmp_total.antisymm k l) (order-reverse a b)) (members_order-reverse more rest)
  members_order-reverse x y = refl

-- ---- in a row

least_then : (o p : Ordering) → ordering_then o p ≡ Less → (o ≡ Less) ⊎ ((o ≡ Equal) × (p ≡ Less))
least_then Less p is = inl refl
least_then Equal p is = inr (refl, is)
least_then Greater p is = cc

-- of three in a row, the first parts and then the rests decide
then-trans : (xy yz xz : Ordering) (p q r : Ordering) → (xy ≡ Less → yz ≡ Less → xz ≡ Less) → (xy ≡ Equal → xz ≡ yz) → (yz ≡ Equal → xz ≡ xy) → (p ≡ Less → q ≡ Less → r ≡ Less)
    → ordering_then xy p ≡ Less → ordering_then yz q ≡ Less → ordering_then xz r ≡ Less
then-trans Less Less xz p q r both left right rest is is' = rw (both refl refl)
then-trans Less Equal xz p q r both left right rest is is' = rw (right refl)
then-trans Less Greater xz p q r both left right rest is is' = cc
then-trans Equal Less xz p q r both left right rest is is' = rw (left refl)
then-trans Equal Equal xz p q r both left right rest is is' = rw (left refl) (rest is is')
then-trans Equal Greater xz p q r both left right rest is is' = cc
then-trans Greater yz xz p q r both left right rest is is' = cc

mutual
  pub order-trans : (x y z : ValueTree) → order x y ≡ Less → order y z ≡ Less → order x z ≡ Less
  order-trans null null null is is' = cc
  order-trans (boolean a) (boolean b) (boolean c) is is' = bool_cmp_total.trans a b c is is'
  order-trans (number a) (number b) (number c) is is' = int_cmp_total.trans a b c is is'
  order-trans (text a) (text b) (text c) is is' = nat_list_cmp_total.trans a b c is is'
  order-trans (list a) (list b) (list c) is is' = trees_order-trans a b c is is'
  order-trans (object a) (object b) (object c) is is' = members_order-trans a b c is is'
  -- the next six have the last line taken at each three kinds
  order-trans x null null is is' = cc
  order-trans x (boolean b) null is is' = cc
  order-trans x (number b) null is is' = cc
  order-trans x (text b) null is is' = cc
  order-trans x (list b) null is is' = cc
  order-trans x (object b) null is is' = cc
  order-trans x y z is is' = cc

  trees_order-trans : (x y z : ValueTrees) → trees_order x y ≡ Less → trees_order y z ≡ Less → trees_order x z ≡ Less
  trees_order-trans (value_then a x) (value_then b y) (value_then c z) is is' =
      then-trans (order a b) (order b c) (order a c) (trees_order x y) (trees_order y z) (trees_order x z) (order-trans a b c)
      (λ tie. ap (λ t. order t c) (same_from_order a b tie)) (λ tie. sym (ap (order a) (same_from_order b c tie))) (trees_order-trans x y z) is is'
  trees_order-trans x no_values no_values is is' = cc
  trees_order-trans x (value_then b y) no_values is is' = cc
  trees_order-trans x y z is is' = cc

  members_order-trans : (x y z : MemberTrees) → members_order x y ≡ Less → members_order y z ≡ Less → members_order x z ≡ Less
  members_order-trans (member_then k a x) (member_then l b y) (member_then m c z) is is' =
      then-trans (ordering_then (bytes_cmp k l) (order a b)) (ordering_then (bytes_cmp l m) (order b c)) (ordering_then (bytes_cmp k m) (order a c))
      (members_order x y) (members_order y z) (members_order x z)
      (then-trans (bytes_cmp k l) (bytes_cmp l m) (bytes_cmp k m) (order a b) (order b c) (order a c) (nat_list_cmp_total.trans k l m)
      (λ tie. ap (λ n. bytes_cmp n m) (exact_bytes k l tie)) (λ tie. sym (ap (bytes_cmp k) (exact_bytes l m tie))) (order-trans a b c))
      (λ tie. ap₂ (λ n t. ordering_then (bytes_cmp n m) (order t c)) (exact_bytes k l (tied_first (bytes_cmp k l) _ tie)) (same_from_order a b (tied_second (bytes_cmp k l) _ tie)))
      (λ tie. sym (ap₂ (λ n t. ordering_then (bytes_cmp k n) (order a t)) (exact_bytes l m (tied_first (bytes_cmp l m) _ tie)) (same_from_order b c (tied_second (bytes_cmp l m) _ tie))))
      (members_order-trans x y z) is is'
  members_order-trans x no_members no_members is is' = cc
  members_order-trans x (member_then l b y) no_members is is' = cc
  members_order-trans x y z is is' = cc

pub order-total : IsTotalOrder order
order-total = record { antisymm = order-reverse; trans = order-trans; congr = λ x y z tie. ap (λ t. order t z) (same_from_order x y tie) }

-- the test for equal trees
pub same-from_test : (x y : ValueTree) (o : Ordering) (b : Bool) → o ≡ order x y → b ≡ (ordering_index o == 1) → IsTrue b ↔ (x ≡ y)
same-from_test x y Less b is test = ((λ h. cc), λ same. let tie = order-self x in absurd (Less≢Equal (rw (← same, tie) at is)))
same-from_test x y Equal b is test = ((λ h. same_from_order x y (sym is)), λ same. test)
same-from_test x y Greater b is test = ((λ h. cc), λ same. let tie = order-self x in absurd (Greater≢Equal (rw (← same, tie) at is)))
