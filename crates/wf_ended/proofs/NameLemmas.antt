-- The numbers of actions go as their names do.
use Rattle.std.proofs.Common.{◌≡◌, ℕ, ◌+◌, ◌<◌, ◌≤◌, Bool, true, false, cond, List, [], ◌∷◌, map, Some, is_lt}
use Rattle.std.proofs.Common.{Ordering, Less, Equal, Greater, inl, inr, refl, sym, ap, ◌∙◌, arith, true≢false}
use Rattle.std.proofs.lemmas.Bool.{eqb-true}
use Rattle.std.proofs.lemmas.Cmp.{nat_list_cmp_total}
use Rattle.std.proofs.lemmas.List.Sums.{sum_by-cons}
use Rattle.std.specs.List.{AllByRecursion, count_by, find}
use Rattle.std.specs.Ordering.{ordering_reverse}
use Rattle.wf_val.specs.NameOrder.{bytes_cmp}
use Rattle.wf_layers.proofs.Basics.{two, when, unless}
use Rattle.wf_def.specs.ActionTree.{ActionTree, ActionTrees, action_name, action_number}
use Rattle.wf_def.specs.AllActions.{all_actions, has_number, numbered}
use Rattle.wf_def.specs.Names.{graph_names}
use Rattle.wf_catalog.specs.Facts.{AreNumbered}
use Rattle.wf_catalog.specs.Numbers.{is_below}
use Rattle.wf_catalog.proofs.NumberLemmas.{names_are, numbers_are}
use Rattle.std.proofs.lemmas.Map.Lookups.{exact_bytes}

-- ---- of two names as many are below the lesser at most

below : (o : Ordering) → is_lt o ≡ true → o ≡ Less
below Less is = refl
below Equal is = absurd (cc)
below Greater is = absurd (cc)

below_up : (k l n : List ℕ) → bytes_cmp k l ≡ Less → is_below k n ≡ true → is_below l n ≡ true
below_up k l n less is = ap is_lt (nat_list_cmp_total.trans n k l (below (bytes_cmp n k) is) less)

le_up : (b c : Bool) → (b ≡ true → c ≡ true) → cond b 1 0 ≤ cond c 1 0
le_up true true up = omega arith
le_up true false up = absurd (true≢false (sym (up refl)))
le_up false true up = omega arith
le_up false false up = omega arith

count_then : (k n : List ℕ) (ns : List (List ℕ)) → count_by (is_below k) (n ∷ ns) ≡ cond (is_below k n) 1 0 + count_by (is_below k) ns
count_then k n ns = sum_by-cons (λ x. cond (is_below k x) 1 0) n ns

count_le : (k l : List ℕ) (ns : List (List ℕ)) → bytes_cmp k l ≡ Less → count_by (is_below k) ns ≤ count_by (is_below l) ns
count_le k l [] less = omega arith
count_le k l (n ∷ ns) less =
    omega (arith, count_then k n ns, count_then l n ns, le_up (is_below k n) (is_below l n) (below_up k l n less), count_le k l ns less)

-- so of two names with as many below them the one with fewer is the lesser
module _ (ns : List (List ℕ)) (k l : List ℕ) (fewer : count_by (is_below k) ns < count_by (is_below l) ns) where
  lesser_at : (o : Ordering) → bytes_cmp k l ≡ o → bytes_cmp k l ≡ Less
  lesser_at Less is = is
  lesser_at Equal is =
      let same : k ≡ l = exact_bytes k l is in
      let counts : count_by (is_below k) ns ≡ count_by (is_below l) ns = ap (λ (n : List ℕ). count_by (is_below n) ns) same in
      absurd (omega (arith, counts, fewer))
  lesser_at Greater is =
      let other = count_le l k ns (nat_list_cmp_total.antisymm l k ∙ ap ordering_reverse is) in
      absurd (omega (arith, other, fewer))

  lesser : bytes_cmp k l ≡ Less
  lesser = lesser_at (bytes_cmp k l) refl

-- ---- each action's number is how many names are below its own

abbrev first_number : List ℕ → ℕ
first_number [] = 0
first_number (n ∷ ns) = n

abbrev other_numbers : List ℕ → List ℕ
other_numbers [] = []
other_numbers (n ∷ ns) = ns

module _ (ns : List (List ℕ)) where
  abbrev Counted : ActionTree → Type 0
  Counted a = action_number a ≡ count_by (is_below (action_name a)) ns

  counted : (as' : List ActionTree) → map action_number as' ≡ map (λ k. count_by (is_below k) ns) (map action_name as')
      → AllByRecursion Counted as'
  counted [] same = tt
  counted (a ∷ rest) same = (ap first_number same, counted rest (ap other_numbers same))

  found_counted : (n : ℕ) (as' : List ActionTree) (a : ActionTree) → AllByRecursion Counted as' → find (has_number n) as' ≡ Some a
      → n ≡ count_by (is_below (action_name a)) ns
  found_counted n [] a all is = absurd (cc)
  found_counted n (b ∷ rest) a all is = elim (two (has_number n b)) [
    | inl t ↦
        let it : Some b ≡ Some a = sym (when (has_number n b) (Some b) (find (has_number n) rest) t) ∙ is in
        let same : b ≡ a = cc (it) in
        eqb-true n (action_number b) t ∙ all.0 ∙ ap (λ (c : ActionTree). count_by (is_below (action_name c)) ns) same
    | inr f ↦ found_counted n rest a all.1 (sym (unless (has_number n b) (Some b) (find (has_number n) rest) f) ∙ is)
  ]

-- THE LAW
pub names_ascend : (g : ActionTrees) → AreNumbered g → (m n : ℕ) (a b : ActionTree) → numbered m g ≡ Some a → numbered n g ≡ Some b → m < n
    → bytes_cmp (action_name a) (action_name b) ≡ Less
names_ascend g are m n a b one other less =
    let ns = graph_names g in
    let all = counted ns (all_actions g) (numbers_are g ∙ are ∙ ap (map (λ k. count_by (is_below k) ns)) (sym (names_are g))) in
    let here = found_counted ns m (all_actions g) a all one in
    let there = found_counted ns n (all_actions g) b all other in
    lesser ns (action_name a) (action_name b) (omega (arith, here, there, less))
