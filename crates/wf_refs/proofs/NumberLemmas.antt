-- Each action of a definition that was read has a number of its own.
use Rattle.std.proofs.Common.{◌≡◌, ℕ, ◌+◌, ◌<◌, ◌≤◌, Bool, true, false, cond, ◌||◌, List, [], ◌∷◌, ◌++◌, map, Some, nat_eq, is_lt, is_eq}
use Rattle.std.proofs.Common.{Ordering, Less, Equal, Greater, refl, sym, ap, ◌∙◌, subst, arith, true≢false}
use Rattle.std.proofs.lemmas.Bool.{eqb-true, eq-eqb}
use Rattle.std.proofs.lemmas.Cmp.{nat_list_cmp_total, tied_itself}
use Rattle.std.proofs.lemmas.List.{map-append}
use Rattle.std.proofs.lemmas.List.Sums.{sum_by-cons}
use Rattle.std.proofs.lemmas.Map.Text.{is_eq-slice_cmp}
use Rattle.std.proofs.lemmas.Slice.Eq.{bytes_eq-Decides}
use Rattle.std.specs.List.{AllByRecursion, count_by, find, list_any}
use Rattle.std.specs.Ordering.{ordering_reverse}
use Rattle.std.specs.Str.{bytes_eq}
use Rattle.wf_val.specs.NameOrder.{bytes_cmp}
use Rattle.wf_def.specs.ActionTree.{ActionTree, action, action_name, action_number, KindTree, scope, branch, switch, switch_else, foreach}
use Rattle.wf_def.specs.ActionTree.{until, ActionTrees, no_actions, action_then, CaseTrees, no_cases, case_then}
use Rattle.wf_def.specs.Names.{graph_names, kind_names, cases_names}
use Rattle.wf_reading.specs.Facts.{AreNumbered, AreOnce, graph_numbers, kind_numbers, cases_numbers}
use Rattle.wf_reading.specs.Numbers.{is_below}
use Rattle.wf_def.specs.AllActions.{all_actions, cases_actions, has_number, kind_actions, numbered}

-- ---- names and numbers of all actions, in the order of the tree

joined : {X : Type 0} (f : ActionTree → X) (xs ys : List ActionTree) (ms ns : List X) → map f xs ≡ ms → map f ys ≡ ns
    → map f (xs ++ ys) ≡ ms ++ ns
joined {X} f xs ys ms ns one other =
    map-append f xs ys ∙ ap (λ (l : List X). l ++ map f ys) one ∙ ap (λ (l : List X). ms ++ l) other

mutual
  pub names_are : (g : ActionTrees) → map action_name (all_actions g) ≡ graph_names g
  names_are no_actions = refl
  names_are (action_then (action name number pointer after kind tracked) rest) =
      ap (λ (l : List (List ℕ)). name ∷ l)
      (joined action_name (kind_actions kind) (all_actions rest) (kind_names kind) (graph_names rest) (kind_names_are kind)
      (names_are rest))

  kind_names_are : (k : KindTree) → map action_name (kind_actions k) ≡ kind_names k
  kind_names_are (scope graph) = names_are graph
  kind_names_are (branch test yes' no') =
      joined action_name (all_actions yes') (all_actions no') (graph_names yes') (graph_names no') (names_are yes') (names_are no')
  kind_names_are (switch on cases) = cases_names_are cases
  kind_names_are (switch_else on cases default) =
      joined action_name (cases_actions cases) (all_actions default) (cases_names cases) (graph_names default)
      (cases_names_are cases) (names_are default)
  kind_names_are (foreach items repetitions graph) = names_are graph
  kind_names_are (until test count fails graph) = names_are graph
  kind_names_are k = refl

  cases_names_are : (cs : CaseTrees) → map action_name (cases_actions cs) ≡ cases_names cs
  cases_names_are no_cases = refl
  cases_names_are (case_then name value graph rest) =
      joined action_name (all_actions graph) (cases_actions rest) (graph_names graph) (cases_names rest) (names_are graph)
      (cases_names_are rest)

mutual
  pub numbers_are : (g : ActionTrees) → map action_number (all_actions g) ≡ graph_numbers g
  numbers_are no_actions = refl
  numbers_are (action_then (action name number pointer after kind tracked) rest) =
      ap (λ (l : List ℕ). number ∷ l)
      (joined action_number (kind_actions kind) (all_actions rest) (kind_numbers kind) (graph_numbers rest)
      (kind_numbers_are kind) (numbers_are rest))

  kind_numbers_are : (k : KindTree) → map action_number (kind_actions k) ≡ kind_numbers k
  kind_numbers_are (scope graph) = numbers_are graph
  kind_numbers_are (branch test yes' no') =
      joined action_number (all_actions yes') (all_actions no') (graph_numbers yes') (graph_numbers no') (numbers_are yes')
      (numbers_are no')
  kind_numbers_are (switch on cases) = cases_numbers_are cases
  kind_numbers_are (switch_else on cases default) =
      joined action_number (cases_actions cases) (all_actions default) (cases_numbers cases) (graph_numbers default)
      (cases_numbers_are cases)
      (numbers_are default)
  kind_numbers_are (foreach items repetitions graph) = numbers_are graph
  kind_numbers_are (until test count fails graph) = numbers_are graph
  kind_numbers_are k = refl

  cases_numbers_are : (cs : CaseTrees) → map action_number (cases_actions cs) ≡ cases_numbers cs
  cases_numbers_are no_cases = refl
  cases_numbers_are (case_then name value graph rest) =
      joined action_number (all_actions graph) (cases_actions rest) (graph_numbers graph) (cases_numbers rest) (numbers_are graph)
      (cases_numbers_are rest)

-- ---- of two names that are there fewer are below the lesser

below : (o : Ordering) → is_lt o ≡ true → o ≡ Less
below Less is = refl
below Equal is = absurd (cc)
below Greater is = absurd (cc)

below_up : (k l n : List ℕ) → bytes_cmp k l ≡ Less → is_below k n ≡ true → is_below l n ≡ true
below_up k l n less is = ap is_lt (nat_list_cmp_total.trans n k l (below (bytes_cmp n k) is) less)

le_up : (b c : Bool) → (b ≡ true → c ≡ true) → cond b 1 0 ≤ cond c 1 0
le_up true true up = omega arith
le_up true false up = absurd (true≢false (sym (up refl)))
le_up false true up = omega arith
le_up false false up = omega arith

count-then : (k n : List ℕ) (ns : List (List ℕ)) → count_by (is_below k) (n ∷ ns) ≡ cond (is_below k n) 1 0 + count_by (is_below k) ns
count-then k n ns = sum_by-cons (λ x. cond (is_below k x) 1 0) n ns

count_le : (k l : List ℕ) (ns : List (List ℕ)) → bytes_cmp k l ≡ Less → count_by (is_below k) ns ≤ count_by (is_below l) ns
count_le k l [] less = omega arith
count_le k l (n ∷ ns) less =
    omega (arith, count-then k n ns, count-then l n ns, le_up (is_below k n) (is_below l n) (below_up k l n less), count_le k l ns less)

count_lt_at : (k l n : List ℕ) (ns : List (List ℕ)) → bytes_cmp k l ≡ Less → (b : Bool) → bytes_eq k n ≡ b
    → (b || list_any (bytes_eq k) ns) ≡ true
    → (list_any (bytes_eq k) ns ≡ true → count_by (is_below k) ns < count_by (is_below l) ns)
    → count_by (is_below k) (n ∷ ns) < count_by (is_below l) (n ∷ ns)
count_lt_at k l n ns less true is there later =
    let same : k ≡ n = (bytes_eq-Decides k n).0 is in
    let here : is_below k n ≡ false = ap (λ m. is_lt (bytes_cmp m k)) (sym same) ∙ ap is_lt (tied_itself nat_list_cmp_total k) in
    let over : is_below l n ≡ true = ap (λ m. is_lt (bytes_cmp m l)) (sym same) ∙ ap is_lt less in
    let none : ◌≡◌ {A = ℕ} (cond (is_below k n) 1 0) 0 = ap (λ (b : Bool). cond b 1 0) here in
    let one : ◌≡◌ {A = ℕ} (cond (is_below l n) 1 0) 1 = ap (λ (b : Bool). cond b 1 0) over in
    omega (arith, count-then k n ns, count-then l n ns, none, one, count_le k l ns less)
count_lt_at k l n ns less false is there later =
    let rest = later there in
    omega (arith, count-then k n ns, count-then l n ns, le_up (is_below k n) (is_below l n) (below_up k l n less), rest)

count_lt : (k l : List ℕ) (ns : List (List ℕ)) → bytes_cmp k l ≡ Less → list_any (bytes_eq k) ns ≡ true
    → count_by (is_below k) ns < count_by (is_below l) ns
count_lt k l [] less there = absurd (cc)
count_lt k l (n ∷ ns) less there = count_lt_at k l n ns less (bytes_eq k n) refl there (count_lt k l ns less)

unequal_at : (m n : ℕ) (b : Bool) → nat_eq m n ≡ b → (m ≡ n → ⊥) → nat_eq m n ≡ false
unequal_at m n true is apart = absurd (apart (eqb-true m n is))
unequal_at m n false is apart = is

unequal : (m n : ℕ) → (m ≡ n → ⊥) → nat_eq m n ≡ false
unequal m n apart = unequal_at m n (nat_eq m n) refl apart

counts_apart_at : (k l : List ℕ) (ns : List (List ℕ)) (o : Ordering) → bytes_cmp k l ≡ o → list_any (bytes_eq k) ns ≡ true
    → list_any (bytes_eq l) ns ≡ true → bytes_eq k l ≡ false → count_by (is_below k) ns ≡ count_by (is_below l) ns → ⊥
counts_apart_at k l ns Less is one other apart same =
    let less = count_lt k l ns is one in omega (arith, same, less)
counts_apart_at k l ns Equal is one other apart same = true≢false (sym (ap is_eq is) ∙ is_eq-slice_cmp k l ∙ apart)
counts_apart_at k l ns Greater is one other apart same =
    let less = count_lt l k ns (nat_list_cmp_total.antisymm l k ∙ ap ordering_reverse is) other in omega (arith, same, less)

neither : (b c : Bool) → (b || c) ≡ false → (b ≡ false) × (c ≡ false)
neither true c is = absurd (cc)
neither false c is = (refl, is)

-- ---- so an action is found by its number

-- an action whose name is there, and whose number is how many names are below it
abbrev pub IsPlaced : List (List ℕ) → ActionTree → Type 0
IsPlaced ns a = (action_number a ≡ count_by (is_below (action_name a)) ns) × (list_any (bytes_eq (action_name a)) ns ≡ true)

apart_from : (ns : List (List ℕ)) (a : ActionTree) (rest : List ActionTree) → IsPlaced ns a → AllByRecursion (IsPlaced ns) rest
    → list_any (bytes_eq (action_name a)) (map action_name rest) ≡ false
    → AllByRecursion (λ b. nat_eq (action_number b) (action_number a) ≡ false) rest
apart_from ns a [] here all once = tt
apart_from ns a (b ∷ rest) here all once =
    let (apart, later) = neither (bytes_eq (action_name a) (action_name b))
    (list_any (bytes_eq (action_name a)) (map action_name rest)) once in (
      unequal (action_number b) (action_number a) (λ same. counts_apart_at (action_name a) (action_name b) ns
          (bytes_cmp (action_name a) (action_name b)) refl here.1 all.0.1 apart (sym here.0 ∙ sym same ∙ all.0.0)),
      apart_from ns a rest here all.1 later,
    )

behind : (a : ActionTree) (all rest : List ActionTree) → AllByRecursion (λ b. nat_eq (action_number b) (action_number a) ≡ false) rest
    → AllByRecursion (λ b. find (has_number (action_number b)) all ≡ Some b) rest
    → AllByRecursion (λ b. find (has_number (action_number b)) (a ∷ all) ≡ Some b) rest
behind a all [] apart found = tt
behind a all (b ∷ rest) apart found =
    (ap (λ (c : Bool). cond c (Some a) (find (has_number (action_number b)) all)) apart.0 ∙ found.0, behind a all rest apart.1 found.1)

found_all : (ns : List (List ℕ)) (as' : List ActionTree) → AllByRecursion (IsPlaced ns) as' → AreOnce (map action_name as')
    → AllByRecursion (λ a. find (has_number (action_number a)) as' ≡ Some a) as'
found_all ns [] placed once = tt
found_all ns (a ∷ rest) placed once = (
  ap (λ (c : Bool). cond c (Some a) (find (has_number (action_number a)) rest)) (eq-eqb (action_number a) (action_number a) refl),
  behind a rest rest (apart_from ns a rest placed.0 placed.1 once.0) (found_all ns rest placed.1 once.1),
)

-- ---- and all actions are so placed

abbrev first_number : List ℕ → ℕ
first_number [] = 0
first_number (n ∷ ns) = n

abbrev other_numbers : List ℕ → List ℕ
other_numbers [] = []
other_numbers (n ∷ ns) = ns

or_there : (b c : Bool) → c ≡ true → (b || c) ≡ true
or_there true c is = refl
or_there false c is = is

there_behind : (k : List ℕ) (ns : List (List ℕ)) (rest : List ActionTree)
    → AllByRecursion (λ b. list_any (bytes_eq (action_name b)) ns ≡ true) rest
    → AllByRecursion (λ b. list_any (bytes_eq (action_name b)) (k ∷ ns) ≡ true) rest
there_behind k ns [] all = tt
there_behind k ns (b ∷ rest) all =
    (or_there (bytes_eq (action_name b) k) (list_any (bytes_eq (action_name b)) ns) all.0, there_behind k ns rest all.1)

there : (as' : List ActionTree) → AllByRecursion (λ a. list_any (bytes_eq (action_name a)) (map action_name as') ≡ true) as'
there [] = tt
there (a ∷ rest) = (
  ap (λ (b : Bool). b || list_any (bytes_eq (action_name a)) (map action_name rest))
      ((bytes_eq-Decides (action_name a) (action_name a)).1 refl),
  there_behind (action_name a) (map action_name rest) rest (there rest),
)

placed : (ns : List (List ℕ)) (as' : List ActionTree) → map action_number as' ≡ map (λ k. count_by (is_below k) ns) (map action_name as')
    → AllByRecursion (λ a. list_any (bytes_eq (action_name a)) ns ≡ true) as' → AllByRecursion (IsPlaced ns) as'
placed ns [] same all = tt
placed ns (a ∷ rest) same all = ((ap first_number same, all.0), placed ns rest (ap other_numbers same) all.1)

pub numbers_find : (g : ActionTrees) → AreOnce (graph_names g) → AreNumbered g
    → AllByRecursion (λ a. numbered (action_number a) g ≡ Some a) (all_actions g)
numbers_find g once numbered' =
    let as' = all_actions g in
    let names = names_are g in
    let same : map action_number as' ≡ map (λ k. count_by (is_below k) (map action_name as')) (map action_name as') =
    numbers_are g ∙ numbered' ∙ ap (λ (ns : List (List ℕ)). map (λ k. count_by (is_below k) ns) ns) (sym names) in
    found_all (map action_name as') as' (placed (map action_name as') as' same (there as')) (subst AreOnce (sym names) once)
