-- The least of what is missing, in parts.
use Rattle.std.proofs.Common.{◌≡◌, ℕ, zero, suc, ◌+◌, ◌<◌, ◌≤◌, Bool, true, false, cond, List, [], ◌∷◌, ◌++◌}
use Rattle.std.proofs.Common.{Option, Some, None}
use Rattle.std.proofs.Common.{drop, get_or, length, rules, is_none, is_some, not, option_map, refl, sym, ap, ◌∙◌, append_assoc, arith}
use Rattle.std.proofs.Common.{true≢false, Ordering, Less, Equal, Greater, nat_eq}
use Rattle.std.specs.List.{AllByRecursion}
use Rattle.std.specs.Cmp.Lexicographic.{slice_cmp}
use Rattle.std.specs.Ordering.{is_lt, nat_cmp, ordering_reverse, ordering_then}
use Rattle.std.proofs.Math.Seq.{drop-cons}
use Rattle.std.proofs.lemmas.Bool.{lt-ltb}
use Rattle.std.proofs.lemmas.Cmp.{nat_cmp_total, nat_list_cmp_total, tied_itself}
use Rattle.wf_layers.proofs.Basics.{unless, when}
use Rattle.wf_val.specs.Address.{address_cmp}
use Rattle.wf_val.specs.NameOrder.{bytes_cmp}
use Rattle.wf_val.specs.declared.address.Address.{Address}
use Rattle.wf_def.specs.ActionSeen.{action_tree}
use Rattle.wf_def.specs.ActionTree.{ActionTree, action_name}
use Rattle.wf_def.specs.declared.graph.Action.{Action, out-Action}
use Rattle.wf_def.specs.declared.graph.Kind.TheFolds.{fold_out-Action}
use Rattle.wf_record.specs.Record.{RowTree, find_row}
use Rattle.wf_shaped.specs.Least.{is_below, is_under, least_from, lesser}
use Rattle.wf_shaped.specs.Told.{instances, instances_of, missing, turns_from}
use Rattle.wf_shaped.proofs.LeastLemmas.{above_stays, least_joined, least_stays, less_is, not_below_lesser}

abbrev at_address : List ℕ → List ℕ → Address
at_address k i = record { name = k; at = i }

-- ---- lists in two parts

missing_joined : (rows : List RowTree) (xs ys : List Address) → missing rows (xs ++ ys) ≡ missing rows xs ++ missing rows ys
missing_joined rows [] ys = refl
missing_joined rows (x ∷ xs) ys = elim (is_none (find_row x rows)) as (λ b. cond b (x ∷ missing rows (xs ++ ys)) (missing rows (xs ++ ys))
    ≡ cond b (x ∷ missing rows xs) (missing rows xs) ++ missing rows ys) [
      | true ↦ ap (λ l. x ∷ l) (missing_joined rows xs ys)
      | false ↦ missing_joined rows xs ys
    ]

pub least_in_two : (rows : List RowTree) (o : Option Address) (xs ys : List Address)
    → least_from o (missing rows (xs ++ ys)) ≡ least_from (least_from o (missing rows xs)) (missing rows ys)
least_in_two rows o xs ys = ap (least_from o) (missing_joined rows xs ys) ∙ least_joined o (missing rows xs) (missing rows ys)

flat_joined : (ats : List (List ℕ)) (xs ys : List ActionTree) → instances_of ats (xs ++ ys) ≡ instances_of ats xs ++ instances_of ats ys
flat_joined ats [] ys = refl
flat_joined ats (x ∷ xs) ys =
    ap (λ l. instances ats x ++ l) (flat_joined ats xs ys)
    ∙ sym (append_assoc (instances ats x) (instances_of ats xs) (instances_of ats ys))

pub least_of_both : (rows : List RowTree) (o : Option Address) (ats : List (List ℕ)) (xs ys : List ActionTree)
    → least_from o (missing rows (instances_of ats (xs ++ ys)))
    ≡ least_from (least_from o (missing rows (instances_of ats xs))) (missing rows (instances_of ats ys))
least_of_both rows o ats xs ys =
    ap (λ l. least_from o (missing rows l)) (flat_joined ats xs ys) ∙ least_in_two rows o (instances_of ats xs) (instances_of ats ys)

-- ---- of one action

front_less : (i : List ℕ) (j k : ℕ) → j < k → slice_cmp nat_cmp (i ++ j ∷ []) (i ++ k ∷ []) ≡ Less
front_less [] j k less = ap (λ b. ordering_then (cond b Less (cond (nat_eq j k) Equal Greater)) Equal) (lt-ltb j k less)
front_less (a ∷ i) j k less = ap (λ o. ordering_then o (slice_cmp nat_cmp (i ++ j ∷ []) (i ++ k ∷ []))) (tied a) ∙ front_less i j k less
  where
    tied : (n : ℕ) → nat_cmp n n ≡ Equal
    tied n = tied_itself nat_cmp_total n

later_above : (name i : List ℕ) (j k : ℕ) → j < k → address_cmp (at_address name (i ++ j ∷ [])) (at_address name (i ++ k ∷ [])) ≡ Less
later_above name i j k less =
    ap (λ o. ordering_then o (slice_cmp nat_cmp (i ++ j ∷ []) (i ++ k ∷ []))) (tied_itself nat_list_cmp_total name) ∙ front_less i j k less

all_missing : (P : Address → Type 0) (rows : List RowTree) (ys : List Address) → AllByRecursion P ys → AllByRecursion P (missing rows ys)
all_missing P rows [] all = tt
all_missing P rows (y ∷ ys) all =
    elim (is_none (find_row y rows)) as (λ b. AllByRecursion P (cond b (y ∷ missing rows ys) (missing rows ys))) [
      | true ↦ (all.0, all_missing P rows ys all.1)
      | false ↦ all_missing P rows ys all.1
    ]

turns_above : (a : ActionTree) (i : List ℕ) (o : Option Address) (j k n : ℕ) → j < k
    → is_below (at_address (action_name a) (i ++ j ∷ [])) o ≡ false
    → AllByRecursion (λ y. is_below y o ≡ false) (instances (turns_from i k n) a)
turns_above a i o j k zero less is = tt
turns_above a i o j k (suc n) less is = (
  above_stays o (at_address (action_name a) (i ++ j ∷ [])) (at_address (action_name a) (i ++ k ∷ [])) is
      (later_above (action_name a) i j k less),
  turns_above a i o j (suc k) n (omega (arith, less)) is,
)

pub first_missing : (rows : List RowTree) (a : ActionTree) (i : List ℕ) (o : Option Address) (k n m : ℕ) → m ≡ suc n
    → is_none (find_row (at_address (action_name a) (i ++ k ∷ [])) rows) ≡ true
    → least_from o (missing rows (instances (turns_from i k m) a)) ≡ lesser o (at_address (action_name a) (i ++ k ∷ []))
first_missing rows a i o k n m is none =
    let y = at_address (action_name a) (i ++ k ∷ []) in
    let rest = missing rows (instances (turns_from i (suc k) n) a) in
    ap (λ c. least_from o (missing rows (instances (turns_from i k c) a))) is
    ∙ (ap (least_from o) (when (is_none (find_row y rows)) (y ∷ rest) rest none)
    ∙ least_stays (lesser o y) rest (all_missing (λ z. is_below z (lesser o y) ≡ false) rows (instances (turns_from i (suc k) n) a)
    (turns_above a i (lesser o y) k (suc k) n (omega arith) (not_below_lesser o y))))

pub one_there : (rows : List RowTree) (a : ActionTree) (i : List ℕ) (o : Option Address) (k n m l : ℕ) → m ≡ suc n → l ≡ suc k
    → is_none (find_row (at_address (action_name a) (i ++ k ∷ [])) rows) ≡ false
    → least_from o (missing rows (instances (turns_from i l n) a)) ≡ least_from o (missing rows (instances (turns_from i k m) a))
one_there rows a i o k n m l is next there =
    let y = at_address (action_name a) (i ++ k ∷ []) in
    let rest = missing rows (instances (turns_from i (suc k) n) a) in
    ap (λ c. least_from o (missing rows (instances (turns_from i c n) a))) next
    ∙ sym (ap (λ c. least_from o (missing rows (instances (turns_from i k c) a))) is
    ∙ ap (least_from o) (unless (is_none (find_row y rows)) (y ∷ rest) rest there))

-- ---- where all of a name are above

after_greater : (o p : Ordering) → o ≡ Less → is_lt (ordering_then (ordering_reverse o) p) ≡ false
after_greater o p is = ap (λ q. is_lt (ordering_then (ordering_reverse q) p)) is

under_above : (o : Option Address) (k i : List ℕ) → is_under o k ≡ true → is_below (at_address k i) o ≡ false
under_above None k i is = absurd (true≢false (sym is))
under_above (Some a) k i is =
    ap (λ q. is_lt (ordering_then q (slice_cmp nat_cmp i a.at))) (nat_list_cmp_total.antisymm k a.name)
    ∙ after_greater (bytes_cmp a.name k) (slice_cmp nat_cmp i a.at) (less_is (bytes_cmp a.name k) is)

all_above : (o : Option Address) (a : ActionTree) (ats : List (List ℕ)) → is_under o (action_name a) ≡ true
    → AllByRecursion (λ y. is_below y o ≡ false) (instances ats a)
all_above o a [] is = tt
all_above o a (i ∷ ats) is = (under_above o (action_name a) i is, all_above o a ats is)

pub none_of_name : (rows : List RowTree) (o : Option Address) (a : ActionTree) (ats : List (List ℕ)) → is_under o (action_name a) ≡ true
    → least_from o (missing rows (instances ats a)) ≡ o
none_of_name rows o a ats is =
    least_stays o (missing rows (instances ats a)) (all_missing (λ y. is_below y o ≡ false) rows (instances ats a) (all_above o a ats is))

-- ---- whether a row is found

pub none_seen : {X Y : Type 0} (f : X → Y) (o : Option X) (p : Option Y) (b : Bool) → option_map f o ≡ p → is_some o ≡ not b
    → is_none p ≡ b
none_seen f None p true is there = ap is_none (sym is)
none_seen f None p false is there = absurd (true≢false (sym there))
none_seen f (Some x) p true is there = absurd (true≢false there)
none_seen f (Some x) p false is there = ap is_none (sym is)

-- ---- loops over slices

pub cut_at : {X : Type 0} (xs : List X) (i : ℕ) (x : X) → x ≡ get_or xs i x → i < length xs → drop i xs ≡ x ∷ drop (i + 1) xs
cut_at {X = X} xs i x is within =
    drop-cons xs i x within
    ∙ (ap (λ (y : X). y ∷ drop (suc i) xs) (sym is) ∙ ap (λ (k : ℕ). x ∷ drop k xs) (next i))
  where
    next : (k : ℕ) → suc k ≡ k + 1
    next k = omega arith

pub name_is : (a : Action) → (out-Action a).name ≡ action_name (action_tree a)
name_is a = search (rules, fold_out-Action)
