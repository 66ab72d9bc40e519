-- A count that falls by one.
use Rattle.std.proofs.Common.{◌≡◌, ℕ, zero, suc, ◌<◌, ◌≤◌, ◌-◌, Bool, true, false, ◌&&◌, ◌||◌, cond, List, [], ◌∷◌, length, Option, Some, None, option_map, is_eq, nat_eq, ⊎_elim, refl, sym, ap, ap₂, ◌∙◌, subst, arith, eqb-true}
use Rattle.std.proofs.lemmas.Map.Text.{is_eq-slice_cmp}
use Rattle.std.proofs.lemmas.Option.{none-some}
use Rattle.wf_lists.specs.KeyOrder.{IsInKeyOrder, find_key, put_key, without_key}
use Rattle.wf_plan.specs.Address.{Address, Table, is_own, same_at}
use Rattle.wf_plan.specs.Machine.{or_else}
use Rattle.wf_plan.specs.Meaning.{only}
use Rattle.wf_plan.proofs.Basics.{two, when, unless}
use Rattle.wf_plan.proofs.Tables.{own_is, same_at_is}
use Rattle.wf_plan.specs.Definition.{Graph, Kind, done, add, kind_of, needs_of}
use Rattle.wf_kept.specs.Counted.{nonzero, less, size}
use Rattle.wf_plan.specs.Instances.{address_of, instance_cmp, instance_key}
use Rattle.wf_plan.specs.Instance.{Instance}
use Rattle.wf_plan.specs.Known.{is_among}
use Rattle.wf_plan.specs.Plan.{PlanTree, own_numbers}
use Rattle.wf_plan.specs.PlanOf.{IsPlanOf}
use Rattle.wf_tables.specs.Counts.{entered_counts, needs_at, needs_or_none, or_zero, set_all}
use Rattle.wf_tables.specs.Tables.{count_in}
use Rattle.wf_tables.specs.declared.entries.CountAt.{CountAt}
use Rattle.wf_tables.proofs.TableLemmas.{bytes_same, table_put, table_take}

abbrev pub place_of : CountAt → Instance
place_of c = c.instance

-- what is found by a key has it
pub found_there : (k : Instance) (xs : List CountAt) (c : CountAt) → find_key instance_cmp place_of k xs ≡ Some c → c.instance ≡ k
found_there k [] c e = absurd (none-some c e)
found_there k (x ∷ xs) c e =
    ⊎_elim
    (λ t. let it : Some x ≡ Some c = sym (when (is_eq (instance_cmp k x.instance)) (Some x) (find_key instance_cmp place_of k xs) t) ∙ e in
    let is : x ≡ c = cc in
    let key : instance_key x.instance ≡ instance_key k =
    same_at_is (instance_key x.instance) (instance_key k)
    (sym (is_eq-slice_cmp (instance_key k) (instance_key x.instance) ∙ bytes_same (instance_key k) (instance_key x.instance)) ∙ t) in
    ap place_of (sym is) ∙ ap₂ (λ n i. record { action = n; at = i }) (head key) (tail key))
    (λ u. found_there k xs c (sym (unless (is_eq (instance_cmp k x.instance)) (Some x) (find_key instance_cmp place_of k xs) u) ∙ e))
    (two (is_eq (instance_cmp k x.instance)))
  where
    head : {a b : ℕ} {as' bs : List ℕ} → (a ∷ as') ≡ (b ∷ bs) → a ≡ b
    head e = cc (e)

    tail : {a b : ℕ} {as' bs : List ℕ} → (a ∷ as') ≡ (b ∷ bs) → as' ≡ bs
    tail e = cc (e)

-- a count of more than one is kept
pub kept_count : (k : Instance) (xs : List CountAt) → 1 < or_zero (count_in xs (address_of k))
    → find_key instance_cmp place_of k xs ≡ None → ⊥
kept_count k xs more none = let z : or_zero (count_in xs (address_of k))
    ≡ 0 = ap (λ o. or_zero (option_map (λ (c : CountAt). c.count) o)) none in
    omega (arith, more, z)

some_kept : (o : Option ℕ) → 1 < or_zero o → less 1 o ≡ Some (or_zero o - 1)
some_kept None more = absurd (omega (arith, more))
some_kept (Some zero) more = absurd (omega (arith, more))
some_kept (Some (suc zero)) more = absurd (omega (arith, more))
some_kept (Some (suc (suc n))) more = let is : suc (suc n) - 1 ≡ suc n = omega arith in rw is refl

none_kept : (o : Option ℕ) → or_zero o ≤ 1 → less 1 o ≡ None
none_kept None le = refl
none_kept (Some n) le = let is : n - 1 ≡ 0 = omega (arith, le) in ap nonzero is

module _ (k : Instance) (xs : List CountAt) where
  own_count : (x : Address) → is_own k.action k.at x ≡ true → count_in xs x ≡ count_in xs (address_of k)
  own_count x t = ap (count_in xs) (sym (own_is k.action k.at x t))

  pub more_lowered : (c : ℕ) → c ≡ or_zero (count_in xs (address_of k)) → 1 < c → (x : Address)
      → count_in (put_key instance_cmp place_of (record { instance = k; count = c - 1 }) xs) x
      ≡ cond (is_own k.action k.at x) (less 1 (count_in xs x)) (count_in xs x)
  more_lowered c is more x =
      ap (λ t. t x) (table_put place_of (λ (z : CountAt). z.count) (record { instance = k; count = c - 1 }) xs)
      ∙ ⊎_elim
      (λ t. ap (λ b. or_else (only b (Some (c - 1))) (count_in xs x)) t
      ∙ sym (when (is_own k.action k.at x) (less 1 (count_in xs x)) (count_in xs x) t ∙ ap (less 1) (own_count x t)
      ∙ some_kept (count_in xs (address_of k)) (subst (λ n. 1 < n) is more) ∙ ap (λ n. Some (n - 1)) (sym is)))
      (λ u. ap (λ b. or_else (only b (Some (c - 1))) (count_in xs x)) u
      ∙ sym (unless (is_own k.action k.at x) (less 1 (count_in xs x)) (count_in xs x) u))
      (two (is_own k.action k.at x))

  pub last_lowered : IsInKeyOrder instance_cmp place_of xs → or_zero (count_in xs (address_of k)) ≤ 1 → (x : Address)
      → count_in (without_key instance_cmp place_of k xs) x
      ≡ cond (is_own k.action k.at x) (less 1 (count_in xs x)) (count_in xs x)
  last_lowered order le x =
      ap (λ t. t x) (table_take place_of (λ (z : CountAt). z.count) k xs order)
      ∙ ⊎_elim
      (λ t. when (is_own k.action k.at x) None (count_in xs x) t
      ∙ sym (when (is_own k.action k.at x) (less 1 (count_in xs x)) (count_in xs x) t ∙ ap (less 1) (own_count x t)
      ∙ none_kept (count_in xs (address_of k)) le))
      (λ u. unless (is_own k.action k.at x) None (count_in xs x) u
      ∙ sym (unless (is_own k.action k.at x) (less 1 (count_in xs x)) (count_in xs x) u))
      (two (is_own k.action k.at x))

-- one follower more
pub lower_more : (n : ℕ) (ns : List ℕ) (at : List ℕ) (x : Address) (old new : Option ℕ) → is_among n ns ≡ false
    → new ≡ cond (is_own n at x) (less 1 old) old
    → cond (is_among x.name ns && same_at at x.at) (less 1 new) new ≡ cond (is_among x.name (n ∷ ns) && same_at at x.at) (less 1 old) old
lower_more n ns at x old new apart e = go (nat_eq n x.name) refl
  where
    go : (b : Bool) → nat_eq n x.name ≡ b
        → cond (is_among x.name ns && same_at at x.at) (less 1 new) new
        ≡ cond ((nat_eq n x.name || is_among x.name ns) && same_at at x.at) (less 1 old) old
    go true t =
        let gone : is_among x.name ns ≡ false = ap (λ z. is_among z ns) (sym (eqb-true n x.name t)) ∙ apart in
        ap (λ z. cond (z && same_at at x.at) (less 1 new) new) gone
        ∙ e ∙ ap (λ z. cond (z && same_at at x.at) (less 1 old) old) t
        ∙ sym (ap (λ z. cond ((z || is_among x.name ns) && same_at at x.at) (less 1 old) old) t)
    go false u =
        let same : new ≡ old = e ∙ ap (λ z. cond (z && same_at at x.at) (less 1 old) old) u in
        ap (λ z. cond (is_among x.name ns && same_at at x.at) (less 1 z) z) same
        ∙ sym (ap (λ z. cond ((z || is_among x.name ns) && same_at at x.at) (less 1 old) old) u)

-- ---- counts that are put

some_count : (c : ℕ) → 0 < c → Some c ≡ nonzero c
some_count zero lt = absurd (omega (arith, lt))
some_count (suc c) lt = refl

pub count_put : (item : CountAt) (xs : List CountAt) → 0 < item.count → (x : Address)
    → count_in (put_key instance_cmp place_of item xs) x
    ≡ cond (is_own item.instance.action item.instance.at x) (nonzero item.count) (count_in xs x)
count_put item xs lt x =
    ap (λ t. t x) (table_put place_of (λ (z : CountAt). z.count) item xs)
    ∙ ⊎_elim
    (λ t. ap (λ b. or_else (only b (Some item.count)) (count_in xs x)) t ∙ some_count item.count lt
    ∙ sym (when (is_own item.instance.action item.instance.at x) (nonzero item.count) (count_in xs x) t))
    (λ u. ap (λ b. or_else (only b (Some item.count)) (count_in xs x)) u
    ∙ sym (unless (is_own item.instance.action item.instance.at x) (nonzero item.count) (count_in xs x) u))
    (two (is_own item.instance.action item.instance.at x))

pub count_removed : (k : Instance) (c : ℕ) (xs : List CountAt) → IsInKeyOrder instance_cmp place_of xs → c ≡ 0 → (x : Address)
    → count_in (without_key instance_cmp place_of k xs) x ≡ cond (is_own k.action k.at x) (nonzero c) (count_in xs x)
count_removed k c xs order zero_is x =
    ap (λ t. t x) (table_take place_of (λ (z : CountAt). z.count) k xs order)
    ∙ ap (λ z. cond (is_own k.action k.at x) (nonzero z) (count_in xs x)) (sym zero_is)

-- one more of several
pub set_next : (c : CountAt) (cs old new : List CountAt)
    → ((x : Address) → count_in new x ≡ cond (is_own c.instance.action c.instance.at x) (nonzero c.count) (count_in old x)) → (x : Address)
    → set_all cs (count_in new) x ≡ set_all (c ∷ cs) (count_in old) x
set_next c cs old new e x =
    let same : count_in new ≡ (λ (y : Address). cond (is_own c.instance.action c.instance.at y) (nonzero c.count) (count_in old y)) =
    λ k y. e y k in
    ap (λ (t : Table ℕ). set_all cs t x) same

-- ---- a graph that is entered

abbrev entered_count : PlanTree → ℕ → Option ℕ
entered_count p n = nonzero (length (needs_at p n))

-- each of its actions waits for all that it names, and every other one as before
pub entered_set : (p : PlanTree) (at ns : List ℕ) (t : Table ℕ) (x : Address)
    → set_all (entered_counts p at ns) t x
    ≡ cond (is_among x.name ns && same_at at x.at) (nonzero (length (needs_at p x.name))) (t x)
entered_set p at [] t x = refl
entered_set p at (n ∷ ns) t x =
    entered_set p at ns (λ y. cond (is_own n at y) (entered_count p n) (t y)) x
    ∙ go (nat_eq n x.name) (is_among x.name ns) (same_at at x.at) refl
  where
    go : (a b c : Bool) → nat_eq n x.name ≡ a
        → cond (b && c) (entered_count p x.name) (cond (a && c) (entered_count p n) (t x))
        ≡ cond ((a || b) && c) (entered_count p x.name) (t x)
    go true true true e = refl
    go true true false e = refl
    go true false true e = ap (entered_count p) (eqb-true n x.name e)
    go true false false e = refl
    go false true true e = refl
    go false true false e = refl
    go false false true e = refl
    go false false false e = refl

-- which is what the graph says, where the plan is one of it
pub needs_are : (d : Graph) (p : PlanTree) → IsPlanOf d p → (n : ℕ) (kind : Kind) → kind_of d n ≡ Some kind → needs_at p n ≡ needs_of d n
needs_are d p plan n kind is = let found = plan.entry n kind is in ap needs_or_none found.1 ∙ found.2.after

pub own_size : (g : Graph) → length (own_numbers g) ≡ size g
own_size done = refl
own_size (add n after kind rest) = ap suc (own_size rest)
