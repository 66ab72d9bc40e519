-- An open container that is replaced by one that differs in what is unfinished alone.
use Rattle.std.proofs.Common.{◌≡◌, ℕ, ◌-◌, Bool, true, false, cond, List, [], ◌∷◌, Option, Some, None, option_map, is_eq, ⊎_elim, refl, sym, ap, ap₂, ◌∙◌}
use Rattle.std.proofs.lemmas.Map.Text.{is_eq-slice_cmp}
use Rattle.std.proofs.lemmas.Option.{none-some}
use Rattle.wf_lists.specs.KeyOrder.{IsInKeyOrder, find_key, put_key, without_key}
use Rattle.wf_plan.specs.Address.{Address, is_own}
use Rattle.wf_plan.specs.Machine.{Opening, or_else}
use Rattle.wf_plan.specs.Meaning.{only}
use Rattle.wf_plan.proofs.Basics.{two, when, unless}
use Rattle.wf_plan.proofs.Tables.{own_is, same_at_is}
use Rattle.wf_plan.specs.Instances.{instance_cmp, instance_key, instance_of, table_of}
use Rattle.wf_plan.specs.Known.{open_tree, opens_in}
use Rattle.wf_plan.specs.Instance.{Instance}
use Rattle.wf_plan.specs.OpenAt.{OpenAt}
use Rattle.wf_tables.specs.Counts.{or_zero}
use Rattle.wf_tables.specs.Tables.{count_or_none, left_in}
use Rattle.wf_tables.proofs.TableLemmas.{bytes_same, table_put, table_take}

head : {a b : ℕ} {as' bs : List ℕ} → (a ∷ as') ≡ (b ∷ bs) → a ≡ b
head e = cc (e)

tail : {a b : ℕ} {as' bs : List ℕ} → (a ∷ as') ≡ (b ∷ bs) → as' ≡ bs
tail e = cc (e)

module _ {X : Type 0} (at : X → Instance) where
  -- what is found by a key has it
  pub found_at : (k : Instance) (xs : List X) (c : X) → find_key instance_cmp at k xs ≡ Some c → at c ≡ k
  found_at k [] c e = absurd (none-some c e)
  found_at k (x ∷ xs) c e =
      ⊎_elim
      (λ t. let it : Some x ≡ Some c = sym (when (is_eq (instance_cmp k (at x))) (Some x) (find_key instance_cmp at k xs) t) ∙ e in
      let is : x ≡ c = cc (it) in
      let key : instance_key (at x) ≡ instance_key k =
      same_at_is (instance_key (at x)) (instance_key k)
      (sym (is_eq-slice_cmp (instance_key k) (instance_key (at x)) ∙ bytes_same (instance_key k) (instance_key (at x))) ∙ t) in
      ap at (sym is) ∙ ap₂ (λ n i. record { action = n; at = i }) (head key) (tail key))
      (λ u. found_at k xs c (sym (unless (is_eq (instance_cmp k (at x))) (Some x) (find_key instance_cmp at k xs) u) ∙ e))
      (two (is_eq (instance_cmp k (at x))))

  module _ {Y : Type 0} (see : X → Y) (k : Instance) (xs : List X) (order : IsInKeyOrder instance_cmp at xs) where
    -- an item that is taken out and put back in another form
    pub table_changed : (y : X) → at y ≡ k → (x : Address)
        → table_of at see (put_key instance_cmp at y (without_key instance_cmp at k xs)) x
        ≡ cond (is_own k.action k.at x) (Some (see y)) (table_of at see xs x)
    table_changed y is x =
        ap (λ t. t x) (table_put at see y (without_key instance_cmp at k xs))
        ∙ ap (λ (j : Instance). or_else (only (is_own j.action j.at x) (Some (see y)))
        (table_of at see (without_key instance_cmp at k xs) x)) is
        ∙ ap (λ t. or_else (only (is_own k.action k.at x) (Some (see y))) (t x)) (table_take at see k xs order)
        ∙ go (is_own k.action k.at x)
      where
        go : (b : Bool) → or_else (only b (Some (see y))) (cond b None (table_of at see xs x))
            ≡ cond b (Some (see y)) (table_of at see xs x)
        go true = refl
        go false = refl

    -- at its own address stands what is found
    pub found_is : (o : Option X) → find_key instance_cmp at k xs ≡ o → (x : Address) → is_own k.action k.at x ≡ true
        → table_of at see xs x ≡ option_map see o
    found_is o e x t = ap (table_of at see xs) (sym (own_is k.action k.at x t)) ∙ ap (option_map see) e

module _ {Decision Verdict : Type 0} (k : Instance) (xs : List (OpenAt Decision Verdict))
    (order : IsInKeyOrder instance_cmp (λ (o : OpenAt Decision Verdict). o.instance) xs) where
  abbrev Open : Type 0
  Open = OpenAt Decision Verdict

  abbrev at_of : Open → Instance
  at_of o = o.instance

  abbrev lefts : List Open → Address → Option ℕ
  lefts = table_of at_of (λ (o : Open). o.unfinished)

  left_is : (ys : List Open) (x : Address) → left_in ys x ≡ or_zero (lefts ys x)
  left_is ys x = go (find_key instance_cmp at_of (instance_of x) ys)
    where
      go : (o : Option Open) → count_or_none o ≡ or_zero (option_map (λ (z : Open). z.unfinished) o)
      go None = refl
      go (Some o) = refl

  abbrev pub fewer : Open → Open
  fewer o = record { instance = o.instance; decision = o.decision; next = o.next; test = o.test; unfinished = o.unfinished - 1 }

  abbrev seen : Open → Opening Decision Verdict
  seen = open_tree (λ d. d) (λ v. v)

  pub fewer_left : (o : Open) → find_key instance_cmp at_of k xs ≡ Some o → (x : Address)
      → left_in (put_key instance_cmp at_of (fewer o) (without_key instance_cmp at_of k xs)) x
      ≡ cond (is_own k.action k.at x) (left_in xs x - 1) (left_in xs x)
  fewer_left o e x =
      left_is (put_key instance_cmp at_of (fewer o) (without_key instance_cmp at_of k xs)) x
      ∙ ap or_zero (table_changed at_of (λ (z : Open). z.unfinished) k xs order (fewer o) (found_at at_of k xs o e) x)
      ∙ ⊎_elim
      (λ t. ap or_zero (when (is_own k.action k.at x) (Some (o.unfinished - 1)) (lefts xs x) t)
      ∙ sym (when (is_own k.action k.at x) (left_in xs x - 1) (left_in xs x) t
      ∙ ap (λ n. n - 1) (left_is xs x ∙ ap or_zero (found_is at_of (λ (z : Open). z.unfinished) k xs order (Some o) e x t))))
      (λ u. ap or_zero (unless (is_own k.action k.at x) (Some (o.unfinished - 1)) (lefts xs x) u)
      ∙ sym (unless (is_own k.action k.at x) (left_in xs x - 1) (left_in xs x) u ∙ left_is xs x))
      (two (is_own k.action k.at x))

  pub fewer_open : (o : Open) → find_key instance_cmp at_of k xs ≡ Some o
      → opens_in (λ d. d) (λ v. v) (put_key instance_cmp at_of (fewer o) (without_key instance_cmp at_of k xs))
      ≡ opens_in (λ d. d) (λ v. v) xs
  fewer_open o e = λ j x. at x j
    where
      at : (x : Address) → table_of at_of seen (put_key instance_cmp at_of (fewer o) (without_key instance_cmp at_of k xs)) x
          ≡ table_of at_of seen xs x
      at x =
          table_changed at_of seen k xs order (fewer o) (found_at at_of k xs o e) x
          ∙ ⊎_elim
          (λ t. when (is_own k.action k.at x) (Some (seen (fewer o))) (table_of at_of seen xs x) t
          ∙ sym (found_is at_of seen k xs order (Some o) e x t))
          (λ u. unless (is_own k.action k.at x) (Some (seen (fewer o))) (table_of at_of seen xs x) u)
          (two (is_own k.action k.at x))

  -- where nothing is open, nothing is taken out
  pub none_left : find_key instance_cmp at_of k xs ≡ None → (x : Address)
      → left_in (without_key instance_cmp at_of k xs) x ≡ cond (is_own k.action k.at x) (left_in xs x - 1) (left_in xs x)
  none_left e x =
      left_is (without_key instance_cmp at_of k xs) x
      ∙ ap (λ t. or_zero (t x)) (table_take at_of (λ (z : Open). z.unfinished) k xs order)
      ∙ ⊎_elim
      (λ t. ap or_zero (when (is_own k.action k.at x) None (lefts xs x) t)
      ∙ sym (when (is_own k.action k.at x) (left_in xs x - 1) (left_in xs x) t
      ∙ ap (λ n. n - 1) (left_is xs x ∙ ap or_zero (found_is at_of (λ (z : Open). z.unfinished) k xs order None e x t))))
      (λ u. ap or_zero (unless (is_own k.action k.at x) None (lefts xs x) u)
      ∙ sym (unless (is_own k.action k.at x) (left_in xs x - 1) (left_in xs x) u ∙ left_is xs x))
      (two (is_own k.action k.at x))

  pub none_open : find_key instance_cmp at_of k xs ≡ None
      → opens_in (λ d. d) (λ v. v) (without_key instance_cmp at_of k xs) ≡ opens_in (λ d. d) (λ v. v) xs
  none_open e = λ j x. at x j
    where
      at : (x : Address) → table_of at_of seen (without_key instance_cmp at_of k xs) x ≡ table_of at_of seen xs x
      at x =
          ap (λ t. t x) (table_take at_of seen k xs order)
          ∙ ⊎_elim
          (λ t. when (is_own k.action k.at x) None (table_of at_of seen xs x) t
          ∙ sym (found_is at_of seen k xs order None e x t))
          (λ u. unless (is_own k.action k.at x) None (table_of at_of seen xs x) u)
          (two (is_own k.action k.at x))

-- ---- what is seen of decisions and tests

module _ {Decision Verdict Decided Told : Type 0} (decided : Decision → Decided) (told : Verdict → Told) where
  abbrev again : Opening Decision Verdict → Opening Decided Told
  again w = record { decision = decided w.decision; next = w.next; test = option_map told w.test }

  same_test : (t : Option Verdict) → option_map told t ≡ option_map told (option_map (λ v. v) t)
  same_test None = refl
  same_test (Some v) = refl

  seen_again : (xs : List (OpenAt Decision Verdict)) (x : Address)
      → opens_in decided told xs x ≡ option_map again (opens_in (λ d. d) (λ v. v) xs x)
  seen_again xs x = go (find_key instance_cmp (λ (o : OpenAt Decision Verdict). o.instance) (instance_of x) xs)
    where
      go : (o : Option (OpenAt Decision Verdict))
          → option_map (open_tree decided told) o ≡ option_map again (option_map (open_tree (λ d. d) (λ v. v)) o)
      go None = refl
      go (Some o) = ap (λ t. Some (record { decision = decided o.decision; next = o.next; test = t })) (same_test o.test)

  -- where the containers are the same, what is seen of them is
  pub opens_same : (xs ys : List (OpenAt Decision Verdict)) → opens_in (λ d. d) (λ v. v) xs ≡ opens_in (λ d. d) (λ v. v) ys
      → opens_in decided told xs ≡ opens_in decided told ys
  opens_same xs ys e = λ k x. (seen_again xs x ∙ ap (λ t. option_map again (t x)) e ∙ sym (seen_again ys x)) k
