-- A plan has what the laws of order ask of the graph.
use Rattle.std.proofs.Common.{◌≡◌, ℕ, zero, suc, true, false, ◌||◌, List, [], ◌∷◌, ◌++◌, replicate, Some, None, option_map, ◌⊎◌, inl, inr, ⊎_elim, sym, ap, ◌∙◌, nat_eq, eqb-true, true≢false}
use Rattle.std.proofs.lemmas.Option.{none-some}
use Rattle.std.specs.List.{AllByRecursion, find}
use Rattle.wf_def.specs.Changes.{is_named, owns}
use Rattle.wf_def.specs.Definition.{Need, Graph, kind_of, needs_of}
use Rattle.wf_def.specs.Seen.{Once}
use Rattle.wf_def.specs.Waiting.{times}
use Rattle.wf_def.proofs.Basics.{two, either, or_first, or_second, same_self, when, unless}
use Rattle.wf_def.specs.ActionTree.{ActionTree, action_kind, action_number, ActionTrees}
use Rattle.wf_def.specs.AllActions.{all_actions, has_number}
use Rattle.wf_def.specs.Layered.{layered, layered_kind}
use Rattle.wf_asks.specs.Known.{is_among}
use Rattle.wf_plan.specs.Exact.{HasEntry, IsExact}
use Rattle.wf_plan.specs.Plan.{EntryTree, entry_for, entry_of, followers_of, holder_of, holds_directly, needs, shown}
use Rattle.wf_plan.proofs.NumberLemmas.{IsHad, all_had}

some_is : {A : Type 0} {u v : A} → Some u ≡ Some v → u ≡ v
some_is e = cc (e)

-- ---- lists of numbers

among_first : (q : ℕ) (ns ms : List ℕ) → is_among q ns ≡ true → is_among q (ns ++ ms) ≡ true
among_first q [] ms h = absurd (true≢false (sym h))
among_first q (n ∷ ns) ms h =
    ⊎_elim (λ t. or_first (nat_eq n q) (is_among q (ns ++ ms)) t)
    (λ t. or_second (nat_eq n q) (is_among q (ns ++ ms)) (among_first q ns ms t))
    (either (nat_eq n q) (is_among q ns) h)

among_second : (q : ℕ) (ns ms : List ℕ) → is_among q ms ≡ true → is_among q (ns ++ ms) ≡ true
among_second q [] ms h = h
among_second q (n ∷ ns) ms h = or_second (nat_eq n q) (is_among q (ns ++ ms)) (among_second q ns ms h)

pub among_or : (q : ℕ) (ns ms : List ℕ) → is_among q (ns ++ ms) ≡ true → (is_among q ns ≡ true) ⊎ (is_among q ms ≡ true)
among_or q [] ms h = inr h
among_or q (n ∷ ns) ms h =
    ⊎_elim (λ t. inl (or_first (nat_eq n q) (is_among q ns) t))
    (λ t. ⊎_elim (λ u. inl (or_second (nat_eq n q) (is_among q ns) u)) (λ u. inr u) (among_or q ns ms t))
    (either (nat_eq n q) (is_among q (ns ++ ms)) h)

-- one number, some times
pub among_same : (q b k : ℕ) → is_among q (replicate k b) ≡ true → b ≡ q
among_same q b zero h = absurd (true≢false (sym h))
among_same q b (suc k) h = ⊎_elim (λ t. eqb-true b q t) (λ t. among_same q b k t) (either (nat_eq b q) (is_among q (replicate k b)) h)

-- who is named is named some times
named_times : (after : List Need) (n q b : ℕ) → is_among q (replicate (times after n) b) ≡ true → is_named after n ≡ true
named_times [] n q b h = absurd (true≢false (sym h))
named_times (x ∷ after) n q b h =
    ⊎_elim (λ t. or_first (nat_eq x.name n) (is_named after n) t)
    (λ u. or_second (nat_eq x.name n) (is_named after n)
    (named_times after n q b
    (sym (ap (λ k. is_among q (replicate k b)) (unless (nat_eq x.name n) (suc (times after n)) (times after n) u)) ∙ h)))
    (two (nat_eq x.name n))

times_named : (after : List Need) (n b : ℕ) → is_named after n ≡ true → is_among b (replicate (times after n) b) ≡ true
times_named [] n b h = absurd (true≢false (sym h))
times_named (x ∷ after) n b h =
    ⊎_elim
    (λ t. ap (λ k. is_among b (replicate k b)) (when (nat_eq x.name n) (suc (times after n)) (times after n) t)
    ∙ or_first (nat_eq b b) (is_among b (replicate (times after n) b)) (same_self b))
    (λ u. ap (λ k. is_among b (replicate k b)) (unless (nat_eq x.name n) (suc (times after n)) (times after n) u)
    ∙ times_named after n b (sym (ap (λ z. z || is_named after n) u) ∙ h))
    (two (nat_eq x.name n))

module _ (d : Graph) where
  entries_had : (n : ℕ) (as' : List ActionTree) → AllByRecursion (IsHad d) as' → (e : EntryTree) → entry_for as' n ≡ Some e
      → HasEntry d as' n e
  entries_had n as' all e is = go as' all is
    where
      go : (bs : List ActionTree) → AllByRecursion (IsHad d) bs → entry_for bs n ≡ Some e → HasEntry d as' n e
      go [] had e' = absurd (none-some e e')
      go (a ∷ bs) had e' =
          ⊎_elim
          (λ t. let it : entry_of a ≡ e =
          some_is (sym (ap (option_map entry_of) (when (has_number n a) (Some a) (find (has_number n) bs) t)) ∙ e') in
          let at = eqb-true n (action_number a) t in record {
            kind = layered_kind (action_kind a);
            of_kind = ap (kind_of d) at ∙ had.0.0;
            after = ap (λ (z : EntryTree). z.after) (sym it) ∙ sym (ap (needs_of d) at ∙ had.0.1);
            shape = ap (λ (z : EntryTree). z.shape) (sym it);
            block = ap (λ (z : EntryTree). z.block) (sym it) ∙ ap (λ x. x ∷ shown (layered_kind (action_kind a))) (sym at);
          })
          (λ u. go bs had.1 (sym (ap (option_map entry_of) (unless (has_number n a) (Some a) (find (has_number n) bs) u)) ∙ e'))
          (two (has_number n a))

  follow_had : (n q : ℕ) (as' : List ActionTree) → AllByRecursion (IsHad d) as' → is_among q (followers_of as' n) ≡ true
      → is_named (needs_of d q) n ≡ true
  follow_had n q [] all h = absurd (true≢false (sym h))
  follow_had n q (a ∷ as') all h =
      ⊎_elim
      (λ t. let at = among_same q (action_number a) (times (needs a) n) t in
      ap (λ x. is_named (needs_of d x) n) (sym at) ∙ ap (λ x. is_named x n) all.0.1 ∙ named_times (needs a) n q (action_number a) t)
      (λ t. follow_had n q as' all.1 t)
      (among_or q (replicate (times (needs a) n) (action_number a)) (followers_of as' n) h)

  abbrev Waits : ℕ → List ℕ → ActionTree → Type 0
  Waits n fs a = is_named (needs_of d (action_number a)) n ≡ true → is_among (action_number a) fs ≡ true

  more_wait : (n : ℕ) (fs gs : List ℕ) (as' : List ActionTree) → AllByRecursion (Waits n gs) as' → AllByRecursion (Waits n (fs ++ gs)) as'
  more_wait n fs gs [] all = tt
  more_wait n fs gs (a ∷ as') all = (λ h. among_second (action_number a) fs gs (all.0 h), more_wait n fs gs as' all.1)

  wait_had : (n : ℕ) (as' : List ActionTree) → AllByRecursion (IsHad d) as' → AllByRecursion (Waits n (followers_of as' n)) as'
  wait_had n [] all = tt
  wait_had n (a ∷ as') all = (
    λ h. among_first (action_number a) (replicate (times (needs a) n) (action_number a)) (followers_of as' n)
        (times_named (needs a) n (action_number a) (sym (ap (λ x. is_named x n) all.0.1) ∙ h)),
    more_wait n (replicate (times (needs a) n) (action_number a)) (followers_of as' n) as' (wait_had n as' all.1),
  )

  hold_had : (n c : ℕ) (as' : List ActionTree) → AllByRecursion (IsHad d) as' → holder_of as' n ≡ Some c → owns (kind_of d c) n ≡ true
  hold_had n c [] all h = absurd (none-some c h)
  hold_had n c (a ∷ as') all h =
      ⊎_elim
      (λ t. let at : action_number a ≡ c =
      some_is (sym (ap (option_map action_number) (when (holds_directly n a) (Some a) (find (holds_directly n) as') t)) ∙ h) in
      ap (λ x. owns (kind_of d x) n) (sym at) ∙ ap (λ x. owns x n) all.0.0 ∙ t)
      (λ u. hold_had n c as' all.1
      (sym (ap (option_map action_number) (unless (holds_directly n a) (Some a) (find (holds_directly n) as') u)) ∙ h))
      (two (holds_directly n a))

  free_had : (n : ℕ) (as' : List ActionTree) → AllByRecursion (IsHad d) as' → holder_of as' n ≡ None
      → AllByRecursion (λ a. owns (kind_of d (action_number a)) n ≡ false) as'
  free_had n [] all h = tt
  free_had n (a ∷ as') all h =
      ⊎_elim
      (λ t. absurd (none-some (action_number a)
      (sym h ∙ ap (option_map action_number) (when (holds_directly n a) (Some a) (find (holds_directly n) as') t))))
      (λ u. (
        ap (λ x. owns x n) all.0.0 ∙ u,
        free_had n as' all.1
            (sym (ap (option_map action_number) (unless (holds_directly n a) (Some a) (find (holds_directly n) as') u)) ∙ h),
      ))
      (two (holds_directly n a))

pub plans_are_exact : (graph : ActionTrees) → Once (layered graph) → IsExact (layered graph) (all_actions graph)
plans_are_exact graph once =
    let had = all_had graph once in record {
      entries = λ n e is. entries_had (layered graph) n (all_actions graph) had e is;
      follow = λ n q h. follow_had (layered graph) n q (all_actions graph) had h;
      wait = λ n. wait_had (layered graph) n (all_actions graph) had;
      hold = λ n c h. hold_had (layered graph) n c (all_actions graph) had h;
      free = λ n h. free_had (layered graph) n (all_actions graph) had h;
    }
