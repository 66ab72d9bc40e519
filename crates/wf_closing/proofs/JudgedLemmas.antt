-- A graph's status step by step is its status: steps are taken of all its actions, each behind those that it waits for.
use Rattle.std.proofs.Common.{◌≡◌, ◌+◌, ◌<◌, ◌≤◌, ℕ, zero, suc, Bool, true, false, ◌||◌, ◌&&◌, not, cond, List, [], ◌∷◌, length, map, set, replicate}
use Rattle.std.proofs.Common.{Option, Some, None, filter, nat_eq, refl, sym, ap, ◌∙◌, subst, arith, eqb-true, eq-eqb, ⊎_elim, true≢false, if◌then◌else◌}
use Rattle.std.proofs.lemmas.Option.{none-some}
use Rattle.std.specs.List.{AllByRecursion, find, list_all, list_any}
use Rattle.wf_layers.specs.Address.{Table, address}
use Rattle.wf_layers.proofs.Basics.{two, and_in}
use Rattle.wf_def.specs.ActionTree.{ActionTree, action_after, action_number}
use Rattle.wf_def.specs.AllActions.{has_number}
use Rattle.wf_def.specs.declared.after.After.{After}
use Rattle.wf_record.specs.declared.status.Status.TheVariants.{Succeeded, Failed}
use Rattle.wf_record.specs.Record.{Row}
use Rattle.wf_meant.specs.Status as meant
use Rattle.wf_meant.specs.Status.{judge_row}
use Rattle.wf_closing.specs.Judged.{fails_from, status_by}
use Rattle.wf_closing.specs.Steps.{JudgedTree, StepTree, FallInside, StandApart, after_of, is_marked, is_named, is_ready, judged_of, size_of, step_of, step_then, steps_from, all_named, needs_marked}

-- ---- marks

mark_here : (marks : List Bool) (n : ℕ) (b : Bool) → n < length marks → is_marked (set marks n b) n ≡ b
mark_here [] n b lt = absurd (omega (arith, lt))
mark_here (x ∷ marks) zero b lt = refl
mark_here (x ∷ marks) (suc n) b lt = mark_here marks n b (omega (arith, lt))

set_apart : (marks : List Bool) (n m : ℕ) (b : Bool) → nat_eq n m ≡ false → is_marked (set marks n b) m ≡ is_marked marks m
set_apart marks n m b off = go marks n m (λ e. true≢false (sym (eq-eqb n m e) ∙ off))
  where
    go : (marks : List Bool) (n m : ℕ) → (n ≡ m → ⊥) → is_marked (set marks n b) m ≡ is_marked marks m
    go [] n m apart = refl
    go (x ∷ marks) zero zero apart = absurd (apart refl)
    go (x ∷ marks) zero (suc m) apart = refl
    go (x ∷ marks) (suc n) zero apart = refl
    go (x ∷ marks) (suc n) (suc m) apart = go marks n m (λ e. apart (ap (λ k. suc k) e))

set_size : (marks : List Bool) (n : ℕ) (b : Bool) → length (set marks n b) ≡ length marks
set_size [] n b = refl
set_size (x ∷ marks) zero b = refl
set_size (x ∷ marks) (suc n) b = ap (λ k. suc k) (set_size marks n b)

size_none : (size : ℕ) → length (replicate size false) ≡ size
size_none zero = refl
size_none (suc size) = ap (λ k. suc k) (size_none size)

none_marked : (size n : ℕ) → is_marked (replicate size false) n ≡ false
none_marked zero n = refl
none_marked (suc size) zero = refl
none_marked (suc size) (suc n) = none_marked size n

set_none : (size n : ℕ) → set (replicate size false) n false ≡ replicate size false
set_none zero n = refl
set_none (suc size) zero = refl
set_none (suc size) (suc n) = ap (λ ms. false ∷ ms) (set_none size n)

-- no end fails the graph where nothing is marked
pub none_ends : (size : ℕ) (ends : List ℕ) → list_any (is_marked (replicate size false)) ends ≡ false
none_ends size [] = refl
none_ends size (n ∷ ends) = ap (λ b. b || list_any (is_marked (replicate size false)) ends) (none_marked size n) ∙ none_ends size ends

-- a row that passes, whatever is handed on, leaves nothing marked
pub none_more : (at : List ℕ) (known : Table Row) (s : StepTree) (ss : List StepTree) (size : ℕ)
    → ((handed : Bool) → judge_row (known (address s.number at)) handed ≡ false)
    → fails_from at known (s ∷ ss) (replicate size false) ≡ fails_from at known ss (replicate size false)
none_more at known s ss size passes =
    ap (λ b. fails_from at known ss (set (replicate size false) s.number b))
    (passes (list_any (is_marked (replicate size false)) s.after))
    ∙ ap (fails_from at known ss) (set_none size s.number)

-- ---- lists

each : {X : Type 0} (P : X → Type 0) → ((x : X) → P x) → (xs : List X) → AllByRecursion P xs
each P all [] = tt
each P all (x ∷ xs) = (all x, each P all xs)

both : {X : Type 0} (P Q : X → Type 0) (xs : List X) → AllByRecursion P xs → AllByRecursion Q xs → AllByRecursion (λ x. P x × Q x) xs
both P Q [] ps qs = tt
both P Q (x ∷ xs) ps qs = ((ps.0, qs.0), both P Q xs ps.1 qs.1)

over : {X : Type 0} (P Q : X → Type 0) → ((x : X) → P x → Q x) → (xs : List X) → AllByRecursion P xs → AllByRecursion Q xs
over P Q f [] ps = tt
over P Q f (x ∷ xs) ps = (f x ps.0, over P Q f xs ps.1)

some_is : {A : Type 0} {u v : A} → Some u ≡ Some v → u ≡ v
some_is e = cc (e)

found : {X : Type 0} (P : X → Type 0) (p : X → Bool) (xs : List X) (a : X) → AllByRecursion P xs → find p xs ≡ Some a → (p a ≡ true) × P a
found P p [] a ps e = absurd (none-some a e)
found {X} P p (x ∷ xs) a ps e = go (p x) refl e (found P p xs a ps.1)
  where
    go : (b : Bool) → p x ≡ b → cond b (Some x) (find p xs) ≡ Some a → (find p xs ≡ Some a → (p a ≡ true) × P a) → (p a ≡ true) × P a
    go true is e deeper = subst (λ y. (p y ≡ true) × P y) (some_is e) (is, ps.0)
    go false is e deeper = deeper e

not_found : {X : Type 0} (p : X → Bool) (xs : List X) → find p xs ≡ None → AllByRecursion (λ x. p x ≡ false) xs
not_found p [] e = tt
not_found {X} p (x ∷ xs) e = go (p x) refl e (not_found p xs)
  where
    go : (b : Bool) → p x ≡ b → cond b (Some x) (find p xs) ≡ None → (find p xs ≡ None → AllByRecursion (λ y. p y ≡ false) xs)
        → (p x ≡ false) × AllByRecursion (λ y. p y ≡ false) xs
    go true is e deeper = absurd (none-some x (sym e))
    go false is e deeper = (is, deeper e)

-- ---- the status by steps

-- marks of the actions that have become steps
abbrev marked_then : List Bool → Option ActionTree → (ActionTree → List Bool) → List Bool
marked_then marks None rest = marks
marked_then marks (Some a) rest = rest a

abbrev marked_from : ℕ → List ActionTree → List Bool → List Bool
marked_from zero graph marks = marks
marked_from (suc turns) graph marks =
    marked_then marks (find (is_ready marks) graph) (λ a. marked_from turns graph (set marks (action_number a) true))

-- the steps behind a ready action, and where none is ready
pub next_step : (turns : ℕ) (graph : List ActionTree) (marks : List Bool) (a : ActionTree) → find (is_ready marks) graph ≡ Some a
    → steps_from (suc turns) graph marks ≡ step_of a ∷ steps_from turns graph (set marks (action_number a) true)
next_step turns graph marks a e =
    ap (λ o. step_then o (λ a. steps_from turns graph (set marks (action_number a) true))) e

pub no_step : (turns : ℕ) (graph : List ActionTree) (marks : List Bool) → find (is_ready marks) graph ≡ None
    → steps_from turns graph marks ≡ []
no_step zero graph marks e = refl
no_step (suc turns) graph marks e =
    ap (λ o. step_then o (λ a. steps_from turns graph (set marks (action_number a) true))) e

any_after : (f : ℕ → Bool) (es : List After) → list_any f (map (λ e. e.number) es) ≡ list_any (λ need. f need.number) es
any_after f [] = refl
any_after f (e ∷ es) = ap (λ b. f e.number || b) (any_after f es)

module _ (graph : List ActionTree) (at : List ℕ) (known : Table Row) (apart : StandApart graph) where
  -- those that have become steps are judged, so many of them looked at as have become steps
  abbrev AreJudged : ℕ → List Bool → List Bool → Type 0
  AreJudged c bs ms = (n : ℕ) → is_marked bs n ≡ true → (far : ℕ) → c ≤ far → is_marked ms n ≡ meant.fails graph at known far n

  any_judged : (c : ℕ) (bs ms : List Bool) (ns : List ℕ) → AreJudged c bs ms → list_all (is_marked bs) ns ≡ true → (far : ℕ) → c ≤ far
      → list_any (is_marked ms) ns ≡ list_any (meant.fails graph at known far) ns
  any_judged c bs ms [] are all far le = refl
  any_judged c bs ms (n ∷ ns) are all far le =
      let parts = and_in (is_marked bs n) (list_all (is_marked bs) ns) all in
      rw (are n parts.0 far le, any_judged c bs ms ns are parts.1 far le)

  abbrev judged_now : List Bool → ActionTree → Bool
  judged_now ms a = judge_row (known (address (action_number a) at)) (list_any (is_marked ms) (after_of a))

  own_judged : (c : ℕ) (bs ms : List Bool) (a : ActionTree) → AreJudged c bs ms → list_all (is_marked bs) (after_of a) ≡ true
      → find (has_number (action_number a)) graph ≡ Some a → (far : ℕ) → c ≤ far
      → judged_now ms a ≡ meant.fails graph at known (suc far) (action_number a)
  own_judged c bs ms a are all own far le =
      ap (judge_row (known (address (action_number a) at)))
      (any_judged c bs ms (after_of a) are all far le ∙ any_after (meant.fails graph at known far) (action_after a))
      ∙ ap (λ o. meant.judge_found o (known (address (action_number a) at)) (meant.fails graph at known far)) (sym own)

  step_judged : (c : ℕ) (bs ms : List Bool) (a : ActionTree) → AreJudged c bs ms → list_all (is_marked bs) (after_of a) ≡ true
      → find (has_number (action_number a)) graph ≡ Some a → action_number a < length ms
      → AreJudged (suc c) (set bs (action_number a) true) (set ms (action_number a) (judged_now ms a))
  step_judged c bs ms a are all own lt n on zero le = absurd (omega (arith, le))
  step_judged c bs ms a are all own lt n on (suc far) le = ⊎_elim here other (two (nat_eq (action_number a) n))
    where
      here : nat_eq (action_number a) n ≡ true
          → is_marked (set ms (action_number a) (judged_now ms a)) n ≡ meant.fails graph at known (suc far) n
      here same =
          subst (λ k. is_marked (set ms (action_number a) (judged_now ms a)) k ≡ meant.fails graph at known (suc far) k)
          (eqb-true (action_number a) n same)
          (mark_here ms (action_number a) (judged_now ms a) lt ∙ own_judged c bs ms a are all own far (omega (arith, le)))

      other : nat_eq (action_number a) n ≡ false
          → is_marked (set ms (action_number a) (judged_now ms a)) n ≡ meant.fails graph at known (suc far) n
      other off =
          set_apart ms (action_number a) n (judged_now ms a) off
          ∙ are n (sym (set_apart bs (action_number a) n true off) ∙ on) (suc far) (omega (arith, le))

  later : (c e : ℕ) (bs ms : List Bool) → AreJudged c bs ms → c ≤ e → AreJudged e bs ms
  later c e bs ms are le n on far fe = are n on far (omega (arith, le, fe))

  all_judged : (turns c size : ℕ) (bs ms : List Bool) → AreJudged c bs ms → AllByRecursion (λ a. action_number a < size) graph
      → size ≤ length ms → AreJudged (c + turns) (marked_from turns graph bs) (fails_from at known (steps_from turns graph bs) ms)
  all_judged zero c size bs ms are below le = later c (c + 0) bs ms are (omega arith)
  all_judged (suc turns) c size bs ms are below le = go (find (is_ready bs) graph) refl (all_judged turns)
    where
      go : (o : Option ActionTree) → find (is_ready bs) graph ≡ o
          → ((c size : ℕ) (bs ms : List Bool) → AreJudged c bs ms → AllByRecursion (λ a. action_number a < size) graph
          → size ≤ length ms → AreJudged (c + turns) (marked_from turns graph bs) (fails_from at known (steps_from turns graph bs) ms))
          → AreJudged (c + suc turns) (marked_then bs o (λ a. marked_from turns graph (set bs (action_number a) true))) (fails_from at known (step_then o (λ a. steps_from turns graph (set bs (action_number a) true))) ms)
      go None e deeper = later c (c + suc turns) bs ms are (omega arith)
      go (Some a) e deeper =
          let is = found _ (is_ready bs) graph a (both _ _ graph apart below) e in
          let parts = and_in (not (is_marked bs (action_number a))) (list_all (is_marked bs) (after_of a)) is.0 in
          let size' = set_size ms (action_number a) (judged_now ms a) in
          let rest =
          deeper (suc c) size (set bs (action_number a) true) (set ms (action_number a) (judged_now ms a))
          (step_judged c bs ms a are parts.1 is.1.0 (omega (arith, is.1.1, le))) below (omega (arith, le, size')) in
          later (suc c + turns) (c + suc turns) _ _ rest (omega arith)

-- ---- all become steps

abbrev unmarked : List Bool → List ActionTree → ℕ
unmarked bs [] = 0
unmarked bs (a ∷ as') = cond (is_marked bs (action_number a)) (unmarked bs as') (suc (unmarked bs as'))

abbrev AllMarked : List ActionTree → List Bool → Type 0
AllMarked graph bs = AllByRecursion (λ a. is_marked bs (action_number a) ≡ true) graph

none_left : (bs : List Bool) (as' : List ActionTree) → unmarked bs as' ≡ 0 → AllMarked as' bs
none_left bs [] e = tt
none_left bs (a ∷ as') e = go (is_marked bs (action_number a)) refl e (none_left bs as')
  where
    go : (b : Bool) → is_marked bs (action_number a) ≡ b → cond b (unmarked bs as') (suc (unmarked bs as')) ≡ 0
        → (unmarked bs as' ≡ 0 → AllMarked as' bs) → (is_marked bs (action_number a) ≡ true) × AllMarked as' bs
    go true is e deeper = (is, deeper e)
    go false is e deeper = absurd (omega (arith, e))

few_left : (bs : List Bool) (as' : List ActionTree) → unmarked bs as' ≤ length as'
few_left bs [] = omega arith
few_left bs (a ∷ as') = go (is_marked bs (action_number a)) (few_left bs as')
  where
    go : (b : Bool) → unmarked bs as' ≤ length as' → cond b (unmarked bs as') (suc (unmarked bs as')) ≤ suc (length as')
    go true few = omega (arith, few)
    go false few = omega (arith, few)

marks_stay : (bs : List Bool) (n m : ℕ) → n < length bs → is_marked bs m ≡ true → is_marked (set bs n true) m ≡ true
marks_stay bs n m lt on =
    ⊎_elim (λ same. subst (λ k. is_marked (set bs n true) k ≡ true) (eqb-true n m same) (mark_here bs n true lt))
    (λ off. set_apart bs n m true off ∙ on) (two (nat_eq n m))

no_more : (bs : List Bool) (n : ℕ) → n < length bs → (as' : List ActionTree) → unmarked (set bs n true) as' ≤ unmarked bs as'
no_more bs n lt [] = omega arith
no_more bs n lt (a ∷ as') = go (is_marked bs (action_number a)) refl (no_more bs n lt as')
  where
    at_most : (b : Bool) → unmarked (set bs n true) as' ≤ unmarked bs as'
        → cond b (unmarked (set bs n true) as') (suc (unmarked (set bs n true) as')) ≤ suc (unmarked bs as')
    at_most true rest = omega (arith, rest)
    at_most false rest = omega (arith, rest)

    go : (b : Bool) → is_marked bs (action_number a) ≡ b → unmarked (set bs n true) as' ≤ unmarked bs as'
        → cond (is_marked (set bs n true) (action_number a)) (unmarked (set bs n true) as') (suc (unmarked (set bs n true) as'))
        ≤ cond b (unmarked bs as') (suc (unmarked bs as'))
    go true is rest =
        subst (λ b. cond b (unmarked (set bs n true) as') (suc (unmarked (set bs n true) as')) ≤ unmarked bs as')
        (sym (marks_stay bs n (action_number a) lt is)) rest
    go false is rest = at_most (is_marked (set bs n true) (action_number a)) rest

one_less : (bs : List Bool) (n : ℕ) → n < length bs → is_marked bs n ≡ false → (as' : List ActionTree)
    → list_any (has_number n) as' ≡ true → unmarked (set bs n true) as' < unmarked bs as'
one_less bs n lt off [] there = absurd (true≢false (sym there))
one_less bs n lt off (a ∷ as') there = ⊎_elim here (other (one_less bs n lt off as')) (two (nat_eq n (action_number a)))
  where
    here : nat_eq n (action_number a) ≡ true → unmarked (set bs n true) (a ∷ as') < unmarked bs (a ∷ as')
    here same =
        let is : n ≡ action_number a = eqb-true n (action_number a) same in
        let fewer = no_more bs n lt as' in
        rw (
          subst (λ k. is_marked (set bs n true) k ≡ true) is (mark_here bs n true lt),
          subst (λ k. is_marked bs k ≡ false) is off,
        ) (omega (arith, fewer))

    other : (list_any (has_number n) as' ≡ true → unmarked (set bs n true) as' < unmarked bs as') → nat_eq n (action_number a) ≡ false
        → unmarked (set bs n true) (a ∷ as') < unmarked bs (a ∷ as')
    other deeper apart =
        rw (set_apart bs n (action_number a) true apart) (go (is_marked bs (action_number a)) (deeper (rw apart at there)))
      where
        go : (b : Bool) → unmarked (set bs n true) as' < unmarked bs as'
            → cond b (unmarked (set bs n true) as') (suc (unmarked (set bs n true) as')) < cond b (unmarked bs as') (suc (unmarked bs as'))
        go true lt = lt
        go false lt = omega (arith, lt)

at_member : (P : ℕ → Type 0) (n : ℕ) (as' : List ActionTree) → AllByRecursion (λ a. P (action_number a)) as'
    → list_any (has_number n) as' ≡ true → P n
at_member P n [] ps there = absurd (true≢false (sym there))
at_member P n (a ∷ as') ps there =
    ⊎_elim (λ same. subst P (sym (eqb-true n (action_number a) same)) ps.0) (λ off. at_member P n as' ps.1 (rw off at there))
    (two (nat_eq n (action_number a)))

is_there : (n : ℕ) (as' : List ActionTree) (a : ActionTree) → find (has_number n) as' ≡ Some a → list_any (has_number n) as' ≡ true
is_there n [] a e = absurd (none-some a e)
is_there n (b ∷ as') a e = go (has_number n b) e (is_there n as' a)
  where
    go : (t : Bool) → cond t (Some b) (find (has_number n) as') ≡ Some a
        → (find (has_number n) as' ≡ Some a → list_any (has_number n) as' ≡ true) → (t || list_any (has_number n) as') ≡ true
    go true e deeper = refl
    go false e deeper = deeper e

module _ (graph : List ActionTree) (depth : ℕ → ℕ) (fall : FallInside graph depth) where
  ready : (bs : List Bool) (most : ℕ)
      → AllByRecursion (λ a. depth (action_number a) < most → is_marked bs (action_number a) ≡ true) graph
      → (a : ActionTree) (ns : List ℕ)
      → AllByRecursion (λ n. (list_any (has_number n) graph ≡ true) × (depth n < depth (action_number a))) ns
      → depth (action_number a) < suc most → list_all (is_marked bs) ns ≡ true
  ready bs most deeper a [] falls lt = refl
  ready bs most deeper a (n ∷ ns) falls lt =
      rw (
        at_member (λ k. depth k < most → is_marked bs k ≡ true) n graph deeper falls.0.0 (omega (arith, falls.0.1, lt)),
        ready bs most deeper a ns falls.1 lt,
      ) refl

  marked : (bs : List Bool) (a : ActionTree) → is_ready bs a ≡ false → list_all (is_marked bs) (after_of a) ≡ true
      → is_marked bs (action_number a) ≡ true
  marked bs a none all = go (is_marked bs (action_number a)) (rw all at none)
    where
      go : (b : Bool) → (not b && true) ≡ false → b ≡ true
      go true e = refl
      go false e = absurd (true≢false e)

  -- where none is ready all are marked: an unmarked one of least depth would be
  stuck : (bs : List Bool) → AllByRecursion (λ a. is_ready bs a ≡ false) graph → (most : ℕ)
      → AllByRecursion (λ a. depth (action_number a) < most → is_marked bs (action_number a) ≡ true) graph
  stuck bs none zero = each _ (λ a lt. absurd (omega (arith, lt))) graph
  stuck bs none (suc most) =
      let deeper = stuck bs none most in
      over _ _ (λ a known lt. marked bs a known.0 (ready bs most deeper a (after_of a) known.1 lt)) graph (both _ _ graph none fall)

  at_any_depth : (bs : List Bool) (as' : List ActionTree)
      → ((most : ℕ) → AllByRecursion (λ a. depth (action_number a) < most → is_marked bs (action_number a) ≡ true) as')
      → AllMarked as' bs
  at_any_depth bs [] f = tt
  at_any_depth bs (a ∷ as') f = ((f (suc (depth (action_number a)))).0 (omega arith), at_any_depth bs as' (λ most. (f most).1))

  all_taken : StandApart graph → (size : ℕ) → AllByRecursion (λ a. action_number a < size) graph → (turns : ℕ) (bs : List Bool)
      → unmarked bs graph ≤ turns → size ≤ length bs → AllMarked graph (marked_from turns graph bs)
  all_taken apart size below zero bs few le = none_left bs graph (omega (arith, few))
  all_taken apart size below (suc turns) bs few le = go (find (is_ready bs) graph) refl (all_taken apart size below turns)
    where
      off_of : (b : Bool) → not b ≡ true → b ≡ false
      off_of true e = absurd (true≢false (sym e))
      off_of false e = refl

      go : (o : Option ActionTree) → find (is_ready bs) graph ≡ o
          → ((bs : List Bool) → unmarked bs graph ≤ turns → size ≤ length bs → AllMarked graph (marked_from turns graph bs))
          → AllMarked graph (marked_then bs o (λ a. marked_from turns graph (set bs (action_number a) true)))
      go None e deeper = at_any_depth bs graph (stuck bs (not_found (is_ready bs) graph e))
      go (Some a) e deeper =
          let is = found _ (is_ready bs) graph a (both _ _ graph apart below) e in
          let parts = and_in (not (is_marked bs (action_number a))) (list_all (is_marked bs) (after_of a)) is.0 in
          let lt : action_number a < length bs = omega (arith, is.1.1, le) in
          let fewer = one_less bs (action_number a) lt (off_of (is_marked bs (action_number a)) parts.0) graph
          (is_there (action_number a) graph a is.1.0) in
          let size' = set_size bs (action_number a) true in
          deeper (set bs (action_number a) true) (omega (arith, fewer, few)) (omega (arith, le, size'))

-- ---- the ends

any_ends : (f g : ℕ → Bool) (named other : ℕ → Bool) (as' : List ActionTree)
    → AllByRecursion (λ a. f (action_number a) ≡ g (action_number a)) as' → ((n : ℕ) → named n ≡ other n)
    → list_any f (filter (λ n. not (named n)) (map action_number as')) ≡ list_any (λ a. not (other (action_number a)) && g (action_number a)) as'
any_ends f g named other [] same names = refl
any_ends f g named other (a ∷ as') same names =
    rw (sym (names (action_number a))) (go (any_ends f g named other as' same.1 names) (named (action_number a)))
  where
    go : list_any f (filter (λ n. not (named n)) (map action_number as'))
        ≡ list_any (λ a. not (other (action_number a)) && g (action_number a)) as' → (b : Bool) → list_any f (cond (not b) (action_number a ∷ filter (λ n. not (named n)) (map action_number as'))
        (filter (λ n. not (named n)) (map action_number as')))
        ≡ ((not b && g (action_number a)) || list_any (λ a. not (other (action_number a)) && g (action_number a)) as')
    go rest true = rest
    go rest false = rw (same.0, rest) refl

named_here : (n : ℕ) (es : List After) → list_any (λ m. nat_eq m n) (map (λ e. e.number) es) ≡ list_any (λ need. nat_eq need.number n) es
named_here n es = any_after (λ m. nat_eq m n) es

any_named : (n : ℕ) (as' : List ActionTree)
    → list_any (λ a. list_any (λ m. nat_eq m n) (after_of a)) as'
    ≡ list_any (λ a. list_any (λ need. nat_eq need.number n) (action_after a)) as'
any_named n [] = refl
any_named n (a ∷ as') = rw (named_here n (action_after a), any_named n as') refl

-- ---- which are named, by marks

or_false : (b : Bool) → (b || false) ≡ b
or_false true = refl
or_false false = refl

or_true : (b : Bool) → (b || true) ≡ true
or_true true = refl
or_true false = refl

or_assoc : (a b c : Bool) → ((a || b) || c) ≡ (a || (b || c))
or_assoc true b c = refl
or_assoc false b c = refl

mark_at : (marks : List Bool) (n m : ℕ) → m < length marks → is_marked (set marks n true) m ≡ (is_marked marks m || nat_eq n m)
mark_at marks n m lt = ⊎_elim here (λ off. set_apart marks n m true off ∙ (sym (or_false (is_marked marks m)) ∙ ap
    (λ b. is_marked marks m || b) (sym off))) (two (nat_eq n m))
  where
    here : nat_eq n m ≡ true → is_marked (set marks n true) m ≡ (is_marked marks m || nat_eq n m)
    here on =
        let same : n ≡ m = eqb-true n m on in
        rw on (subst (λ k. is_marked (set marks k true) m ≡ (is_marked marks m || true)) (sym same)
        (mark_here marks m true lt ∙ sym (or_true (is_marked marks m))))

needs_at : (ns : List ℕ) (marks : List Bool) (p : ℕ) → p < length marks
    → is_marked (needs_marked ns marks) p ≡ (is_marked marks p || list_any (λ m. nat_eq m p) ns)
needs_at [] marks p lt = sym (or_false (is_marked marks p))
needs_at (n ∷ ns) marks p lt =
    let size = set_size marks n true in
    needs_at ns (set marks n true) p (omega (arith, lt, size))
    ∙ (ap (λ b. b || list_any (λ m. nat_eq m p) ns) (mark_at marks n p lt)
    ∙ or_assoc (is_marked marks p) (nat_eq n p) (list_any (λ m. nat_eq m p) ns))

needs_size : (ns : List ℕ) (marks : List Bool) → length (needs_marked ns marks) ≡ length marks
needs_size [] marks = refl
needs_size (n ∷ ns) marks = needs_size ns (set marks n true) ∙ set_size marks n true

named_at : (as' : List ActionTree) (marks : List Bool) (p : ℕ) → p < length marks
    → is_marked (all_named as' marks) p ≡ (is_marked marks p || is_named as' p)
named_at [] marks p lt = sym (or_false (is_marked marks p))
named_at (a ∷ as') marks p lt =
    let size = needs_size (after_of a) marks in
    named_at as' (needs_marked (after_of a) marks) p (omega (arith, lt, size))
    ∙ (ap (λ b. b || is_named as' p) (needs_at (after_of a) marks p lt)
    ∙ or_assoc (is_marked marks p) (list_any (λ m. nat_eq m p) (after_of a)) (is_named as' p))

filter_same : (p q : ℕ → Bool) (as' : List ActionTree) → AllByRecursion (λ a. p (action_number a) ≡ q (action_number a)) as'
    → filter p (map action_number as') ≡ filter q (map action_number as')
filter_same p q [] same = refl
filter_same p q (a ∷ as') same = rw (same.0, filter_same p q as' same.1) refl

below_size : (as' : List ActionTree) → AllByRecursion (λ a. action_number a < size_of as') as'
below_size [] = tt
below_size (a ∷ as') = (omega arith, over _ _ (λ b lt. omega (arith, lt)) as' (below_size as'))

pub ends_are : (graph : List ActionTree)
    → filter (λ n. not (is_marked (all_named graph (replicate (size_of graph) false)) n)) (map action_number graph)
    ≡ filter (λ n. not (is_named graph n)) (map action_number graph)
ends_are graph =
    filter_same (λ n. not (is_marked (all_named graph none) n)) (λ n. not (is_named graph n)) graph
    (over _ _ (λ a lt. ap not (named_at graph none (action_number a) (omega (arith, lt, size))
    ∙ ap (λ b. b || is_named graph (action_number a)) (none_marked (size_of graph) (action_number a)))) graph (below_size graph))
  where
    none : List Bool
    none = replicate (size_of graph) false

    size : length none ≡ size_of graph
    size = size_none (size_of graph)

abbrev the_judged : ℕ → List StepTree → List ℕ → JudgedTree
the_judged n ss es = record { size = n; steps = ss; ends = es }

pub judged_same : {n m : ℕ} {ss ts : List StepTree} {es fs : List ℕ} → n ≡ m → ss ≡ ts → es ≡ fs
    → the_judged n ss es ≡ the_judged m ts fs
judged_same {n} {m} {ss} {ts} {es} {fs} size steps ends =
    ap (λ k. the_judged k ss es) size ∙ (ap (λ xs. the_judged m xs es) steps ∙ ap (the_judged m ts) ends)

-- A GRAPH'S STATUS BY STEPS is its status.
pub status_is : (graph : List ActionTree) (depth : ℕ → ℕ) → StandApart graph → FallInside graph depth → (at : List ℕ) (known : Table Row)
    → status_by at known (judged_of graph) ≡ meant.graph_status graph at known
status_is graph depth apart fall at known =
    ap (λ b. if b then Failed else Succeeded)
    (any_ends (is_marked ms) (meant.fails graph at known (length graph)) (is_named graph) (meant.is_named graph at known) graph judged
    (λ n. any_named n graph))
  where
    none : List Bool
    none = replicate (size_of graph) false

    ms : List Bool
    ms = fails_from at known (steps_from (length graph) graph none) none

    size : length none ≡ size_of graph
    size = size_none (size_of graph)

    are : AreJudged graph at known apart (0 + length graph) (marked_from (length graph) graph none) ms
    are =
        all_judged graph at known apart (length graph) 0 (size_of graph) none none
        (λ n on. absurd (true≢false (sym on ∙ none_marked (size_of graph) n))) (below_size graph) (omega (arith, size))

    taken : AllMarked graph (marked_from (length graph) graph none)
    taken =
        all_taken graph depth fall apart (size_of graph) (below_size graph) (length graph) none (few_left none graph) (omega (arith, size))

    judged : AllByRecursion (λ a. is_marked ms (action_number a) ≡ meant.fails graph at known (length graph) (action_number a)) graph
    judged = over _ _ (λ a on. are (action_number a) on (length graph) (omega arith)) graph taken
