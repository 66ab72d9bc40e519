-- Where actions are settled, no pair breaks a rule.
use Rattle.std.proofs.Common.{◌≡◌, ℕ, Bool, true, false, not, cond, List, [], ◌∷◌, ◌++◌, ◌⊎◌, inl, inr, nat_eq, bytes_eq, refl, sym}
use Rattle.std.proofs.Common.{ap, subst, ◌∙◌, true≢false}
use Rattle.std.specs.Prelude.{◌||◌, ◌&&◌, ◌↔◌}
use Rattle.std.specs.List.{AllByRecursion, list_any}
use Rattle.std.proofs.lemmas.Bool.{eq-eqb}
use Rattle.std.proofs.lemmas.Slice.Eq.{bytes_eq-Decides}
use Rattle.wf_layers.specs.Definition.{has}
use Rattle.wf_layers.specs.Seen.{Once}
use Rattle.wf_def.specs.ActionTree.{action_kind}
use Rattle.wf_def.specs.DefTree.{DefTree}
use Rattle.wf_def.specs.Layered.{layered}
use Rattle.wf_standing.specs.Order.{Before, Contains, Exclusive}
use Rattle.wf_standing.specs.Turns.{AreSettled, GoesInTurn, IsInTurn, IsReadWith}
use Rattle.wf_paths.proofs.PathLemmas.{or_left, or_right}
use Rattle.wf_standing.specs.Kinds.{is_concurrent, is_response, is_terminate}
use Rattle.wf_standing.specs.Standing.{StandingTree, kind_at, number_at, standings_of}
use Rattle.wf_standing.specs.Whole.{Whole, whole_of}
use Rattle.wf_varorder.specs.Pairs.{Claim, Pair, answers_it, are_settled, clashes, concerns, ends_it, holds, is_any, is_beside_itself}
use Rattle.wf_varorder.specs.Pairs.{pair_if, pair_of, pairs_among, pairs_by, pairs_of, pairs_over, pairs_with, reads, tracks, writes}
use Rattle.wf_varorder.specs.Pairs.{written_by, writes_it}
use Rattle.wf_varorder.specs.Settled.{IsAccessedWith, IsWrittenInOrder, ResponsesAreInOrder, TerminatesAreInOrder}
use Rattle.wf_varorder.specs.Settled.{VariablesAreInOrder}
use Rattle.wf_varorder.specs.declared.rule.PairRule.{PairRule}
use Rattle.wf_varorder.proofs.SettledLemmas.{turned, two}
use Rattle.wf_varorder.proofs.TurnLemmas.{all-told, tells-concurrent}

-- ---- truth values and lists

same-passes : (same settled concerned : Bool) → same ≡ true → (not same && (not settled && concerned)) ≡ false
same-passes true settled concerned is = refl
same-passes false settled concerned is = absurd (true≢false (sym is))

settled-passes : (same settled concerned : Bool) → settled ≡ true → (not same && (not settled && concerned)) ≡ false
settled-passes true settled concerned is = refl
settled-passes false true concerned is = refl
settled-passes false false concerned is = absurd (true≢false (sym is))

aside-passes : (same settled concerned : Bool) → concerned ≡ false → (not same && (not settled && concerned)) ≡ false
aside-passes true settled concerned is = refl
aside-passes false true concerned is = refl
aside-passes false false concerned is = is

-- who neither writes nor tracks, and doesn't read but round the writer
unconcerned : (w t r h : Bool) → w ≡ false → t ≡ false → (r ≡ false) ⊎ (h ≡ true) → (w || (t || (r && not h))) ≡ false
unconcerned true t r h no_write no_track no_read = no_write
unconcerned false true r h no_write no_track no_read = no_track
unconcerned false false true true no_write no_track no_read = refl
unconcerned false false true false no_write no_track (inl is) = is
unconcerned false false true false no_write no_track (inr is) = absurd (true≢false (sym is))
unconcerned false false false h no_write no_track no_read = refl

none-both : {X : Type 0} (xs ys : List X) → xs ≡ [] → ys ≡ [] → xs ++ ys ≡ []
none-both [] ys one other = other
none-both (x ∷ xs) ys one other = absurd (cc)

none-pair : {X : Type 0} (b : Bool) (x : X) → b ≡ false → cond b (x ∷ []) [] ≡ []
none-pair b x is = ap (λ (c : Bool). cond c (x ∷ []) []) is

module _ (whole : Whole) where
  no-pairs : (claim : Claim) (y : StandingTree) (as' : List StandingTree) → AllByRecursion (λ a. clashes whole claim y a ≡ false) as'
      → pairs_with whole claim y as' ≡ []
  no-pairs claim y [] passed = refl
  no-pairs claim y (a ∷ as') passed =
      none-both (pair_if whole claim y a) (pairs_with whole claim y as')
      (none-pair (clashes whole claim y a) (pair_of claim y a) passed.0) (no-pairs claim y as' passed.1)

  no-pairs-over : (y : StandingTree) (all : List StandingTree) (ks : List (List ℕ))
      → ((k : List ℕ) → list_any (bytes_eq k) ks ≡ true → pairs_with whole (writes_it k) y all ≡ []) → pairs_over whole y all ks ≡ []
  no-pairs-over y all [] none = refl
  no-pairs-over y all (n ∷ ks) none =
      none-both (pairs_with whole (writes_it n) y all) (pairs_over whole y all ks)
      (none n (or_left (bytes_eq n n) (list_any (bytes_eq n) ks) ((bytes_eq-Decides n n).1 refl)))
      (no-pairs-over y all ks (λ k among. none k (or_right (bytes_eq k n) (list_any (bytes_eq k) ks) among)))

  no-pairs-among : (rule : PairRule) (all ys : List StandingTree) → AllByRecursion (λ y. pairs_by whole rule all y ≡ []) ys
      → pairs_among whole rule all ys ≡ []
  no-pairs-among rule all [] none = refl
  no-pairs-among rule all (y ∷ ys) none =
      none-both (pairs_by whole rule all y) (pairs_among whole rule all ys) none.0 (no-pairs-among rule all ys none.1)

-- who writes has no loop round it that goes side by side
calm-writer : (ks : List (List ℕ)) (concurrent : Bool) → ((k : List ℕ) → list_any (bytes_eq k) ks ≡ true → concurrent ≡ false)
    → (is_any ks && concurrent) ≡ false
calm-writer [] concurrent calm = refl
calm-writer (k ∷ ks) concurrent calm = calm k (or_left (bytes_eq k k) (list_any (bytes_eq k) ks) ((bytes_eq-Decides k k).1 refl))

-- ---- from the words of the order

module _ (d : DefTree) where
  abbrev Numbered : StandingTree → Type 0
  Numbered s = has (layered d.top) (number_at s) ≡ true

  module _
      (exact_before : (x y : ℕ) → has (layered d.top) x ≡ true → has (layered d.top) y ≡ true
      → ((whole_of d).before x y ≡ true) ↔ Before (layered d.top) x y)
      (exact_contains : (x y : ℕ) → has (layered d.top) y ≡ true → ((whole_of d).contains x y ≡ true) ↔ Contains (layered d.top) x y)
      (exact_exclusive : (x y : ℕ) → has (layered d.top) x ≡ true → has (layered d.top) y ≡ true
      → ((whole_of d).exclusive x y ≡ true) ↔ Exclusive (layered d.top) x y) where
    settled : (y a : StandingTree) → Numbered y → Numbered a → AreSettled (layered d.top) (number_at y) (number_at a)
        → are_settled (whole_of d) y a ≡ true
    settled y a of_y of_a (inl before) =
        let m = number_at y in
        let n = number_at a in
        or_left ((whole_of d).before m n) ((whole_of d).before n m || (whole_of d).exclusive m n)
        ((exact_before m n of_y of_a).1 before)
    settled y a of_y of_a (inr (inl after)) =
        let m = number_at y in
        let n = number_at a in
        or_right ((whole_of d).before m n) ((whole_of d).before n m || (whole_of d).exclusive m n)
        (or_left ((whole_of d).before n m) ((whole_of d).exclusive m n) ((exact_before n m of_a of_y).1 after))
    settled y a of_y of_a (inr (inr apart)) =
        let m = number_at y in
        let n = number_at a in
        or_right ((whole_of d).before m n) ((whole_of d).before n m || (whole_of d).exclusive m n)
        (or_right ((whole_of d).before n m) ((whole_of d).exclusive m n) ((exact_exclusive m n of_y of_a).1 apart))

    module _ (claim : Claim) (y a : StandingTree) (of_y : Numbered y) (of_a : Numbered a) where
      abbrev Passed : Type 0
      Passed = clashes (whole_of d) claim y a ≡ false

      as-same : number_at y ≡ number_at a → Passed
      as-same is =
          same-passes (nat_eq (number_at y) (number_at a)) (are_settled (whole_of d) y a) (concerns (whole_of d) claim y a)
          (eq-eqb (number_at y) (number_at a) is)

      as-settled : AreSettled (layered d.top) (number_at y) (number_at a) → Passed
      as-settled is =
          settled-passes (nat_eq (number_at y) (number_at a)) (are_settled (whole_of d) y a) (concerns (whole_of d) claim y a)
          (settled y a of_y of_a is)

      as-aside : concerns (whole_of d) claim y a ≡ false → Passed
      as-aside none =
          aside-passes (nat_eq (number_at y) (number_at a)) (are_settled (whole_of d) y a) (concerns (whole_of d) claim y a) none

      as-either : (number_at y ≡ number_at a) ⊎ AreSettled (layered d.top) (number_at y) (number_at a) → Passed
      as-either (inl same) = as-same same
      as-either (inr is) = as-settled is

      -- a is y, is settled with it, or contains it, which is no offence either
      as-round : (holds (whole_of d) a y ≡ true → concerns (whole_of d) claim y a ≡ false)
          → IsReadWith (layered d.top) (number_at a) (number_at y) → Passed
      as-round fine (inl same) = as-same (sym same)
      as-round fine (inr (inl inside)) = as-aside (fine ((exact_contains (number_at a) (number_at y) of_y).1 inside))
      as-round fine (inr (inr is)) = as-settled (turned (layered d.top) (number_at a) (number_at y) is)

    access-passes : (y a : StandingTree) → Numbered y → Numbered a → IsAccessedWith d y a → (k : List ℕ)
        → writes (whole_of d) k y ≡ true → clashes (whole_of d) (writes_it k) y a ≡ false
    access-passes y a of_y of_a access k written = elim (two (writes (whole_of d) k a)) [
      | inl w ↦ as-either (writes_it k) y a of_y of_a (access.writers k written w)
      | inr no_write ↦ elim (two (tracks (whole_of d) k a)) [
        | inl t ↦ as-either (writes_it k) y a of_y of_a (access.trackers k written t)
        | inr no_track ↦ elim (two (reads (whole_of d) k a)) [
          | inl r ↦ as-round (writes_it k) y a of_y of_a
              (λ inside. unconcerned (writes (whole_of d) k a) (tracks (whole_of d) k a) (reads (whole_of d) k a) (holds (whole_of d) a y)
              no_write no_track (inr inside)) (access.readers k written r)
          | inr no_read ↦ as-aside (writes_it k) y a of_y of_a
              (unconcerned (writes (whole_of d) k a) (tracks (whole_of d) k a) (reads (whole_of d) k a) (holds (whole_of d) a y)
              no_write no_track (inl no_read))
        ]
      ]
    ]

    end-passes : (t a : StandingTree) → Numbered t → Numbered a → IsReadWith (layered d.top) (number_at a) (number_at t)
        → clashes (whole_of d) ends_it t a ≡ false
    end-passes t a of_t of_a is = as-round ends_it t a of_t of_a (λ inside. ap not inside) is

    answer-passes : (r a : StandingTree) → Numbered r → Numbered a
        → (is_response (kind_at a) ≡ true → (number_at r ≡ number_at a) ⊎ AreSettled (layered d.top) (number_at r) (number_at a))
        → clashes (whole_of d) answers_it r a ≡ false
    answer-passes r a of_r of_a is = elim (two (is_response (kind_at a))) [
      | inl other ↦ as-either answers_it r a of_r of_a (is other)
      | inr none ↦ as-aside answers_it r a of_r of_a none
    ]

    -- ---- of all

    accesses-pass : (y : StandingTree) → Numbered y → (as' : List StandingTree) → AllByRecursion Numbered as'
        → AllByRecursion (IsAccessedWith d y) as' → (k : List ℕ) → writes (whole_of d) k y ≡ true
        → AllByRecursion (λ a. clashes (whole_of d) (writes_it k) y a ≡ false) as'
    accesses-pass y of_y [] of_all each k w = tt
    accesses-pass y of_y (a ∷ as') of_all each k w =
        (access-passes y a of_y of_all.0 each.0 k w, accesses-pass y of_y as' of_all.1 each.1 k w)

    ends-pass : (t : StandingTree) → Numbered t → (as' : List StandingTree) → AllByRecursion Numbered as'
        → AllByRecursion (λ a. IsReadWith (layered d.top) (number_at a) (number_at t)) as'
        → AllByRecursion (λ a. clashes (whole_of d) ends_it t a ≡ false) as'
    ends-pass t of_t [] of_all each = tt
    ends-pass t of_t (a ∷ as') of_all each = (end-passes t a of_t of_all.0 each.0, ends-pass t of_t as' of_all.1 each.1)

    answers-pass : (r : StandingTree) → Numbered r → (as' : List StandingTree) → AllByRecursion Numbered as'
        → AllByRecursion (λ a. is_response (kind_at a) ≡ true
        → (number_at r ≡ number_at a) ⊎ AreSettled (layered d.top) (number_at r) (number_at a)) as'
        → AllByRecursion (λ a. clashes (whole_of d) answers_it r a ≡ false) as'
    answers-pass r of_r [] of_all each = tt
    answers-pass r of_r (a ∷ as') of_all each = (answer-passes r a of_r of_all.0 each.0, answers-pass r of_r as' of_all.1 each.1)

    each-writer : (all ys : List StandingTree) → AllByRecursion Numbered all → standings_of d.top ≡ all → AllByRecursion Numbered ys
        → AllByRecursion (λ s. (list_any (λ c. is_concurrent (action_kind c)) s.round ≡ false) ↔ IsInTurn (layered d.top) (number_at s)) ys
        → AllByRecursion (IsWrittenInOrder d) ys → AllByRecursion (λ y. pairs_by (whole_of d) PairRule.Variables all y ≡ []) ys
    each-writer all [] of_all is of_ys calm each = tt
    each-writer all (y ∷ ys) of_all is of_ys calm each =
        let concurrent = list_any (λ c. is_concurrent (action_kind c)) y.round in
        let others : AllByRecursion (IsAccessedWith d y) all =
        subst (λ (as' : List StandingTree). AllByRecursion (IsAccessedWith d y) as') is each.0.with_others in (
          none-both (cond (is_beside_itself (whole_of d) y) ((y, y) ∷ []) []) (pairs_over (whole_of d) y all (written_by (whole_of d) y))
              (none-pair (is_beside_itself (whole_of d) y) (y, y)
              (calm-writer (written_by (whole_of d) y) concurrent (λ k w. calm.0.1 (each.0.in_turn k w))))
              (no-pairs-over (whole_of d) y all (written_by (whole_of d) y)
              (λ k w. no-pairs (whole_of d) (writes_it k) y all (accesses-pass y of_ys.0 all of_all others k w))),
          each-writer all ys of_all is of_ys.1 calm.1 each.1,
        )

    each-end : (all ys : List StandingTree) → AllByRecursion Numbered all → AllByRecursion Numbered ys
        → AllByRecursion (λ t. is_terminate (kind_at t) ≡ true
        → AllByRecursion (λ a. IsReadWith (layered d.top) (number_at a) (number_at t)) all) ys
        → AllByRecursion (λ y. pairs_by (whole_of d) PairRule.Terminates all y ≡ []) ys
    each-end all [] of_all of_ys each = tt
    each-end all (t ∷ ys) of_all of_ys each = (
      elim (two (is_terminate (kind_at t))) [
        | inl is ↦ ap (λ (b : Bool). cond b (pairs_with (whole_of d) ends_it t all) []) is
            ∙ no-pairs (whole_of d) ends_it t all (ends-pass t of_ys.0 all of_all (each.0 is))
        | inr other ↦ ap (λ (b : Bool). cond b (pairs_with (whole_of d) ends_it t all) []) other
      ],
      each-end all ys of_all of_ys.1 each.1,
    )

    each-answer : (all ys : List StandingTree) → AllByRecursion Numbered all → AllByRecursion Numbered ys
        → AllByRecursion (λ r. is_response (kind_at r) ≡ true
        → AllByRecursion (λ a. is_response (kind_at a) ≡ true
        → (number_at r ≡ number_at a) ⊎ AreSettled (layered d.top) (number_at r) (number_at a)) all) ys
        → AllByRecursion (λ y. pairs_by (whole_of d) PairRule.Responses all y ≡ []) ys
    each-answer all [] of_all of_ys each = tt
    each-answer all (r ∷ ys) of_all of_ys each = (
      elim (two (is_response (kind_at r))) [
        | inl is ↦ ap (λ (b : Bool). cond b (pairs_with (whole_of d) answers_it r all) []) is
            ∙ no-pairs (whole_of d) answers_it r all (answers-pass r of_ys.0 all of_all (each.0 is))
        | inr other ↦ ap (λ (b : Bool). cond b (pairs_with (whole_of d) answers_it r all) []) other
      ],
      each-answer all ys of_all of_ys.1 each.1,
    )

    pub no-variable-pairs : Once (layered d.top) → AllByRecursion Numbered (standings_of d.top) → VariablesAreInOrder d
        → pairs_of d PairRule.Variables ≡ []
    no-variable-pairs once of_all each =
        no-pairs-among (whole_of d) PairRule.Variables (standings_of d.top) (standings_of d.top)
        (each-writer (standings_of d.top) (standings_of d.top) of_all refl of_all
        (all-told (λ c. is_concurrent (action_kind c)) GoesInTurn tells-concurrent d.top once) each)

    pub no-end-pairs : AllByRecursion Numbered (standings_of d.top) → TerminatesAreInOrder d → pairs_of d PairRule.Terminates ≡ []
    no-end-pairs of_all each =
        no-pairs-among (whole_of d) PairRule.Terminates (standings_of d.top) (standings_of d.top)
        (each-end (standings_of d.top) (standings_of d.top) of_all of_all each)

    pub no-answer-pairs : AllByRecursion Numbered (standings_of d.top) → ResponsesAreInOrder d → pairs_of d PairRule.Responses ≡ []
    no-answer-pairs of_all each =
        no-pairs-among (whole_of d) PairRule.Responses (standings_of d.top) (standings_of d.top)
        (each-answer (standings_of d.top) (standings_of d.top) of_all of_all each)
