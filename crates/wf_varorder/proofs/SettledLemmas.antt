-- Where no pair breaks a rule, actions are settled.
use Rattle.std.proofs.Common.{◌≡◌, ◌+◌, ℕ, Bool, true, false, not, cond, List, [], ◌∷◌, ◌++◌, map, length, ◌⊎◌, inl, inr, nat_eq, bytes_eq}
use Rattle.std.proofs.Common.{refl, sym, ap, subst, ◌∙◌, true≢false}
use Rattle.std.specs.Prelude.{◌||◌, ◌&&◌, ◌↔◌}
use Rattle.std.specs.List.{AllByRecursion, list_any}
use Rattle.std.proofs.lemmas.Bool.{eq-eqb, eqb-true}
use Rattle.wf_layers.specs.Definition.{Graph, has}
use Rattle.wf_layers.specs.Seen.{Once}
use Rattle.wf_def.specs.ActionTree.{action_kind}
use Rattle.wf_def.specs.DefTree.{DefTree}
use Rattle.wf_def.specs.Layered.{layered}
use Rattle.wf_standing.specs.Order.{Before, Contains, Exclusive}
use Rattle.wf_paths.proofs.PathLemmas.{or_left, or_right}
use Rattle.wf_standing.proofs.PartLemmas.{equal_keys}
use Rattle.wf_standing.proofs.RunAfterLemmas.{append-first, append-second}
use Rattle.wf_standing.specs.Kinds.{is_concurrent, is_response, is_terminate}
use Rattle.wf_standing.specs.Standing.{StandingTree, kind_at, number_at, standings_of}
use Rattle.wf_standing.specs.Whole.{Whole, whole_of}
use Rattle.wf_varorder.specs.Pairs.{Claim, Pair, answers_it, are_settled, clashes, concerns, ends_it, holds, is_any, is_beside_itself}
use Rattle.wf_varorder.specs.Pairs.{pair_if, pair_of, pairs_among, pairs_by, pairs_of, pairs_over, pairs_with, reads, tracks, writes}
use Rattle.wf_varorder.specs.Pairs.{written_by, writes_it}
use Rattle.wf_standing.specs.Turns.{AreSettled, GoesInTurn, IsInTurn, IsReadWith}
use Rattle.wf_varorder.specs.Settled.{IsAccessedWith, IsWrittenInOrder, ResponsesAreInOrder, TerminatesAreInOrder}
use Rattle.wf_varorder.specs.Settled.{VariablesAreInOrder}
use Rattle.wf_varorder.specs.declared.rule.PairRule.{PairRule}
use Rattle.wf_varorder.proofs.TurnLemmas.{all-told, tells-concurrent}

-- ---- truth values

pub two : (b : Bool) → (b ≡ true) ⊎ (b ≡ false)
two true = inl refl
two false = inr refl

either : (b c : Bool) → (b || c) ≡ true → (b ≡ true) ⊎ (c ≡ true)
either true c is = inl refl
either false c is = inr is

clash : (b : Bool) → b ≡ true → b ≡ false → ⊥
clash b is not' = true≢false (sym is ∙ not')

not-true : (b : Bool) → not b ≡ false → b ≡ true
not-true true is = refl
not-true false is = absurd (true≢false is)

-- ---- no pair

none-if : {X : Type 0} (b : Bool) (x : X) → cond b (x ∷ []) [] ≡ [] → b ≡ false
none-if true x is = absurd (cc)
none-if false x is = refl

-- an action that doesn't clash is the same, is settled, or isn't concerned
data Passes (same settled concerned : Bool) : Type 0 where
  itself : same ≡ true → Passes same settled concerned
  in_order : settled ≡ true → Passes same settled concerned
  aside : concerned ≡ false → Passes same settled concerned

passes : (same settled concerned : Bool) → (not same && (not settled && concerned)) ≡ false → Passes same settled concerned
passes true settled concerned is = itself refl
passes false true concerned is = in_order refl
passes false false concerned is = aside is

module _ (whole : Whole) where
  none-with : (claim : Claim) (y : StandingTree) (as' : List StandingTree) → pairs_with whole claim y as' ≡ []
      → AllByRecursion (λ a. clashes whole claim y a ≡ false) as'
  none-with claim y [] is = tt
  none-with claim y (a ∷ as') is = (
    none-if (clashes whole claim y a) (pair_of claim y a)
        (append-first (pair_if whole claim y a) (pairs_with whole claim y as') is),
    none-with claim y as' (append-second (pair_if whole claim y a) (pairs_with whole claim y as') is),
  )

  none-over : (y : StandingTree) (all : List StandingTree) (ks : List (List ℕ)) → pairs_over whole y all ks ≡ []
      → (k : List ℕ) → list_any (bytes_eq k) ks ≡ true → pairs_with whole (writes_it k) y all ≡ []
  none-over y all [] is k among = absurd (true≢false (sym among))
  none-over y all (n ∷ ks) is k among = elim (either (bytes_eq k n) (list_any (bytes_eq k) ks) among) [
    | inl same ↦
        subst (λ (m : List ℕ). pairs_with whole (writes_it m) y all ≡ []) (sym (equal_keys k n same))
        (append-first (pairs_with whole (writes_it n) y all) (pairs_over whole y all ks) is)
    | inr later ↦ none-over y all ks (append-second (pairs_with whole (writes_it n) y all) (pairs_over whole y all ks) is) k later
  ]

  none-among : (rule : PairRule) (all ys : List StandingTree) → pairs_among whole rule all ys ≡ []
      → AllByRecursion (λ y. pairs_by whole rule all y ≡ []) ys
  none-among rule all [] is = tt
  none-among rule all (y ∷ ys) is = (
    append-first (pairs_by whole rule all y) (pairs_among whole rule all ys) is,
    none-among rule all ys (append-second (pairs_by whole rule all y) (pairs_among whole rule all ys) is),
  )

any-among : (k : List ℕ) (ks : List (List ℕ)) → list_any (bytes_eq k) ks ≡ true → is_any ks ≡ true
any-among k [] among = absurd (true≢false (sym among))
any-among k (n ∷ ks) among = refl

and-false : (b c : Bool) → (b && c) ≡ false → b ≡ true → c ≡ false
and-false true c is there = is
and-false false c is there = absurd (true≢false (sym there))

-- ---- in the words of the order

pub turned : (g : Graph) (x y : ℕ) → AreSettled g x y → AreSettled g y x
turned g x y (inl before) = inr (inl before)
turned g x y (inr (inl after)) = inl after
turned g x y (inr (inr apart)) = inr (inr (record {
  one = apart.other;
  other = apart.one;
  one_up = apart.other_up;
  other_up = apart.one_up;
  container = apart.container;
  left = apart.right;
  right = apart.left;
  one_stands = apart.other_stands;
  other_stands = apart.one_stands;
  apart = λ is. apart.apart (sym is);
}))

module _ (d : DefTree) where
  abbrev Numbered : StandingTree → Type 0
  Numbered s = has (layered d.top) (number_at s) ≡ true

  module _
      (exact_before : (x y : ℕ) → has (layered d.top) x ≡ true → has (layered d.top) y ≡ true
      → ((whole_of d).before x y ≡ true) ↔ Before (layered d.top) x y)
      (exact_contains : (x y : ℕ) → has (layered d.top) y ≡ true → ((whole_of d).contains x y ≡ true) ↔ Contains (layered d.top) x y)
      (exact_exclusive : (x y : ℕ) → has (layered d.top) x ≡ true → has (layered d.top) y ≡ true
      → ((whole_of d).exclusive x y ≡ true) ↔ Exclusive (layered d.top) x y) where
    settled : (y a : StandingTree) → Numbered y → Numbered a → are_settled (whole_of d) y a ≡ true
        → AreSettled (layered d.top) (number_at y) (number_at a)
    settled y a of_y of_a is =
        let m = number_at y in
        let n = number_at a in
        elim (either ((whole_of d).before m n) ((whole_of d).before n m || (whole_of d).exclusive m n) is) [
          | inl before ↦ inl ((exact_before m n of_y of_a).0 before)
          | inr rest ↦ elim (either ((whole_of d).before n m) ((whole_of d).exclusive m n) rest) [
            | inl after ↦ inr (inl ((exact_before n m of_a of_y).0 after))
            | inr apart ↦ inr (inr ((exact_exclusive m n of_y of_a).0 apart))
          ]
        ]

    write-passes : (y a : StandingTree) → Numbered y → Numbered a → (k : List ℕ) → clashes (whole_of d) (writes_it k) y a ≡ false
        → writes (whole_of d) k a ≡ true → (number_at y ≡ number_at a) ⊎ AreSettled (layered d.top) (number_at y) (number_at a)
    write-passes y a of_y of_a k passed written =
        elim (passes (nat_eq (number_at y) (number_at a)) (are_settled (whole_of d) y a) (concerns (whole_of d) (writes_it k) y a) passed) [
          | itself same ↦ inl (eqb-true (number_at y) (number_at a) same)
          | in_order is ↦ inr (settled y a of_y of_a is)
          | aside none ↦ absurd (clash (concerns (whole_of d) (writes_it k) y a)
              (or_left (writes (whole_of d) k a) (tracks (whole_of d) k a || (reads (whole_of d) k a && not (holds (whole_of d) a y)))
              written)
              none)
        ]

    track-passes : (y a : StandingTree) → Numbered y → Numbered a → (k : List ℕ) → clashes (whole_of d) (writes_it k) y a ≡ false
        → tracks (whole_of d) k a ≡ true → (number_at y ≡ number_at a) ⊎ AreSettled (layered d.top) (number_at y) (number_at a)
    track-passes y a of_y of_a k passed tracked =
        elim (passes (nat_eq (number_at y) (number_at a)) (are_settled (whole_of d) y a) (concerns (whole_of d) (writes_it k) y a) passed) [
          | itself same ↦ inl (eqb-true (number_at y) (number_at a) same)
          | in_order is ↦ inr (settled y a of_y of_a is)
          | aside none ↦ absurd (clash (concerns (whole_of d) (writes_it k) y a)
              (or_right (writes (whole_of d) k a) (tracks (whole_of d) k a || (reads (whole_of d) k a && not (holds (whole_of d) a y)))
              (or_left (tracks (whole_of d) k a) (reads (whole_of d) k a && not (holds (whole_of d) a y)) tracked))
              none)
        ]

    read-passes : (y a : StandingTree) → Numbered y → Numbered a → (k : List ℕ) → clashes (whole_of d) (writes_it k) y a ≡ false
        → reads (whole_of d) k a ≡ true → IsReadWith (layered d.top) (number_at a) (number_at y)
    read-passes y a of_y of_a k passed read =
        elim (passes (nat_eq (number_at y) (number_at a)) (are_settled (whole_of d) y a) (concerns (whole_of d) (writes_it k) y a) passed) [
          | itself same ↦ inl (sym (eqb-true (number_at y) (number_at a) same))
          | in_order is ↦ inr (inr (turned (layered d.top) (number_at y) (number_at a) (settled y a of_y of_a is)))
          | aside none ↦ elim (two (holds (whole_of d) a y)) [
            | inl inside ↦ inr (inl ((exact_contains (number_at a) (number_at y) of_y).0 inside))
            | inr out ↦ absurd (clash (concerns (whole_of d) (writes_it k) y a)
                (or_right (writes (whole_of d) k a) (tracks (whole_of d) k a || (reads (whole_of d) k a && not (holds (whole_of d) a y)))
                (or_right (tracks (whole_of d) k a) (reads (whole_of d) k a && not (holds (whole_of d) a y))
                (ap (λ (b : Bool). b && not (holds (whole_of d) a y)) read ∙ ap not out))) none)
          ]
        ]

    end-passes : (t a : StandingTree) → Numbered t → Numbered a → clashes (whole_of d) ends_it t a ≡ false
        → IsReadWith (layered d.top) (number_at a) (number_at t)
    end-passes t a of_t of_a passed =
        elim (passes (nat_eq (number_at t) (number_at a)) (are_settled (whole_of d) t a) (concerns (whole_of d) ends_it t a) passed) [
          | itself same ↦ inl (sym (eqb-true (number_at t) (number_at a) same))
          | in_order is ↦ inr (inr (turned (layered d.top) (number_at t) (number_at a) (settled t a of_t of_a is)))
          | aside none ↦ inr (inl ((exact_contains (number_at a) (number_at t) of_t).0 (not-true (holds (whole_of d) a t) none)))
        ]

    answer-passes : (r a : StandingTree) → Numbered r → Numbered a → clashes (whole_of d) answers_it r a ≡ false
        → is_response (kind_at a) ≡ true → (number_at r ≡ number_at a) ⊎ AreSettled (layered d.top) (number_at r) (number_at a)
    answer-passes r a of_r of_a passed is_one =
        elim (passes (nat_eq (number_at r) (number_at a)) (are_settled (whole_of d) r a) (concerns (whole_of d) answers_it r a) passed) [
          | itself same ↦ inl (eqb-true (number_at r) (number_at a) same)
          | in_order is ↦ inr (settled r a of_r of_a is)
          | aside none ↦ absurd (clash (is_response (kind_at a)) is_one none)
        ]

    -- ---- of all

    with-others : (y : StandingTree) → Numbered y → (as' : List StandingTree) → AllByRecursion Numbered as'
        → ((k : List ℕ) → writes (whole_of d) k y ≡ true → AllByRecursion (λ a. clashes (whole_of d) (writes_it k) y a ≡ false) as')
        → AllByRecursion (IsAccessedWith d y) as'
    with-others y of_y [] of_all passed = tt
    with-others y of_y (a ∷ as') of_all passed = (
      record {
        writers = λ k w written. write-passes y a of_y of_all.0 k (passed k w).0 written;
        trackers = λ k w tracked. track-passes y a of_y of_all.0 k (passed k w).0 tracked;
        readers = λ k w read. read-passes y a of_y of_all.0 k (passed k w).0 read;
      },
      with-others y of_y as' of_all.1 (λ k w. (passed k w).1),
    )

    ends-others : (t : StandingTree) → Numbered t → (as' : List StandingTree) → AllByRecursion Numbered as'
        → AllByRecursion (λ a. clashes (whole_of d) ends_it t a ≡ false) as'
        → AllByRecursion (λ a. IsReadWith (layered d.top) (number_at a) (number_at t)) as'
    ends-others t of_t [] of_all passed = tt
    ends-others t of_t (a ∷ as') of_all passed = (end-passes t a of_t of_all.0 passed.0, ends-others t of_t as' of_all.1 passed.1)

    answers-others : (r : StandingTree) → Numbered r → (as' : List StandingTree) → AllByRecursion Numbered as'
        → AllByRecursion (λ a. clashes (whole_of d) answers_it r a ≡ false) as'
        → AllByRecursion (λ a. is_response (kind_at a) ≡ true
        → (number_at r ≡ number_at a) ⊎ AreSettled (layered d.top) (number_at r) (number_at a)) as'
    answers-others r of_r [] of_all passed = tt
    answers-others r of_r (a ∷ as') of_all passed = (answer-passes r a of_r of_all.0 passed.0, answers-others r of_r as' of_all.1 passed.1)

    each-written : (all ys : List StandingTree) → AllByRecursion Numbered all → all ≡ standings_of d.top → AllByRecursion Numbered ys
        → AllByRecursion (λ s. (list_any (λ c. is_concurrent (action_kind c)) s.round ≡ false) ↔ IsInTurn (layered d.top) (number_at s)) ys
        → AllByRecursion (λ y. pairs_by (whole_of d) PairRule.Variables all y ≡ []) ys → AllByRecursion (IsWrittenInOrder d) ys
    each-written all [] of_all is of_ys calm none = tt
    each-written all (y ∷ ys) of_all is of_ys calm none =
        let own = append-first (cond (is_beside_itself (whole_of d) y) ((y, y) ∷ []) [])
        (pairs_over (whole_of d) y all (written_by (whole_of d) y))
        none.0 in
        let over = append-second (cond (is_beside_itself (whole_of d) y) ((y, y) ∷ []) [])
        (pairs_over (whole_of d) y all (written_by (whole_of d) y)) none.0 in (
          record {
            in_turn = λ k w. calm.0.0 (and-false (is_any (written_by (whole_of d) y))
                (list_any (λ c. is_concurrent (action_kind c)) y.round)
                (none-if (is_beside_itself (whole_of d) y) (y, y) own) (any-among k (written_by (whole_of d) y) w));
            with_others = subst (λ (as' : List StandingTree). AllByRecursion (IsAccessedWith d y) as') is (with-others y of_ys.0 all of_all
                (λ k w. none-with (whole_of d) (writes_it k) y all (none-over (whole_of d) y all (written_by (whole_of d) y) over k w)));
          },
          each-written all ys of_all is of_ys.1 calm.1 none.1,
        )

    each-ended : (all ys : List StandingTree) → AllByRecursion Numbered all → AllByRecursion Numbered ys
        → AllByRecursion (λ y. pairs_by (whole_of d) PairRule.Terminates all y ≡ []) ys
        → AllByRecursion (λ t. is_terminate (kind_at t) ≡ true
        → AllByRecursion (λ a. IsReadWith (layered d.top) (number_at a) (number_at t)) all) ys
    each-ended all [] of_all of_ys none = tt
    each-ended all (t ∷ ys) of_all of_ys none = (
      λ is. ends-others t of_ys.0 all of_all (none-with (whole_of d) ends_it t all
          (sym (ap (λ (b : Bool). cond b (pairs_with (whole_of d) ends_it t all) []) is) ∙ none.0)),
      each-ended all ys of_all of_ys.1 none.1,
    )

    each-answered : (all ys : List StandingTree) → AllByRecursion Numbered all → AllByRecursion Numbered ys
        → AllByRecursion (λ y. pairs_by (whole_of d) PairRule.Responses all y ≡ []) ys
        → AllByRecursion (λ r. is_response (kind_at r) ≡ true
        → AllByRecursion (λ a. is_response (kind_at a) ≡ true
        → (number_at r ≡ number_at a) ⊎ AreSettled (layered d.top) (number_at r) (number_at a)) all) ys
    each-answered all [] of_all of_ys none = tt
    each-answered all (r ∷ ys) of_all of_ys none = (
      λ is. answers-others r of_ys.0 all of_all (none-with (whole_of d) answers_it r all
          (sym (ap (λ (b : Bool). cond b (pairs_with (whole_of d) answers_it r all) []) is) ∙ none.0)),
      each-answered all ys of_all of_ys.1 none.1,
    )

    pub variables-in-order : Once (layered d.top) → AllByRecursion Numbered (standings_of d.top) → pairs_of d PairRule.Variables ≡ []
        → VariablesAreInOrder d
    variables-in-order once of_all none =
        each-written (standings_of d.top) (standings_of d.top) of_all refl of_all
        (all-told (λ c. is_concurrent (action_kind c)) GoesInTurn tells-concurrent d.top once)
        (none-among (whole_of d) PairRule.Variables (standings_of d.top) (standings_of d.top) none)

    pub ends-in-order : AllByRecursion Numbered (standings_of d.top) → pairs_of d PairRule.Terminates ≡ [] → TerminatesAreInOrder d
    ends-in-order of_all none =
        each-ended (standings_of d.top) (standings_of d.top) of_all of_all
        (none-among (whole_of d) PairRule.Terminates (standings_of d.top) (standings_of d.top) none)

    pub answers-in-order : AllByRecursion Numbered (standings_of d.top) → pairs_of d PairRule.Responses ≡ [] → ResponsesAreInOrder d
    answers-in-order of_all none =
        each-answered (standings_of d.top) (standings_of d.top) of_all of_all
        (none-among (whole_of d) PairRule.Responses (standings_of d.top) (standings_of d.top) none)
