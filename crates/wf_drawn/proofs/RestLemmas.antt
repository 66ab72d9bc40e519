-- Levels come to rest: after as many rounds as a rank has values each action stands one below the lowest that it waits for.
use Rattle.std.proofs.Common.{◌≡◌, ◌≢◌, ℕ, zero, suc, ◌<◌, ◌≤◌, Bool, true, false, nat_eq, List, [], ◌∷◌, length, max, replicate}
use Rattle.std.proofs.Common.{slice_set, refl, sym, ap, ◌∙◌, subst, arith}
use Rattle.std.proofs.lemmas.Bool.{eqb-false, eqb-true}
use Rattle.std.proofs.lemmas.List.{length-replicate}
use Rattle.wf_def.specs.ActionTree.{ActionTree, action_after, action_number}
use Rattle.wf_def.specs.declared.after.After.{After}
use Rattle.wf_drawn.proofs.AmongLemmas.{Among, first, later}
use Rattle.wf_drawn.specs.Levels.{below_all, level_at, levels_of, one_below, put_all_below, put_below, rounds}

-- ---- levels that are put

level_other : (ls : List ℕ) (i n v : ℕ) → n ≢ i → level_at (slice_set ls i v) n ≡ level_at ls n
level_other [] zero n v other = refl
level_other [] (suc i) n v other = refl
level_other (l ∷ ls) zero zero v other = absurd (other refl)
level_other (l ∷ ls) zero (suc n) v other = refl
level_other (l ∷ ls) (suc i) zero v other = refl
level_other (l ∷ ls) (suc i) (suc n) v other = level_other ls i n v (λ e. other (ap suc e))

level_here : (ls : List ℕ) (i v : ℕ) → i < length ls → level_at (slice_set ls i v) i ≡ v
level_here [] i v lt = absurd (omega (arith, lt))
level_here (l ∷ ls) zero v lt = refl
level_here (l ∷ ls) (suc i) v lt = level_here ls i v (omega (arith, lt))

long_set : (ls : List ℕ) (i v : ℕ) → length (slice_set ls i v) ≡ length ls
long_set [] zero v = refl
long_set [] (suc i) v = refl
long_set (l ∷ ls) zero v = refl
long_set (l ∷ ls) (suc i) v = ap suc (long_set ls i v)

-- where what is waited for keeps its levels
same_below : (ls ms : List ℕ) (es : List After) → ((e : After) → Among e es → level_at ms e.number ≡ level_at ls e.number)
    → below_all ms es ≡ below_all ls es
same_below ls ms [] same = refl
same_below ls ms (e ∷ es) same =
    ap (λ l. max (one_below l) (below_all ms es)) (same e (first es))
    ∙ ap (λ l. max (one_below (level_at ls e.number)) l) (same_below ls ms es (λ x at'. same x (later e es at')))

-- ---- actions that have come to rest

abbrev pub IsSettled : List ℕ → ActionTree → Type 0
IsSettled ls a = level_at ls (action_number a) ≡ below_all ls (action_after a)

module _ (as' : List ActionTree) (rank : ℕ → ℕ)
    (once : (a b : ActionTree) → Among a as' → Among b as' → action_number a ≡ action_number b → a ≡ b)
    (below : (a : ActionTree) → Among a as' → action_number a < length as')
    (falls : (a b : ActionTree) (e : After) → Among a as' → Among b as' → Among e (action_after a) → action_number b ≡ e.number
    → rank (action_number b) < rank (action_number a)) where
  -- all actions of the lower ranks have
  abbrev AreSettled : ℕ → List ℕ → Type 0
  AreSettled k ls = (a : ActionTree) → Among a as' → rank (action_number a) < k → IsSettled ls a

  -- an action that is put changes no level but its own, and that only where it hadn't come to rest
  quiet : (k : ℕ) (ls : List ℕ) (b : ActionTree) → Among b as' → length ls ≡ length as' → AreSettled k ls
      → (n : ℕ) → (action_number b ≡ n → rank (action_number b) < k) → level_at (put_below ls b) n ≡ level_at ls n
  quiet k ls b is long settled n early = by (nat_eq n (action_number b)) refl
    where
      by : (t : Bool) → nat_eq n (action_number b) ≡ t → level_at (put_below ls b) n ≡ level_at ls n
      by true e =
          let same : n ≡ action_number b = eqb-true n (action_number b) e in
          let within = below b is in
          ap (level_at (put_below ls b)) same
          ∙ level_here ls (action_number b) (below_all ls (action_after b)) (omega (arith, within, long))
          ∙ sym (settled b is (early (sym same))) ∙ ap (level_at ls) (sym same)
      by false e = level_other ls (action_number b) n (below_all ls (action_after b)) (eqb-false n (action_number b) e)

  put_settles : (k : ℕ) (ls : List ℕ) (b : ActionTree) → Among b as' → length ls ≡ length as' → AreSettled k ls
      → IsSettled (put_below ls b) b
  put_settles k ls b is long settled =
      let within = below b is in
      level_here ls (action_number b) (below_all ls (action_after b)) (omega (arith, within, long))
      ∙ sym (same_below ls (put_below ls b) (action_after b) (λ e at'. quiet k ls b is long settled e.number (λ own.
      let less = falls b b e is is at' own in omega (arith, less))))

  put_keeps : (k : ℕ) (ls : List ℕ) (b a : ActionTree) → Among b as' → Among a as' → length ls ≡ length as' → AreSettled k ls
      → rank (action_number a) ≤ k → IsSettled ls a → IsSettled (put_below ls b) a
  put_keeps k ls b a is at' long settled le rests = by (nat_eq (action_number a) (action_number b)) refl
    where
      by : (t : Bool) → nat_eq (action_number a) (action_number b) ≡ t → IsSettled (put_below ls b) a
      by true e =
          subst (IsSettled (put_below ls b)) (sym (once a b at' is (eqb-true (action_number a) (action_number b) e)))
          (put_settles k ls b is long settled)
      by false e =
          level_other ls (action_number b) (action_number a) (below_all ls (action_after b))
          (eqb-false (action_number a) (action_number b) e)
          ∙ rests
          ∙ sym (same_below ls (put_below ls b) (action_after a) (λ x within. quiet k ls b is long settled x.number (λ own.
          let less = falls a b x at' is within own in omega (arith, less, le))))

  all_keep : (k : ℕ) (bs : List ActionTree) (ls : List ℕ) (a : ActionTree) → ((b : ActionTree) → Among b bs → Among b as') → Among a as'
      → length ls ≡ length as' → AreSettled k ls → rank (action_number a) ≤ k → IsSettled ls a → IsSettled (put_all_below ls bs) a
  all_keep k [] ls a of' at' long settled le rests = rests
  all_keep k (b ∷ bs) ls a of' at' long settled le rests =
      let is = of' b (first bs) in
      all_keep k bs (put_below ls b) a (λ c within. of' c (later b bs within)) at'
      (long_set ls (action_number b) (below_all ls (action_after b)) ∙ long)
      (λ c within lt. put_keeps k ls b c is within long settled (omega (arith, lt)) (settled c within lt)) le
      (put_keeps k ls b a is at' long settled le rests)

  all_settle : (k : ℕ) (a : ActionTree) (bs : List ActionTree) (ls : List ℕ) → ((b : ActionTree) → Among b bs → Among b as')
      → Among a bs → length ls ≡ length as' → AreSettled k ls → rank (action_number a) ≤ k → IsSettled (put_all_below ls bs) a
  all_settle k a bs ls of' (first rest) long settled le =
      let is = of' a (first rest) in
      all_keep k rest (put_below ls a) a (λ c within. of' c (later a rest within)) is
      (long_set ls (action_number a) (below_all ls (action_after a)) ∙ long)
      (λ c within lt. put_keeps k ls a c is within long settled (omega (arith, lt)) (settled c within lt)) le
      (put_settles k ls a is long settled)
  all_settle k a bs ls of' (later b rest at') long settled le =
      let is = of' b (first rest) in
      all_settle k a rest (put_below ls b) (λ c within. of' c (later b rest within)) at'
      (long_set ls (action_number b) (below_all ls (action_after b)) ∙ long)
      (λ c within lt. put_keeps k ls b c is within long settled (omega (arith, lt)) (settled c within lt)) le

  long_all : (bs : List ActionTree) (ls : List ℕ) → length (put_all_below ls bs) ≡ length ls
  long_all [] ls = refl
  long_all (b ∷ bs) ls = long_all bs (put_below ls b) ∙ long_set ls (action_number b) (below_all ls (action_after b))

  long_rounds : (k : ℕ) (ls : List ℕ) → length (rounds k ls as') ≡ length ls
  long_rounds zero ls = refl
  long_rounds (suc k) ls = long_all as' (rounds k ls as') ∙ long_rounds k ls

  rounds_settle : (k : ℕ) (ls : List ℕ) → length ls ≡ length as' → AreSettled k (rounds k ls as')
  rounds_settle zero ls long a at' lt = absurd (omega (arith, lt))
  rounds_settle (suc k) ls long a at' lt =
      all_settle k a as' (rounds k ls as') (λ b within. within) at' (long_rounds k ls ∙ long) (rounds_settle k ls long) (omega (arith, lt))

  pub come_to_rest : ((a : ActionTree) → Among a as' → rank (action_number a) < length as') → (a : ActionTree) → Among a as'
      → IsSettled (levels_of as') a
  come_to_rest few a at' =
      rounds_settle (length as') (replicate (length as') 0) (length-replicate (length as') 0) a at' (few a at')
