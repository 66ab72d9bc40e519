-- THE LAST ATTEMPT where more is answered: it is no earlier, and one that is answered stays the last.
use Rattle.std.proofs.Common.{◌≡◌, ℕ, zero, suc, ◌+◌, ◌≤◌, ◌<◌, true, false, ◌∷◌, Option, Some, None, nat_eq, nat_lt}
use Rattle.std.proofs.Common.{refl, sym, ap, ◌∙◌, subst, arith, ⊎_elim, true≢false}
use Rattle.std.specs.Prelude.{◌⊎◌}
use Rattle.std.proofs.Math.Nat.{eq-or-lt_of_le}
use Rattle.std.proofs.lemmas.Bool.Decides.{leb_tells}
use Rattle.wf_layers.specs.Machine.{has_ended}
use Rattle.wf_retry.specs.declared.policy.Policy.{Policy}
use Rattle.wf_answers.specs.AnswerTree.{AnswerTree}
use Rattle.wf_connect.specs.Attempts.{tried, try_of}
use Rattle.wf_connect.specs.Last.{Answered, IsLast, ending, is_final, last_attempt, tries_from, tries_of}

le-or-lt : (a b : ℕ) → (a ≤ b) ⊎ (b < a)
le-or-lt a b = grind (arith, leb_tells)

same_order : (c n n' : ℕ) → c < n → n ≤ n' → (nat_lt c n ≡ nat_lt c n') × (nat_eq c n ≡ nat_eq c n')
same_order c n n' lt le = (grind arith, grind arith)

-- what another attempt follows has an answer
answered_where : (policy : Policy) (k : ℕ) (o : Option AnswerTree) → is_final policy k o ≡ false → has_ended o ≡ true
answered_where policy k None goes = absurd (true≢false goes)
answered_where policy k (Some a) goes = refl

module _ (policy : Policy) (few more : Answered) (stays : (k : ℕ) (a : AnswerTree) → few k ≡ Some a → more k ≡ Some a) where
  stays_as : (k : ℕ) (o : Option AnswerTree) → few k ≡ o → has_ended o ≡ true → more k ≡ o
  stays_as k None is ended = absurd (true≢false (sym ended))
  stays_as k (Some a) is ended = stays k a is

  same_where : (k : ℕ) → has_ended (few k) ≡ true → more k ≡ few k
  same_where k ended = stays_as k (few k) refl ended

  module _ (n n' : ℕ) (last : IsLast policy few n) (last' : IsLast policy more n') where
    same_before : (k : ℕ) → 1 ≤ k → k < n → more k ≡ few k
    same_before k first lt = same_where k (answered_where policy k (few k) (last.least k first lt))

    pub no_earlier : n ≤ n'
    no_earlier = ⊎_elim (λ le. le) (λ lt. absurd (true≢false (sym last'.final ∙ goes lt))) (le-or-lt n n')
      where
        goes : n' < n → is_final policy n' (more n') ≡ false
        goes lt = ap (is_final policy n') (same_before n' last'.first lt) ∙ last.least n' last'.first lt

    pub stays_last : has_ended (few n) ≡ true → n ≡ n'
    stays_last ended =
        ⊎_elim (λ same. same) (λ lt. absurd (true≢false (sym stops ∙ last'.least n last.first lt))) (eq-or-lt_of_le no_earlier)
      where
        stops : is_final policy n (more n) ≡ true
        stops = ap (is_final policy n) (same_where n ended) ∙ last.final

    -- as far as attempts are answered it is known whether another follows
    pub known_so_far : (c : ℕ) → c ≤ n → (c ≡ n → has_ended (few n) ≡ true) → (nat_lt c n ≡ nat_lt c n') × (nat_eq c n ≡ nat_eq c n')
    known_so_far c le ended = ⊎_elim
        (λ same. (ap (nat_lt c) (stays_last (ended same)), ap (nat_eq c) (stays_last (ended same))))
        (λ lt. same_order c n n' lt no_earlier) (eq-or-lt_of_le le)

    same_up_to : has_ended (few n) ≡ true → (k : ℕ) → 1 ≤ k → k ≤ n → more k ≡ few k
    same_up_to ended k first le = ⊎_elim
        (λ same. subst (λ j. more j ≡ few j) (sym same) (same_where n ended)) (λ lt. same_before k first lt) (eq-or-lt_of_le le)

  tries_same : (count k : ℕ) → ((j : ℕ) → k ≤ j → j < k + count → more j ≡ few j)
      → tries_from few count k ≡ tries_from more count k
  tries_same zero k same = refl
  tries_same (suc count) k same =
      ap (λ o. try_of o ∷ tries_from few count (suc k)) (sym (same k (omega arith) (omega arith)))
      ∙ ap (λ ts. try_of (more k) ∷ ts) (tries_same count (suc k) (λ j le lt. same j (omega arith) (omega arith)))

  -- how the attempts end whose last is answered, and what a row keeps of them
  module _ (last : IsLast policy few (last_attempt policy few)) (last' : IsLast policy more (last_attempt policy more))
      (ended : has_ended (few (last_attempt policy few)) ≡ true) where
    same_last : last_attempt policy few ≡ last_attempt policy more
    same_last = stays_last (last_attempt policy few) (last_attempt policy more) last last' ended

    pub same_tries : tries_of policy few ≡ tries_of policy more
    same_tries =
        tries_same (last_attempt policy few) 1
        (λ j first lt. same_up_to (last_attempt policy few) (last_attempt policy more) last last' ended j first (omega arith))
        ∙ ap (λ n. tries_from more n 1) same_last

    pub same_ending : ending policy few ≡ ending policy more
    same_ending =
        ap (tried policy (last_attempt policy few)) (sym (same_where (last_attempt policy few) ended))
        ∙ ap (λ n. tried policy n (more n)) same_last
