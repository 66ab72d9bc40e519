-- The last attempt is the least final one: by counting.
use Rattle.std.proofs.Common.{◌≡◌, ℕ, zero, suc, ◌+◌, ◌≤◌, ◌<◌, Bool, true, false, ◌&&◌, length, Option, Some, None, not, nat_lt, nat_le}
use Rattle.std.proofs.Common.{refl, sym, ap, ◌∙◌, subst, arith, ⊎_elim, true≢false}
use Rattle.std.specs.Prelude.{◌↔◌, ◌⊎◌, if◌then◌else◌}
use Rattle.std.proofs.Math.Nat.{eq-or-lt_of_le}
use Rattle.std.proofs.lemmas.Bool.Decides.{leb_tells}
use Rattle.wf_retry.specs.Again.{again, retries, is_retried}
use Rattle.wf_retry.specs.declared.policy.Policy.{Policy}
use Rattle.wf_answers.specs.AnswerTree.{AnswerTree}
use Rattle.wf_connect.specs.Attempts.{repeated, tried, ends}
use Rattle.wf_connect.specs.Last.{Answered, IsLast, is_final, last_attempt, last_from, tries_from, tries_of}

not_le : (a b : ℕ) → b < a → nat_le a b ≡ false
not_le a b lt = grind (arith, leb_tells)

-- an attempt is repeated exactly where it isn't final
pub repeated_where : (policy : Policy) (k : ℕ) (o : Option AnswerTree) → (tried policy k o ≡ repeated) ↔ (is_final policy k o ≡ false)
repeated_where policy k None = (λ e. cc, λ e. absurd (true≢false e))
repeated_where policy k (Some a) =
    elim (again policy k a.outcome) as (λ b. ((if b then repeated else ends a) ≡ repeated) ↔ (not b ≡ false)) [
      | true ↦ (λ e. refl, λ e. refl)
      | false ↦ (λ e. cc, λ e. absurd (true≢false e))
    ]

-- behind the last that is allowed no attempt follows
beyond : (policy : Policy) (n : ℕ) (o : Option AnswerTree) → retries policy < n → is_final policy n o ≡ true
beyond policy n None lt = refl
beyond policy n (Some a) lt = ap (λ b. not (b && is_retried a.outcome)) (not_le n (retries policy) lt)

module _ (policy : Policy) (answers : Answered) where
  abbrev final_at : ℕ → Bool
  final_at k = is_final policy k (answers k)

  -- the first final attempt from k on: none before it is final, and it is final, or it is the last of so many
  record From (left k n : ℕ) : Type 0 where
    at_least : k ≤ n
    at_most : n ≤ k + left
    stops : n < k + left → final_at n ≡ true
    least : (j : ℕ) → k ≤ j → j < n → final_at j ≡ false

  from_by : (left k : ℕ) (b : Bool) → final_at k ≡ b → From left (suc k) (last_from policy answers left (suc k))
      → From (suc left) k (if b then k else last_from policy answers left (suc k))
  from_by left k true e rest = record {
    at_least = omega arith;
    at_most = omega arith;
    stops = λ lt. e;
    least = λ j le lt. absurd (omega arith);
  }
  from_by left k false e rest = record {
    at_least = omega (arith, rest.at_least);
    at_most = omega (arith, rest.at_most);
    stops = λ lt. rest.stops (omega arith);
    least = λ j le lt. ⊎_elim (λ same. subst (λ i. final_at i ≡ false) same e) (λ more. rest.least j more lt) (eq-or-lt_of_le le);
  }

  from : (left k : ℕ) → From left k (last_from policy answers left k)
  from zero k = record {
    at_least = omega arith;
    at_most = omega arith;
    stops = λ lt. absurd (omega arith);
    least = λ j le lt. absurd (omega arith);
  }
  from (suc left) k = from_by left k (final_at k) refl (from left (suc k))

  abbrev last : ℕ
  last = last_attempt policy answers

  from_first : From (retries policy) 1 last
  from_first = from (retries policy) 1

  last_is_final : final_at last ≡ true
  last_is_final = ⊎_elim (λ same. beyond policy last (answers last) (omega (arith, same)))
      (λ less. from_first.stops less) (eq-or-lt_of_le from_first.at_most)

  pub is_last : IsLast policy answers last
  is_last = record { first = from_first.at_least; final = last_is_final; least = from_first.least }

  pub few : last ≤ 1 + retries policy
  few = from_first.at_most

  not_both : (n : ℕ) → final_at n ≡ true → final_at n ≡ false → ⊥
  not_both n is is_not = true≢false (sym is ∙ is_not)

  -- two that are last are one: the lesser of them would be final and not
  pub only_last : (n : ℕ) → IsLast policy answers n → n ≡ last
  only_last n l = ⊎_elim
      (λ le. ⊎_elim (λ same. same) (λ lt. absurd (not_both n l.final (from_first.least n l.first lt))) (eq-or-lt_of_le le))
      (λ lt. absurd (not_both last last_is_final (l.least last from_first.at_least lt))) (le-or-lt n last)
    where
      le-or-lt : (a b : ℕ) → (a ≤ b) ⊎ (b < a)
      le-or-lt a b = grind (arith, leb_tells)

  goes_on : (k : ℕ) → final_at k ≡ false → tried policy k (answers k) ≡ repeated
  goes_on k is_not = (repeated_where policy k (answers k)).1 is_not

  stops_here : (k : ℕ) → final_at k ≡ true → tried policy k (answers k) ≡ repeated → ⊥
  stops_here k is again = not_both k is ((repeated_where policy k (answers k)).0 again)

  pub to_the_last : (k : ℕ) → 1 ≤ k → k ≤ last → (tried policy k (answers k) ≡ repeated) ↔ (nat_lt k last ≡ true)
  to_the_last k first le = ⊎_elim
      (λ same. (
        λ again. absurd (stops_here k (subst (λ i. final_at i ≡ true) (sym same) last_is_final) again),
        λ lt. absurd (not_less same lt),
      ))
      (λ lt. (λ again. less lt, λ e. goes_on k (from_first.least k first lt))) (eq-or-lt_of_le le)
    where
      less : k < last → nat_lt k last ≡ true
      less lt = grind (arith, leb_tells)

      not_less : k ≡ last → nat_lt k last ≡ true → ⊥
      not_less same lt = grind (arith, leb_tells)

  count_tries : (count k : ℕ) → length (tries_from answers count k) ≡ count
  count_tries zero k = refl
  count_tries (suc count) k = ap suc (count_tries count (suc k))

  pub as_many : length (tries_of policy answers) ≡ last
  as_many = count_tries last 1
