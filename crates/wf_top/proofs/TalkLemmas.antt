-- The statuses of a talk.
use Rattle.std.proofs.Common.{◌≡◌, ◌⊎◌, ◌≤◌, ℕ, List, Option, inl, inr, refl, sym, ◌∙◌, arith}
use Rattle.wf_answers.specs.Inputs.{InputsTree}
use Rattle.wf_talk.specs.Hearing.{After, Goes, Hearing, Over, accepting, left_by, opening, refusing}
use Rattle.wf_talk.specs.Line.{Accepted, Heard, Nothing, Refused}
use Rattle.wf_talk.specs.Says.{Says, SaysOf, SaysWhere, and_then, at_first}
use Rattle.wf_talk.specs.Standing.{Standing, TooLarge, Waits, Ends}
use Rattle.wf_talk.specs.Talks.{Closes, Talks, over, over_at_end, spent, spent_at_once, still_open, too_many, unread, unwritten}

-- None of them is 1, 2 or 7, and the last is 9.
pub record IsOfTalk (status : ℕ) : Type 0 where
  pub within : status ≤ 9
  pub not_one : status ≡ 1 → ⊥
  pub not_two : status ≡ 2 → ⊥
  pub not_seven : status ≡ 7 → ⊥

of_three : IsOfTalk 3
of_three = record {
  within = omega arith;
  not_one = λ is. omega (arith, is);
  not_two = λ is. omega (arith, is);
  not_seven = λ is. omega (arith, is);
}

of_four : IsOfTalk 4
of_four = record {
  within = omega arith;
  not_one = λ is. omega (arith, is);
  not_two = λ is. omega (arith, is);
  not_seven = λ is. omega (arith, is);
}

of_five : IsOfTalk 5
of_five = record {
  within = omega arith;
  not_one = λ is. omega (arith, is);
  not_two = λ is. omega (arith, is);
  not_seven = λ is. omega (arith, is);
}

of_six : IsOfTalk 6
of_six = record {
  within = omega arith;
  not_one = λ is. omega (arith, is);
  not_two = λ is. omega (arith, is);
  not_seven = λ is. omega (arith, is);
}

of_nine : IsOfTalk 9
of_nine = record {
  within = omega arith;
  not_one = λ is. omega (arith, is);
  not_two = λ is. omega (arith, is);
  not_seven = λ is. omega (arith, is);
}

module _ (Stands : InputsTree → Standing → Type 0) (inputs : InputsTree) where
  -- It is over where the run has ended, or costs too much.
  over_by : (h : Hearing) (standing : Standing) (status : ℕ) → left_by h standing ≡ Over status → (status ≡ 0) ⊎ (status ≡ 8)
  over_by h TooLarge status is = inr (let e : Over 8 ≡ Over status = is in cc)
  over_by h (Waits keys) status is = absurd cc
  over_by h (Ends line) status is = inl (let e : Over 0 ≡ Over status = is in cc)

  over_where : (h : Hearing) (text : List ℕ) (after : After) (status : ℕ) → SaysWhere Stands h text after → after ≡ Over status →
      (status ≡ 0) ⊎ (status ≡ 8)
  over_where h text after status says is = over_by h says.0 status (sym says.3 ∙ is)

  over_of : (h : Hearing) (what : Heard) (text : List ℕ) (after : After) (status : ℕ) → SaysOf Stands h what text after →
      after ≡ Over status → (status ≡ 0) ⊎ (status ≡ 8)
  over_of h Nothing text after status says is = absurd (let e : Goes h ≡ Over status = sym says.1 ∙ is in cc)
  over_of h (Refused words) text after status says is = absurd (let e : Goes (refusing h) ≡ Over status = sym says.1 ∙ is in cc)
  over_of h (Accepted a) text after status says is = over_where (accepting h a) text after status says is

  over_status : (lines : List (List ℕ)) (said : List ℕ) (after : After) (status : ℕ) → Says Stands inputs lines said after →
      after ≡ Over status → (status ≡ 0) ⊎ (status ≡ 8)
  over_status lines said after status (at_first says) is = over_where (opening inputs) said after status says is
  over_status lines said after status (and_then line text says hears) is = over_of _ _ _ _ status hears is

  of_over : (status : ℕ) → (status ≡ 0) ⊎ (status ≡ 8) → IsOfTalk status
  of_over status is = record {
    within = elim is [ inl zero ↦ omega (arith, zero) | inr eight ↦ omega (arith, eight) ];
    not_one = λ one. elim is [ inl zero ↦ omega (arith, zero, one) | inr eight ↦ omega (arith, eight, one) ];
    not_two = λ two. elim is [ inl zero ↦ omega (arith, zero, two) | inr eight ↦ omega (arith, eight, two) ];
    not_seven = λ seven. elim is [ inl zero ↦ omega (arith, zero, seven) | inr eight ↦ omega (arith, eight, seven) ];
  }

  closes_status : (given : List ℕ) (left : Option (List ℕ)) (status : ℕ) (said : List ℕ) → Closes Stands inputs given left status said →
      IsOfTalk status
  closes_status given left status said (over rest says) = of_over status (over_status _ _ _ status says refl)
  closes_status given left status said (over_at_end at_end within says) = of_over status (over_status _ _ _ status says refl)
  closes_status given left status said (still_open at_end within says) = of_nine
  closes_status given left status said (too_many many says) = of_six
  closes_status given left status said (unread within says) = of_three
  closes_status given left status said (spent count says) = of_five
  closes_status given left status said (spent_at_once nothing) = of_five
  closes_status given left status said (unwritten says) = of_four

  pub talks_status : (left left' taken taken' : Option (List ℕ)) (result : ℕ) → Talks Stands inputs left left' taken taken' result →
      IsOfTalk result
  talks_status left left' taken taken' result talks = elim talks.writes [
    | inl all ↦ (let known = closes_status talks.given left' talks.status talks.said talks.closes in rw all.0 known)
    | inr cut ↦ record {
      within = omega (arith, cut.0);
      not_one = λ is. omega (arith, cut.0, is);
      not_two = λ is. omega (arith, cut.0, is);
      not_seven = λ is. omega (arith, cut.0, is);
    }
  ]
