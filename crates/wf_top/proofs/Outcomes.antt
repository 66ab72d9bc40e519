-- What follows from how a call ended.
use Rattle.std.proofs.Common.{◌≡◌, ◌⊎◌, ◌≤◌, ℕ, List, [], ◌∷◌, ◌++◌, length, Option, None, Some, inl, inr, ap, sym, ◌∙◌, refl, arith}
use Rattle.std.proofs.Common.{length-append}
use Rattle.std.specs.Option.{option_map, IfSome}
use Rattle.std.specs.Io.KnownBytes.{Appends}
use Rattle.wf_outside.specs.Outside.{Held, Rose, IsCalm}
use Rattle.wf_top.specs.declared.said.Verdict.{Verdict}
use Rattle.wf_top.specs.declared.said.Verdict.TheVariants.{Done, Definition, History, Inputs, TooLarge}
use Rattle.wf_top.specs.Plan.{Plan}
use Rattle.wf_top.specs.Served.{number, Outcome, Misused, Speaks, Unread, Spent, status_of, text_of, Comes, Serves, FailedAt, IsSaid}
use Rattle.wf_top.specs.Served.{PlanSays, cannot_read, usage}
use Rattle.wf_talk.specs.Written.{Writes}

-- no status of a command is 2, 3, 4 or 5
pub number_le : (verdict : Verdict) → number verdict ≤ 8
number_le Done = omega arith
number_le Definition = omega arith
number_le Inputs = omega arith
number_le History = omega arith
number_le TooLarge = omega arith

number_apart : (verdict : Verdict) → (number verdict ≡ 2 → ⊥) × (number verdict ≡ 3 → ⊥)
number_apart Done = (λ h. cc, λ h. cc)
number_apart Definition = (λ h. cc, λ h. cc)
number_apart Inputs = (λ h. cc, λ h. cc)
number_apart History = (λ h. cc, λ h. cc)
number_apart TooLarge = (λ h. cc, λ h. cc)

-- a list isn't itself with one more
pub no_longer : (xs : List (List ℕ)) (ys : List (List ℕ)) (x : List ℕ) → ys ≡ xs ++ x ∷ [] → ys ≡ xs → ⊥
no_longer xs ys x more same = omega (arith, ap length more, ap length same, length-append xs (x ∷ []))

said_at : (bytes_of : List ℕ → Option (List ℕ)) (plan : Option Plan) (old new : List (List ℕ)) (before after : Option (List ℕ))
    (result : ℕ) (outcome : Outcome) →
    Comes (Some bytes_of) plan old new outcome → new ≡ old → result ≡ status_of outcome → Appends before after (text_of outcome) →
    IsSaid (PlanSays bytes_of plan) before after result
said_at bytes_of None old new before after result Misused comes same is all = inl (usage, (is, refl), all)
said_at bytes_of None old new before after result (Speaks status text) comes same is all =
    absurd (let e : Speaks status text ≡ Misused = comes.0 in cc)
said_at bytes_of None old new before after result (Unread name) comes same is all = absurd (let e : Unread name ≡ Misused = comes.0 in cc)
said_at bytes_of None old new before after result Spent comes same is all = absurd (let e : Spent ≡ Misused = comes.0 in cc)
said_at bytes_of (Some plan) old new before after result Misused comes same is all = absurd comes
said_at bytes_of (Some plan) old new before after result (Speaks status text) comes same is all =
    inl (text, (status, is, comes.1), all)
said_at bytes_of (Some plan) old new before after result (Unread name) comes same is all = absurd (no_longer old new name comes.1 same)
said_at bytes_of (Some plan) old new before after result Spent comes same is all = inr (is, all)

-- where no count rose, that was said which the words say
pub serves_said : (bytes_of : List ℕ → Option (List ℕ)) (plan : Option Plan) (old new : List (List ℕ)) (before after : Option (List ℕ))
    (result : ℕ) →
    Serves (Some bytes_of) plan old new before after result → new ≡ old → (result ≡ 4 → ⊥) →
    IsSaid (PlanSays bytes_of plan) before after result
serves_said bytes_of plan old new before after result serves same no_four =
    elim serves.writes [
      | inl all ↦ said_at bytes_of plan old new before after result serves.outcome serves.comes same all.0 all.1
      | inr cut ↦ absurd (no_four cut.0)
    ]

-- the name that couldn't be read
failed_at : (held : Held) (plan : Option Plan) (old new : List (List ℕ)) (name : List ℕ) →
    Comes held plan old new (Unread name) → FailedAt held plan old new name
failed_at held None old new name comes = absurd (let e : Unread name ≡ Misused = comes.0 in cc)
failed_at held (Some plan) old new name comes = comes

-- what 3 says
pub three_at : (held : Held) (plan : Option Plan) (old new : List (List ℕ)) (before after : Option (List ℕ)) (result : ℕ)
    (outcome : Outcome) →
    Comes held plan old new outcome → Writes before after (status_of outcome) (text_of outcome) result → result ≡ 3 →
    (name : List ℕ) × FailedAt held plan old new name × Appends before after (cannot_read name)
three_at held plan old new before after result Misused comes writes three =
    absurd (elim writes [ inl all ↦ (let e : result ≡ 2 = all.0 in omega arith) | inr cut ↦ omega (arith, cut.0) ])
three_at held plan old new before after result (Speaks status text) comes writes three =
    absurd (elim writes [ inl all ↦ (number_apart status).1 (sym all.0 ∙ three) | inr cut ↦ omega (arith, cut.0) ])
three_at held plan old new before after result (Unread name) comes writes three =
    elim writes [ inl all ↦ (name, failed_at held plan old new name comes, all.1) | inr cut ↦ absurd (omega (arith, cut.0)) ]
three_at held plan old new before after result Spent comes writes three =
    absurd (elim writes [ inl all ↦ (let e : result ≡ 5 = all.0 in omega arith) | inr cut ↦ omega (arith, cut.0) ])

pub serves_three : (held : Held) (plan : Option Plan) (old new : List (List ℕ)) (before after : Option (List ℕ)) (result : ℕ) →
    Serves held plan old new before after result → result ≡ 3 →
    (name : List ℕ) × FailedAt held plan old new name × Appends before after (cannot_read name)
serves_three held plan old new before after result serves three =
    three_at held plan old new before after result serves.outcome serves.comes serves.writes three

-- the list of failed names, by the outcome
unread_at : (held : Held) (plan : Option Plan) (old new : List (List ℕ)) (before after : Option (List ℕ)) (result : ℕ) (outcome : Outcome) →
    Comes held plan old new outcome → Writes before after (status_of outcome) (text_of outcome) result →
    (new ≡ old) ⊎ ((name : List ℕ) × FailedAt held plan old new name × ((result ≡ 3) ⊎ (result ≡ 4) ⊎ (result ≡ 5)))
unread_at held None old new before after result outcome comes writes = inl comes.1
unread_at held (Some plan) old new before after result Misused comes writes = absurd comes
unread_at held (Some plan) old new before after result (Speaks status text) comes writes = inl comes.0
unread_at held (Some plan) old new before after result (Unread name) comes writes =
    inr (name, comes, elim writes [ inl all ↦ inl all.0 | inr cut ↦ inr (inl cut.0) ])
unread_at held (Some plan) old new before after result Spent comes writes =
    elim comes [
      | inl same ↦ inl same
      | inr grew ↦ inr (grew.0, grew.1, elim writes [ inl all ↦ inr (inr all.0) | inr cut ↦ inr (inl cut.0) ])
    ]

pub serves_unread : (held : Held) (plan : Option Plan) (old new : List (List ℕ)) (before after : Option (List ℕ)) (result : ℕ) →
    Serves held plan old new before after result →
    (new ≡ old) ⊎ ((name : List ℕ) × FailedAt held plan old new name × ((result ≡ 3) ⊎ (result ≡ 4) ⊎ (result ≡ 5)))
serves_unread held plan old new before after result serves =
    unread_at held plan old new before after result serves.outcome serves.comes serves.writes

-- the status is one of 0 to 8
le_at : (before after : Option (List ℕ)) (result : ℕ) (outcome : Outcome) →
    Writes before after (status_of outcome) (text_of outcome) result → result ≤ 8
le_at before after result Misused writes = elim writes [ inl all ↦ omega (arith, all.0) | inr cut ↦ omega (arith, cut.0) ]
le_at before after result (Speaks status text) writes =
    elim writes [ inl all ↦ omega (arith, all.0, number_le status) | inr cut ↦ omega (arith, cut.0) ]
le_at before after result (Unread name) writes = elim writes [ inl all ↦ omega (arith, all.0) | inr cut ↦ omega (arith, cut.0) ]
le_at before after result Spent writes = elim writes [ inl all ↦ omega (arith, all.0) | inr cut ↦ omega (arith, cut.0) ]

pub serves_le : (held : Held) (plan : Option Plan) (old new : List (List ℕ)) (before after : Option (List ℕ)) (result : ℕ) →
    Serves held plan old new before after result → result ≤ 8
serves_le held plan old new before after result serves = le_at before after result serves.outcome serves.writes

-- the same for any object, by whether it tells
pub serves_told : (held : Held) (plan : Option Plan) (old new : List (List ℕ)) (before after : Option (List ℕ)) (count later result : ℕ) →
    Serves held plan old new before after result → (result ≡ 4 → Rose count later) →
    IfSome held (λ bytes_of. new ≡ old → IsCalm count later → IsSaid (PlanSays bytes_of plan) before after result)
serves_told None plan old new before after count later result serves four = tt
serves_told (Some bytes_of) plan old new before after count later result serves four = λ same calm.
    serves_said bytes_of plan old new before after result serves same (λ is. let rose : Rose count later = four is in omega arith)

two_at : (held : Held) (plan : Option Plan) (old new : List (List ℕ)) (before after : Option (List ℕ)) (result : ℕ) (outcome : Outcome) →
    Comes held plan old new outcome → Writes before after (status_of outcome) (text_of outcome) result → result ≡ 2 → plan ≡ None
two_at held None old new before after result outcome comes writes two = refl
two_at held (Some plan) old new before after result Misused comes writes two = absurd comes
two_at held (Some plan) old new before after result (Speaks status text) comes writes two =
    absurd (elim writes [ inl all ↦ (number_apart status).0 (sym all.0 ∙ two) | inr cut ↦ omega (arith, cut.0) ])
two_at held (Some plan) old new before after result (Unread name) comes writes two =
    absurd (elim writes [ inl all ↦ (let e : result ≡ 3 = all.0 in omega arith) | inr cut ↦ omega (arith, cut.0) ])
two_at held (Some plan) old new before after result Spent comes writes two =
    absurd (elim writes [ inl all ↦ (let e : result ≡ 5 = all.0 in omega arith) | inr cut ↦ omega (arith, cut.0) ])

-- what 2 says
pub serves_two : (held : Held) (plan : Option Plan) (old new : List (List ℕ)) (before after : Option (List ℕ)) (result : ℕ) →
    Serves held plan old new before after result → result ≡ 2 → plan ≡ None
serves_two held plan old new before after result serves two =
    two_at held plan old new before after result serves.outcome serves.comes serves.writes two

pub misused_at : (before after : Option (List ℕ)) (result : ℕ) (outcome : Outcome) →
    outcome ≡ Misused → Writes before after (status_of outcome) (text_of outcome) result → (result ≡ 2) ⊎ (result ≡ 4)
misused_at before after result Misused is writes = elim writes [ inl all ↦ inl all.0 | inr cut ↦ inr cut.0 ]
misused_at before after result (Speaks status text) is writes = absurd (cc)
misused_at before after result (Unread name) is writes = absurd (cc)
misused_at before after result Spent is writes = absurd (cc)

-- words that are no command
pub serves_misused : (held : Held) (plan : Option Plan) (old new : List (List ℕ)) (before after : Option (List ℕ)) (result : ℕ) →
    Serves held plan old new before after result → plan ≡ None → (result ≡ 2) ⊎ (result ≡ 4)
serves_misused held None old new before after result serves none =
    misused_at before after result serves.outcome serves.comes.0 serves.writes
serves_misused held (Some plan) old new before after result serves none = absurd (cc)

-- no plan, no command
pub no_command : {A B : Type 0} (f : A → B) (o : Option A) → option_map f o ≡ None → o ≡ None
no_command f None none = refl
no_command f (Some x) none = absurd (cc)
