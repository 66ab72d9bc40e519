-- A read, and then the rest of the plan.
use Rattle.std.proofs.Common.{◌≡◌, ℕ, List, Option, Result, Ok, Err, inl, inr, refl, subst}
use Rattle.std.specs.Result.{IfOk, IfErr}
use Rattle.wf_outside.specs.Outside.{Held}
use Rattle.wf_top.specs.Plan.{Plan, Says, Reads, MayGive, MaySay}
use Rattle.wf_top.specs.Served.{Outcome, Misused, Speaks, Unread, Spent, Reaches, outcome_of}
use Rattle.wf_top.specs.declared.load.Stop.{Stop}
use Rattle.wf_top.specs.declared.load.Stop.TheVariants.{CannotRead, Memory}
use Rattle.wf_top.specs.declared.said.Said.{Said}
use Rattle.wf_top.specs.declared.said.Verdict.{Verdict}

reaches_next : (held : Held) (name : List ℕ) (limit : ℕ) (next : Option (List ℕ) → Plan) (file : Option (List ℕ))
    (old new : List (List ℕ)) (outcome : Outcome) →
    MayGive held name limit file → Reaches held (next file) old new outcome → Reaches held (Reads name limit next) old new outcome
reaches_next held name limit next file old new Misused gives reaches = reaches
reaches_next held name limit next file old new (Speaks status text) gives reaches = (reaches.0, (file, gives, reaches.1))
reaches_next held name limit next file old new (Unread failed) gives reaches = (inr (file, gives, reaches.0), reaches.1)
reaches_next held name limit next file old new Spent gives reaches =
    elim reaches [ inl same ↦ inl same | inr grew ↦ inr (grew.0, (inr (file, gives, grew.1.0), grew.1.1)) ]

-- The read gave a file, and the rest went on from there: held and the list of failed names are as before it.
pub reaches_read : (held held' : Held) (name : List ℕ) (limit : ℕ) (next : Option (List ℕ) → Plan) (file : Option (List ℕ)) (plan : Plan)
    (old old' new : List (List ℕ)) (outcome : Outcome) →
    held' ≡ held → MayGive held name limit file × (old' ≡ old) → next file ≡ plan → Reaches held' plan old' new outcome →
    Reaches held (Reads name limit next) old new outcome
reaches_read held held' name limit next file plan old old' new outcome same gives is reaches =
    reaches_next held name limit next file old new outcome gives.0
    (rw is (subst (λ h. Reaches h plan old new outcome) same (subst (λ o. Reaches held' plan o new outcome) gives.1 reaches)))

-- The read gave a file with a fault, which was said, unless memory ran out: P says that the fault isn't want of memory.
pub reaches_fault : (held : Held) (name : List ℕ) (limit : ℕ) (next : Option (List ℕ) → Plan) (file : Option (List ℕ))
    (old new : List (List ℕ))
    (P : Type 0) (verdict : Verdict) (line : List ℕ) (result : Result Said Stop) →
    MayGive held name limit file × (new ≡ old) → (P → next file ≡ Says verdict line) →
    IfOk result (λ said. P × (said.verdict ≡ verdict) × (said.text.items ≡ line)) → IfErr result (λ stop. stop ≡ Memory) →
    Reaches held (Reads name limit next) old new (outcome_of result)
reaches_fault held name limit next file old new P verdict line (Ok said) gives is ok err =
    (gives.1, (file, gives.0, rw (is ok.0) (ok.1, ok.2)))
reaches_fault held name limit next file old new P verdict line (Err (CannotRead failed)) gives is ok err = absurd (cc)
reaches_fault held name limit next file old new P verdict line (Err Memory) gives is ok err = inl gives.1

-- What was said then of what was read is what the plan may say, unless memory ran out.
pub reaches_told : (held : Held) (name : List ℕ) (limit : ℕ) (next : Option (List ℕ) → Plan) (file : Option (List ℕ)) (plan : Plan)
    (old new : List (List ℕ)) (result : Result Said Stop) →
    MayGive held name limit file × (new ≡ old) → next file ≡ plan →
    IfOk result (λ said. MaySay held plan said.verdict said.text.items) → IfErr result (λ stop. stop ≡ Memory) →
    Reaches held (Reads name limit next) old new (outcome_of result)
reaches_told held name limit next file plan old new (Ok said) gives is ok err = (gives.1, (file, gives.0, rw is ok))
reaches_told held name limit next file plan old new (Err (CannotRead failed)) gives is ok err = absurd (cc)
reaches_told held name limit next file plan old new (Err Memory) gives is ok err = inl gives.1

-- And so where the plan says one thing.
pub reaches_said : (held : Held) (name : List ℕ) (limit : ℕ) (next : Option (List ℕ) → Plan) (file : Option (List ℕ)) (plan : Plan)
    (old new : List (List ℕ)) (result : Result Said Stop) →
    MayGive held name limit file × (new ≡ old) → next file ≡ plan →
    IfOk result (λ said. plan ≡ Says said.verdict said.text.items) → IfErr result (λ stop. stop ≡ Memory) →
    Reaches held (Reads name limit next) old new (outcome_of result)
reaches_said held name limit next file plan old new (Ok said) gives is ok err = (gives.1, (file, gives.0, rw (is, ok) (refl, refl)))
reaches_said held name limit next file plan old new (Err (CannotRead failed)) gives is ok err = absurd (cc)
reaches_said held name limit next file plan old new (Err Memory) gives is ok err = inl gives.1

-- And so where it may be said whether the files tell or not.
pub reaches_always : (held : Held) (name : List ℕ) (limit : ℕ) (next : Option (List ℕ) → Plan) (file : Option (List ℕ)) (plan : Plan)
    (old new : List (List ℕ)) (result : Result Said Stop) →
    MayGive held name limit file × (new ≡ old) → next file ≡ plan →
    IfOk result (λ said. (any : Held) → MaySay any plan said.verdict said.text.items) → IfErr result (λ stop. stop ≡ Memory) →
    Reaches held (Reads name limit next) old new (outcome_of result)
reaches_always held name limit next file plan old new (Ok said) gives is ok err = (gives.1, (file, gives.0, rw is (ok held)))
reaches_always held name limit next file plan old new (Err (CannotRead failed)) gives is ok err = absurd (cc)
reaches_always held name limit next file plan old new (Err Memory) gives is ok err = inl gives.1

-- What is said without a further file.
pub reaches_now : (held : Held) (plan : Plan) (old : List (List ℕ)) (result : Result Said Stop) →
    IfOk result (λ said. (any : Held) → MaySay any plan said.verdict said.text.items) → IfErr result (λ stop. stop ≡ Memory) →
    Reaches held plan old old (outcome_of result)
reaches_now held plan old (Ok said) ok err = (refl, ok held)
reaches_now held plan old (Err (CannotRead failed)) ok err = absurd (cc)
reaches_now held plan old (Err Memory) ok err = inl refl

-- A fault that was said is what the plan says, unless it is want of memory.
pub said_fault : (P : Type 0) (plan : Plan) (verdict : Verdict) (line : List ℕ) (result : Result Said Stop) →
    (P → plan ≡ Says verdict line) →
    IfOk result (λ said. P × (said.verdict ≡ verdict) × (said.text.items ≡ line)) →
    IfOk result (λ said. (any : Held) → MaySay any plan said.verdict said.text.items)
said_fault P plan verdict line (Ok said) is ok = λ any. rw (is ok.0) (ok.1, ok.2)
said_fault P plan verdict line (Err stop) is ok = ok

-- What was said whatever files tell.
pub said_always : (P : Verdict → List ℕ → Type 0) (result : Result Said Stop) → IfOk result (λ said. P said.verdict said.text.items) →
    IfOk result (λ said. (any : Held) → P said.verdict said.text.items)
said_always P (Ok said) ok = λ any. ok
said_always P (Err stop) ok = ok
