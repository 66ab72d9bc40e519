-- What comes before a talk: a read, and then the rest of the plan.
use Rattle.std.proofs.Common.{◌≡◌, ℕ, List, [], ◌∷◌, Option, Some, Result, Ok, Err, inl, refl, ap, subst, sym, ◌∙◌}
use Rattle.std.specs.Prelude.{codes}
use Rattle.std.specs.Result.{IfOk, IfErr}
use Rattle.wf_answers.specs.Inputs.{InputsTree}
use Rattle.wf_answers.specs.InputsSeen.{inputs_tree}
use Rattle.wf_def.specs.DefTree.{DefTree}
use Rattle.wf_files.specs.Form.{definition_form, inputs_form}
use Rattle.wf_files.specs.declared.fault.FormFault.{FormFault}
use Rattle.wf_outside.specs.Outside.{Held}
use Rattle.wf_reading.specs.ReadSeen.{def_tree}
use Rattle.wf_told.specs.Records.{starts_of}
use Rattle.wf_top.proofs.Following.{reaches_read}
use Rattle.wf_top.specs.Conversed.{IsJoined}
use Rattle.wf_top.specs.Limits.{definition_bytes, inputs_bytes}
use Rattle.wf_top.specs.Opening.{MayOpen, Opens}
use Rattle.wf_top.specs.Plan.{Plan, Says, Reads, LeadsTo, MayGive}
use Rattle.wf_top.specs.Ran.{GivesDefinition}
use Rattle.wf_top.specs.Resubmit.{judged}
use Rattle.wf_top.specs.Served.{Speaks, outcome_of}
use Rattle.wf_top.specs.Session.{joined, session, started}
use Rattle.wf_top.specs.Words.{command_of, word}
use Rattle.wf_top.specs.declared.load.Stop.{Stop}
use Rattle.wf_top.specs.declared.load.Stop.TheVariants.{CannotRead, Memory}
use Rattle.wf_top.specs.declared.said.Verdict.{Verdict}
use Rattle.wf_top.specs.declared.said.Verdict.TheVariants.{Definition, Inputs}
use Rattle.wf_top.specs.declared.session.Opened.{Opened}
use Rattle.wf_top.specs.declared.words.Command.TheVariants.{Session}
use Rattle.wf_trigger.specs.Starts.{StartTree}
use Rattle.wf_trigger.specs.StartsSeen.{start_tree}
use Rattle.wf_trigger.specs.declared.fault.TriggerFault.{TriggerFault}

-- The read gave a file, and the rest went on from there.
pub opens_read : (held held' : Held) (name : List ℕ) (limit : ℕ) (next : Option (List ℕ) → Plan) (file : Option (List ℕ)) (plan : Plan)
    (old old' new : List (List ℕ)) (result : Result Opened Stop) →
    held' ≡ held → MayGive held name limit file × (old' ≡ old) → next file ≡ plan → Opens held' plan old' new result →
    Opens held (Reads name limit next) old new result
opens_read held held' name limit next file plan old old' new (Ok (Opened.Said said)) same gives is opens =
    reaches_read held held' name limit next file plan old old' new (Speaks said.verdict said.text.items) same gives is opens
opens_read held held' name limit next file plan old old' new (Ok (Opened.Talk checked start inputs)) same gives is opens =
    let Leads : Held → Plan → Type 0 =
    λ h p. LeadsTo h p (def_tree checked.def) (start_tree start) (inputs_tree inputs) in
    (opens.0 ∙ gives.1, (file, gives.0, subst (λ p. Leads held p) (sym is) (subst (λ h. Leads h plan) same opens.1)))
opens_read held held' name limit next file plan old old' new (Err stop) same gives is opens =
    reaches_read held held' name limit next file plan old old' new (outcome_of (Err stop)) same gives is opens

-- What it led to then is what the plan leads to, unless memory ran out.
pub opens_told : (held : Held) (name : List ℕ) (limit : ℕ) (next : Option (List ℕ) → Plan) (file : Option (List ℕ))
    (old new : List (List ℕ)) (result : Result Opened Stop) →
    MayGive held name limit file × (new ≡ old) → IfOk result (λ opened. (any : Held) → MayOpen any (next file) opened) →
    IfErr result (λ stop. stop ≡ Memory) → Opens held (Reads name limit next) old new result
opens_told held name limit next file old new (Ok (Opened.Said said)) gives ok err = (gives.1, (file, gives.0, ok held))
opens_told held name limit next file old new (Ok (Opened.Talk checked start inputs)) gives ok err =
    (gives.1, (file, gives.0, ok held))
opens_told held name limit next file old new (Err (CannotRead failed)) gives ok err = absurd (cc)
opens_told held name limit next file old new (Err Memory) gives ok err = inl gives.1

-- A fault that was said is what the plan says: P says that it isn't want of memory.
pub opens_fault : (P : Type 0) (plan : Plan) (verdict : Verdict) (line : List ℕ) (result : Result Opened Stop) →
    (P → plan ≡ Says verdict line) → IfOk result (λ opened. P × ((any : Held) → MayOpen any (Says verdict line) opened)) →
    IfOk result (λ opened. (any : Held) → MayOpen any plan opened)
opens_fault P plan verdict line (Ok opened) is ok = λ any. subst (λ p. MayOpen any p opened) (sym (is ok.0)) (ok.1 any)
opens_fault P plan verdict line (Err stop) is ok = ok

-- What one plan may open opens any that is the same.
pub opens_same : (plan same : Plan) (result : Result Opened Stop) → plan ≡ same →
    IfOk result (λ opened. (any : Held) → MayOpen any same opened) → IfOk result (λ opened. (any : Held) → MayOpen any plan opened)
opens_same plan same (Ok opened) is ok = λ any. subst (λ p. MayOpen any p opened) (sym is) (ok any)
opens_same plan same (Err stop) is ok = ok

-- ---- what leads to a talk

module _ (held : Held) (words : List (List ℕ)) (names : command_of words ≡ Some Session) (d : DefTree) (start : StartTree)
    (inputs : InputsTree) where
  abbrev IsGivenAlone : Type 0
  IsGivenAlone = IsJoined held words d inputs × (starts_of d inputs ≡ Ok (start ∷ []))

  led_by_starts : (e : DefTree) (i : InputsTree) → IsJoined held words e i → (found : Result (List StartTree) TriggerFault) →
      starts_of e i ≡ found → LeadsTo held (started e i found) d start inputs → IsGivenAlone
  led_by_starts e i given (Err fault) is leads = absurd leads
  led_by_starts e i given (Ok []) is leads = absurd leads
  led_by_starts e i given (Ok (s ∷ [])) is leads =
      subst (λ x. IsJoined held words x inputs × (starts_of x inputs ≡ Ok (start ∷ []))) leads.0
      (subst (λ y. IsJoined held words e y × (starts_of e y ≡ Ok (start ∷ []))) leads.2
      (given, is ∙ ap (λ x. Ok (x ∷ [])) leads.1))
  led_by_starts e i given (Ok (s ∷ next ∷ starts)) is leads = absurd leads

  led_by_inputs : (e : DefTree) → GivesDefinition held words Session (Ok e) → (file : Option (List ℕ)) →
      MayGive held (word words 2) inputs_bytes file → (form : Result InputsTree FormFault) → inputs_form file ≡ form →
      LeadsTo held (judged Inputs (codes "inputs ") (λ i. started e i (starts_of e i)) form) d start inputs → IsGivenAlone
  led_by_inputs e given file may (Ok i) is leads =
      led_by_starts e i (record { definition_given = given; inputs_given = (file, may, is) }) (starts_of e i) refl leads
  led_by_inputs e given file may (Err fault) is leads = absurd leads

  led_by_definition : (file : Option (List ℕ)) → MayGive held (word words 1) definition_bytes file →
      (form : Result DefTree FormFault) → definition_form file ≡ form →
      LeadsTo held (judged Definition (codes "definition ") (joined (word words 2)) form) d start inputs → IsGivenAlone
  led_by_definition file may (Ok e) is leads =
      led_by_inputs e (names, (file, may, is)) leads.0 leads.1 (inputs_form leads.0) refl leads.2
  led_by_definition file may (Err fault) is leads = absurd leads

  pub led_by_session : LeadsTo held (session (word words 1) (word words 2)) d start inputs → IsGivenAlone
  led_by_session leads = led_by_definition leads.0 leads.1 (definition_form leads.0) refl leads.2
