-- What is known of the definition and the inputs of a drill.
use Rattle.std.proofs.Common.{◌≡◌, ℕ, List, [], ◌∷◌, length, Option, None, Some, Result, Ok, Err, refl, sym, ap, ◌∙◌, subst}
use Rattle.std.specs.Option.{option_map}
use Rattle.wf_answers.specs.AnswerTree.{AnswerTree}
use Rattle.wf_answers.specs.Inputs as answers
use Rattle.wf_answers.specs.Inputs.{InputsTree}
use Rattle.wf_answers.specs.declared.fault.InputsFault.{InputsFault}
use Rattle.wf_def.specs.DefTree.{DefTree}
use Rattle.wf_drill.specs.Drill.{drill_definition, drill_inputs}
use Rattle.wf_files.specs.Form.{broken_in, checked, definition_of, formed, inputs_of, or_inputs_fault}
use Rattle.wf_form.specs.Fault.{fault_of}
use Rattle.wf_reading.specs.Meant as read
use Rattle.wf_reading.specs.Read.{IsRead}
use Rattle.wf_reading.specs.ReadSeen.{fault_in, rule_fault}
use Rattle.wf_reading.specs.declared.definition.RuleFault.{RuleFault}
use Rattle.wf_files.specs.Broken.{broken_of}
use Rattle.wf_told.specs.Measured.{StartsAlone}
use Rattle.wf_trigger.specs.Choosing.{chosen}
use Rattle.wf_trigger.specs.Parameters.{parameters_of}
use Rattle.wf_trigger.specs.Runs.{runs_of, started, then_do, value_in}
use Rattle.wf_trigger.specs.Starts.{StartTree, start_whole}
use Rattle.wf_val.specs.ValueTree.{ValueTree, Member, null}
use Rattle.wf_val.specs.WellFormed.{IsWellFormed}

-- ---- an accepted definition is what its value means, which breaks no rule

checked_is : (d : DefTree) (fault : Option RuleFault) → broken_in d ≡ fault → (taken : DefTree) → checked d fault ≡ Ok taken
    → (taken ≡ d) × (broken_in d ≡ None)
checked_is d (Some fault) broken taken is = absurd cc
checked_is d None broken taken is = let same : d ≡ taken = cc in (sym same, broken)

-- of the form of a value: what is meant, that it breaks no rule on what stands where, and none between its parts
pub record IsMeant (value : ValueTree) (d : DefTree) : Type 0 where
  pub means : read.definition_of value ≡ d
  pub holds : fault_of value ≡ None
  pub unbroken : broken_in (read.definition_of value) ≡ None

no_fault : (fault : Option (ℕ × List ℕ)) → option_map rule_fault fault ≡ None → fault ≡ None
no_fault None is = refl
no_fault (Some f) is = absurd cc

formed_is : (value : ValueTree) (fault : Option RuleFault) → fault_in value ≡ fault → (d : DefTree) → formed value fault ≡ Ok d
    → IsMeant value d
formed_is value (Some fault) there d is = absurd cc
formed_is value None there d is =
    let found = checked_is (read.definition_of value) (broken_in (read.definition_of value)) refl d is in
    record { means = sym found.0; holds = no_fault (fault_of value) there; unbroken = found.1 }

pub meant : (value : ValueTree) (d : DefTree) → definition_of value ≡ Ok d → IsMeant value d
meant value d is = formed_is value (fault_in value) refl d is

pub was_read : (value : ValueTree) → IsWellFormed value → (d : DefTree) → definition_of value ≡ Ok d → IsRead d × (broken_of d ≡ None)
unfolding broken_in
was_read value well d is =
    let m = meant value d is in
    (record { value = value; well_formed = well; holds = m.holds; means = m.means }, subst (λ x. broken_of x ≡ None) m.means m.unbroken)

-- ---- inputs that name no trigger

trigger-moment : (t : ValueTree) (kept : List AnswerTree) (moment : Option ℕ) (i : InputsTree) → answers.with_moment t kept moment ≡ Ok i
    → i.trigger ≡ (answers.inputs_at t 0 []).trigger
trigger-moment t kept None i is = absurd cc
trigger-moment t kept (Some moment) i is =
    let same : answers.inputs_at t moment kept ≡ i = cc in ap (λ x. x.trigger) (sym same)

trigger-answers : (t : ValueTree) (kept : List AnswerTree) (twice : Option AnswerTree) (i : InputsTree)
    → answers.with_answers t kept twice ≡ Ok i → i.trigger ≡ (answers.inputs_at t 0 []).trigger
trigger-answers t kept (Some a) i is = absurd cc
trigger-answers t kept None i is = trigger-moment t kept _ i is

trigger-form : (t : ValueTree) (pointer : Option (List ℕ)) (i : InputsTree) → answers.of_form t pointer ≡ Ok i
    → i.trigger ≡ (answers.inputs_at t 0 []).trigger
trigger-form t (Some pointer) i is = absurd cc
trigger-form t None i is = trigger-answers t _ _ i is

trigger-read : (t : ValueTree) (found : Result InputsTree InputsFault) → answers.inputs_of t ≡ found → (i : InputsTree)
    → or_inputs_fault found ≡ Ok i → i.trigger ≡ (answers.inputs_at t 0 []).trigger
trigger-read t (Err fault) there i is = absurd cc
trigger-read t (Ok j) there i is =
    let same : j ≡ i = cc in
    ap (λ x. x.trigger) (sym same) ∙ trigger-form t _ j there

pub no_trigger : (n : ℕ) (i : InputsTree) → inputs_of (drill_inputs n) ≡ Ok i → i.trigger ≡ None
no_trigger n i is = trigger-read (drill_inputs n) (answers.inputs_of (drill_inputs n)) refl i is

-- ---- one run starts

-- what a run starts with where there is no trigger, and no parameter is declared
abbrev alone : InputsTree → StartTree
alone i = start_whole (record { run = i.run; seed = i.seed; name = null; outputs = i.outputs; parameters = [] })

at_once : (given : List Member) (i : InputsTree) (named : Option (List ℕ)) → named ≡ None
    → then_do (chosen named []) (λ trigger. then_do (parameters_of i.parameters given []) (λ values.
    started (value_in trigger i values) trigger i values)) ≡ Ok (alone i ∷ [])
at_once given i None none = refl
at_once given i (Some name) none = absurd cc

one_run : (given : List Member) (i : InputsTree) → i.trigger ≡ None → (starts : List StartTree) → runs_of [] given [] i ≡ Ok starts
    → length starts ≡ 1
one_run given i none starts is =
    let same : Ok (alone i ∷ []) ≡ Ok starts = sym (at_once given i i.trigger none) ∙ is in
    let lists : alone i ∷ [] ≡ starts = cc in
    ap length (sym lists)

pub starts_alone : (n : ℕ) (d : DefTree) (i : InputsTree) → definition_of (drill_definition n) ≡ Ok d → inputs_of (drill_inputs n) ≡ Ok i
    → StartsAlone d i
starts_alone n d i accepted given starts is =
    let m = meant (drill_definition n) d accepted in
    let params : d.parameters ≡ [] = ap (λ x. x.parameters) (sym m.means) in
    let triggers : d.triggers ≡ [] = ap (λ x. x.triggers) (sym m.means) in
    one_run d.given i (no_trigger n i given) starts
    (subst (λ ts. runs_of [] d.given ts i ≡ Ok starts) triggers
    (subst (λ ps. runs_of ps d.given d.triggers i ≡ Ok starts) params is))
