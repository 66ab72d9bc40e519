-- What a run goes by, as the program makes it, is as a record of the form has it.
use Rattle.std.proofs.Common.{◌≡◌, ℕ, Bool, true, false, List, [], ◌∷◌}
use Rattle.std.specs.List.{AllByRecursion}
use Rattle.std.specs.Prelude.{if◌then◌else◌, IsUtf8}
use Rattle.wf_asked.specs.Asked.{is_name}
use Rattle.wf_val.specs.ValueTree.{text}
use Rattle.wf_def.specs.DefTree.{DefTree}
use Rattle.wf_answers.specs.Inputs.{InputsTree}
use Rattle.wf_breaks.specs.declared.rule.Rule.{Rule}
use Rattle.wf_pinned.specs.Broken.{offences}
use Rattle.wf_record.specs.Record.{RecordTree}
use Rattle.wf_record_form.specs.Fitting.{IsFittingRecord}
use Rattle.wf_environment.specs.Environment.{Environment, Facts, Layer, facts_of, facts_over, first_facts, last_over}
use Rattle.wf_environment.specs.Environment.{layer_facts}
use Rattle.wf_pinned.specs.Resubmitted.{resubmitted}
use Rattle.wf_formed.specs.Known.{TemplatesFit}
use Rattle.wf_formed.specs.Surroundings.{AreHandedIn, IsSurroundedBy}
use Rattle.wf_formed.proofs.AnswerLemmas.{AreFormedAnswers, AreFormedInputs, inputs_formed}
use Rattle.wf_formed.proofs.RecordLemmas.{IsFormedAround}
use Rattle.wf_formed.proofs.StartLemmas.{IsFormedStart, start_formed, wider_name}

pub handed_formed : IsUtf8 [] → (i : InputsTree) → AreHandedIn i → AreFormedInputs i
handed_formed none i handed = inputs_formed handed.value i handed.well_formed none handed.means

abbrev AreFormedLayers : List Layer → Type 0
AreFormedLayers layers = AllByRecursion (λ (l : Layer). AreFormedInputs l.inputs) layers

layers_formed : IsUtf8 [] → (layers : List Layer) → AllByRecursion (λ (l : Layer). AreHandedIn l.inputs) layers → AreFormedLayers layers
layers_formed none [] all = tt
layers_formed none (l ∷ layers) all = (handed_formed none l.inputs all.0, layers_formed none layers all.1)

-- ---- what an action goes by

abbrev HasAnswers : Facts → Type 0
HasAnswers f = AreFormedAnswers f.answers

over_formed : (name : List ℕ) (f : Facts) (layers : List Layer) → HasAnswers f → AreFormedLayers layers
    → HasAnswers (facts_over name f layers)
over_formed name f [] has all = has
over_formed name f (l ∷ layers) has all = over_formed name _ layers (by (l.redone name)) all.1
  where
    by : (b : Bool) → HasAnswers (if b then layer_facts l.inputs else f)
    by true = all.0.answers
    by false = has

-- ---- and what the record does

abbrev HasName : Facts → Type 0
HasName f = is_name 80 (text f.run) ≡ true

last_formed : (f : Facts) (layers : List Layer) → HasName f → AreFormedLayers layers → HasName (last_over f layers)
last_formed f [] has all = has
last_formed f (l ∷ layers) has all = last_formed (layer_facts l.inputs) layers (wider_name l.inputs.run all.0.run) all.1

module _ (none : IsUtf8 []) (fine : TemplatesFit) (d : DefTree) (holds : offences d Rule.Parameters ≡ []) (e : Environment)
    (around : IsSurroundedBy d e) where
  first_inputs : AreFormedInputs e.inputs
  first_inputs = handed_formed none e.inputs around.inputs

  start_is : IsFormedStart e.start
  start_is = start_formed fine d holds e.inputs first_inputs around.start.starts around.start.are e.start around.start.among

  pub answers_around : (name : List ℕ) → AreFormedAnswers (facts_of e name).answers
  answers_around name = over_formed name (first_facts e) e.layers first_inputs.answers (layers_formed none e.layers around.layers)

  pub formed_around : IsFormedAround e
  formed_around = record {
    run = last_formed (first_facts e) e.layers start_is.run (layers_formed none e.layers around.layers);
    trigger = start_is.trigger;
    parameters = start_is.parameters;
  }

-- ---- of a resubmission, by its new inputs and its old record

pub answers_again : (none : IsUtf8 []) (r : RecordTree) (i : InputsTree) → AreHandedIn i → (name : List ℕ)
    → AreFormedAnswers (facts_of (resubmitted r i) name).answers
answers_again none r i handed name = (handed_formed none i handed).answers

pub around_again : (none : IsUtf8 []) (r : RecordTree) (i : InputsTree) → AreHandedIn i → IsFittingRecord r
    → IsFormedAround (resubmitted r i)
around_again none r i handed fit = record {
  run = wider_name i.run (handed_formed none i handed).run;
  trigger = fit.trigger;
  parameters = fit.parameters;
}
