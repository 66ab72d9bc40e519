-- Whether an attempt has its answer, by what is looked up.
use Rattle.std.proofs.Common.{◌≡◌, ℕ, map, Option, sym, ap, ◌∙◌}
use Rattle.wf_answers.specs.AnswerSeen.{answer_tree}
use Rattle.wf_answers.specs.AnswerTree.{AnswerTree, find_answer}
use Rattle.wf_connect.specs.Last.{answered_at}
use Rattle.wf_stands.specs.Places.{named}
use Rattle.wf_layers.specs.Address.{Address}
use Rattle.wf_layers.specs.Machine.{has_ended}
use Rattle.wf_planned.specs.Look.{instance}
use Rattle.wf_reading.specs.ReadSeen.{def_tree}
use Rattle.wf_val.specs.declared.address.Address as values
use Rattle.wf_runnable.specs.Actions.{Actions}
use Rattle.wf_runnable.specs.Meant.{definition_of}
use Rattle.wf_session.specs.Begun.{answered_in, going}

module _ (a : Actions) (address : values.Address) (x : Address) (is : address ≡ instance (def_tree a.ready.now.places) x) where
  -- the address that an instance has in the definition
  pub in_definition : address ≡ instance (definition_of a) x
  in_definition = is ∙ ap (λ d. instance (def_tree d) x) a.ready.now.placed

  pub looked_up : (k : ℕ) (o : Option AnswerTree) → o ≡ answered_at (map answer_tree a.inputs.now.answers) (named address.name address.at) k
      → answered_in (going a) x k ≡ has_ended o
  looked_up k o found =
      sym (ap has_ended (found ∙ ap (λ z. find_answer (z, k) (map answer_tree a.inputs.now.answers)) in_definition))
