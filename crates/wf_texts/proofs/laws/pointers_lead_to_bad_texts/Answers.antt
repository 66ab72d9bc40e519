use Rattle.wf_texts.specs.Members.{action_ways, trigger_ways, output_ways, bad_texts_of_action, bad_texts_of_trigger, bad_texts_of_output}
use Rattle.wf_texts.proofs.ReachedLemmas.{listed_iff_leading}
use Rattle.wf_texts.proofs.laws.pointers_lead_to_bad_texts.Goals as goal

pub returns : goal.returns
unfolding bad_texts_of_action bad_texts_of_trigger bad_texts_of_output
returns c = record {
  action = λ t p. listed_iff_leading (action_ways t) t p;
  trigger = λ t p. listed_iff_leading trigger_ways t p;
  output = λ t p. listed_iff_leading output_ways t p;
}
