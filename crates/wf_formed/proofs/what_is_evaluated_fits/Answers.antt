use Rattle.wf_formed.proofs.what_is_evaluated_fits.Goals as goal

pub returns : goal.returns
returns c = record {
  templates = c.what_is_given_fits.ensures.template;
  values = c.what_is_given_fits.ensures.tree;
  kept = c.what_is_kept_fits.ensures;
  value = c.what_a_container_keeps_fits.ensures.chosen;
  items = c.what_a_container_keeps_fits.ensures.each;
}
