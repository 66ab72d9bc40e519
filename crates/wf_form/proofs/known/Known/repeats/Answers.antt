use Rattle.std.proofs.Common.{◌∙◌}
use Rattle.wf_form.proofs.NameLemmas.{listed-mapped}
use Rattle.wf_form.proofs.known.Known.repeats.Goals as goal

pub returns : goal.returns
returns c = c.contains.ensures ∙ listed-mapped c.args.self.now.repeated.keys c.args.name.now
