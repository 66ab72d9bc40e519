use Rattle.std.proofs.Common.{ap, ◌∙◌}
use Rattle.wf_tables.specs.Tables.{count_in}
use Rattle.wf_tables.proofs.CountLemmas.{found_there, more_lowered}
use Rattle.wf_tables.proofs.counts.lower_in_place.Goals as goal

pub returns-in-Ok-clause-counts : goal.returns-in-Ok-clause-counts
returns-in-Ok-clause-counts c x =
    ap (λ xs. count_in xs x) c.in-Ok.ensures.ok
    ∙ more_lowered c.args.place c.args.counts.now.0 c.args.count c.requires.kept c.requires.more x

pub returns-in-Ok-clause-place : goal.returns-in-Ok-clause-place
returns-in-Ok-clause-place c = found_there c.args.place c.args.counts.now.0 c.in-Ok.before c.in-Ok.ensures.before
