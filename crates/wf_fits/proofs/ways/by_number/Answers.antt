use Rattle.std.proofs.Common.{ap, ◌∙◌}
use Rattle.wf_fits.specs.WaysSeen.{placed_at}
use Rattle.wf_fits.proofs.WayLemmas.{placed_found}
use Rattle.wf_fits.proofs.ways.by_number.Goals as goal

pub returns : goal.returns
returns c = λ n. ap (λ ps. placed_at ps n) c.in_ok-table.ensures ∙ placed_found c.args.actions.items n
