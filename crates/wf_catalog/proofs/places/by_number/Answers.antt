use Rattle.std.proofs.Common.{map, ap, ◌∙◌}
use Rattle.wf_catalog.specs.PlacesSeen.{entry_at, number_in}
use Rattle.wf_catalog.specs.WalkSeen.{walked}
use Rattle.wf_catalog.proofs.PlaceLemmas.{entries_found}
use Rattle.wf_catalog.proofs.places.by_number.Goals as goal

pub returns : goal.returns
returns c = λ n.
    ap (λ es. entry_at es n) c.in_ok-table.ensures
    ∙ entries_found (number_in c.args.variables.now) c.in_ok-entries.field-0.items (map walked c.args.actions.now) c.in_ok-entries.ensures n
