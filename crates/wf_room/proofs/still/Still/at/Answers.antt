use Rattle.std.proofs.Common.{◌≡◌, ◌<◌, ◌-◌, length, slice_get, Some, IsSome, subst, ◌∙◌}
use Rattle.wf_room.specs.Cells.{held}
use Rattle.wf_room.proofs.CellLemmas.{at-laid, some-at}
use Rattle.wf_room.proofs.still.Still.at.Goals as goal

pub item-requires : goal.item-requires
item-requires g c =
    let items = held c.self.inside.cells in
    let within : c.args.place < length items = rw (← c.self.view_is) at c.requires in
    let found = at-laid items (length c.self.inside.cells - c.self.inside.count) c.args.place c.cell.result.now within
    (subst (λ cells. slice_get cells c.args.place ≡ Some c.cell.result.now) c.self.invariant.0 c.cell.ensures) in
    subst IsSome found (some-at items c.args.place within)

pub returns : goal.returns
returns g c =
    let items = held c.self.inside.cells in
    let within : c.args.place < length items = rw (← c.self.view_is) at c.requires in
    let found = at-laid items (length c.self.inside.cells - c.self.inside.count) c.args.place c.cell.result.now within
    (subst (λ cells. slice_get cells c.args.place ≡ Some c.cell.result.now) c.self.invariant.0 c.cell.ensures) in
    rw (← c.self.view_is) (found ∙ c.item.ensures)
