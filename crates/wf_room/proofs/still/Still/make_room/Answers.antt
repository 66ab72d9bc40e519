use Rattle.std.proofs.Common.{◌-◌, ◌+◌, ◌++◌, length, replicate, None, ap, ◌∙◌}
use Rattle.wf_room.specs.Cells.{held}
use Rattle.wf_room.proofs.CellLemmas.{laid-more, is_laid}
use Rattle.wf_room.proofs.still.Still.make_room.Goals as goal

pub invariant_of-self : goal.invariant_of-self
invariant_of-self g c =
    let items = held c.self.inside.cells in
    let room = length c.self.inside.cells - c.self.inside.count in
    let more = length c.add_cells.new.cells - length c.self.inside.cells in
    let made = c.add_cells.ensures.cells ∙ ap (λ cells. cells ++ replicate more None) c.self.invariant.0 ∙ laid-more items room more in
    let now = is_laid c.add_cells.new.cells items (room + more) c.self.inside.count made c.self.invariant.1 in
    (now.laid, now.count)

pub returns-clause-items : goal.returns-clause-items
returns-clause-items g c =
    let items = held c.self.inside.cells in
    let room = length c.self.inside.cells - c.self.inside.count in
    let more = length c.add_cells.new.cells - length c.self.inside.cells in
    let made = c.add_cells.ensures.cells ∙ ap (λ cells. cells ++ replicate more None) c.self.invariant.0 ∙ laid-more items room more in
    rw (← c.self.view_is) (is_laid c.add_cells.new.cells items (room + more) c.self.inside.count made c.self.invariant.1).items
