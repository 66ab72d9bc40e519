use Rattle.std.proofs.Common.{◌≤◌, ◌<◌, ◌-◌, length}
use Rattle.wf_room.specs.Cells.{held}
use Rattle.wf_room.proofs.CellLemmas.{inserted}
use Rattle.wf_room.proofs.still.Still.insert.Goals as goal

pub invariant_of-self : goal.invariant_of-self
invariant_of-self g c =
    let within : c.args.place ≤ length (held c.self.inside.cells) = rw (← c.self.view_is) at c.requires.place in
    let room : 0 < length c.self.inside.cells - c.self.inside.count = rw (← c.self.view_is) at c.requires.room in
    (inserted c.self.inside.cells c.fill.new.self c.shift.new.self c.self.inside.count c.args.place c.args.item c.self.invariant within
    room c.fill.ensures c.shift.ensures).are_laid

pub returns-clause-items : goal.returns-clause-items
returns-clause-items g c =
    let within : c.args.place ≤ length (held c.self.inside.cells) = rw (← c.self.view_is) at c.requires.place in
    let room : 0 < length c.self.inside.cells - c.self.inside.count = rw (← c.self.view_is) at c.requires.room in
    rw (← c.self.view_is)
    (inserted c.self.inside.cells c.fill.new.self c.shift.new.self c.self.inside.count c.args.place c.args.item c.self.invariant within
    room c.fill.ensures c.shift.ensures).items
