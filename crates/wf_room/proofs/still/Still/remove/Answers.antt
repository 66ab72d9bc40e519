use Rattle.std.proofs.Common.{◌<◌, length}
use Rattle.wf_room.specs.Cells.{held}
use Rattle.wf_room.proofs.CellLemmas.{removed, stood, never}
use Rattle.wf_room.proofs.still.Still.remove.Goals as goal

pub unreachable-requires : goal.unreachable-requires
unreachable-requires g c =
    let within : c.args.place < length (held c.self.inside.cells) = rw (← c.self.view_is) at c.requires in
    never c.self.inside.cells c.self.inside.count c.args.place c.self.invariant within c.in-None.ensures.before

pub invariant_of-self : goal.invariant_of-self
invariant_of-self g c =
    let within : c.args.place < length (held c.self.inside.cells) = rw (← c.self.view_is) at c.requires in
    (removed c.self.inside.cells c.replace-item.new.self c.shift.new.self c.self.inside.count c.args.place c.self.invariant within
    c.replace-item.ensures.after c.shift.ensures).are_laid

pub returns-clause-item : goal.returns-clause-item
returns-clause-item g c =
    let within : c.args.place < length (held c.self.inside.cells) = rw (← c.self.view_is) at c.requires in
    rw (← c.self.view_is)
    (stood c.self.inside.cells c.self.inside.count c.args.place c.in-Some.item c.self.invariant within c.in-Some.ensures.before)

pub returns-clause-rest : goal.returns-clause-rest
returns-clause-rest g c =
    let within : c.args.place < length (held c.self.inside.cells) = rw (← c.self.view_is) at c.requires in
    rw (← c.self.view_is)
    (removed c.self.inside.cells c.replace-item.new.self c.shift.new.self c.self.inside.count c.args.place c.self.invariant within
    c.replace-item.ensures.after c.shift.ensures).items
