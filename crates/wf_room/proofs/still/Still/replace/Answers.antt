use Rattle.std.proofs.Common.{◌<◌, length}
use Rattle.wf_room.specs.Cells.{held}
use Rattle.wf_room.proofs.CellLemmas.{replaced, stood, never}
use Rattle.wf_room.proofs.still.Still.replace.Goals as goal

pub unreachable-requires : goal.unreachable-requires
unreachable-requires g c =
    let within : c.args.place < length (held c.self.inside.cells) = rw (← c.self.view_is) at c.requires in
    never c.self.inside.cells c.self.inside.count c.args.place c.self.invariant within c.in-None.ensures.before

pub invariant_of-self : goal.invariant_of-self
invariant_of-self g c =
    let within : c.args.place < length (held c.self.inside.cells) = rw (← c.self.view_is) at c.requires in
    (replaced c.self.inside.cells c.replace.new.self c.self.inside.count c.args.place c.args.item c.self.invariant within
    c.replace.ensures.after).are_laid

pub returns-clause-before : goal.returns-clause-before
returns-clause-before g c =
    let within : c.args.place < length (held c.self.inside.cells) = rw (← c.self.view_is) at c.requires in
    rw (← c.self.view_is)
    (stood c.self.inside.cells c.self.inside.count c.args.place c.in-Some.before c.self.invariant within c.in-Some.ensures.before)

pub returns-clause-items : goal.returns-clause-items
returns-clause-items g c =
    let within : c.args.place < length (held c.self.inside.cells) = rw (← c.self.view_is) at c.requires in
    rw (← c.self.view_is)
    (replaced c.self.inside.cells c.replace.new.self c.self.inside.count c.args.place c.args.item c.self.invariant within
    c.replace.ensures.after).items
