use Rattle.std.proofs.Common.{subst, sym}
use Rattle.wf_layers.specs.Changes.{next_of}
use Rattle.wf_tables.specs.Known.{opens_in}
use Rattle.wf_events.specs.Round.{IsLast}
use Rattle.wf_events.proofs.edits.count_and_settle.Goals as goal

pub settle-requires-clause-last : goal.settle-requires-clause-last
settle-requires-clause-last g c =
    subst (λ r. IsLast (λ x. next_of (opens_in (λ d. d) (λ v. v) c.count_row-round.new.opens.0 x)) r c.args.edits.last)
    (sym c.count_row-round.ensures.round)
    (subst (λ t. IsLast (λ x. next_of (t x)) c.args.edits.round c.args.edits.last) (sym c.count_row-round.ensures.opens)
    c.requires.edits.iteration)
