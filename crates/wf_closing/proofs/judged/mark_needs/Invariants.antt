use Rattle.std.proofs.Common.{◌≡◌, drop, map}
use Rattle.wf_closing.specs.Steps.{needs_marked}
use Rattle.wf_closing.proofs.judged.mark_needs.Given as goal

abbrev pub invariant-loop-entry : goal.invariant-loop-entry
invariant-loop-entry l =
    needs_marked (map (λ e. e.number) (drop l.entry-index l.entry-items)) l.marks.items
    ≡ needs_marked (map (λ e. e.number) l.after) l.initial.marks.items
