use Rattle.std.proofs.Common.{◌≡◌, ◌++◌, drop, map}
use Rattle.wf_order.proofs.place.numbers_of.Given as goal

abbrev pub invariant-loop-entry : goal.invariant-loop-entry
invariant-loop-entry l = l.numbers.items ++ map (λ entry. entry.number) (drop l.entry-index l.entry-items)
    ≡ map (λ entry. entry.number) l.after
