use Rattle.std.proofs.Common.{◌≡◌, ◌++◌, drop, map}
use Rattle.wf_closing.proofs.judged.after_of.Given as goal

abbrev pub invariant-loop-entry : goal.invariant-loop-entry
invariant-loop-entry l = l.numbers.items ++ map (λ e. e.number) (drop l.entry-index l.entry-items) ≡ map (λ e. e.number) l.after
