use Rattle.std.proofs.Common.{◌≡◌, drop}
use Rattle.std.specs.List.{list_any}
use Rattle.wf_closing.specs.Steps.{is_marked}
use Rattle.wf_closing.proofs.judged.any_marked.Given as goal

abbrev pub invariant-loop-number : goal.invariant-loop-number
invariant-loop-number l = list_any (is_marked l.marks) (drop l.number-index l.numbers) ≡ list_any (is_marked l.marks) l.numbers
