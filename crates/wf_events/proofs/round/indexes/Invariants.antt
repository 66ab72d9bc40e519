use Rattle.std.proofs.Common.{◌≡◌, ◌++◌, drop}
use Rattle.wf_events.proofs.round.indexes.Given as goal

abbrev pub invariant-loop-index : goal.invariant-loop-index
invariant-loop-index l = (l.copied ++ drop l.index-index l.at) ≡ l.at
