use Rattle.std.proofs.Common.{◌≡◌, ◌++◌, drop}
use Rattle.wf_views.proofs.rows.indexes.Given as goal

abbrev pub invariant-loop-index : goal.invariant-loop-index
invariant-loop-index l = l.indexes ++ drop l.index-index l.at ≡ l.at
