-- What comes of an attempt, as contracts see it.
use Rattle.wf_val.specs.Seen.{tree}
use Rattle.wf_connect.specs.Attempts.{TriedTree, repeated, final}
use Rattle.wf_connect.specs.declared.attempts.Tried.{Tried}

abbrev pub tried_tree : Tried → TriedTree
tried_tree Tried.Again = repeated
tried_tree (Tried.Final status code outputs) = final status code (tree outputs)
