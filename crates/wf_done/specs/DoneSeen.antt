-- What an action has come to, and what it has from its start on, as contracts see them.
use Rattle.wf_val.specs.Seen.{tree}
use Rattle.wf_done.specs.Done.{DoneTree}
use Rattle.wf_done.specs.Leaf.{BegunTree, acted, calling}
use Rattle.wf_done.specs.declared.done.Done.{Done}
use Rattle.wf_done.specs.declared.leaf.Begun.{Begun}

abbrev pub done_tree : Done → DoneTree
done_tree d = record { status = d.status; code = d.code; inputs = tree d.inputs; outputs = tree d.outputs; error = tree d.error }

abbrev pub begun_tree : Begun → BegunTree
begun_tree (Begun.Acted d) = acted (done_tree d)
begun_tree (Begun.Calling inputs policy) = calling (tree inputs) policy
