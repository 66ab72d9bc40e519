-- What is inside a container as contracts see it.
use Rattle.std.specs.Prelude.{map}
use Rattle.wf_closing.specs.Inside.{InsideTree}
use Rattle.wf_closing.specs.StepsSeen.{judged_tree}
use Rattle.wf_closing.specs.declared.inside.Inside.{Inside}

abbrev pub inside_tree : Inside → InsideTree
inside_tree i = record { graphs = map judged_tree i.graphs.items; terminates = i.terminates.items }
