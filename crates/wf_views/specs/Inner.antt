-- The default of a Switch, which it may lack.
use Rattle.std.specs.Prelude.{List, [], Option, Some, None}
use Rattle.wf_def.specs.ActionTree.{ActionTree, ActionTrees, actions_in}

abbrev pub default_actions : Option ActionTrees → List ActionTree
default_actions None = []
default_actions (Some graph) = actions_in graph
