-- Actions by their names, as contracts see them.
use Rattle.std.specs.Prelude.{ℕ, List, Option, option_map}
use Rattle.wf_lists.specs.KeyOrder.{find_key}
use Rattle.wf_val.specs.NameOrder.{bytes_cmp}
use Rattle.wf_def.specs.ActionSeen.{action_tree}
use Rattle.wf_def.specs.ActionTree.{ActionTree}
use Rattle.wf_def.specs.declared.graph.Action.{out-Action}
use Rattle.wf_catalog.specs.declared.named.Named.{Named}

abbrev pub named_tree : Named → ActionTree
named_tree n = action_tree n.action.now

abbrev pub named_in : List Named → List ℕ → Option ActionTree
named_in ns k = option_map named_tree (find_key bytes_cmp (λ (n : Named). (out-Action n.action.now).name) k ns)
