-- WHAT A CONTAINER ASKS A LOOK FOR as it opens: what its condition, its expression or its list does.
use Rattle.std.specs.Prelude.{List, []}
use Rattle.wf_def.specs.ActionTree.{KindTree, branch, switch, switch_else, foreach}
use Rattle.wf_eval.specs.EvalExprUses.{Use}
use Rattle.wf_eval.specs.Uses.{cond_uses, template_uses, tree_uses}

abbrev pub opening_uses : KindTree → List Use
opening_uses (branch test yes' no') = cond_uses test
opening_uses (switch on cases) = template_uses on
opening_uses (switch_else on cases default) = template_uses on
opening_uses (foreach items repetitions graph) = tree_uses items
opening_uses kind = []
