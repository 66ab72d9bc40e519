-- In which order the entries of `runAfter` stand.
use Rattle.std.specs.List.{AllByRecursion}
use Rattle.wf_val.specs.NameOrder.{IsInNameOrder}
use Rattle.wf_def.specs.ActionTree.{action_after, ActionTrees, actions_in}
use Rattle.wf_def.specs.declared.after.After.{After}

-- those of each action of a graph in byte order of their names, each name once
abbrev pub EntriesAreInOrder : ActionTrees → Type 0
EntriesAreInOrder graph = AllByRecursion (λ a. IsInNameOrder (λ (e : After). e.name) (action_after a)) (actions_in graph)
