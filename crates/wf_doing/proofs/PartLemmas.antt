-- The parts of an action as trees.
use Rattle.std.proofs.Common.{◌≡◌, rules}
use Rattle.wf_def.specs.ActionSeen.{action_tree}
use Rattle.wf_def.specs.declared.graph.Action.{Action, out-Action}
use Rattle.wf_def.specs.declared.graph.Kind.TheFolds.{fold_out-Action}
use Rattle.wf_closing.specs.Source.{tracked_of}

pub tracked_is : (a : Action) → (out-Action a).tracked ≡ tracked_of (action_tree a)
tracked_is a = search (rules, fold_out-Action)
