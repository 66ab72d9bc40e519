-- What an action and a container stand for, by their fields.
use Rattle.std.proofs.Common.{◌≡◌, ℕ, Option, None, Some, sym, ap, ◌∙◌, rules}
use Rattle.wf_def.specs.ActionSeen.{action_tree, cases_seen, graph_tree, kind_tree}
use Rattle.wf_def.specs.ActionTree.{action, branch, case_trees, foreach, scope, switch, switch_else}
use Rattle.wf_def.specs.declared.graph.Action.{Action, out-Action}
use Rattle.wf_def.specs.declared.graph.Cases.{Cases}
use Rattle.wf_def.specs.declared.graph.Graph.{Graph}
use Rattle.wf_def.specs.declared.graph.Kind as kinds
use Rattle.wf_def.specs.declared.graph.Kind.TheFolds.{fold-roll-Kind, fold_out-Action, fold_out-Cases}
use Rattle.wf_def.specs.declared.graph.Kind.TheVariants.{rolls-Foreach, rolls-If, rolls-Scope, rolls-Switch}
use Rattle.wf_template.specs.CondSeen.{cond_tree}
use Rattle.wf_template.specs.DataSeen.{data_tree}
use Rattle.wf_template.specs.TemplateSeen.{template_tree}
use Rattle.wf_template.specs.declared.cond.Cond.{Cond}
use Rattle.wf_template.specs.declared.template.Template.{Template}
use Rattle.wf_template.specs.declared.tree.Tree.{Tree}

pub action_tree-is : (a : Action) → action_tree a
    ≡ action (out-Action a).name (out-Action a).number (out-Action a).pointer (out-Action a).after (kind_tree (out-Action a).kind)
    (out-Action a).tracked
action_tree-is a = search (rules, fold_out-Action)

pub scope_seen : (g : Graph) → kind_tree (kinds.Scope g) ≡ scope (graph_tree g)
scope_seen g = ap kind_tree (sym (rolls-Scope g)) ∙ search (rules, fold-roll-Kind)

pub if_seen : (test : Cond) (yes' no' : Graph) → kind_tree (kinds.If test yes' no') ≡ branch (cond_tree test) (graph_tree yes') (graph_tree no')
if_seen test yes' no' = ap kind_tree (sym (rolls-If test yes' no')) ∙ search (rules, fold-roll-Kind)

pub switch_seen : (on : Template) (cases : Cases) → kind_tree (kinds.Switch on cases None)
    ≡ switch (template_tree on) (case_trees (cases_seen cases))
switch_seen on cases = ap kind_tree (sym (rolls-Switch on cases None)) ∙ search (rules, fold-roll-Kind, fold_out-Cases)

pub switch_else_seen : (on : Template) (cases : Cases) (g : Graph) → kind_tree (kinds.Switch on cases (Some g))
    ≡ switch_else (template_tree on) (case_trees (cases_seen cases)) (graph_tree g)
switch_else_seen on cases g = ap kind_tree (sym (rolls-Switch on cases (Some g))) ∙ search (rules, fold-roll-Kind, fold_out-Cases)

pub foreach_seen : (items : Tree) (n : ℕ) (g : Graph) → kind_tree (kinds.Foreach items n g) ≡ foreach (data_tree items) n (graph_tree g)
foreach_seen items n g = ap kind_tree (sym (rolls-Foreach items n g)) ∙ search (rules, fold-roll-Kind)
