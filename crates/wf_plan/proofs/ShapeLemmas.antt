-- The shape of an action, by the graphs that its kind holds.
use Rattle.std.proofs.Common.{◌≡◌, List, [], ◌∷◌, ◌++◌, Option, Some, None, option_map, refl, sym, ap, ◌∙◌, rules}
use Rattle.wf_def.specs.Definition as layers
use Rattle.wf_def.specs.ActionTree.{action, ActionTrees, action_then, CaseTree, CaseTrees, no_cases, case_then, case_trees}
use Rattle.wf_def.specs.ActionSeen.{action_tree, case_tree, cases_seen, graph_tree, kind_tree}
use Rattle.wf_def.specs.Layered.{layered, layered_cases, layered_kind}
use Rattle.wf_def.specs.declared.graph.Action.{Action, out-Action}
use Rattle.wf_def.specs.declared.graph.Case.{Case, out-Case}
use Rattle.wf_def.specs.declared.graph.Cases.{Cases}
use Rattle.wf_def.specs.declared.graph.Graph.{Graph}
use Rattle.wf_def.specs.declared.graph.Kind as kinds
use Rattle.wf_def.specs.declared.graph.Kind.TheFolds.{fold-roll-Kind, fold_out-Action, fold_out-Cases}
use Rattle.wf_def.specs.declared.graph.Kind.TheVariants.{rolls-If, rolls-Switch}
use Rattle.wf_def.proofs.SizeLemmas.{case_tree-is}
use Rattle.wf_template.specs.declared.cond.Cond.{Cond}
use Rattle.wf_template.specs.declared.template.Template.{Template}
use Rattle.wf_plan.specs.Plan.{branch_of, branches_of, case_branches, choice, default_branch, own_numbers, shape_of}

-- what an action stands for, by its fields
pub action_tree-is : (a : Action) → action_tree a
    ≡ action (out-Action a).name (out-Action a).number (out-Action a).pointer (out-Action a).after (kind_tree (out-Action a).kind)
    (out-Action a).tracked
action_tree-is a = search (rules, fold_out-Action)

-- an action, and those behind it
pub own_next : (a : Action) (rest : ActionTrees)
    → own_numbers (layered (action_then (action_tree a) rest)) ≡ (out-Action a).number ∷ own_numbers (layered rest)
own_next a rest = ap (λ t. own_numbers (layered (action_then t rest))) (action_tree-is a)

-- a case, and those behind it
pub case_next : (c : Case) (cs : List CaseTree)
    → case_branches (case_trees (case_tree c ∷ cs)) ≡ branch_of (layered (graph_tree (out-Case c).graph)) ∷ case_branches (case_trees cs)
case_next c cs = ap (λ (z : CaseTree). branch_of (layered z.1.1) ∷ case_branches (case_trees cs)) (case_tree-is c)

-- the cases, and what is behind them
branches_then : (cs : CaseTrees) (last : layers.Branches) → branches_of (layered_cases cs last) ≡ case_branches cs ++ branches_of last
branches_then no_cases last = refl
branches_then (case_then name value graph rest) last = ap (λ bs. branch_of (layered graph) ∷ bs) (branches_then rest last)

pub if_shape : (test : Cond) (yes' no' : Graph) → shape_of (layered_kind (kind_tree (kinds.If test yes' no')))
    ≡ choice (branch_of (layered (graph_tree yes')) ∷ branch_of (layered (graph_tree no')) ∷ [])
if_shape test yes' no' = ap shape_of seen
  where
    seen : layered_kind (kind_tree (kinds.If test yes' no'))
        ≡ layers.Choice (layers.branch (layered (graph_tree yes')) (layers.branch (layered (graph_tree no')) layers.no_branch))
    seen = ap (λ k. layered_kind (kind_tree k)) (sym (rolls-If test yes' no')) ∙ search (rules, fold-roll-Kind)

pub switch_shape : (on : Template) (cases : Cases) (default : Option Graph)
    → shape_of (layered_kind (kind_tree (kinds.Switch on cases default)))
    ≡ choice (case_branches (case_trees (cases_seen cases)) ++ default_branch (option_map graph_tree default) ∷ [])
switch_shape on cases None =
    ap shape_of seen ∙ ap choice (branches_then (case_trees (cases_seen cases)) (layers.branch layers.done layers.no_branch))
  where
    seen : layered_kind (kind_tree (kinds.Switch on cases None))
        ≡ layers.Choice (layered_cases (case_trees (cases_seen cases)) (layers.branch layers.done layers.no_branch))
    seen = ap (λ k. layered_kind (kind_tree k)) (sym (rolls-Switch on cases None)) ∙ search (rules, fold-roll-Kind, fold_out-Cases)
switch_shape on cases (Some d) =
    ap shape_of seen ∙ ap choice (branches_then (case_trees (cases_seen cases)) (layers.branch (layered (graph_tree d)) layers.no_branch))
  where
    seen : layered_kind (kind_tree (kinds.Switch on cases (Some d)))
        ≡ layers.Choice (layered_cases (case_trees (cases_seen cases)) (layers.branch (layered (graph_tree d)) layers.no_branch))
    seen = ap (λ k. layered_kind (kind_tree k)) (sym (rolls-Switch on cases (Some d))) ∙ search (rules, fold-roll-Kind, fold_out-Cases)
