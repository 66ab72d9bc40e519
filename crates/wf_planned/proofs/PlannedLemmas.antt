-- A plan of a graph in which each action names another once at most.
use Rattle.std.proofs.Common.{◌≡◌, ℕ, ◌≤◌, true, List, [], ◌∷◌, length, ⊎_elim, nat_eq}
use Rattle.std.proofs.Common.{sym, ap, subst, ◌∙◌, arith, eqb-true, true≢false}
use Rattle.std.specs.List.{AllByRecursion}
use Rattle.std.proofs.lemmas.List.{length-map}
use Rattle.wf_layers.specs.Definition.{Graph, Need, has, needs_of}
use Rattle.wf_layers.specs.Seen.{Once}
use Rattle.wf_layers.specs.Waiting.{times}
use Rattle.wf_layers.proofs.Basics.{two, either}
use Rattle.wf_def.specs.ActionTree.{ActionTree, action_name, action_number, ActionTrees}
use Rattle.wf_def.specs.AllActions.{all_actions}
use Rattle.wf_def.specs.Layered.{layered}
use Rattle.wf_def.specs.Names.{graph_names}
use Rattle.wf_plan.specs.Once.{NamesOnce, has_one}
use Rattle.wf_plan.proofs.GraphLemmas.{none_of}
use Rattle.wf_plan.proofs.NumberLemmas.{IsHad, all_had as each_had}
use Rattle.wf_plan.proofs.PlanOfLemmas.{all_had}
use Rattle.wf_meant.proofs.NumberLemmas.{names_are}

-- there are as many actions as names
pub as_many : (g : ActionTrees) → length (graph_names g) ≡ length (all_actions g)
as_many g = ap length (sym (names_are g)) ∙ length-map (all_actions g) action_name

times_at : (d : Graph) (q n : ℕ) (as' : List ActionTree) → AllByRecursion (IsHad d) as' → AllByRecursion NamesOnce as'
    → has_one as' q ≡ true → times (needs_of d q) n ≤ 1
times_at d q n [] had once h = absurd (true≢false (sym h))
times_at d q n (a ∷ as') had once h =
    ⊎_elim
    (λ t. subst (λ (x : ℕ). times (needs_of d x) n ≤ 1) (eqb-true (action_number a) q t)
    (subst (λ (ns : List Need). times ns n ≤ 1) (sym had.0.1) (once.0 n)))
    (λ t. times_at d q n as' had.1 once.1 t)
    (either (nat_eq (action_number a) q) (has_one as' q) h)

pub times_once : (graph : ActionTrees) → Once (layered graph) → AllByRecursion NamesOnce (all_actions graph) → (q n : ℕ)
    → times (needs_of (layered graph) q) n ≤ 1
times_once graph once names q n =
    ⊎_elim
    (λ t. times_at (layered graph) q n (all_actions graph) (each_had graph once) names (all_had graph q t))
    (λ u. subst (λ (ns : List Need). times ns n ≤ 1) (sym (none_of (layered graph) q u).1) (omega arith))
    (two (has (layered graph) q))
