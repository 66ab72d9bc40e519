-- What the loops over conditions need.
use Rattle.std.proofs.Common.{◌≡◌, ℕ, zero, suc, ◌<◌, ◌≤◌, List, [], ◌∷◌, map, length, drop, get_or, sym, subst, arith}
use Rattle.wf_val.specs.declared.function.Fun.{Fun}
use Rattle.wf_val.specs.declared.fault.EvalFault.{EvalFault}
use Rattle.wf_template.specs.CondTree.{CondTree, holds, all_of, any_of, not_of, compare_by, CondTrees, no_conds, cond_then, cond_trees}
use Rattle.wf_template.specs.CondSeen.{cond_tree}
use Rattle.wf_template.specs.DataTree.{DataTree}
use Rattle.wf_template.specs.declared.cond.Cond.{Cond}
use Rattle.wf_eval_expr.specs.Told.{Told}
use Rattle.wf_eval_expr.specs.Meets.{MeetsFault}
use Rattle.wf_eval_expr.specs.Outcomes.{Outcome, turned}
use Rattle.wf_eval_expr.specs.Early.{stop}
use Rattle.wf_eval_expr.specs.Value.{early, or_go_on}
use Rattle.wf_eval.specs.TreeValue.{tree_value}
use Rattle.wf_eval.specs.Truth.{compared, truth_of, truths_of, cond_count, conds_count}
use Rattle.wf_eval_expr.proofs.Grow.{AreGrowing, then_run-grows, handed, or_go_on-grows, early-grows}
use Rattle.wf_eval_expr.proofs.Loops.{drop-item}
use Rattle.wf_eval.proofs.PieceLoops.{template-grows}
use Rattle.wf_eval.proofs.TreeLoops.{tree-grows}

mutual
  pub truth-grows : (l : Told) (c : CondTree) (n : ℕ) → n ≤ (truth_of l c n).1
  truth-grows l (holds t) n = template-grows l t n
  truth-grows l (all_of cs) n = early-grows Fun.And (truths_of l cs) (truths-grow l cs) 0 n
  truth-grows l (any_of cs) n = early-grows Fun.Or (truths_of l cs) (truths-grow l cs) 0 n
  truth-grows l (not_of c) n = truth-grows l c n
  truth-grows l (compare_by f left right) n =
      then_run-grows n (tree_value l left n) (λ t m. turned (compared f t) (tree_value l right m)) (tree-grows l left n)
      (λ t m. tree-grows l right m)

  truths-grow : (l : Told) (cs : CondTrees) → AreGrowing (truths_of l cs)
  truths-grow l no_conds = tt
  truths-grow l (cond_then c cs) = (truth-grows l c, truths-grow l cs)

pub fault_truths : (g : Fun) (l m : Told) (xs : List Cond) (i : ℕ) (x : Cond) (n : ℕ) (f : EvalFault) (k : ℕ) (all : Outcome) →
    i < length xs → x ≡ get_or xs i x → m ≡ l → early g (truths_of l (cond_trees (map cond_tree (drop i xs)))) i n ≡ all →
    MeetsFault f (truth_of m (cond_tree x) n) k → MeetsFault f all k
fault_truths g l m xs i x n f k all lt is same so_far met =
    let rest = truths_of l (cond_trees (map cond_tree (drop (suc i) xs))) in
    subst (λ o. MeetsFault f o k) so_far
    (subst (λ ys. MeetsFault f (early g (truths_of l (cond_trees (map cond_tree ys))) i n) k) (sym (drop-item xs i x lt is))
    (handed (truth_of l (cond_tree x) n) (λ t m. or_go_on (stop g i t) (λ q. early g rest (suc i) q) m)
    (λ t m. or_go_on-grows (stop g i t) (λ q. early g rest (suc i) q)
    (early-grows g rest (truths-grow l (cond_trees (map cond_tree (drop (suc i) xs)))) (suc i)) m) f k
    (subst (λ t. MeetsFault f (truth_of t (cond_tree x) n) k) same met)))

pub count-conds : (xs : List Cond) (i : ℕ) (x : Cond) → i < length xs → x ≡ get_or xs i x →
    cond_count (cond_tree x) < conds_count (cond_trees (map cond_tree xs))
count-conds xs i x lt e = rw e (go xs i x lt)
  where
    go : (ys : List Cond) (j : ℕ) (d : Cond) → j < length ys →
        cond_count (cond_tree (get_or ys j d)) < conds_count (cond_trees (map cond_tree ys))
    go [] j d within = absurd (omega arith)
    go (y ∷ ys) zero d within = omega arith
    go (y ∷ ys) (suc j) d within = omega (arith, go ys j d (omega arith))

pub fault_left : (g : Fun) (l : Told) (left right : DataTree) (n : ℕ) (f : EvalFault) (k : ℕ) → MeetsFault f (tree_value l left n) k →
    MeetsFault f (truth_of l (compare_by g left right) n) k
fault_left g l left right n f k met = handed (tree_value l left n) (λ t m. turned (compared g t) (tree_value l right m))
    (λ t m. tree-grows l right m) f k met
