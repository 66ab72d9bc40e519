-- Two looks that tell the same where a template, a tree or a condition asks give it one value, and draw the same words.
use Rattle.std.proofs.Common.{◌≡◌, List, [], ◌∷◌, refl, ap, ◌∙◌}
use Rattle.wf_val.specs.declared.function.Fun.{Fun}
use Rattle.wf_template.specs.ExprTree.{ExprTree}
use Rattle.wf_template.specs.TemplateTree.{PieceTree, letters, part, TemplateTree, plain, whole, parts}
use Rattle.wf_template.specs.DataTree as inputs
use Rattle.wf_template.specs.CondTree.{CondTree, holds, all_of, any_of, not_of, compare_by, CondTrees, no_conds, cond_then}
use Rattle.wf_eval_expr.specs.Outcomes.{then_run, turned, all_after}
use Rattle.wf_eval_expr.specs.Told.{Told}
use Rattle.wf_eval_expr.specs.Joined.{joined, text_answer}
use Rattle.wf_eval_expr.specs.Uses.{uses, AgreeAt}
use Rattle.wf_eval_expr.specs.Value.{early, value}
use Rattle.wf_eval_expr.proofs.Local.{agree-front, agree-rest}
use Rattle.wf_eval.specs.TemplateValue.{piece_value, piece_runs, template_value}
use Rattle.wf_eval.specs.TreeValue.{members_after, list_answer, object_answer, tree_value, tree_runs, member_runs}
use Rattle.wf_eval.specs.Truth.{negated, compared, truth, truth_of, truths_of}
use Rattle.wf_eval.specs.Uses.{piece_use, piece_uses, template_uses, tree_uses, trees_uses, members_uses, cond_uses, conds_uses}

-- what is promised of expressions
abbrev ExpressionsAreLocal : Type 0
ExpressionsAreLocal = (l m : Told) (e : ExprTree) → AgreeAt l m (uses e) → value l e ≡ value m e

module _ (expressions : ExpressionsAreLocal) where
  piece-local : (l m : Told) (p : PieceTree) → AgreeAt l m (piece_use p) → piece_value l p ≡ piece_value m p
  piece-local l m (letters s) a = refl
  piece-local l m (part e) a = expressions l m e a

  pieces-local : (l m : Told) (ps : List PieceTree) → AgreeAt l m (piece_uses ps) → piece_runs l ps ≡ piece_runs m ps
  pieces-local l m [] a = refl
  pieces-local l m (p ∷ ps) a =
      ap (λ r. r ∷ piece_runs l ps) (piece-local l m p (agree-front l m (piece_use p) (piece_uses ps) a))
      ∙ ap (λ rs. piece_value m p ∷ rs) (pieces-local l m ps (agree-rest l m (piece_use p) (piece_uses ps) a))

  pub template-local : (l m : Told) (t : TemplateTree) → AgreeAt l m (template_uses t) → template_value l t ≡ template_value m t
  template-local l m (plain s) a = refl
  template-local l m (whole e) a = expressions l m e a
  template-local l m (parts ps) a = ap (λ rs n. turned text_answer (joined rs [] n)) (pieces-local l m ps a)

  mutual
    pub tree-local : (l m : Told) (t : inputs.DataTree) → AgreeAt l m (tree_uses t) → tree_value l t ≡ tree_value m t
    tree-local l m inputs.null a = refl
    tree-local l m (inputs.boolean b) a = refl
    tree-local l m (inputs.number i) a = refl
    tree-local l m (inputs.text t) a = template-local l m t a
    tree-local l m (inputs.list ts) a = ap (λ rs n. turned list_answer (all_after rs [] n)) (trees-local l m ts a)
    tree-local l m (inputs.object ms) a = ap (λ rs n. turned object_answer (members_after rs [] n)) (members-local l m ms a)

    trees-local : (l m : Told) (ts : inputs.DataTrees) → AgreeAt l m (trees_uses ts) → tree_runs l ts ≡ tree_runs m ts
    trees-local l m inputs.no_data a = refl
    trees-local l m (inputs.data_then t ts) a =
        ap (λ r. r ∷ tree_runs l ts) (tree-local l m t (agree-front l m (tree_uses t) (trees_uses ts) a))
        ∙ ap (λ rs. tree_value m t ∷ rs) (trees-local l m ts (agree-rest l m (tree_uses t) (trees_uses ts) a))

    members-local : (l m : Told) (ms : inputs.DataMembers) → AgreeAt l m (members_uses ms) → member_runs l ms ≡ member_runs m ms
    members-local l m inputs.no_members a = refl
    members-local l m (inputs.member_then k t ms) a =
        ap (λ r. (k, r) ∷ member_runs l ms) (tree-local l m t (agree-front l m (tree_uses t) (members_uses ms) a))
        ∙ ap (λ rs. (k, tree_value m t) ∷ rs) (members-local l m ms (agree-rest l m (tree_uses t) (members_uses ms) a))

  mutual
    pub truth-local : (l m : Told) (c : CondTree) → AgreeAt l m (cond_uses c) → truth_of l c ≡ truth_of m c
    truth-local l m (holds t) a = ap (λ r n. turned truth (r n)) (template-local l m t a)
    truth-local l m (all_of cs) a = ap (λ rs n. early Fun.And rs 0 n) (truths-local l m cs a)
    truth-local l m (any_of cs) a = ap (λ rs n. early Fun.Or rs 0 n) (truths-local l m cs a)
    truth-local l m (not_of c) a = ap (λ r n. turned negated (r n)) (truth-local l m c a)
    truth-local l m (compare_by f left right) a =
        let one : tree_value l left ≡ tree_value m left = tree-local l m left (agree-front l m (tree_uses left) (tree_uses right) a) in
        let other : tree_value l right ≡ tree_value m right = tree-local l m right (agree-rest l m (tree_uses left) (tree_uses right) a) in
        ap (λ r n. then_run (r n) (λ t p. turned (compared f t) (tree_value l right p))) one
        ∙ ap (λ r n. then_run (tree_value m left n) (λ t p. turned (compared f t) (r p))) other

    truths-local : (l m : Told) (cs : CondTrees) → AgreeAt l m (conds_uses cs) → truths_of l cs ≡ truths_of m cs
    truths-local l m no_conds a = refl
    truths-local l m (cond_then c cs) a =
        ap (λ r. r ∷ truths_of l cs) (truth-local l m c (agree-front l m (cond_uses c) (conds_uses cs) a))
        ∙ ap (λ rs. truth_of m c ∷ rs) (truths-local l m cs (agree-rest l m (cond_uses c) (conds_uses cs) a))
