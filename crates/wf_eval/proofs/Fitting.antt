-- What is given fits: texts, lists and objects are tested, and what an expression gives fits.
use Rattle.std.proofs.Common.{◌≡◌, ℕ, [], Ok, arith}
use Rattle.wf_val.specs.ValueTree.{ValueTree, null, boolean, number, text, list, object, trees, members, Fits}
use Rattle.wf_template.specs.ExprTree.{ExprTree}
use Rattle.wf_template.specs.TemplateTree.{TemplateTree, plain, whole, parts}
use Rattle.wf_template.specs.DataTree as inputs
use Rattle.wf_eval_expr.specs.Outcomes.{all_after}
use Rattle.wf_eval_expr.specs.Told.{Told}
use Rattle.wf_eval_expr.specs.Joined.{joined, text_answer}
use Rattle.wf_eval_expr.specs.Value.{value}
use Rattle.wf_eval_expr.proofs.Fitting.{IsFitting, value-good, bounded-good, given-good, truth-fits}
use Rattle.wf_eval.specs.TemplateValue.{piece_runs, template_value}
use Rattle.wf_eval.specs.TreeValue.{list_answer, object_answer, members_after, tree_value, tree_runs, member_runs}

-- what is promised of expressions
abbrev ExpressionsFit : Type 0
ExpressionsFit = (l : Told) (e : ExprTree) (n : ℕ) (v : ValueTree) → (value l e n).0 ≡ Ok v → Fits v

module _ (expressions : ExpressionsFit) where
  pub template-fits : (l : Told) (t : TemplateTree) → IsFitting (template_value l t)
  template-fits l (plain s) n = bounded-good (text s)
  template-fits l (whole e) n = expressions l e n
  template-fits l (parts ps) n = given-good (joined (piece_runs l ps) [] n).0 text_answer (λ s. bounded-good (text s))

  pub tree-fits : (l : Told) (t : inputs.DataTree) → IsFitting (tree_value l t)
  tree-fits l inputs.null n = value-good null (omega arith, omega arith)
  tree-fits l (inputs.boolean b) n = value-good (boolean b) (truth-fits b)
  tree-fits l (inputs.number i) n = value-good (number i) (omega arith, omega arith)
  tree-fits l (inputs.text t) n = template-fits l t n
  tree-fits l (inputs.list ts) n = given-good (all_after (tree_runs l ts) [] n).0 list_answer (λ us. bounded-good (list (trees us)))
  tree-fits l (inputs.object ms) n = given-good (members_after (member_runs l ms) [] n).0 object_answer
      (λ us. bounded-good (object (members us)))
