-- `createArray`: its arguments, measured as they are put together, are the row of all of them.
use Rattle.std.proofs.Common.{◌≡◌, ℕ, List, [], length, sym, ◌∙◌, arith}
use Rattle.std.proofs.lemmas.Bool.{le-leb}
use Rattle.wf_val.specs.ValueTree.{ValueTree, list, trees}
use Rattle.wf_val.specs.declared.function.Fun.{Fun}
use Rattle.wf_look.specs.Collected.{Collected, nothing, with_item, collected_answer}
use Rattle.wf_look.specs.Rows.{fitted, strict_row}
use Rattle.wf_folds.proofs.CollectedLaws.{IsOf, item-more, all-is, none-yet}
use Rattle.wf_template.specs.declared.expr.Expr.{Expr}
use Rattle.wf_look.specs.Args.{args_tree}
use Rattle.wf_look.specs.Outcomes.{turned, strictly}
use Rattle.wf_look.specs.Told.{Told}
use Rattle.wf_eval_expr.specs.Folded.{folded}
use Rattle.wf_eval_expr.specs.Value.{runs}
use Rattle.wf_eval_expr.proofs.Fitting.{runs-fit}
use Rattle.wf_eval_expr.proofs.FoldLemmas.{folded-is}
use Rattle.wf_eval_expr.proofs.JoinedLemmas.{fitted-again}

row-is : (c : Collected) (ts : List ValueTree) → IsOf c ts → collected_answer c ≡ fitted (strict_row Fun.CreateArray ts)
row-is c ts is = rw (le-leb 0 (length ts) (omega arith)) (all-is c ts is ∙ sym (fitted-again (list (trees ts))))

pub collected-whole : (l : Told) (xs : List Expr) (n : ℕ) →
    turned collected_answer (folded with_item (runs l (args_tree xs)) nothing n)
    ≡ strictly (λ ts. fitted (strict_row Fun.CreateArray ts)) (runs l (args_tree xs)) n
collected-whole l xs n = folded-is with_item collected_answer (λ ts. fitted (strict_row Fun.CreateArray ts)) IsOf
    (λ c ts t fits is. item-more c ts t is) row-is (runs l (args_tree xs)) (runs-fit l (args_tree xs)) nothing [] n none-yet
