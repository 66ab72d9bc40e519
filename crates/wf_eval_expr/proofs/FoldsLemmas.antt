-- What is kept of the arguments of `min`, `max`, `intersection` and `union` as they come gives the row of all of them.
use Rattle.std.proofs.Common.{◌≡◌, ℕ, true, List, [], ap, refl}
use Rattle.wf_val.specs.declared.function.Fun.{Fun}
use Rattle.wf_look.specs.Rows.{fitted, strict_row}
use Rattle.wf_folds.specs.Paired.{nothing_paired, with_value, paired_answer}
use Rattle.wf_folds.specs.Pairing.{is_pairing}
use Rattle.wf_folds.specs.United.{nothing_united, with_argument, united_answer}
use Rattle.wf_folds.proofs.PairedLaws as pairs
use Rattle.wf_folds.proofs.UnitedLaws as unions
use Rattle.wf_template.specs.declared.expr.Expr.{Expr}
use Rattle.wf_look.specs.Args.{args_tree}
use Rattle.wf_look.specs.Outcomes.{turned, strictly}
use Rattle.wf_look.specs.Told.{Told}
use Rattle.wf_eval_expr.specs.Folded.{folded}
use Rattle.wf_eval_expr.specs.Value.{runs}
use Rattle.wf_eval_expr.specs.Ways.{way_of}
use Rattle.wf_eval_expr.specs.declared.way.Way.{Way}
use Rattle.wf_eval_expr.proofs.Fitting.{runs-fit}
use Rattle.wf_eval_expr.proofs.FoldLemmas.{folded-is}

pub paired-whole : (f : Fun) → is_pairing f ≡ true → (l : Told) (xs : List Expr) (n : ℕ) →
    turned (λ p. fitted (paired_answer p)) (folded with_value (runs l (args_tree xs)) (nothing_paired f) n)
    ≡ strictly (λ ts. fitted (strict_row f ts)) (runs l (args_tree xs)) n
paired-whole f is l xs n = folded-is with_value (λ p. fitted (paired_answer p)) (λ ts. fitted (strict_row f ts)) (pairs.IsOf f)
    (pairs.with-more f (pairs.are-pairing f is)) (λ p ts of. ap fitted (pairs.answer-is f p ts of))
    (runs l (args_tree xs)) (runs-fit l (args_tree xs)) (nothing_paired f) [] n (pairs.none-yet f)

pub united-whole : (l : Told) (xs : List Expr) (n : ℕ) →
    turned (λ u. fitted (united_answer u)) (folded with_argument (runs l (args_tree xs)) nothing_united n)
    ≡ strictly (λ ts. fitted (strict_row Fun.Union ts)) (runs l (args_tree xs)) n
united-whole l xs n = folded-is with_argument (λ u. fitted (united_answer u)) (λ ts. fitted (strict_row Fun.Union ts)) unions.IsOf
    (λ u ts t fits of. unions.with-more u ts t of) (λ u ts of. ap fitted (unions.answer-is u ts of))
    (runs l (args_tree xs)) (runs-fit l (args_tree xs)) nothing_united [] n unions.none-yet

-- the functions of that way
pub paired-way : (f : Fun) → way_of f ≡ Way.Paired → is_pairing f ≡ true
paired-way Fun.Min is = refl
paired-way Fun.Max is = refl
paired-way Fun.Intersection is = refl
paired-way f is = absurd cc
