use Rattle.std.proofs.Common.{◌≡◌, ◌+◌, ◌∷◌, Bool, List, arith, ap, drop, false, map, refl, replicate, subst, sym, ◌∙◌}
use Rattle.wf_asks.specs.Instances.{rows_in}
use Rattle.wf_layers.specs.Address.{address}
use Rattle.wf_closing.specs.Judged.{fails_from}
use Rattle.wf_meant.specs.Status.{judge_row}
use Rattle.wf_closing.specs.StepsSeen.{row_content, step_tree}
use Rattle.wf_closing.specs.declared.judged.Step.{Step}
use Rattle.wf_def.proofs.SizeLemmas.{drop_at_place}
use Rattle.wf_closing.proofs.JudgedLemmas.{none_more}
use Rattle.wf_closing.proofs.judged.all_pass.Goals as goal

pub loop-step-preserved : goal.loop-step-preserved
loop-step-preserved c =
    let steps : List Step = c.args.steps.now in
    let k = c.loop-step.step-index in
    let step : Step = c.step-item.result in
    let known = rows_in row_content c.args.rows.now.0 in
    let passes : (handed : Bool) → judge_row (known (address step.number c.args.at.now)) handed ≡ false =
    subst (λ i. (handed : Bool) → judge_row (known (address step.number i)) handed ≡ false) c.loop-step.invariant.at
    (c.if-not-passes.ensures refl) in
    let here : drop k steps ≡ step ∷ drop (k + 1) steps = drop_at_place steps k step (omega arith) c.step-item.is in
    record {
      at = c.loop-step.invariant.at;
      fails = λ size.
          sym (none_more c.args.at.now known (step_tree step) (map step_tree (drop (k + 1) steps)) size passes)
          ∙ ap (λ (ss : List Step). fails_from c.args.at.now known (map step_tree ss) (replicate size false)) (sym here)
          ∙ c.loop-step.invariant.fails size;
    }
