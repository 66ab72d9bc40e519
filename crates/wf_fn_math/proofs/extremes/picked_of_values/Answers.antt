use Rattle.std.proofs.Common.{◌+◌, rules, sym, ◌∙◌, ap, map, drop, Some}
use Rattle.std.specs.Prelude.{FitsSigned}
use Rattle.std.specs.Int.{w64}
use Rattle.std.proofs.lemmas.Int.{to_z-of_z}
use Rattle.wf_fn_math.specs.Extremes.{function_of, pick_of}
use Rattle.wf_fn_math.proofs.ExtremesLemmas.{picked_from, picked_from-step}
use Rattle.wf_val.specs.Seen.{tree}
use Rattle.wf_fn_math.proofs.extremes.picked_of_values.Goals as goal

pub loop-place-preserved : goal.loop-place-preserved
loop-place-preserved c =
    let best_fits : FitsSigned w64 c.better.result = search rules in
    let number_fits : FitsSigned w64 c.in-Int.number = search rules in
    let step = picked_from-step (function_of c.args.which) (pick_of c.args.which) c.args.in_list c.loop-place.best c.args.values.now
    c.loop-place.place
    c.index-values-place.result c.in-Int.number c.better.result c.loop-place-test.true c.index-values-place.is c.in-Int.is
    (rw (to_z-of_z w64 c.in-Int.number number_fits) at c.better.ensures) in
    ap (λ m. picked_from (function_of c.args.which) (pick_of c.args.which) c.args.in_list (Some m) (c.loop-place.place + 1) (map tree
    (drop (c.loop-place.place + 1) c.args.values.now)))
    (to_z-of_z w64 c.better.result best_fits)
    ∙ sym step ∙ c.loop-place.invariant
