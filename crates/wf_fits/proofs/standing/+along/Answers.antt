use Rattle.std.proofs.Common.{◌≡◌, ◌++◌, ◌∷◌, [], false, IfOk, map, option_map, Some, None, List, ℕ, ap, sym, ◌∙◌, subst}
use Rattle.wf_fits.specs.Fits.{along_in}
use Rattle.wf_fits.specs.FitsSeen.{entry_tree, standing_tree}
use Rattle.wf_fits.specs.WalkSeen.{step_tree}
use Rattle.wf_catalog.specs.ReadSeen.{def_tree}
use Rattle.wf_record.specs.Seen.{row_tree}
use Rattle.wf_shape.specs.Standing.{Standing}
use Rattle.wf_fits.proofs.FitLemmas.{go_on, on_turn, one_step, turn_is}
use Rattle.wf_fits.proofs.standing.+along.Goals as goal

pub returns-in-None : goal.returns-in-None
returns-in-None t c =
    let d = def_tree c.args.ways.now in
    let rows = map row_tree c.args.log.now.rows in
    sym (one_step d rows (map step_tree c.args.steps.now) (map step_tree c.in-Some.more.now) (step_tree c.in-Some.step) c.args.skipped
    c.args.at.now c.args.rest.now None c.in-Some.ensures (ap (option_map entry_tree) (sym c.in-None.is) ∙ c.in_ok-skipped.ensures))

pub returns-in-Some-Through : goal.returns-in-Some-Through
returns-in-Some-Through t c =
    let d = def_tree c.args.ways.now in
    let rows = map row_tree c.args.log.now.rows in
    subst (λ z. IfOk c.along.result (λ s. standing_tree s ≡ z))
    (sym (one_step d rows (map step_tree c.args.steps.now) (map step_tree c.in-Some.more.now) (step_tree c.in-Some.step) c.args.skipped
    c.args.at.now c.args.rest.now (option_map entry_tree (Some c.in-Some-Through.field-0)) c.in-Some.ensures
    (ap (option_map entry_tree) (sym c.in-Some-Through.is) ∙ c.in_ok-skipped.ensures)
    ∙ ap (λ e. go_on (Some (entry_tree e)) c.args.at.now c.args.rest.now (along_in d rows (map step_tree c.in-Some.more.now)))
    c.in-Some-Through.field-0-is))
    c.along.ensures

pub returns-in_default-turn_of : goal.returns-in_default-turn_of
returns-in_default-turn_of t c =
    let d = def_tree c.args.ways.now in
    let rows = map row_tree c.args.log.now.rows in
    let more = map step_tree c.in-Some.more.now in
    let on : ℕ → List ℕ → Standing = λ j later. along_in d rows more false (c.args.at.now ++ j ∷ []) later in
    sym (one_step d rows (map step_tree c.args.steps.now) more (step_tree c.in-Some.step) c.args.skipped
    c.args.at.now c.args.rest.now (option_map entry_tree (Some c.in-Some-Turns.field-0)) c.in-Some.ensures
    (ap (option_map entry_tree) (sym c.in-Some-Turns.is) ∙ c.in_ok-skipped.ensures)
    ∙ (ap (λ e. go_on (Some (entry_tree e)) c.args.at.now c.args.rest.now (along_in d rows more)) c.in-Some-Turns.field-0-is
    ∙ (turn_is c.in-Some-Turns.count c.args.rest.now on ∙ ap (λ o. on_turn o on) (sym c.in_default-turn_of.ensures))))

pub returns-in_ok-inner-in-Some-Turns : goal.returns-in_ok-inner-in-Some-Turns
returns-in_ok-inner-in-Some-Turns t c =
    let d = def_tree c.args.ways.now in
    let rows = map row_tree c.args.log.now.rows in
    let more = map step_tree c.in-Some.more.now in
    let on : ℕ → List ℕ → Standing = λ j later. along_in d rows more false (c.args.at.now ++ j ∷ []) later in
    let inner : c.as_slice.result.now ≡ c.args.at.now ++ c.in-Some-turn_of.index ∷ [] =
    cc (c.as_slice.ensures, c.in_ok-inner-in-Some-Turns.ensures, c.inner.view_is) in
    subst (λ z. IfOk c.along-in-Some-Turns.result (λ s. standing_tree s ≡ z))
    (sym (one_step d rows (map step_tree c.args.steps.now) more (step_tree c.in-Some.step) c.args.skipped
    c.args.at.now c.args.rest.now (option_map entry_tree (Some c.in-Some-Turns.field-0)) c.in-Some.ensures
    (ap (option_map entry_tree) (sym c.in-Some-Turns.is) ∙ c.in_ok-skipped.ensures)
    ∙ (ap (λ e. go_on (Some (entry_tree e)) c.args.at.now c.args.rest.now (along_in d rows more)) c.in-Some-Turns.field-0-is
    ∙ (turn_is c.in-Some-Turns.count c.args.rest.now on ∙ (ap (λ o. on_turn o on) (sym c.in-Some-turn_of.ensures)
    ∙ ap (λ is. along_in d rows more false is c.in-Some-turn_of.later.now) (sym inner)))))
    )
    c.along-in-Some-Turns.ensures
