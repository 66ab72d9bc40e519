use Rattle.std.proofs.Common.{rules, ℕ, List, sym, ap, ◌∙◌, subst}
use Rattle.wf_tests.specs.Command.{handed, seed_of}
use Rattle.wf_tests.specs.Runs.{Came}
use Rattle.wf_tests.specs.Schedules.{further_schedule}
use Rattle.wf_tests.proofs.RunLemmas.{came_under_more}
use Rattle.wf_tests.proofs.running.came_under.Goals as goal

-- one end more, under the schedule of its place
pub loop-place-preserved : goal.loop-place-preserved
loop-place-preserved g c = record {
  came =
      came_under_more g.P.Program.says c.args.words.now
      (handed c.args.given.definition.now c.args.given.history.now c.args.given.inputs.now) (seed_of c.args.kind.now) c.loop-place.place
      c.loop-place.others.items c.push.new.self.items c.in_ok-came.field-0 (sym c.loop-place.invariant.all) c.loop-place.invariant.came
      (subst (λ (s : List ℕ). Came g.P.Program.says c.args.words.now
      (handed c.args.given.definition.now c.args.given.history.now c.args.given.inputs.now s) c.in_ok-came.field-0)
      (c.deref.ensures.value ∙ c.in_ok-schedule.ensures ∙ ap (λ (s : ℕ). further_schedule s c.loop-place.place) c.seed_of.ensures)
      c.in_ok-came.ensures) c.in_ok-push.ensures.items;
  all = search rules;
}
