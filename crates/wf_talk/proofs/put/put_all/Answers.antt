use Rattle.std.proofs.Common.{arith, rules}
use Rattle.std.proofs.lemmas.Grind.{common_steps}
use Rattle.std.proofs.lemmas.List.{take_rest}
use Rattle.wf_talk.proofs.Written.{appends_more}
use Rattle.wf_talk.proofs.put.put_all.Goals as goal

pub loop-done-preserved : goal.loop-done-preserved
loop-done-preserved g c = record {
  within = grind (arith, common_steps);
  written = appends_more _ _ _ _ _ _ c.loop-done.invariant.written (simp take_rest at c.in_ok-done.ensures.bytes);
  calm = search rules;
}
