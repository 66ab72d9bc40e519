-- The source of a definition answers as itself: it keeps nothing, and closes nothing again.
use Rattle.std.proofs.Common.{refl, sym, true≢false}
use Rattle.wf_seen_laws.specs.DefTree.{DefTree}
use Rattle.wf_instance.specs.Environment.{Environment}
use Rattle.wf_instance.specs.Answering.{AnswersAs}
use Rattle.wf_instance.specs.Source.{source}

pub answers_itself : (d : DefTree) (e : Environment) → AnswersAs d e (source d e)
answers_itself d e = record {
  status = refl;
  skipped = refl;
  start = refl;
  tries = refl;
  finish = refl;
  taken = refl;
  items = refl;
  test = refl;
  ends = refl;
  close = refl;
  halts = refl;
  decide = λ x t no. refl;
  recalls = λ x t yes. absurd (true≢false (sym yes));
  loops = λ n kind is loop. refl;
}
