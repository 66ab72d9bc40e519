-- A source by which the actions of a definition answer is that of the definition, but for what it keeps, and for what it closes again.
use Rattle.std.proofs.Common.{◌≡◌}
use Rattle.wf_known_laws.specs.DefTree.{DefTree}
use Rattle.wf_meant.specs.Environment.{Environment}
use Rattle.wf_meant.specs.Answering.{AnswersAs, RowSource}
use Rattle.wf_meant.specs.Source.{source}

abbrev pub written_out : DefTree → Environment → RowSource → RowSource
written_out d e m = record (source d e) { decide = m.decide; pinned = m.pinned; old = m.old; reclosed = m.reclosed }

pub is_written_out : (d : DefTree) (e : Environment) (m : RowSource) → AnswersAs d e m → m ≡ written_out d e m
is_written_out d e m answers = λ i. record {
  status = answers.status i;
  skipped = answers.skipped i;
  start = answers.start i;
  tries = answers.tries i;
  finish = answers.finish i;
  decide = m.decide;
  taken = answers.taken i;
  items = answers.items i;
  test = answers.test i;
  ends = answers.ends i;
  close = answers.close i;
  halts = answers.halts i;
  pinned = m.pinned;
  old = m.old;
  reclosed = m.reclosed;
}
