-- Where a run stands with the answers that are there.
use Rattle.std.specs.Prelude.{ℕ, List}
use Rattle.wf_answers.specs.AnswerTree.{Key}

pub data Standing : Type 0 where
  -- it costs too much
  TooLarge : Standing
  -- these attempts wait for their answers
  Waits : List Key → Standing
  -- it has ended: this is its record's line, with the line feed
  Ends : List ℕ → Standing
