use Rattle.std.proofs.Common.{take}
use Rattle.wf_answers.specs.InputsSeen.{inputs_tree}
use Rattle.wf_reading.specs.ReadSeen.{def_tree}
use Rattle.wf_trigger.specs.StartsSeen.{starts_seen}
use Rattle.wf_told.specs.Written.{AreWritten}
use Rattle.wf_printed.proofs.runs.all_written.Given as goal

-- the runs of the starts so far are written
abbrev pub invariant-loop-k : goal.invariant-loop-k
invariant-loop-k l = record {
  written : AreWritten (def_tree l.runnable.checked.now.def) (inputs_tree l.inputs) l.schedule l.traced (take l.k (starts_seen l.starts))
      l.written.text.items l.written.cost;
}
