-- What is seen of a run that has ended.
use Rattle.wf_record.specs.Seen.{record_tree}
use Rattle.wf_told.specs.Under.{Told}
use Rattle.wf_run.specs.declared.ended.Ended.{Ended}

abbrev pub told : Ended → Told
told e = record { events = e.trace.items; left = record_tree e.finished; steps = e.steps; peak = e.peak }
