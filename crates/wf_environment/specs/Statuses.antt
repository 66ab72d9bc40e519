-- The statuses of records, as the laws of order know them.
use Rattle.wf_trigger.specs.Definition as layered
use Rattle.wf_record.specs.declared.status.Status.{Status}
use Rattle.wf_record.specs.declared.status.Status.TheVariants.{Succeeded, Failed, Skipped, TimedOut, Cancelled}

abbrev pub status_tree : Status → layered.Status
status_tree Succeeded = layered.Succeeded
status_tree Failed = layered.Failed
status_tree Skipped = layered.Skipped
status_tree TimedOut = layered.TimedOut
status_tree Cancelled = layered.Cancelled
