-- The statuses of rows, as the laws of order know them.
use Rattle.wf_layers.specs.Definition as layers
use Rattle.wf_record.specs.declared.status.Status.{Status}

abbrev pub status_tree : Status → layers.Status
status_tree Status.Succeeded = layers.Succeeded
status_tree Status.Failed = layers.Failed
status_tree Status.Skipped = layers.Skipped
status_tree Status.TimedOut = layers.TimedOut
status_tree Status.Cancelled = layers.Cancelled
