use Rattle.wf_printed.proofs.resubmission.resubmitted.Goals as goal

pub resubmit-requires : goal.resubmit-requires
resubmit-requires c = record { may = c.requires }
