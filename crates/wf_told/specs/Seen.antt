-- A fault of the trigger or of a run as a fault of runs, or of a resubmission.
use Rattle.wf_drive.specs.declared.fault.DriveFault.{DriveFault}
use Rattle.wf_prepare.specs.TriggerFault.{TriggerFault}
use Rattle.wf_prepare.specs.TriggerFault.TheVariants.{Memory}
use Rattle.wf_prepare.specs.ResubmitFault.{ResubmitFault}
use Rattle.wf_told.specs.declared.fault.ResubmissionFault.{ResubmissionFault}
use Rattle.wf_told.specs.declared.fault.RunsFault.{RunsFault}

abbrev pub runs_fault : TriggerFault → RunsFault
runs_fault Memory = RunsFault.Memory
runs_fault fault = RunsFault.Trigger fault

abbrev pub drive_fault : DriveFault → RunsFault
drive_fault DriveFault.TooLarge = RunsFault.TooLarge
drive_fault DriveFault.Memory = RunsFault.Memory

abbrev pub refused_fault : ResubmitFault → ResubmissionFault
refused_fault ResubmitFault.Memory = ResubmissionFault.Memory
refused_fault fault = ResubmissionFault.Refused fault

abbrev pub drive_refused : DriveFault → ResubmissionFault
drive_refused DriveFault.TooLarge = ResubmissionFault.TooLarge
drive_refused DriveFault.Memory = ResubmissionFault.Memory
