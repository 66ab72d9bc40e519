-- A question is told of where those before it are not.
use Rattle.std.proofs.Common.{◌≡◌, Option, Some, None, ap, ◌∙◌}
use Rattle.wf_resubmit.specs.Refused.{first_of}
use Rattle.wf_resubmit.specs.declared.fault.ResubmitFault.{ResubmitFault}

pub told_after : (a b : Option ResubmitFault) (f : ResubmitFault) → a ≡ None → b ≡ Some f → first_of a b ≡ Some f
told_after a b f none told = ap (λ o. first_of o b) none ∙ told
