-- What worked rows on what actions come to are written in.
use Rattle.std.proofs.Common.{ℕ, List}
use Rattle.std.specs.Fmt.{digits}
use Rattle.std.specs.Prelude.{codes, ⊤}
use Rattle.wf_val.specs.ValueTree.{ValueTree, null, text}
use Rattle.wf_connect.specs.Status.{Status}
use Rattle.wf_variables.proofs.WorkedLook.{nowhere, only}
use Rattle.wf_variables.specs.Told.{Told}
use Rattle.wf_done.specs.Done.{DoneTree}
use Rattle.wf_done.specs.Leaf.{BegunTree, acted}

-- numbers stand in texts in decimal
unfoldable pub in_decimal : ⊤
unfolding digits
in_decimal = tt

abbrev pub done : Status → List ℕ → ValueTree → ValueTree → ValueTree → DoneTree
done s c i o e = record { status = s; code = c; inputs = i; outputs = o; error = e }

abbrev pub done_well : ValueTree → ValueTree → DoneTree
done_well i o = done Status.Succeeded (codes "OK") i o null

abbrev pub done_wrong : List ℕ → DoneTree
done_wrong s = done Status.Failed (codes "InvalidTemplate") null null (text s)

-- what has acted as it starts: it gives out this, or has this fault
abbrev pub acts : ValueTree → ValueTree → BegunTree
acts i o = acted (done_well i o)

abbrev pub faults : List ℕ → BegunTree
faults s = acted (done_wrong s)

-- a look in which one variable has a value
abbrev pub having : ValueTree → Told
having t = record nowhere { variable = only (codes "v") t }
