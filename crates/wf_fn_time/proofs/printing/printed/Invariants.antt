use Rattle.std.proofs.Common.{◌≡◌, take, string_bytes}
use Rattle.wf_fn_time.specs.Printing.{printed}
use Rattle.wf_fn_time.proofs.printing.printed.Given as goal

abbrev pub invariant-loop-part : goal.invariant-loop-part
invariant-loop-part l = string_bytes l.text ≡ printed l.clock (take l.part-index l.parts)
