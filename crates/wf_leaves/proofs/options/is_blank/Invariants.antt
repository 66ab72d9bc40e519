use Rattle.std.proofs.Common.{◌≡◌, drop}
use Rattle.wf_leaves.specs.Options.{is_blank}
use Rattle.wf_leaves.proofs.options.is_blank.Given as goal

abbrev pub invariant-loop-byte : goal.invariant-loop-byte
invariant-loop-byte l = is_blank (drop l.byte-index l.bytes) ≡ is_blank l.bytes
