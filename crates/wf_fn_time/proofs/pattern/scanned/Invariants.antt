use Rattle.std.proofs.Common.{◌≡◌, ◌++◌, length, false}
use Rattle.std.specs.Prelude.{option_map}
use Rattle.wf_fn_time.specs.Pattern.{parts_past}
use Rattle.wf_fn_time.proofs.pattern.scanned.Given as goal

-- the parts so far, and those of what is left
abbrev pub invariant-loop-first : goal.invariant-loop-first
invariant-loop-first l = option_map (λ ps. l.parts.items ++ ps) (parts_past 0 l.quoted l.rest) ≡ parts_past 0 false l.fn.characters

abbrev pub decreases-loop-first : goal.decreases-loop-first
decreases-loop-first l = length l.rest
