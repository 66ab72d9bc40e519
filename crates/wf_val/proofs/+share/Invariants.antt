use Rattle.std.proofs.Common.{◌≡◌, map}
use Rattle.wf_val.specs.Seen.{tree, member}
use Rattle.wf_val.proofs.+share.Given as goal

-- the parts so far are the values that were yielded
abbrev pub invariant-fields::Fields::shared-loop-name : goal.invariant-fields::Fields::shared-loop-name
invariant-fields::Fields::shared-loop-name l = map member l.parts.items ≡ map member l.yielded

abbrev pub invariant-vals::Vals::shared-loop-item : goal.invariant-vals::Vals::shared-loop-item
invariant-vals::Vals::shared-loop-item l = map tree l.parts.items ≡ map tree l.yielded
