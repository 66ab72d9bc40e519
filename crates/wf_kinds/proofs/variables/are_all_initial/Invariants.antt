use Rattle.std.proofs.Common.{◌≡◌, drop, map}
use Rattle.std.specs.List.{list_all}
use Rattle.wf_val.specs.Seen.{tree}
use Rattle.wf_kinds.specs.Variables.{is_initial}
use Rattle.wf_kinds.proofs.variables.are_all_initial.Given as goal

abbrev pub invariant-loop-initial : goal.invariant-loop-initial
invariant-loop-initial l = list_all is_initial (map tree (drop l.initial-index l.initials)) ≡ list_all is_initial (map tree l.initials)
