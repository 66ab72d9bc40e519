use Rattle.std.proofs.Common.{◌≡◌, drop, map}
use Rattle.std.specs.List.{list_any}
use Rattle.wf_breaks.specs.Rules.{is_misfit}
use Rattle.wf_val.specs.Seen.{tree}
use Rattle.wf_breaks.proofs.breaks.any_misfit.Given as goal

abbrev pub invariant-loop-value : goal.invariant-loop-value
invariant-loop-value l =
    list_any (is_misfit l.sort) (map tree (drop l.value-index l.values))
    ≡ list_any (is_misfit l.sort) (map tree l.values)
