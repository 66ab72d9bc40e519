use Rattle.std.proofs.Common.{◌≡◌, drop, map}
use Rattle.std.specs.List.{list_any}
use Rattle.wf_val.specs.Seen.{tree}
use Rattle.wf_reading.specs.Afters.{is_word}
use Rattle.wf_reading.proofs.afters.any_is_word.Given as goal

abbrev pub invariant-loop-value : goal.invariant-loop-value
invariant-loop-value l = list_any (is_word l.word) (map tree (drop l.value-index l.values)) ≡ list_any (is_word l.word) (map tree l.values)
