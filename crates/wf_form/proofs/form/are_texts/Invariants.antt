use Rattle.std.proofs.Common.{◌≡◌, drop, map}
use Rattle.std.specs.List.{list_all}
use Rattle.wf_val.specs.Seen.{tree}
use Rattle.wf_form.specs.Form.{is_text}
use Rattle.wf_form.proofs.form.are_texts.Given as goal

abbrev pub invariant-loop-value : goal.invariant-loop-value
invariant-loop-value l = list_all is_text (map tree (drop l.value-index l.values)) ≡ list_all is_text (map tree l.values)
