use Rattle.std.proofs.Common.{◌≡◌, drop, map}
use Rattle.std.specs.List.{list_all}
use Rattle.wf_val.specs.Seen.{member}
use Rattle.wf_form.specs.Form.{is_list_of_texts}
use Rattle.wf_form.proofs.form.are_lists_of_texts.Given as goal

abbrev pub invariant-loop-value : goal.invariant-loop-value
invariant-loop-value l = list_all (λ m. is_list_of_texts m.1) (map member (drop l.value-index l.members))
    ≡ list_all (λ m. is_list_of_texts m.1) (map member l.members)
