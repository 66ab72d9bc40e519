use Rattle.std.proofs.Common.{◌∙◌, ◌++◌, map, ap, sym}
use Rattle.wf_match.specs.OfRecord.{record_differences}
use Rattle.wf_match.specs.Told.{told}
use Rattle.wf_match.proofs.RecordLemmas.{record_none_iff}
use Rattle.wf_match.proofs.Elements.{map_nothing}
use Rattle.wf_match.proofs.of_record.differences_of_record.Goals as goal
use Rattle.wf_val.specs.Seen.{tree}

pub returns-clause-none : goal.returns-clause-none
returns-clause-none c =
    let e = tree c.args.expected.now in
    let r = tree c.args.record.now in
    let exact = c.in_ok-differ_in_all.ensures ∙ ap (λ xs. map told xs ++ record_differences e r) c.new-all.ensures.items in
    let both = record_none_iff e r c.always_well_formed.ensures in
    ((λ none. both.0 (sym exact ∙ ap (map told) none)), (λ holds. map_nothing told _ (exact ∙ both.1 holds)))
