use Rattle.std.proofs.Common.{◌∙◌, ◌++◌, [], Some, map, ap, sym}
use Rattle.wf_match.specs.Differences.{differences}
use Rattle.wf_match.specs.Told.{told}
use Rattle.wf_match.proofs.DifferenceLemmas.{none_iff_holds}
use Rattle.wf_match.proofs.Elements.{map_nothing}
use Rattle.wf_match.proofs.of_value.differences.Goals as goal
use Rattle.wf_val.specs.Seen.{tree}

pub returns-clause-none : goal.returns-clause-none
returns-clause-none c =
    let e = tree c.args.expected.now in
    let found = Some (tree c.args.found.now) in
    let exact = c.in_ok-differ.ensures ∙ ap (λ xs. map told xs ++ differences [] e found) c.new-all.ensures.items in
    let both = none_iff_holds [] e found c.always_well_formed.ensures in
    ((λ none. both.0 (sym exact ∙ ap (map told) none)), (λ holds. map_nothing told _ (exact ∙ both.1 holds)))
