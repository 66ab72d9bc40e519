use Rattle.std.proofs.Common.{map, sym, ◌∙◌, subst}
use Rattle.wf_val.specs.Seen.{tree}
use Rattle.wf_val.specs.WellFormed.{AreValues}
use Rattle.wf_val.proofs.WellFormedLemmas.{AreValues-push}
use Rattle.wf_val.proofs.vals.Vals.copy_with.Goals as goal

-- the further item is well formed too
pub invariant_of-result : goal.invariant_of-result
invariant_of-result c =
    let copied : AreValues (map tree c.in_ok-copies.copies.items) = subst AreValues (sym (c.in_ok-copies.ensures ∙ c.as_slice-items.ensures)) c.always_well_formed-2.ensures in
    (rw (c.in_ok-new.ensures.ok, c.in_ok-push.ensures.items) (AreValues-push _ c.in_ok-copies.copies.items c.always_well_formed.ensures copied), tt)
