use Rattle.std.proofs.Common.{map, sym, ◌∙◌, subst}
use Rattle.wf_val.specs.Get.{name_of}
use Rattle.wf_val.specs.NameOrder.{IsAboveAll}
use Rattle.wf_val.specs.Seen.{member}
use Rattle.wf_val.proofs.FieldLemmas.{AreMembers-push}
use Rattle.wf_val.proofs.fields.Fields.append.Goals as goal

-- the name is above the others
pub invariant_of-self-in-Own : goal.invariant_of-self-in-Own
invariant_of-self-in-Own c =
    let above = rw (← c.self.view_is, c.in-Own.is) at c.requires in
    (rw (c.in_ok-push-in-Own.ensures.items, c.deref_mut.ensures.value) (AreMembers-push c.args.name c.args.value c.in-Own.members.value.items (rw c.as_str.ensures at c.as_str.utf8) c.always_well_formed.ensures (rw c.in-Own.is at c.self.invariant).0 above), tt)

pub of-requires : goal.of-requires
of-requires c =
    let own = c.in_ok-own-in_default.own.items in
    let above : IsAboveAll name_of c.args.name (map member own) = subst (IsAboveAll name_of c.args.name) (sym (c.in_ok-own-in_default.ensures.same ∙ c.self.view_is)) c.requires in
    rw c.in_ok-push-in_default.ensures.items (AreMembers-push c.args.name c.args.value own (rw c.as_str.ensures at c.as_str.utf8) c.always_well_formed.ensures c.in_ok-own-in_default.ensures.well_formed above)
