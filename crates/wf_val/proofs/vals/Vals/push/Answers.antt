use Rattle.wf_val.proofs.WellFormedLemmas.{AreValues-push}
use Rattle.wf_val.proofs.vals.Vals.push.Goals as goal

-- the further item is well formed too
pub invariant_of-self-in-Many : goal.invariant_of-self-in-Many
invariant_of-self-in-Many c = (rw (c.in_ok-push-in-Many.ensures.items, c.deref_mut-in-Many.ensures.value) (AreValues-push c.args.item c.in-Many.items.value.items c.always_well_formed.ensures (rw c.in-Many.is at c.self.invariant).0), tt)
