use Rattle.std.proofs.Common.{sym}
use Rattle.wf_val.proofs.FieldLemmas.{put-at, put-in, AreMembers-set, AreMembers-insert}
use Rattle.wf_val.proofs.fields.put_in.Goals as goal

pub returns-in-Ok-clause-ok : goal.returns-in-Ok-clause-ok
returns-in-Ok-clause-ok c =
    let at = rw (c.deref.ensures.value, c.as_str.ensures) at c.in-Ok.ensures.place in
    sym (put-at c.args.name c.args.value c.args.members.now.items c.in-Ok.place at)

pub returns-in-Ok-clause-well_formed : goal.returns-in-Ok-clause-well_formed
returns-in-Ok-clause-well_formed c =
    let at = rw (c.deref.ensures.value, c.as_str.ensures) at c.in-Ok.ensures.place in
    AreMembers-set c.args.name c.args.value c.args.members.now.items c.in-Ok.place (rw c.as_str.ensures at c.as_str.utf8) c.requires.value c.requires.members at

pub returns-in_ok-insert-in-Err-clause-ok : goal.returns-in_ok-insert-in-Err-clause-ok
returns-in_ok-insert-in-Err-clause-ok c =
    let at = rw (c.deref.ensures.value, c.as_str.ensures) at c.in-Err.ensures.gap in
    rw (put-in c.args.name c.args.value c.args.members.now.items c.in-Err.place at, c.in_ok-insert-in-Err.ensures.items)

pub returns-in_ok-insert-in-Err-clause-well_formed : goal.returns-in_ok-insert-in-Err-clause-well_formed
returns-in_ok-insert-in-Err-clause-well_formed c =
    let at = rw (c.deref.ensures.value, c.as_str.ensures) at c.in-Err.ensures.gap in
    rw c.in_ok-insert-in-Err.ensures.items
    (AreMembers-insert c.args.name c.args.value c.args.members.now.items c.in-Err.place (rw c.as_str.ensures at c.as_str.utf8) c.requires.value c.requires.members at)
