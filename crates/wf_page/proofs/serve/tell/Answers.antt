use Rattle.std.proofs.Common.{inl}
use Rattle.wf_page.proofs.serve.tell.Goals as goal

pub returns-in-Ok-unread_line-clause-writes : goal.returns-in-Ok-unread_line-clause-writes
returns-in-Ok-unread_line-clause-writes g c =
    let told = rw (c.deref-in-Ok-unread_line.ensures.value, c.in-Ok-unread_line.ensures) at c.close-in-Ok-unread_line.ensures.writes in
    rw (c.in-Err-CannotRead.is, c.in-Err-CannotRead.field-0-is) (inl told)
