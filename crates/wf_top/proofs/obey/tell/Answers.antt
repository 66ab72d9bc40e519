use Rattle.std.proofs.Common.{rules}
use Rattle.wf_top.specs.Served.{Speaks, Spent, Unread}
use Rattle.wf_top.proofs.obey.tell.Goals as goal

pub returns-in-Ok-clause-serves : goal.returns-in-Ok-clause-serves
returns-in-Ok-clause-serves g c = λ held plan failed later follows. record {
  outcome = Speaks c.in-Ok.said.verdict c.in-Ok.said.text.items;
  comes = search rules;
  writes = search rules;
}

pub returns-in-Ok-unread_line-clause-serves : goal.returns-in-Ok-unread_line-clause-serves
returns-in-Ok-unread_line-clause-serves g c = λ held plan failed later follows. record {
  outcome = Unread c.in-Err-CannotRead.name;
  comes = search rules;
  writes = rw (c.deref-in-Ok-unread_line.ensures.value, c.in-Ok-unread_line.ensures) at c.close-in-Ok-unread_line.ensures.writes;
}

pub returns-in-Err-clause-serves : goal.returns-in-Err-clause-serves
returns-in-Err-clause-serves g c = λ held plan failed later follows. record { outcome = Spent; comes = search rules; writes = search rules }

pub returns-in-Err-Memory-clause-serves : goal.returns-in-Err-Memory-clause-serves
returns-in-Err-Memory-clause-serves g c = λ held plan failed later follows.
    record { outcome = Spent; comes = search rules; writes = search rules }
