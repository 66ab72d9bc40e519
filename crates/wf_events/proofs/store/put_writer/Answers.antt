use Rattle.std.proofs.Common.{ap, ◌∙◌}
use Rattle.wf_tables.specs.Known.{store_in}
use Rattle.wf_events.proofs.WrittenLemmas.{writer_put}
use Rattle.wf_events.proofs.store.put_writer.Goals as goal

pub returns-clause-store : goal.returns-clause-store
returns-clause-store c v =
    ap (λ xs. store_in xs v) c.put.ensures.items ∙ writer_put c.args.writer c.args.store.now.0 v
