use Rattle.std.specs.Prelude.{length}
use Rattle.wf_def.specs.Names.{graph_names}
use Rattle.wf_prepare.specs.Prepared.{digest_of}
use Rattle.wf_prepare.proofs.laws.what_is_chosen_stands_in_no_loop.Goals as goal

pub returns : goal.returns
returns c = λ d read r names may.
    c.what_is_chosen_may_be_redone.ensures d.top (length (graph_names d.top)) (digest_of d.digest) (digest_of r.digest) r.rows names
    (c.numbers_are_below.ensures d read) (c.numbers_stand_once.ensures d read) may.accepted
