use Rattle.std.proofs.Common.{arith, length, ◌<◌, ◌≤◌}
use Rattle.wf_outside.proofs.Fronts.{short_front}
use Rattle.wf_outside.proofs.disk.read_within.Goals as goal

pub returns-else-len-limit-clause-content : goal.returns-else-len-limit-clause-content
returns-else-len-limit-clause-content g c = λ small.
    let more : c.args.limit < c.take-front.result.limit = omega arith in
    let short : length c.read_to_end.new.buf.items ≤ c.args.limit = omega arith in
    short_front g.R.Read.remaining c.args.reader _ c.take-front.result.limit c.args.limit _ c.read_to_end.new.buf.items
    c.take-front.ensures.inner more c.new-bytes.ensures.items short c.in-Ok.ensures.bytes
