use Rattle.std.proofs.Common.{refl}
use Rattle.wf_record.specs.Line.{where_pieces}
use Rattle.wf_record.proofs.line.put_each_where.Goals as goal

-- piece by piece
pub returns : goal.returns
unfolding where_pieces
returns c =
    rw (
      c.in_ok-put_member-2.ensures,
      c.in_ok-put_member.ensures,
      c.in_ok-at.ensures,
      c.in_ok-attempts.ensures,
    ) refl
