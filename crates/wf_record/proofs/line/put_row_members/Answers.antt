use Rattle.std.proofs.Common.{refl}
use Rattle.wf_record.specs.Line.{row_pieces, where_pieces}
use Rattle.wf_record.proofs.line.put_row_members.Goals as goal

-- piece by piece
pub returns : goal.returns
unfolding row_pieces where_pieces
returns c =
    rw (
      c.in_ok-extend_from_slice.ensures.items,
      c.in_ok-put_member-4.ensures,
      c.in_ok-put_text_member-3.ensures,
      c.in_ok-put_member-3.ensures,
      c.in_ok-put_text_member-2.ensures,
      c.in_ok-put_member-2.ensures,
      c.in_ok-put_member.ensures,
      c.in_ok-put_text_member.ensures,
      c.in_ok-put_where.ensures,
      c.as_str.ensures,
      c.as_str-2.ensures,
      c.name.ensures,
    ) refl
