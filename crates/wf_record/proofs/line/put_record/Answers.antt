use Rattle.std.proofs.Common.{refl}
use Rattle.wf_record.specs.Line.{record_pieces}
use Rattle.wf_record.proofs.line.put_record.Goals as goal

-- piece by piece
pub returns : goal.returns
unfolding record_pieces
returns c =
    rw (
      c.in_ok-extend_from_slice-3.ensures.items,
      c.in_ok-put_member-4.ensures,
      c.in_ok-put_text_member-2.ensures,
      c.in_ok-put_text_member.ensures,
      c.in_ok-put_list.ensures,
      c.in_ok-extend_from_slice-2.ensures.items,
      c.in_ok-put_member-3.ensures,
      c.in_ok-put_object_member.ensures,
      c.in_ok-put_member-2.ensures,
      c.in_ok-extend_from_slice.ensures.items,
      c.in_ok-put_member.ensures,
      c.in_ok-put_digest_member.ensures,
      c.as_slice.ensures.items,
      c.as_str.ensures,
      c.name.ensures,
    ) refl
