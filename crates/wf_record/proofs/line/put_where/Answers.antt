use Rattle.std.proofs.Common.{◌≡◌, ◌∙◌, [], length, sym}
use Rattle.std.proofs.lemmas.Bool.{eqb-true}
use Rattle.std.proofs.lemmas.List.{nil_from_length}
use Rattle.wf_record.proofs.LineLemmas.{where_none}
use Rattle.wf_record.proofs.line.put_where.Goals as goal

pub returns-then-is_empty-2 : goal.returns-then-is_empty-2
returns-then-is_empty-2 c =
    let at = c.args.at.now in
    let attempts = c.args.attempts.now in
    let no_indexes : at ≡ [] =
    nil_from_length at (eqb-true (length at) 0 (rw (← c.as_slice.ensures) (sym c.is_empty.ensures ∙ c.if-is_empty.true))) in
    let no_attempts : attempts ≡ [] =
    nil_from_length attempts
    (eqb-true (length attempts) 0
    (rw (← c.as_slice-then-is_empty.ensures) (sym c.is_empty-then-is_empty.ensures ∙ c.if-is_empty-2.true))) in
    rw (c.in_ok-extend_from_slice.ensures.items, no_indexes, no_attempts) (where_none c.args.bytes.now.items)
