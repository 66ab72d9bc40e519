use Rattle.std.proofs.Common.{◌≤◌, length, ap, sym, subst, ◌∙◌, arith}
use Rattle.std.specs.Vec.Iter.{into_iter_items}
use Rattle.wf_tables.specs.Blocks.{put_rows}
use Rattle.wf_tables.proofs.blocks.put_rows.Goals as goal

pub put-requires : goal.put-requires
put-requires g c =
    let room = subst (λ items. length items ≤ c.loop-row.rows.1) c.in-Some.ensures.steps.0 c.loop-row.invariant.room in
    omega (arith, room)

pub loop-row-preserved : goal.loop-row-preserved
loop-row-preserved g c =
    let left = into_iter_items c.next.new.self in
    let room = subst (λ items. length items ≤ c.loop-row.rows.1) c.in-Some.ensures.steps.0 c.loop-row.invariant.room in record {
      room = omega (arith, room, c.put.ensures.room);
      rows = ap (λ xs. put_rows left xs) c.put.ensures.items
          ∙ sym (ap (λ items. put_rows items c.loop-row.rows.0) c.in-Some.ensures.steps.0)
          ∙ c.loop-row.invariant.rows;
    }
