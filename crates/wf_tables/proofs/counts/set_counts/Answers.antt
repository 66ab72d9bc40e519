use Rattle.std.proofs.Common.{◌≤◌, length, ap, sym, subst, ◌∙◌, arith}
use Rattle.std.specs.Vec.Iter.{into_iter_items}
use Rattle.wf_tables.specs.Counts.{set_all}
use Rattle.wf_tables.specs.Tables.{count_in}
use Rattle.wf_tables.proofs.CountLemmas.{set_next}
use Rattle.wf_tables.proofs.counts.set_counts.Goals as goal

pub set_count-requires : goal.set_count-requires
set_count-requires c =
    let room = subst (λ items. length items ≤ c.loop-item.counts.1) c.in-Some.ensures.steps.0 c.loop-item.invariant.room in
    omega (arith, room)

pub loop-item-preserved : goal.loop-item-preserved
loop-item-preserved c =
    let left = into_iter_items c.next.new.self in
    let room = subst (λ items. length items ≤ c.loop-item.counts.1) c.in-Some.ensures.steps.0 c.loop-item.invariant.room in record {
      room = omega (arith, room, c.set_count.ensures.room);
      counts = λ x. set_next c.in-Some.item left c.loop-item.counts.0 c.set_count.new.counts.0 c.set_count.ensures.counts x
          ∙ sym (ap (λ items. set_all items (count_in c.loop-item.counts.0) x) c.in-Some.ensures.steps.0)
          ∙ c.loop-item.invariant.counts x;
    }
