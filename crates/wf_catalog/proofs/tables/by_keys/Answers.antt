use Rattle.std.proofs.Common.{ap, sym, ◌∙◌}
use Rattle.wf_catalog.proofs.KeyLemmas.{put_last, put_over}
use Rattle.wf_catalog.proofs.tables.by_keys.Goals as goal

pub loop-item-preserved : goal.loop-item-preserved
loop-item-preserved g c =
    let cmp = g.T.Key.Ord.cmp in
    let key = g.T.Keyed.key_of in
    ap (λ t. put_over cmp key t c.pop.new.self.items) c.in_ok-put.ensures.ok
    ∙ sym (put_last cmp key c.loop-item.table c.pop.new.self.items c.in-Some.item)
    ∙ sym (ap (put_over cmp key c.loop-item.table) c.in-Some.ensures.items)
    ∙ c.loop-item.invariant
