use Rattle.std.proofs.Common.{◌+◌, ◌-◌, ◌/◌, sym, subst, ◌∙◌, arith}
use Rattle.wf_waits.specs.Kept.{Kept}
use Rattle.wf_waits.specs.Places.{MayHappen}
use Rattle.wf_waits.proofs.PlaceLemmas.{passed}
use Rattle.wf_waits.proofs.waits.Waits.past.Goals as goal

pub loop-low-preserved-then-eq : goal.loop-low-preserved-then-eq
loop-low-preserved-then-eq c =
    let known = c.loop-low.invariant in
    let middle = c.loop-low.low + (c.loop-low.high - c.loop-low.low) / 2 in
    let may : MayHappen c.args.ready.now.0 c.self.inside.by_key =
    subst (λ (kept : Kept). MayHappen c.args.ready.now.0 kept.0) (sym c.self.view_is) c.requires in
    record {
      from = omega (arith, c.loop-low-test.true, known.from);
      beside = known.beside;
      among = known.among;
      passed =
          passed c.self.inside.by_key c.self.inside.by_place.0 c.args.ready.now.0 c.self.invariant may c.len.ensures.in_order
          c.len-2.ensures.in_order c.args.from middle c.at.result.now c.at-in-loop-low.result.now c.at.ensures.item c.at-in-loop-low.ensures.item
          (sym c.eq.ensures ∙ c.if-eq.true);
    }
