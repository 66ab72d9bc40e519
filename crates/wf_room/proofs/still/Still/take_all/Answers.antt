use Rattle.std.proofs.Common.{◌≡◌, ◌+◌, ◌-◌, ◌∙◌, length, ap, arith}
use Rattle.std.proofs.lemmas.List.Edits.{length-remove}
use Rattle.wf_room.proofs.TakenLemmas.{taken_last}
use Rattle.wf_room.proofs.still.Still.take_all.Goals as goal

pub loop-self-preserved : goal.loop-self-preserved
loop-self-preserved g c =
    let xs = c.loop-self.self.0 in
    let i = c.remove.inside.count - 1 in
    let tested = ap (λ v. length v.0) c.self-in-loop-self.view_is in
    let taken = ap (λ v. length v.0) c.remove.view_is in
    let last : i + 1 ≡ length xs =
    omega (arith, tested, c.self-in-loop-self.invariant.1, c.loop-self-test.true, taken, c.remove.invariant.1) in
    let left = length-remove xs i (omega (arith, last)) in
    record {
      items =
          rw (c.remove-in-loop-self.ensures.rest, c.push_reserved.ensures.items)
          (
          taken_last xs c.loop-self.items.items i c.remove-in-loop-self.result c.remove-in-loop-self.ensures.item last
          ∙ c.loop-self.invariant.items
          );
      room =
          omega (
            arith,
            ap length c.remove-in-loop-self.ensures.rest,
            left,
            last,
            c.push_reserved.ensures.len,
            c.push_reserved.ensures.capacity,
            c.loop-self.invariant.room,
          );
    }
