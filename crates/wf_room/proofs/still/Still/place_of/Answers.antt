use Rattle.std.proofs.Common.{◌≡◌, take, drop, Less, Equal, Greater, add-one, subst, arith}
use Rattle.wf_room.proofs.SearchLemmas.{AreBelow, AreAbove, below_to, above_from, gap_at, place_at}
use Rattle.wf_room.proofs.still.Still.place_of.Goals as goal
use Rattle.wf_room.proofs.still.Still.place_of.Goals.{in-Less, in-Greater}

pub returns-in-Equal-clause-place : goal.returns-in-Equal-clause-place
returns-in-Equal-clause-place g c =
    let equal : g.T.Key.Ord.cmp (g.T.Keyed.key_of c.at.result.now) c.args.key.now ≡ Equal =
    rw (← c.key.ensures, ← c.cmp.ensures) c.in-Equal.is in
    place_at g.met.T.Key.Ord.total g.T.Keyed.key_of c.args.key.now c.args.self.now.0 c.next_look-place.result c.at.result.now c.requires
    c.at.ensures equal

pub loop-low-preserved : goal.loop-low-preserved
loop-low-preserved g c =
    let total = g.met.T.Key.Ord.total in
    let key = g.T.Keyed.key_of in
    let items = c.args.self.now.0 in
    let place = c.next_look-place.result in
    let least = c.next_look-place.ensures.least in
    let most = c.next_look-place.ensures.most in
    elim c.match-cmp.branch [
      | in-Less w ↦
          let less : g.T.Key.Ord.cmp (key c.at.result.now) c.args.key.now ≡ Less = rw (← c.key.ensures, ← c.cmp.ensures) w.in-Less.is in
          let below : AreBelow total key c.args.key.now (take c.match-cmp.low items) =
          rw (w.low-is, add-one place) (below_to total key c.args.key.now items place c.at.result.now c.requires c.at.ensures less) in
          let above : AreAbove total key c.args.key.now (drop c.match-cmp.high items) = rw w.high-is c.loop-low.invariant.3 in
          (omega (arith, w.low-is, w.high-is, most), omega (arith, w.high-is, c.loop-low.invariant.1), below, above)
      | in-Greater w ↦
          let greater : g.T.Key.Ord.cmp (key c.at.result.now) c.args.key.now ≡ Greater =
          rw (← c.key.ensures, ← c.cmp.ensures) w.in-Greater.is in
          let below : AreBelow total key c.args.key.now (take c.match-cmp.low items) = rw w.low-is c.loop-low.invariant.2 in
          let above : AreAbove total key c.args.key.now (drop c.match-cmp.high items) =
          rw w.high-is (above_from total key c.args.key.now items place c.at.result.now c.requires c.at.ensures greater) in (
            omega (arith, w.low-is, w.high-is, least),
            omega (arith, w.high-is, most, c.loop-low.invariant.1),
            below,
            above,
          )
    ]

pub returns-clause-gap : goal.returns-clause-gap
returns-clause-gap g c =
    let total = g.met.T.Key.Ord.total in
    let key = g.T.Keyed.key_of in
    let items = c.args.self.now.0 in
    let same : c.loop-low.high ≡ c.loop-low.low = omega (arith, c.loop-low.invariant.0, c.loop-low-test.false) in
    let above = subst (λ place. AreAbove total key c.args.key.now (drop place items)) same c.loop-low.invariant.3 in
    gap_at total key c.args.key.now items c.loop-low.low (omega (arith, c.loop-low.invariant.0, c.loop-low.invariant.1))
    c.loop-low.invariant.2 above
