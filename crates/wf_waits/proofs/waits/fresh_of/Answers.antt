use Rattle.std.proofs.Common.{◌≡◌, ◌+◌, ◌++◌, List, drop, map, sym, subst, arith}
use Rattle.wf_talk.specs.Seen.{want_key}
use Rattle.wf_talk.specs.declared.want.Want.{Want}
use Rattle.wf_waits.specs.Kept.{fresh_key}
use Rattle.wf_waits.proofs.KeyLemmas.{fresh_on}
use Rattle.wf_waits.proofs.waits.fresh_of.Goals as goal

pub loop-place-preserved : goal.loop-place-preserved
loop-place-preserved c =
    let l = c.loop-place in
    let news = c.args.fresh.now.0 in
    subst (λ (wants : List Want). map want_key wants ++ map fresh_key (drop (l.place + 1) news) ≡ map fresh_key news)
    (sym c.in_ok-push.ensures.items)
    (fresh_on l.wants.items news l.place (l.place + 1) (omega arith) c.at.result.now c.in_ok-copy_of.field-0 c.at.ensures.item
    c.in_ok-copy_of.ensures l.invariant)
