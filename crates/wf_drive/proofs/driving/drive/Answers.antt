use Rattle.std.proofs.Common.{rules, ◌≡◌, ◌+◌, ◌≤◌, ◌<◌, ◌++◌, suc, [], List, cond, arith, refl, sym, ap, subst, ◌∙◌}
use Rattle.std.proofs.lemmas.Result.{err_from_is_err_and}
use Rattle.wf_layers.specs.Machine.{Event, IsOver, Run, State, Step}
use Rattle.wf_kept.specs.Reached.{IsReached}
use Rattle.wf_kept.specs.Taken.{HasTaken}
use Rattle.wf_kept.proofs.Known.{left_falls}
use Rattle.wf_kept.proofs.Taken.{one_more_taken}
use Rattle.wf_scheduled.specs.Counts.{HasNotBegun, number_of}
use Rattle.wf_scheduled.specs.Turns.{Turn}
use Rattle.wf_drive.specs.Limit.{most_cost}
use Rattle.wf_drive.specs.Lines.{event_line}
use Rattle.wf_drive.proofs.DriveLemmas.{begins, goes_on, run_before}
use Rattle.wf_drive.proofs.driving.drive.Goals as goal

pub loop-alloc-init : goal.loop-alloc-init
loop-alloc-init g c =
    let a = g.M.Machine in
    let o = a.origin c.args.machine.now in
    record {
      same = refl;
      comes = begins (a.graph o) (a.source o) (a.told o) c.args.schedule.now (a.state c.args.machine.now) c.args.traced _
          c.new-trace.ensures.items;
      taken = c.requires.first.none_taken;
    }

pub overflow_add-steps : goal.overflow_add-steps
overflow_add-steps g c =
    let a = g.M.Machine in
    let l = c.loop-alloc in
    let taken = subst (λ q. HasTaken (a.graph q) (a.depth q) (a.source q) (a.state l.machine) l.steps) (sym l.invariant.same)
    l.invariant.taken in
    let few = c.is_priced.ensures.few l.steps taken in
    let small = c.in_ok-event.ensures.small in omega (arith, few, small)

pub loop-alloc-smaller : goal.loop-alloc-smaller
loop-alloc-smaller g c =
    let a = g.M.Machine in
    let l = c.loop-alloc in
    let o = a.origin c.args.machine.now in
    let reached = subst (λ q. IsReached (a.graph q) (a.depth q) (a.source q) (a.state l.machine)) l.invariant.same c.is_reached.ensures in
    let goes = subst (λ q. Step (a.graph q) (a.source q) (a.state l.machine) (a.event_tree c.in_ok-event.event)
    (a.state c.turn.new.machine)) l.invariant.same c.in_ok-event.ensures.turn.goes in
    let fall = left_falls (a.graph o) (a.depth o) (a.source o) (a.state l.machine) reached (a.event_tree c.in_ok-event.event)
    (a.state c.turn.new.machine) goes in
    omega (arith, fall)

pub loop-alloc-preserved : goal.loop-alloc-preserved
loop-alloc-preserved g c =
    let a = g.M.Machine in
    let l = c.loop-alloc in
    let o = a.origin c.args.machine.now in
    let e = a.event_tree c.in_ok-event.event in
    let new = c.turn.new.machine in
    let reached = subst (λ q. IsReached (a.graph q) (a.depth q) (a.source q) (a.state l.machine)) l.invariant.same c.is_reached.ensures in
    let turn = subst (λ q. Turn (a.graph q) (a.source q) c.args.schedule.now l.steps (a.state l.machine) e (a.state new)) l.invariant.same
    c.in_ok-event.ensures.turn in
    let same = c.in_ok-event.ensures.same ∙ l.invariant.same in
    let noted = subst (λ q. (first before : State a.Row a.Begun a.Decision a.Verdict) (es : List Event) → HasNotBegun first
    → Run (a.graph q) (a.source q) first es before → IsReached (a.graph q) (a.depth q) (a.source q) before → Step (a.graph q) (a.source q) before e (a.state new)
    → c.note.new.trace.items ≡ l.trace.items ++ cond c.args.traced (event_line (l.steps + 1) (a.told q e (number_of es e))) [])
    same c.in_ok-note.ensures in
    let comes = l.invariant.comes in
    let run = run_before (a.graph o) (a.source o) (a.told o) c.args.schedule.now (a.state c.args.machine.now) (a.state l.machine)
    (a.state new) l.steps l.peak c.args.traced l.trace.items e comes turn in
    let more : suc l.steps ≡ l.steps + 1 = omega arith in
    record {
      same = same;
      comes = goes_on (a.graph o) (a.source o) (a.told o) c.args.schedule.now (a.state c.args.machine.now) (a.state l.machine) (a.state new)
          l.steps l.peak c.args.traced l.trace.items e comes turn c.requires.first.not_begun (l.steps + 1) c.max-peak.result
          c.running.result c.note.new.trace.items refl c.running.ensures c.max-peak.ensures
          (noted (a.state c.args.machine.now) (a.state l.machine) comes.events c.requires.first.not_begun run reached turn.goes);
      taken = subst (HasTaken (a.graph o) (a.depth o) (a.source o) (a.state new)) more
          (one_more_taken (a.graph o) (a.depth o) (a.source o) (a.state l.machine) reached l.steps l.invariant.taken e (a.state new)
          turn.goes);
    }

pub returns-in_err-event-clause-large : goal.returns-in_err-event-clause-large
returns-in_err-event-clause-large g c =
    let a = g.M.Machine in
    let p = err_from_is_err_and c.from_residual.result c.from_residual.ensures.1 in
    rw (p.1, p.2) (λ other. subst (λ q. most_cost < c.args.spent + a.meant_cost q) c.loop-alloc.invariant.same
    (c.in_err-event.ensures.large other))

pub returns-then-is_too_large-clause-large : goal.returns-then-is_too_large-clause-large
returns-then-is_too_large-clause-large g c =
    let a = g.M.Machine in
    λ other. subst (λ q. most_cost < c.args.spent + a.meant_cost q) c.loop-alloc.invariant.same
    (c.is_too_large.ensures.large c.if-is_too_large.true)

pub returns-clause-driven : goal.returns-clause-driven
returns-clause-driven g c =
    let a = g.M.Machine in
    let l = c.loop-alloc in
    let over : IsOver (a.graph (a.origin l.machine)) (a.source (a.origin l.machine)) (a.state l.machine) = search rules in
    record {
      comes = l.invariant.comes;
      over = subst (λ q. IsOver (a.graph q) (a.source q) (a.state l.machine)) l.invariant.same over;
    }

pub returns-clause-same : goal.returns-clause-same
returns-clause-same g c = c.loop-alloc.invariant.same

pub returns-clause-few : goal.returns-clause-few
returns-clause-few g c =
    let a = g.M.Machine in
    let l = c.loop-alloc in
    let taken = subst (λ q. HasTaken (a.graph q) (a.depth q) (a.source q) (a.state l.machine) l.steps) (sym l.invariant.same)
    l.invariant.taken in
    let few = c.is_priced-2.ensures.few l.steps taken in
    let within = subst (λ q. a.cost l.machine ≤ a.meant_cost q) l.invariant.same c.is_priced-2.ensures.within in
    omega (arith, few, within)

pub returns-clause-small : goal.returns-clause-small
returns-clause-small g c =
    let a = g.M.Machine in
    let l = c.loop-alloc in
    let over : IsOver (a.graph (a.origin l.machine)) (a.source (a.origin l.machine)) (a.state l.machine) = search rules in
    let whole = ap (λ q. a.meant_cost q) l.invariant.same in
    let all = c.is_priced-2.ensures.whole over in
    let small = c.is_too_large.ensures.small c.if-is_too_large.false in
    omega (arith, whole, all, small)
