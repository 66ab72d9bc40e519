use Rattle.std.proofs.Common.{◌≡◌, ◌<◌, ◌++◌, ◌∷◌, [], IfSome, None, Option, Some, arith, refl, subst, ◌∙◌}
use Rattle.wf_kept.specs.Reached.{IsReached}
use Rattle.wf_kept.proofs.Known.{left_falls}
use Rattle.wf_layers.specs.Machine.{Step}
use Rattle.wf_quiet.specs.Quiet.{IsQuiet}
use Rattle.wf_quiet.proofs.Answered.{grows}
use Rattle.wf_layers.specs.Machine as machine
use Rattle.wf_tables.specs.Tables.{event_tree}
use Rattle.wf_tables.specs.declared.entries.EventAt.{EventAt}
use Rattle.wf_runnable.specs.Meant.{depth, source}
use Rattle.wf_session.specs.Begun.{answered_in, going, graph, moment, price}
use Rattle.wf_session.specs.Settled.{HasLooked, WillHappen}
use Rattle.wf_session.specs.Waiting.{AreAllKept}
use Rattle.wf_session.proofs.NextLemmas.{waiting_on}
use Rattle.wf_session.proofs.settle.settle.Goals as goal

none_of : {X : Type 0} (o : Option X) → ((x : X) → o ≡ Some x → ⊥) → o ≡ None
none_of None never = refl
none_of (Some x) never = absurd (never x refl)

pub loop-event-smaller : goal.loop-event-smaller
loop-event-smaller c =
    let l = c.loop-event in
    let a = c.args.making.now.0 in
    let s = moment l.making.1 in
    let reached : IsReached (graph (going a)) (depth a) (source a) s =
    subst (λ b. IsReached (graph (going b)) (depth b) (source b) s) l.invariant.same
    c.is_known.ensures.reached in
    let goes : Step (graph (going a)) (source a) s (event_tree c.in-Some.event) (moment c.step.new.self.1) =
    subst (λ b. Step (graph (going b)) (source b) s (event_tree c.in-Some.event) (moment c.step.new.self.1)) l.invariant.same
    c.in_ok-step.ensures.goes in
    let fall = left_falls (graph (going a)) (depth a) (source a) s reached (event_tree c.in-Some.event) (moment c.step.new.self.1) goes in
    omega (arith, fall)

pub loop-event-preserved : goal.loop-event-preserved
loop-event-preserved c =
    let l = c.loop-event in
    let a = c.args.making.now.0 in
    let s = moment l.making.1 in
    let e = event_tree c.in-Some.event in
    let new = moment c.step.new.self.1 in
    let looked : HasLooked (going a) s l.waits c.next.new.waits =
    subst (λ b. HasLooked (going b) s l.waits c.next.new.waits) l.invariant.same c.in_ok-event.ensures.looked in
    let found : WillHappen (going l.making.0) s e =
    subst (λ (o : Option EventAt). IfSome o (λ v. WillHappen (going l.making.0) s (event_tree v))) c.in-Some.is
    c.in_ok-event.ensures.happens in
    let happens : WillHappen (going a) s e = subst (λ b. WillHappen (going b) s e) l.invariant.same found in
    let goes : Step (graph (going a)) (source a) s e new =
    subst (λ b. Step (graph (going b)) (source b) s e new) l.invariant.same c.in_ok-step.ensures.goes in
    record {
      same = c.in_ok-step.ensures.same ∙ l.invariant.same;
      comes = record {
        events = l.invariant.comes.events ++ e ∷ [];
        run =
            grows (answered_in (going a)) (graph (going a)) (source a) machine.fresh l.invariant.comes.events s l.invariant.comes.run e new
            happens.answered goes;
      };
      waiting = waiting_on (going a) s new e happens.answered goes c.next.new.waits.0 looked.waiting;
      marked = λ earlier m. looked.marked earlier (l.invariant.marked earlier m);
    }

pub returns-then-is_too_dear-2-clause-dear : goal.returns-then-is_too_dear-2-clause-dear
returns-then-is_too_dear-2-clause-dear c = λ other.
    let l = c.loop-event in record {
      lists = l.making.1;
      listed = c.is_known-2.ensures.listed;
      comes = l.invariant.comes;
      beyond = subst (λ b. 67108864 < price (going b) l.making.1) l.invariant.same (c.is_too_dear-2.ensures.dear c.if-is_too_dear-2.true);
    }

pub returns-else-is_too_dear-2-clause-still : goal.returns-else-is_too_dear-2-clause-still
returns-else-is_too_dear-2-clause-still c =
    let l = c.loop-event in
    let s = moment l.making.1 in record {
      events = l.invariant.comes.events;
      run = l.invariant.comes.run;
      quiet =
          subst (λ b. IsQuiet (answered_in (going b)) (graph (going b)) (source b) s) l.invariant.same
          (c.in_ok-event.ensures.quiet (none_of c.in_ok-event.field-0 c.in_default.not-Some));
    }

pub returns-else-is_too_dear-2-clause-all : goal.returns-else-is_too_dear-2-clause-all
returns-else-is_too_dear-2-clause-all c =
    let l = c.loop-event in
    subst (λ b. AreAllKept (going b) (moment l.making.1) c.next.new.waits.0) l.invariant.same
    (c.in_ok-event.ensures.all (none_of c.in_ok-event.field-0 c.in_default.not-Some))

pub returns-else-is_too_dear-2-clause-marked : goal.returns-else-is_too_dear-2-clause-marked
returns-else-is_too_dear-2-clause-marked c = λ earlier m.
    let l = c.loop-event in
    (subst (λ b. HasLooked (going b) (moment l.making.1) l.waits c.next.new.waits) l.invariant.same
    c.in_ok-event.ensures.looked).marked earlier (l.invariant.marked earlier m)
