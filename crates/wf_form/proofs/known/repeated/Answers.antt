use Rattle.wf_val.specs.Seen.{member}
use Rattle.wf_form.proofs.NameLemmas.{seen-more, new-name, known-name, was-new, was-known}
use Rattle.wf_form.proofs.known.repeated.Goals as goal

pub loop-action-preserved-then-branch : goal.loop-action-preserved-then-branch
loop-action-preserved-then-branch c =
    let new = was-new c.in_ok-insert.field-0 _ c.in_ok-insert.ensures.added c.if-branch.true in
    record {
      once =
          seen-more (λ m. member m.now) c.args.actions.now c.loop-action.action-index c.action-item.result c.loop-action-test.true
          c.action-item.is c.loop-action.seen.keys c.insert.new.self.keys c.as_str.result c.as_str.ensures c.in_ok-insert.ensures.keys
          c.loop-action.invariant.once;
      twice =
          new-name (λ m. member m.now) c.args.actions.now c.loop-action.action-index c.action-item.result c.loop-action-test.true
          c.action-item.is c.loop-action.seen.keys c.loop-action.again.keys c.as_str.result c.as_str.ensures new
          c.loop-action.invariant.once c.loop-action.invariant.twice;
    }

pub loop-action-preserved : goal.loop-action-preserved
loop-action-preserved c =
    let known = was-known c.in_ok-insert.field-0 _ c.in_ok-insert.ensures.added c.if-branch.false in
    record {
      once =
          seen-more (λ m. member m.now) c.args.actions.now c.loop-action.action-index c.action-item.result c.loop-action-test.true
          c.action-item.is c.loop-action.seen.keys c.insert.new.self.keys c.as_str.result c.as_str.ensures c.in_ok-insert.ensures.keys
          c.loop-action.invariant.once;
      twice =
          known-name (λ m. member m.now) c.args.actions.now c.loop-action.action-index c.action-item.result c.loop-action-test.true
          c.action-item.is c.loop-action.seen.keys c.loop-action.again.keys c.insert-in-loop-action.new.self.keys c.as_str.result
          c.as_str-in-loop-action.result c.as_str.ensures c.as_str-in-loop-action.ensures known c.in_ok-_is_second.ensures.keys
          c.loop-action.invariant.once c.loop-action.invariant.twice;
    }
