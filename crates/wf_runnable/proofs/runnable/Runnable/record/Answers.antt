use Rattle.std.proofs.Common.{◌≡◌, sym, subst, ◌∙◌}
use Rattle.wf_environment.specs.StartsSeen.{start_tree}
use Rattle.wf_ended.specs.Left.{recorded}
use Rattle.wf_ended.specs.LeftSeen.{left_tree}
use Rattle.wf_runnable.specs.Runnable.{IsEnded, definition, record_left}
use Rattle.wf_runnable.proofs.runnable.Runnable.record.Goals as goal

pub left-requires : goal.left-requires
left-requires c =
    subst (λ k. IsEnded k c.args.start c.args.inputs.now c.args.rows.now.0 c.args.store.now.0) (sym c.args.self.now.ending) c.requires

pub returns-clause-record : goal.returns-clause-record
returns-clause-record c =
    let start = start_tree c.args.start in
    let kept = subst (λ k. recorded (definition k).digest start (left_tree c.in_ok-left.left)
    ≡ record_left k c.args.start c.args.inputs.now c.args.rows.now.0) c.args.self.now.ending c.in_ok-left.ensures.record in
    c.record.ensures.record ∙ kept
