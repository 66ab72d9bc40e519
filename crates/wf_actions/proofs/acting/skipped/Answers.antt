use Rattle.std.proofs.Common.{IfOk, ◌≡◌, subst, sym}
use Rattle.wf_record.specs.Record.{Row}
use Rattle.wf_sight_laws.specs.Seen.{row_content}
use Rattle.wf_actions.proofs.acting.skipped.Goals as goal

pub returns : goal.returns
returns c =
    subst (λ (r : Row). IfOk c.skipped_row.result (λ q. row_content q ≡ r)) (sym c.are_answered.ensures.answers.skipped) c.skipped_row.ensures
