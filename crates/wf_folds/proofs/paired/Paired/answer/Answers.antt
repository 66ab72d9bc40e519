use Rattle.std.proofs.Common.{subst}
use Rattle.wf_val.specs.Arguments.{Gives, seen}
use Rattle.wf_functions.specs.Rows.{strict_row}
use Rattle.wf_folds.proofs.paired.Paired.answer.Goals as goal

pub returns-in-Nothing : goal.returns-in-Nothing
returns-in-Nothing c =
    rw c.in-Nothing.is
    (subst (λ ts. Gives (seen c.strict_row.result) (strict_row c.args.self.function ts)) c.new.ensures
    c.strict_row.ensures)
