use Rattle.std.proofs.Common.{◌∙◌, ap}
use Rattle.wf_val.specs.Arguments.{given}
use Rattle.wf_fn_time.specs.Formatting.{month_start}
use Rattle.wf_fn_time.specs.Times.{printed_value}
use Rattle.wf_fn_time.proofs.formatting.f_start_of_month.Goals as goal

pub returns : goal.returns
returns c = λ h.
    c.printed_value.ensures h ∙ ap (λ t. printed_value t c.in_ok-moment.pattern) c.month_start.ensures
    ∙ ap (λ r. given r (λ r. printed_value (month_start r.0) r.1)) (c.in_ok-moment.ensures (λ e. cc))
