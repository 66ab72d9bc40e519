use Rattle.std.proofs.Common.{◌∙◌, sym, arith}
use Rattle.wf_fn_math.proofs.ConversionLemmas.{whole_number-parsed}
use Rattle.wf_fn_math.proofs.conversion.whole_number.Goals as goal

pub returns : goal.returns
returns c =
    let plus = c.starts_with.ensures.byte (omega arith) (omega arith) (λ w o h. h) in
    rw (← c.as_str-written.ensures) (c.ok.ensures.value ∙ whole_number-parsed c.as_str-written.result.now c.parse.result (sym plus
    ∙ c.if-starts_with.false) c.parse.ensures.value.0)
