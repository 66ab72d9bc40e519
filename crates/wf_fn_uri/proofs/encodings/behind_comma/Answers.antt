use Rattle.std.proofs.Common.{arith}
use Rattle.wf_fn_uri.proofs.DataUriLemmas.{no_ending}
use Rattle.wf_fn_uri.proofs.encodings.behind_comma.Goals as goal

pub returns-else-ends_with : goal.returns-else-ends_with
returns-else-ends_with c =
    let cut = c.in-Some.ensures.byte (omega arith) (λ w o h. h) in
    no_ending _ _ c.in-Some.kind.now _ _ cut.0 c.if-ends_with.ensures.cases
