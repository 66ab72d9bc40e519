use Rattle.std.proofs.Common.{◌≡◌, List, IfOk, option_map, string_bytes, subst}
use Rattle.wf_json.specs.Pointer.{least}
use Rattle.wf_val.specs.ValueTree.{Member}
use Rattle.wf_after.specs.Waits.{bad_run_after}
use Rattle.wf_after.proofs.graph.bad_run_after.Goals as goal

pub returns : goal.returns
returns c =
    subst (λ (ms : List Member). IfOk c.among.result (λ p. option_map string_bytes p ≡ least (bad_run_after ms))) c.as_slice.ensures.members
    c.among.ensures
