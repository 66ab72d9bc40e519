use Rattle.std.proofs.Common.{refl}
use Rattle.base64.proofs.EngineFacts.{decode_of_iff}
use Rattle.base64.specs.Engines.{standard}
use Rattle.wf_fn_uri.proofs.laws.base64_is_undone.Goals as goal

pub returns : goal.returns
returns c = λ s b bytes others. decode_of_iff standard s b (refl, refl) bytes others
