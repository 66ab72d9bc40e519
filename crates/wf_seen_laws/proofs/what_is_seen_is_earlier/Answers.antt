use Rattle.std.proofs.Common.{arith, refl, ◌<◌, []}
use Rattle.wf_layers.specs.Definition.{IsBefore}
use Rattle.wf_layers.proofs.Meaning.{before_falls}
use Rattle.wf_seen_laws.proofs.BackLemmas.{back_of}
use Rattle.wf_seen_laws.proofs.what_is_seen_is_earlier.Goals as goal

pub returns : goal.returns
returns c = λ g depth once falls x y before tells seen.
    back_of (IsBefore g) (λ a low. let h : depth a < depth a = before_falls g depth falls a a low in omega (arith, h)) x y before g []
    x.at y.at once refl refl
    (λ a d one other low. tells (record { one = a; other = d; one_up = one; other_up = other; ancestor = low })) seen.1
