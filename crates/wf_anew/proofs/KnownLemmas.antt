-- A definition that breaks no rule breaks none first.
use Rattle.std.proofs.Common.{◌≡◌, Option, None, Some, option_map, refl}
use Rattle.wf_first.specs.First.{first_broken}
use Rattle.wf_def.specs.DefTree.{DefTree}
use Rattle.wf_meant_laws.specs.Broken.{broken_of, offences, rules_in_order}

none_mapped : {X Y : Type 0} (f : X → Y) (o : Option X) → option_map f o ≡ None → o ≡ None
none_mapped f None is = refl
none_mapped f (Some x) is = absurd (cc)

pub none_broken : (d : DefTree) → broken_of d ≡ None → first_broken (offences d) rules_in_order ≡ None
none_broken d none = none_mapped _ (first_broken (offences d) rules_in_order) none
