use Rattle.std.proofs.Common.{◌≡◌, ◌++◌, [], drop, map}
use Rattle.wf_asks.specs.Instances.{address_of}
use Rattle.wf_layers.specs.Address.{address}
use Rattle.wf_ended.proofs.ends.outside_loops.Given as goal

abbrev pub invariant-loop-number : goal.invariant-loop-number
invariant-loop-number l =
    map address_of l.places.items ++ map (λ n. address n []) (drop l.number-index l.numbers) ≡ map (λ n. address n []) l.numbers
