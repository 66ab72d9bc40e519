use Rattle.std.proofs.Common.{◌≡◌, ◌++◌, drop, map}
use Rattle.wf_catalog.specs.PlacesSeen.{number_in}
use Rattle.wf_catalog.specs.Variables.{numbers_by}
use Rattle.wf_catalog.proofs.variables.numbers_of.Given as goal

abbrev pub invariant-loop-name : goal.invariant-loop-name
invariant-loop-name l =
    l.numbers.items ++ numbers_by (number_in l.variables) (map (λ n. n.now) (drop l.name-index l.name-items))
    ≡ numbers_by (number_in l.variables) (map (λ n. n.now) l.name-items)
