use Rattle.std.proofs.Common.{◌≡◌, ◌++◌, drop, map}
use Rattle.wf_catalog.proofs.variables.with_names.Given as goal

abbrev pub invariant-loop-name : goal.invariant-loop-name
invariant-loop-name l =
    map (λ n. n.now) l.all.items ++ map (λ n. n.now) (drop l.name-index l.names)
    ≡ map (λ n. n.now) l.fn.found.items ++ map (λ n. n.now) l.names
