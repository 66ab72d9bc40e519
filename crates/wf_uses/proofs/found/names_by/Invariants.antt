use Rattle.std.proofs.Common.{◌≡◌, ◌++◌, map, drop}
use Rattle.wf_uses.specs.Named.{names_by}
use Rattle.wf_uses.specs.Seen.{found_uses}
use Rattle.wf_uses.proofs.found.names_by.Given as goal

-- the names so far, and those that are left
abbrev pub invariant-loop-one : goal.invariant-loop-one
invariant-loop-one l =
    map (λ n. n.now) l.names.items ++ names_by l.named (found_uses (drop l.one-index l.found))
    ≡ names_by l.named (found_uses l.found)
