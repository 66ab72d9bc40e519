use Rattle.std.proofs.Common.{◌≡◌, map, length}
use Rattle.wf_uses.specs.UsesTree.{ordered}
use Rattle.wf_uses.proofs.NameLemmas.{put_onto}
use Rattle.wf_uses.proofs.names.set_of.Given as goal

-- the names that are left, with those that are in the set, are all
abbrev pub invariant-loop-name : goal.invariant-loop-name
invariant-loop-name l =
    put_onto (map (λ n. n.now) l.left.items) (map (λ n. n.now) l.set.keys) ≡ ordered (map (λ n. n.now) l.fn.names.items)

abbrev pub decreases-loop-name : goal.decreases-loop-name
decreases-loop-name l = length l.left.items
