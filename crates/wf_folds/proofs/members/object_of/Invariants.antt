use Rattle.std.proofs.Common.{◌≡◌, ◌++◌, map, length}
use Rattle.wf_val.specs.Seen.{tree, member}
use Rattle.wf_fn_sets.proofs.MemberLemmas.{AreBelow}
use Rattle.wf_folds.proofs.members.object_of.Given as goal

-- the members made, with the entries left, are all, and stand below them
abbrev pub invariant-loop-name : goal.invariant-loop-name
invariant-loop-name l =
    (l.fields ++ map member l.left.entries ≡ map member l.fn.by_name.entries)
    × AreBelow (λ k. k) tree l.fields l.left.entries

abbrev pub decreases-loop-name : goal.decreases-loop-name
decreases-loop-name l = length l.left.entries
