use Rattle.std.proofs.Common.{◌≡◌, ◌++◌, map, length}
use Rattle.wf_val.specs.Seen.{tree}
use Rattle.wf_fn_sets.proofs.MemberLemmas.{AreBelow}
use Rattle.wf_fn_sets.proofs.sets.object_of_entries.Given as goal

-- the members made, with the entries left, are all, and stand below them
abbrev pub invariant-loop-name : goal.invariant-loop-name
invariant-loop-name l =
    (l.fields ++ map (λ e. (e.0.now, tree e.1.now)) l.left.entries ≡ map (λ e. (e.0.now, tree e.1.now)) l.fn.entries.entries)
    × AreBelow (λ k. k.now) (λ v. tree v.now) l.fields l.left.entries

abbrev pub decreases-loop-name : goal.decreases-loop-name
decreases-loop-name l = length l.left.entries
