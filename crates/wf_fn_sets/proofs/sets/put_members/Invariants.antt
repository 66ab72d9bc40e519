use Rattle.std.proofs.Common.{◌≡◌, map, drop}
use Rattle.wf_val.specs.Seen.{tree, member}
use Rattle.wf_fn_sets.specs.Sets.{put_all}
use Rattle.wf_fn_sets.proofs.sets.put_members.Given as goal

-- those so far, with the rest of the object put to them, are all
abbrev pub invariant-loop-member : goal.invariant-loop-member
invariant-loop-member l =
    put_all (map (λ e. (e.0.now, tree e.1.now)) l.by_name.entries) (map member (drop l.member-index l.member-items))
    ≡ put_all (map (λ e. (e.0.now, tree e.1.now)) l.initial.by_name.entries) (map member l.member-items)
