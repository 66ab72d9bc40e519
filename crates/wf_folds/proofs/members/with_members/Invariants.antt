use Rattle.std.proofs.Common.{◌≡◌, map, drop}
use Rattle.wf_val.specs.Seen.{member}
use Rattle.wf_fn_sets.specs.Sets.{put_all}
use Rattle.wf_folds.proofs.members.with_members.Given as goal

-- those so far, with the rest of the object put to them, are all
abbrev pub invariant-loop-one : goal.invariant-loop-one
invariant-loop-one l =
    put_all (map member l.by_name.entries) (map member (drop l.one-index l.one-items))
    ≡ put_all (map member l.fn.by_name.entries) (map member l.one-items)
