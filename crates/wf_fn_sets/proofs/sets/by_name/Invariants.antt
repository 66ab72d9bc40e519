use Rattle.std.proofs.Common.{◌≡◌, [], map, drop}
use Rattle.std.specs.List.{flat_map}
use Rattle.wf_val.specs.Seen.{tree}
use Rattle.wf_fn_sets.specs.Sets.{put_all}
use Rattle.wf_fn_sets.proofs.sets.by_name.Given as goal

-- those so far, with the members of the rest of the objects put to them, are all
abbrev pub invariant-loop-object : goal.invariant-loop-object
invariant-loop-object l =
    put_all (map (λ e. (e.0.now, tree e.1.now)) l.by_name.entries) (flat_map (λ o. o.now) (drop l.object-index l.objects))
    ≡ put_all [] (flat_map (λ o. o.now) l.objects)
