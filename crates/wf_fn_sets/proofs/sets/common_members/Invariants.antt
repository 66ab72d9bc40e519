use Rattle.std.proofs.Common.{◌≡◌, map, take}
use Rattle.std.specs.List.{filter}
use Rattle.wf_val.specs.Seen.{member}
use Rattle.wf_fn_sets.specs.Sets.{all_have}
use Rattle.wf_fn_sets.proofs.sets.common_members.Given as goal

-- the members so far whose names all have
abbrev pub invariant-loop-name : goal.invariant-loop-name
invariant-loop-name l = l.common ≡ filter (λ m. all_have (map (λ o. o.now) l.objects) m.0) (take l.name-index (map member l.name-items))
