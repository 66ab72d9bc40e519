use Rattle.std.proofs.Common.{◌≡◌, map, take}
use Rattle.wf_val.specs.Seen.{tree}
use Rattle.wf_look.specs.Looked.{part_in}
use Rattle.wf_look.proofs.named.over_views.Given as goal

-- the parts so far
abbrev pub invariant-loop-view : goal.invariant-loop-view
invariant-loop-view l = l.parts ≡ map (part_in l.function) (map tree (take l.view-index l.views))
