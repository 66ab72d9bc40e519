use Rattle.std.proofs.Common.{◌≡◌, map, take}
use Rattle.wf_def.specs.DefSeen.{output_tree}
use Rattle.wf_refs.specs.UsesSeen.{uses_seen}
use Rattle.wf_refs.specs.Sites.{uses_at_output}
use Rattle.wf_use_table.proofs.table.of_outputs.Given as goal

-- the uses so far
abbrev pub invariant-loop-output : goal.invariant-loop-output
invariant-loop-output l = map uses_seen l.all.items ≡ map uses_at_output (map output_tree (take l.output-index l.outputs))
