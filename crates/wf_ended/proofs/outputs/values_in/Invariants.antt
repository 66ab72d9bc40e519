use Rattle.std.proofs.Common.{◌≡◌, [], drop, map}
use Rattle.wf_def.specs.DefSeen.{output_tree}
use Rattle.wf_eval.specs.TreeValue.{members_after}
use Rattle.wf_catalog.specs.Ending.{output_runs}
use Rattle.wf_ended.proofs.outputs.values_in.Given as goal

-- what the outputs that are left come to, beside the values so far, is the whole
abbrev pub invariant-loop-output : goal.invariant-loop-output
invariant-loop-output g l = record {
  so_far :
      (members_after (output_runs (g.L.Look.told l.fn.look) (map output_tree (drop l.output-index l.outputs))) l.values
      (g.L.Look.drawn l.look)).0
      ≡ (members_after (output_runs (g.L.Look.told l.fn.look) (map output_tree l.outputs)) [] (g.L.Look.drawn l.fn.look)).0;
  same : g.L.Look.told l.look ≡ g.L.Look.told l.fn.look;
}
