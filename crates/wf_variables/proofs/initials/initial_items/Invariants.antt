use Rattle.std.proofs.Common.{◌≡◌, [], drop, map}
use Rattle.wf_def.specs.ActionSeen.{initial_tree}
use Rattle.wf_variables.specs.Initials.{initials_after}
use Rattle.wf_variables.specs.ItemsSeen.{items_tree}
use Rattle.wf_variables.proofs.initials.initial_items.Given as goal

-- what the variables that are left come to, behind those so far, is the whole
abbrev pub invariant-loop-initial : goal.invariant-loop-initial
invariant-loop-initial g l = record {
  so_far :
      initials_after (g.L.Look.told l.fn.look) (map initial_tree (drop l.initial-index l.initials)) (items_tree l.items)
      (g.L.Look.drawn l.look)
      ≡ initials_after (g.L.Look.told l.fn.look) (map initial_tree l.initials) (record { kept = []; given = [] })
      (g.L.Look.drawn l.fn.look);
  same : g.L.Look.told l.look ≡ g.L.Look.told l.fn.look;
  held : g.L.Look.held l.look ≡ g.L.Look.held l.fn.look;
}
