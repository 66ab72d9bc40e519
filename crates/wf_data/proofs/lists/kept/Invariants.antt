use Rattle.std.proofs.Common.{◌≡◌, [], drop, map}
use Rattle.wf_val.specs.Seen.{tree}
use Rattle.wf_template.specs.TemplateSeen.{template_tree}
use Rattle.wf_data.specs.Lists.{keeps, kept_after}
use Rattle.wf_data.proofs.lists.kept.Given as goal

-- what is kept of the items that are left, behind those so far, is the whole
abbrev pub invariant-loop-item : goal.invariant-loop-item
invariant-loop-item g l = record {
  so_far :
      kept_after (keeps (g.L.Look.told l.fn.look) (template_tree l.filter)) (map tree (drop l.item-index l.items)) l.values
      (g.L.Look.drawn l.look)
      ≡ kept_after (keeps (g.L.Look.told l.fn.look) (template_tree l.filter)) (map tree l.items) [] (g.L.Look.drawn l.fn.look);
  same : g.L.Look.told l.look ≡ g.L.Look.told l.fn.look;
  held : g.L.Look.held l.look ≡ g.L.Look.held l.fn.look;
}
