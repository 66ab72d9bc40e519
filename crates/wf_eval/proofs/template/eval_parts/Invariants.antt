use Rattle.std.proofs.Common.{◌≡◌, map, drop, []}
use Rattle.wf_template.specs.TemplateSeen.{piece_tree}
use Rattle.wf_eval_expr.specs.MeasuredRuns.{measured}
use Rattle.wf_eval.specs.TemplateValue.{piece_runs}
use Rattle.wf_eval.proofs.template.eval_parts.Given as goal

-- what the pieces that are left make behind the text so far is the whole
abbrev pub invariant-loop-piece : goal.invariant-loop-piece
invariant-loop-piece g l = record {
  so_far :
      measured (piece_runs (g.L.Look.told l.fn.look) (map piece_tree (drop l.piece-index l.pieces))) l.text (g.L.Look.drawn l.look)
      ≡ measured (piece_runs (g.L.Look.told l.fn.look) (map piece_tree l.pieces)) ([], 0) (g.L.Look.drawn l.fn.look);
  same : g.L.Look.told l.look ≡ g.L.Look.told l.fn.look;
  held : g.L.Look.held l.look ≡ g.L.Look.held l.fn.look;
}
