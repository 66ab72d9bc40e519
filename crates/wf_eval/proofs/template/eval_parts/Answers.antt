use Rattle.std.proofs.Common.{List, map}
use Rattle.std.proofs.lemmas.Result.{err_from_is_err_and}
use Rattle.wf_template.specs.TemplateSeen.{piece_tree}
use Rattle.wf_template.specs.declared.template.Piece.{Piece}
use Rattle.wf_eval_expr.specs.Outcomes.{Run}
use Rattle.wf_eval.specs.TemplateValue.{piece_runs}
use Rattle.wf_eval_expr.specs.Told.{Told}
use Rattle.wf_eval.proofs.PieceLoops.{fault_pieces, memory_pieces, measured_ends, parts_fault, parts_answer}
use Rattle.wf_eval.proofs.template.eval_parts.Goals as goal

abbrev runs_of : Told → List Piece → List Run
runs_of l xs = piece_runs l (map piece_tree xs)

pub returns-in_err-value-clause-value : goal.returns-in_err-value-clause-value
returns-in_err-value-clause-value g c =
    let p = err_from_is_err_and c.from_residual.result c.from_residual.ensures.1 in
    rw (p.1, p.2) (parts_fault (runs_of (g.L.Look.told c.args.look.now) c.args.pieces.now) (g.L.Look.drawn c.args.look.now) _ _
    (fault_pieces _ _ _ _ _ _ _ _ _ _ c.loop-piece-test.true c.piece-item.is c.loop-piece.invariant.same c.loop-piece.invariant.so_far
    c.in_err-value.ensures.value))

pub returns-in_err-part-clause-value : goal.returns-in_err-part-clause-value
returns-in_err-part-clause-value g c =
    let p = err_from_is_err_and c.from_residual-in_err-part.result c.from_residual-in_err-part.ensures.1 in
    rw (p.1, p.2) (parts_fault (runs_of (g.L.Look.told c.args.look.now) c.args.pieces.now) (g.L.Look.drawn c.args.look.now) _ _
    (memory_pieces _ _ _ _ _ _ _ _ _ c.loop-piece-test.true c.piece-item.is c.loop-piece.invariant.same c.loop-piece.invariant.so_far
    c.in_ok-value.ensures.value.1))

pub returns-in_err-push-clause-value : goal.returns-in_err-push-clause-value
returns-in_err-push-clause-value g c =
    let p = err_from_is_err_and c.from_residual-in_err-push.result c.from_residual-in_err-push.ensures.1 in
    rw (p.1, p.2) (parts_fault (runs_of (g.L.Look.told c.args.look.now) c.args.pieces.now) (g.L.Look.drawn c.args.look.now) _ _
    (memory_pieces _ _ _ _ _ _ _ _ _ c.loop-piece-test.true c.piece-item.is c.loop-piece.invariant.same c.loop-piece.invariant.so_far
    c.in_ok-value.ensures.value.1))

pub returns-clause-value : goal.returns-clause-value
returns-clause-value g c =
    parts_answer (runs_of (g.L.Look.told c.args.look.now) c.args.pieces.now) (g.L.Look.drawn c.args.look.now) c.loop-piece.text _ _
    (measured_ends _ _ _ _ _ _ c.loop-piece-test.false c.loop-piece.invariant.so_far) c.answer.ensures
