use Rattle.std.proofs.Common.{◌+◌, ◌-◌, ◌++◌, ℕ, Bool, List, [], ◌∷◌, ap, sym, ◌∙◌, append_assoc, arith}
use Rattle.wf_layers.specs.Resubmission.{kept}
use Rattle.wf_order.specs.OrderSeen.{order_tree}
use Rattle.wf_paths.specs.Table.{from as at_places}
use Rattle.wf_redo.specs.Sets.{again_any, redo_any}
use Rattle.wf_regained.proofs.FirstLemmas.{next_place}
use Rattle.wf_regained.proofs.kept.kept_numbers.Goals as goal

pub loop-y-preserved : goal.loop-y-preserved
loop-y-preserved c =
    let f : ℕ → Bool = kept (redo_any (order_tree c.args.order.now) c.args.from.now)
    (again_any (order_tree c.args.order.now) c.args.from.now) in
    let i : ℕ = c.loop-y.y in
    let all : List Bool = c.loop-y.all.items in
    let rest : List Bool = at_places (i + 1) (c.args.count - (i + 1)) f in
    ap (λ (bs : List Bool). bs ++ rest) c.in_ok-push.ensures.items
    ∙ append_assoc all (c.keeps.result ∷ []) rest
    ∙ ap (λ (b : Bool). all ++ b ∷ rest) c.keeps.ensures
    ∙ ap (λ (bs : List Bool). all ++ bs) (sym (next_place i c.args.count f (omega arith)))
    ∙ c.loop-y.invariant
