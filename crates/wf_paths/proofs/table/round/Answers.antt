use Rattle.std.proofs.Common.{rules, ◌≡◌, ◌++◌, ◌∷◌, [], List, Bool, Vec, Global, All, map, length, drop_of_length-le, append-nil, ap, sym, ◌∙◌, subst}
use Rattle.std.specs.Vec.Iter.{into_iter_items}
use Rattle.wf_paths.specs.Table.{row_at, through_row}
use Rattle.wf_paths.proofs.TableLemmas.{round_is, row_done, all_rest}
use Rattle.wf_paths.proofs.table.round.Goals as goal

pub loop-row-preserved : goal.loop-row-preserved
loop-row-preserved c =
    let through : List Bool = c.in_ok-through.through.items in
    let go : Vec Bool Global → List Bool = λ r. through_row r.items c.args.k through in
    let fits : Vec Bool Global → Type 0 = λ r. length r.items ≡ length through in
    let rest : List (Vec Bool Global) = into_iter_items c.next.new.self in
    let left : into_iter_items c.loop-row.row-iterator ≡ c.in-Some.row ∷ rest = search rules in
    record {
      done_and_left =
          ap (λ (rs : List (Vec Bool Global)). map (λ r. r.items) rs ++ map go rest) c.in_ok-push.ensures.items
          ∙ row_done (λ (r : Vec Bool Global). r.items) go c.loop-row.new.items rest c.args.rows.items c.through_row.result c.in-Some.row
          (c.through_row.ensures ∙ ap (λ (t : List Bool). through_row c.in-Some.row.items c.args.k t) c.deref-in-loop-row.ensures.value)
          (ap (λ (rs : List (Vec Bool Global)). map (λ r. r.items) c.loop-row.new.items ++ map go rs) (sym left)
          ∙ c.loop-row.invariant.done_and_left);
      as_long = all_rest fits c.in-Some.row rest (subst (λ (rs : List (Vec Bool Global)). All fits rs) left c.loop-row.invariant.as_long);
    }

pub returns : goal.returns
returns c =
    let through : List Bool = c.in_ok-through.through.items in
    let go : Vec Bool Global → List Bool = λ r. through_row r.items c.args.k through in
    let new : List (List Bool) = map (λ (r : Vec Bool Global). r.items) c.loop-row.new.items in
    let left : into_iter_items c.loop-row.row-iterator ≡ [] =
    drop_of_length-le (into_iter_items c.loop-row.row-iterator) {i = 0} (search rules) in
    sym (append-nil new) ∙ ap (λ (rs : List (Vec Bool Global)). new ++ map go rs) (sym left) ∙ c.loop-row.invariant.done_and_left
    ∙ round_is (λ (r : Vec Bool Global). r.items) c.args.rows.items c.args.k through
    (c.in_ok-through.ensures ∙ ap (λ (rs : List (Vec Bool Global)). row_at (map (λ r. r.items) rs) c.args.k) c.deref.ensures.value)
