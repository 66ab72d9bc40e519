use Rattle.std.proofs.Common.{◌≡◌, [], ◌∷◌, ◌++◌, List, map, ap, sym, ◌∙◌, subst, append_assoc}
use Rattle.std.proofs.lemmas.List.{map-append}
use Rattle.std.specs.Vec.Iter.{into_iter_items}
use Rattle.wf_lists.specs.KeyOrder.{IsInKeyOrder}
use Rattle.wf_val.specs.Address.{address_cmp}
use Rattle.wf_catalog.specs.ReadSeen.{def_tree}
use Rattle.wf_record.specs.Record.{RowTree, address_of}
use Rattle.wf_record.specs.Seen.{row_tree}
use Rattle.wf_ended.specs.Found.{as_row}
use Rattle.wf_ended.proofs.RowLemmas.{above_others}
use Rattle.wf_ended.proofs.rows.rows_of.Goals as goal

-- the next row is above those so far, since all are in order
pub add_row-requires : goal.add_row-requires
add_row-requires c =
    let d = def_tree c.args.places.now in
    let whole : map row_tree c.loop-row.there ++ map (as_row d) (c.in-Some.row ∷ into_iter_items c.next.new.self)
    ≡ map (as_row d) c.args.found.items =
    subst (λ items. map row_tree c.loop-row.there ++ map (as_row d) items ≡ map (as_row d) c.args.found.items) c.in-Some.ensures.steps.0
    c.loop-row.invariant.whole in
    above_others c.loop-row.there (as_row d c.in-Some.row) (map (as_row d) (into_iter_items c.next.new.self))
    (subst (IsInKeyOrder address_cmp address_of) (sym whole) c.requires)

pub loop-row-preserved : goal.loop-row-preserved
loop-row-preserved c =
    let d = def_tree c.args.places.now in
    let added : map row_tree c.add_row.new.there ≡ map row_tree c.loop-row.there ++ as_row d c.in-Some.row ∷ [] =
    c.in_ok-add_row.ensures in
    let whole : map row_tree c.loop-row.there ++ map (as_row d) (c.in-Some.row ∷ into_iter_items c.next.new.self)
    ≡ map (as_row d) c.args.found.items =
    subst (λ items. map row_tree c.loop-row.there ++ map (as_row d) items ≡ map (as_row d) c.args.found.items) c.in-Some.ensures.steps.0
    c.loop-row.invariant.whole in
    record {
      so_far = added
          ∙ (ap (λ (xs : List RowTree). xs ++ as_row d c.in-Some.row ∷ []) c.loop-row.invariant.so_far
          ∙ sym (map-append (as_row d) c.loop-row.yielded (c.in-Some.row ∷ [])));
      whole = ap (λ (xs : List RowTree). xs ++ map (as_row d) (into_iter_items c.next.new.self)) added
          ∙ (append_assoc (map row_tree c.loop-row.there) (as_row d c.in-Some.row ∷ []) (map (as_row d) (into_iter_items c.next.new.self))
          ∙ whole);
    }
