use Rattle.std.proofs.Common.{List, map, ap, sym, ◌∙◌, subst}
use Rattle.std.specs.Prelude.{sum_by}
use Rattle.wf_lists.specs.KeyOrder.{IsInKeyOrder}
use Rattle.wf_val.specs.Address.{address_cmp}
use Rattle.wf_asks.specs.declared.known.RowAt.{RowAt}
use Rattle.wf_catalog.specs.ReadSeen.{def_tree}
use Rattle.wf_catalog.specs.ReadingDef.{Def}
use Rattle.wf_record.specs.Cost.{row_cost}
use Rattle.wf_record.specs.Record.{RowTree, address_of}
use Rattle.wf_record.specs.declared.row.Row.{Row}
use Rattle.wf_sight_laws.specs.Seen.{rows_seen}
use Rattle.wf_ended.specs.Found.{as_row}
use Rattle.wf_ended.proofs.NameLemmas.{names_ascend}
use Rattle.wf_ended.proofs.RowLemmas.{costs_are, have_actions, rows_are, rows_ascend}
use Rattle.wf_ended.proofs.ends.Ends.rows.Goals as goal

pub rows_of-requires : goal.rows_of-requires
rows_of-requires c =
    let ends = c.args.self.now in
    let d = def_tree ends.checked.now.def in
    let read = c.always_read.ensures in
    let rows : List (RowAt Row) = c.args.rows.now.0 in
    let names = names_ascend d.top (c.numbers_are_places.ensures d read) in
    let order = c.len-count.ensures.in_order in
    subst (λ (xs : List (RowAt Row)). IsInKeyOrder address_cmp address_of (map (as_row (def_tree ends.places.now)) xs))
    (sym c.in_ok-items.ensures.items)
    (subst (λ (q : Def). IsInKeyOrder address_cmp address_of (map (as_row (def_tree q)) rows)) (sym ends.placed)
    (rows_ascend d names rows (have_actions d rows order c.requires.instances (λ m. c.numbers_are_had.ensures d.top m)) order))

pub returns-clause-rows : goal.returns-clause-rows
returns-clause-rows c =
    let ends = c.args.self.now in
    let d = def_tree ends.checked.now.def in
    let rows : List (RowAt Row) = c.args.rows.now.0 in
    c.in_ok-there.ensures
    ∙ ap (λ (xs : List (RowAt Row)). map (as_row (def_tree ends.places.now)) xs) c.in_ok-items.ensures.items
    ∙ ap (λ (q : Def). map (as_row (def_tree q)) rows) ends.placed
    ∙ rows_are d rows c.len-count.ensures.in_order
    (c.listed_rows_stand_for_the_table.ensures d c.always_read.ensures (rows_seen rows) c.requires)

pub returns-clause-cost : goal.returns-clause-cost
returns-clause-cost c =
    let ends = c.args.self.now in
    let d = def_tree ends.checked.now.def in
    let rows : List (RowAt Row) = c.args.rows.now.0 in
    ap (λ (rs : List RowTree). sum_by row_cost rs)
    (c.in_ok-there.ensures
    ∙ ap (λ (xs : List (RowAt Row)). map (as_row (def_tree ends.places.now)) xs) c.in_ok-items.ensures.items
    ∙ ap (λ (q : Def). map (as_row (def_tree q)) rows) ends.placed)
    ∙ costs_are d rows
