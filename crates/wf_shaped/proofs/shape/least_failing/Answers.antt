use Rattle.std.proofs.Common.{List, flat_map, map, ap, ◌∙◌}
use Rattle.wf_catalog.specs.ReadSeen.{def_tree}
use Rattle.wf_catalog.specs.ReadingDef.{Def}
use Rattle.wf_record.specs.Seen.{record_tree, row_tree}
use Rattle.wf_record.specs.declared.row.Row.{Row}
use Rattle.wf_shaped.specs.Failing.{told_in}
use Rattle.wf_shaped.specs.Least.{least_from}
use Rattle.wf_shaped.proofs.KnownLemmas.{are_known, least_is, order_seen}
use Rattle.wf_shaped.proofs.shape.least_failing.Goals as goal

pub returns : goal.returns
returns c =
    let d = def_tree c.args.def.now in
    let rows = (record_tree c.args.log.now).rows in
    let top = c.in_ok-top.top.address in
    let read = c.always_read.ensures in
    least_is d rows top c.in_ok-least.least.address
    (are_known d (c.numbers_stand_once.ensures d read) (c.names_stand_once.ensures d read)
    (c.read_actions_have_their_numbers.ensures d read) c.numbers_have_the_kinds_of_their_actions.ensures)
    (order_seen c.args.log.now.rows c.as_slice.ensures.in_order) c.in_ok-top.ensures
    (c.in_ok-least.ensures
    ∙ (ap (λ (w : Def). least_from top (flat_map (told_in (def_tree w) rows) (map row_tree c.as_slice.result.now))) c.in_ok-ways.ensures
    ∙ ap (λ (rs : List Row). least_from top (flat_map (told_in d rows) (map row_tree rs))) c.as_slice.ensures.items))
