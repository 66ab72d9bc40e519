use Rattle.std.proofs.Common.{ℕ, List, ap, ◌∙◌}
use Rattle.wf_layers.specs.Address.{address}
use Rattle.wf_def.specs.declared.graph.Action.{out-Action}
use Rattle.wf_catalog.specs.ReadSeen.{def_tree}
use Rattle.wf_record.specs.Seen.{record_tree, row_tree}
use Rattle.wf_shape.specs.Standing.{Standing}
use Rattle.wf_fits.specs.Fits.{fits_in, stands_in}
use Rattle.wf_catalog.proofs.PlaceLemmas.{number_is}
use Rattle.wf_shaped.specs.Told.{judged_as}
use Rattle.wf_shaped.proofs.judged.judge.Goals as goal

pub returns : goal.returns
returns c =
    let d = def_tree c.args.ways.now in
    let rows = (record_tree c.args.log.now).rows in
    let row = (row_tree c.args.row.now).row in
    let n : ℕ = (out-Action c.args.action.now).number in
    let at' : List ℕ = c.args.row.now.address.at in
    c.judged_as.ensures
    ∙ (ap (λ (s : Standing). judged_as (fits_in d n) s row)
    (c.in_ok-standing.ensures ∙ ap (λ (i : List ℕ). stands_in d rows (address n i)) c.as_slice.ensures)
    ∙ ap (λ (m : ℕ). judged_as (fits_in d m) (stands_in d rows (address m at')) row) (number_is c.args.action.now))
