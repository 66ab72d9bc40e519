use Rattle.std.proofs.Common.{◌≡◌, ◌∙◌, false, true, rules}
use Rattle.std.specs.BTreeMap.{get}
use Rattle.std.specs.Option.{is_some}
use Rattle.wf_match.proofs.RowLemmas.{added, kept}
use Rattle.wf_match.proofs.rows.add_place.Goals as goal
use Rattle.wf_val.specs.NameOrder.{bytes_cmp}

pub returns-in_ok-_none : goal.returns-in_ok-_none
returns-in_ok-_none c =
    let none : is_some (get bytes_cmp c.args.places.now c.args.address) ≡ false = search rules in
    λ q. c.in_ok-_none.ensures.updates.0 q ∙ added (λ k. get bytes_cmp c.args.places.now k) c.args.address q c.args.place none

pub returns-else-not-contains_key : goal.returns-else-not-contains_key
returns-else-not-contains_key c =
    let some : is_some (get bytes_cmp c.args.places.now c.args.address) ≡ true = search rules in
    λ q. kept (λ k. get bytes_cmp c.args.places.now k) c.args.address q c.args.place some
