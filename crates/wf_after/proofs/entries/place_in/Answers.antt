use Rattle.std.proofs.Common.{rules}
use Rattle.std.proofs.lemmas.Fn.{always_returns_same}
use Rattle.wf_val.specs.Get.{name_of}
use Rattle.wf_val.specs.NameOrder.{bytes_cmp}
use Rattle.wf_val.specs.Seen.{member}
use Rattle.wf_val.proofs.NameOrderLemmas.{searched}
use Rattle.wf_after.proofs.PlaceLemmas.{place-at_place, place-in_gap}
use Rattle.wf_after.proofs.entries.place_in.Goals as goal

-- the closure compares a member's name
pub returns-in-Ok : goal.returns-in-Ok
returns-in-Ok c =
    let position = c.binary_search_by.ensures.position (λ m. bytes_cmp m.0 c.args.name.now) (always_returns_same _ _ _
    (λ a r f' called. search rules)) in
    let at = searched name_of member c.args.name.now c.args.graph.now c.binary_search_by.result c.requires
    c.binary_search_by.ensures.bound position in
    let place = rw c.in-Ok.is at at.place in
    rw (place-at_place _ _ c.in-Ok.place place)

pub returns-in-Err : goal.returns-in-Err
returns-in-Err c =
    let position = c.binary_search_by.ensures.position (λ m. bytes_cmp m.0 c.args.name.now) (always_returns_same _ _ _
    (λ a r f' called. search rules)) in
    let at = searched name_of member c.args.name.now c.args.graph.now c.binary_search_by.result c.requires
    c.binary_search_by.ensures.bound position in
    let gap = rw c.in-Err.is at at.gap in
    rw (place-in_gap _ _ c.in-Err.field-0 gap)
