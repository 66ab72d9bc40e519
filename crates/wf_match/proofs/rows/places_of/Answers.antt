use Rattle.std.proofs.Common.{◌∙◌, suc, List, ◌+◌, Some, None, cond, is_eq, map, drop, sym, ap, arith, add-one}
use Rattle.std.specs.BTreeMap.{get}
use Rattle.std.specs.Option.{option_or}
use Rattle.wf_match.specs.Rows.{place_from}
use Rattle.wf_match.proofs.RowLemmas.{rest_from, row_more}
use Rattle.wf_match.proofs.rows.places_of.Goals as goal
use Rattle.wf_val.specs.NameOrder.{bytes_cmp}
use Rattle.wf_val.specs.Seen.{tree}
use Rattle.wf_val.specs.declared.val.Val.{Val}

pub loop-place-preserved : goal.loop-place-preserved
loop-place-preserved c =
    let rows : List Val = c.args.rows.now in
    let i = c.loop-place.place in
    let row : Val = c.index-rows-place.result in
    let rest = map tree (drop (i + 1) rows) in
    λ q.
    let old = get bytes_cmp c.loop-place.places q in
    ap (λ o. option_or o (place_from (i + 1) q rest)) (c.in_ok-add_place.ensures q)
    ∙ ap (λ n. option_or (option_or old (cond (is_eq (bytes_cmp c.in_ok-address_of.field-0 q)) (Some i) None))
    (place_from n q rest)) (add-one i)
    ∙ row_more old (is_eq (bytes_cmp c.in_ok-address_of.field-0 q)) i (place_from (suc i) q rest)
    ∙ ap (λ a. option_or old (cond (is_eq (bytes_cmp a q)) (Some i) (place_from (suc i) q rest))) c.in_ok-address_of.ensures
    ∙ sym (rest_from (λ (l : List Val). option_or old (place_from i q (map tree l))) rows i row (omega arith) c.index-rows-place.is)
    ∙ c.loop-place.invariant q
