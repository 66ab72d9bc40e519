use Rattle.std.proofs.Common.{◌+◌, ℕ, Bool, List, Option, drop, map, option_map, string_bytes, ap, sym, ◌∙◌, arith}
use Rattle.wf_json.specs.Pointer.{lesser, least}
use Rattle.wf_val.specs.Seen.{member}
use Rattle.wf_val.specs.ValueTree.{Member}
use Rattle.wf_val.specs.declared.val.Val.{Val}
use Rattle.wf_after.specs.Waits.{offenders}
use Rattle.wf_after.proofs.GraphLemmas.{offender_more, drop_at_place}
use Rattle.wf_after.proofs.graph.offenders.Goals as goal

pub loop-place-preserved : goal.loop-place-preserved
loop-place-preserved c =
    let ms : List (List ℕ × Val) = c.args.graph.now in
    let i = c.loop-place.place in
    let item : List ℕ × Val = c.index-graph-place.result in
    let graph : List Member = map member ms in
    let paths : List (List Bool) = map (λ r. r.items) c.args.paths.now in
    let best : Option (List ℕ) = option_map string_bytes c.loop-place.best in
    let own : Option (List ℕ) = option_map string_bytes c.in_ok-offender.field-0 in
    let here = drop_at_place ms i item (omega arith) c.index-graph-place.is in
    ap (λ (o : Option (List ℕ)). lesser o (least (offenders graph paths (i + 1) (map member (drop (i + 1) ms))))) c.lesser-best.ensures
    ∙ offender_more graph paths i (member item) (map member (drop (i + 1) ms)) best own c.in_ok-offender.ensures
    ∙ ap (λ (xs : List (List ℕ × Val)). lesser best (least (offenders graph paths i (map member xs)))) (sym here)
    ∙ c.loop-place.invariant
