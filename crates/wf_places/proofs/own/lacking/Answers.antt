use Rattle.std.proofs.Common.{◌+◌, ℕ, List, Option, drop, map, option_map, string_bytes, ap, sym, ◌∙◌, arith}
use Rattle.wf_places.specs.Form.{lacking}
use Rattle.wf_json.specs.Pointer.{lesser, least}
use Rattle.wf_places.proofs.WalkLemmas.{lacking_step, drop_place}
use Rattle.wf_val.specs.Seen.{tree}
use Rattle.wf_places.proofs.own.lacking.Goals as goal

pub loop-name-preserved : goal.loop-name-preserved
loop-name-preserved c =
    let names = c.args.names.now in
    let i = c.loop-name.name-index in
    let t = tree c.args.value.now in
    let best : Option (List ℕ) = option_map string_bytes c.loop-name.best in
    let rest : List (List ℕ) = map (λ k. k.now) (drop (i + 1) names) in
    ap (λ o. lesser o (least (lacking rest t))) c.in_ok-best.ensures
    ∙ sym (lacking_step best _ rest t)
    ∙ ap (λ xs. lesser best (least (lacking (map (λ k. k.now) xs) t))) (sym (drop_place names i _ (omega arith)))
    ∙ c.loop-name.invariant
