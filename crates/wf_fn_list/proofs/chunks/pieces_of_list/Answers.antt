use Rattle.std.proofs.Common.{arith, ◌∙◌, ◌<◌, ◌++◌, ◌∷◌, [], ap, map, length}
use Rattle.std.proofs.lemmas.Bool.Decides.{nat_tests}
use Rattle.std.proofs.lemmas.List.{length-map}
use Rattle.wf_val.specs.Seen.{tree}
use Rattle.wf_fn_list.specs.Chunks.{chunks}
use Rattle.wf_fn_list.specs.Parts.{listed}
use Rattle.wf_fn_list.proofs.ChunkLemmas.{piece-cut}
use Rattle.wf_fn_list.proofs.chunks.pieces_of_list.Goals as goal

pub loop-rest-preserved : goal.loop-rest-preserved
loop-rest-preserved c =
    let left : 0 < length c.loop-rest.rest.now = grind (arith, nat_tests) in
    let full : 0 < length (map tree c.loop-rest.rest.now) = omega (arith, length-map c.loop-rest.rest.now tree) in
    let pushed = c.in_ok-push.ensures.ok
    ∙ ap (λ l. c.loop-rest.pieces ++ listed l ∷ []) (c.in_ok-copied.ensures ∙ c.split_items.ensures.front) in
    ap (λ l. c.push.new.self ++ map listed (chunks c.args.size l)) c.split_items.ensures.back
    ∙ piece-cut listed c.args.size (map tree c.loop-rest.rest.now) c.loop-rest.pieces c.push.new.self c.requires full pushed
    ∙ c.loop-rest.invariant
