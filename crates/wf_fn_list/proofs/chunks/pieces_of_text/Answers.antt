use Rattle.std.proofs.Common.{arith, rules, ◌∙◌, ◌≡◌, ◌<◌, ◌++◌, ◌∷◌, [], sym, ap, map, length}
use Rattle.std.proofs.lemmas.Bool.Decides.{nat_tests}
use Rattle.std.proofs.lemmas.List.{length-drop}
use Rattle.std.specs.Str.{chars}
use Rattle.wf_val.specs.ValueTree.{text}
use Rattle.wf_fn_list.specs.Chunks.{chunks}
use Rattle.wf_fn_list.specs.Parts.{spelled}
use Rattle.wf_fn_list.proofs.ChunkLemmas.{piece-cut, all-cut, some-characters, no-characters}
use Rattle.wf_fn_list.proofs.chunks.pieces_of_text.Goals as goal

pub loop-rest-smaller : goal.loop-rest-smaller
loop-rest-smaller c =
    let left : 0 < length c.loop-rest.rest.now = grind (arith, nat_tests) in
    let full = some-characters c.loop-rest.rest.now c.loop-rest.invariant.0 left in
    let shorter : length (chars c.split_at_char.result.1.now) < length (chars c.loop-rest.rest.now) =
    rw (c.split_at_char.ensures.back_characters) (omega (arith, full, c.requires, length-drop c.args.size (chars c.loop-rest.rest.now))) in
    shorter

pub loop-rest-preserved : goal.loop-rest-preserved
loop-rest-preserved c =
    let left : 0 < length c.loop-rest.rest.now = grind (arith, nat_tests) in
    let full = some-characters c.loop-rest.rest.now c.loop-rest.invariant.0 left in
    let pushed = c.in_ok-push.ensures.ok
    ∙ ap (λ s. c.loop-rest.pieces ++ text s ∷ []) (c.in_ok-of.ensures ∙ c.split_at_char.ensures.front) in (
      search rules,
      ap (λ l. c.push.new.self ++ map spelled (chunks c.args.size l)) c.split_at_char.ensures.back_characters
          ∙ piece-cut spelled c.args.size (chars c.loop-rest.rest.now) c.loop-rest.pieces c.push.new.self c.requires full pushed
          ∙ c.loop-rest.invariant.1,
    )

pub returns : goal.returns
returns c =
    let none : length c.loop-rest.rest.now ≡ 0 = grind (arith, nat_tests) in
    sym (all-cut spelled c.args.size (chars c.loop-rest.rest.now) c.loop-rest.pieces
    (no-characters c.loop-rest.rest.now c.loop-rest.invariant.0 none)) ∙ c.loop-rest.invariant.1
