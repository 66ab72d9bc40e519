use Rattle.std.proofs.Common.{◌≡◌, ◌-◌, suc, length, ◌∷◌, [], None, sym, ◌∙◌, append-nil, arith}
use Rattle.wf_room.proofs.ChunkLemmas.{short-some, last-more, if_failed}
use Rattle.wf_room.proofs.cells.add_to_last.Goals as goal

pub returns-in_err-add-clause-err : goal.returns-in_err-add-clause-err
returns-in_err-add-clause-err g c =
    let some = short-some c.args.chunks.now.items c.requires in
    let last : suc (c.len-last.result - 1) ≡ length c.args.chunks.now.items =
    omega (arith, some, c.len-last.ensures, c.args.chunks.now.ok.0) in
    if_failed c.from_residual.result
    ((last-more c.args.chunks.now.items (c.len-last.result - 1) c.index_mut.result.now c.add.new.self [] last c.requires
    c.index_mut.ensures.value (c.in_err-add.ensures.err ∙ sym (append-nil c.index_mut.result.now.0)) (omega arith)).cells
    ∙ append-nil _)

pub returns-in_err-add-clause-even : goal.returns-in_err-add-clause-even
returns-in_err-add-clause-even g c =
    let some = short-some c.args.chunks.now.items c.requires in
    let last : suc (c.len-last.result - 1) ≡ length c.args.chunks.now.items =
    omega (arith, some, c.len-last.ensures, c.args.chunks.now.ok.0) in
    (last-more c.args.chunks.now.items (c.len-last.result - 1) c.index_mut.result.now c.add.new.self [] last c.requires
    c.index_mut.ensures.value (c.in_err-add.ensures.err ∙ sym (append-nil c.index_mut.result.now.0)) (omega arith)).even

pub returns-clause-ok : goal.returns-clause-ok
returns-clause-ok g c =
    let some = short-some c.args.chunks.now.items c.requires in
    let last : suc (c.len-last.result - 1) ≡ length c.args.chunks.now.items =
    omega (arith, some, c.len-last.ensures, c.args.chunks.now.ok.0) in
    (last-more c.args.chunks.now.items (c.len-last.result - 1) c.index_mut.result.now c.add.new.self (None ∷ []) last c.requires
    c.index_mut.ensures.value c.in_ok-add.ensures.ok (omega arith)).cells

pub returns-clause-even : goal.returns-clause-even
returns-clause-even g c =
    let some = short-some c.args.chunks.now.items c.requires in
    let last : suc (c.len-last.result - 1) ≡ length c.args.chunks.now.items =
    omega (arith, some, c.len-last.ensures, c.args.chunks.now.ok.0) in
    (last-more c.args.chunks.now.items (c.len-last.result - 1) c.index_mut.result.now c.add.new.self (None ∷ []) last c.requires
    c.index_mut.ensures.value c.in_ok-add.ensures.ok (omega arith)).even
