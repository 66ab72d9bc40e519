use Rattle.std.proofs.Common.{◌≡◌, ◌++◌, ◌∷◌, [], None, ap, ◌∙◌}
use Rattle.wf_room.proofs.ChunkLemmas.{full-even, added}
use Rattle.wf_room.proofs.cells.add_chunk.Goals as goal

pub returns-in_err-add-clause-even : goal.returns-in_err-add-clause-even
returns-in_err-add-clause-even g c = full-even c.args.chunks.now.items c.requires

pub returns-in_err-push-clause-even : goal.returns-in_err-push-clause-even
returns-in_err-push-clause-even g c = rw c.in_err-push.ensures.items (full-even c.args.chunks.now.items c.requires)

pub returns-clause-ok : goal.returns-clause-ok
returns-clause-ok g c =
    let one : c.add.new.self.0 ≡ None ∷ [] = c.in_ok-add.ensures.ok ∙ ap (λ xs. xs ++ None ∷ []) c.new-chunk.ensures in
    rw c.in_ok-push.ensures.items (added c.args.chunks.now.items c.add.new.self None c.requires one).cells

pub returns-clause-even : goal.returns-clause-even
returns-clause-even g c =
    let one : c.add.new.self.0 ≡ None ∷ [] = c.in_ok-add.ensures.ok ∙ ap (λ xs. xs ++ None ∷ []) c.new-chunk.ensures in
    rw c.in_ok-push.ensures.items (added c.args.chunks.now.items c.add.new.self None c.requires one).even
