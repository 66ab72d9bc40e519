use Rattle.std.proofs.Common.{Bool, cond, ap, ◌∙◌}
use Rattle.wf_asks.specs.Instances.{address_of}
use Rattle.wf_asks.specs.Known.{store_in}
use Rattle.wf_turns.specs.ReadSeen.{def_tree}
use Rattle.wf_turns.specs.Def.{Def}
use Rattle.wf_sight_laws.specs.Writes.{writes}
use Rattle.wf_sight_laws.specs.Seen.{row_content}
use Rattle.wf_regained.specs.Last.{last_of}
use Rattle.wf_regained.proofs.last.add_row.Goals as goal

pub returns : goal.returns
returns c v =
    let d = def_tree c.args.checked.now.def in
    let y = address_of c.args.found.now.instance in
    let old = store_in c.args.store.now.0 v in
    c.in_ok-overwrite_each.ensures v
    ∙ ap (λ (b : Bool). cond b (last_of d old y) old) (c.written-variables.ensures v)
    ∙ ap (λ (q : Def). cond (writes (def_tree q) v y (row_content c.args.found.now.row)) (last_of d old y) old) c.requires
