use Rattle.std.proofs.Common.{option_map, ap, sym, ◌∙◌}
use Rattle.wf_standing.specs.Seen.{standing_tree}
use Rattle.wf_standing.proofs.NameLemmas.{none-kept, one-kept}
use Rattle.wf_standing.proofs.names.add.Goals as goal

pub returns-in-Some : goal.returns-in-Some
returns-in-Some c k =
    none-kept c.args.names.now c.args.name.now _ _
    (sym c.action_found.ensures ∙ ap (option_map (λ s. standing_tree s.now)) c.in-Some.is) k

pub returns-in_ok-put-in-None : goal.returns-in_ok-put-in-None
returns-in_ok-put-in-None c k =
    one-kept c.args.names.now c.put.new.self _ c.in_ok-put-in-None.ensures.ok
    (sym c.action_found.ensures ∙ ap (option_map (λ s. standing_tree s.now)) c.in-None.is) k
