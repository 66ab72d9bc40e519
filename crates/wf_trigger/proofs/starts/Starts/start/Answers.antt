use Rattle.std.proofs.Common.{Some, option_map, sym, ap, ◌∙◌}
use Rattle.wf_val.specs.Seen.{tree}
use Rattle.wf_trigger.specs.StartsSeen.{shared_of}
use Rattle.wf_trigger.proofs.StartLemmas.{item_at, item_there}
use Rattle.wf_trigger.proofs.starts.Starts.start.Goals as goal

pub unreachable-requires : goal.unreachable-requires
unreachable-requires c =
    let s = c.args.self.now in
    item_there (shared_of s) c.args.k c.in-Some.items s.holds (rw c.in-Some.is at c.requires)
    (ap (option_map (λ v. tree v.now)) (sym c.in-None-at.is) ∙ c.at.ensures)

-- the run of an item
pub returns-in_ok-start-in-Some-at : goal.returns-in_ok-start-in-Some-at
returns-in_ok-start-in-Some-at c =
    let s = c.args.self.now in
    rw c.in-Some.is (
    item_at (shared_of s) c.args.k c.in-Some.items s.holds (tree c.in-Some-at.item.now) (rw c.in-Some.is at c.requires)
    (sym c.at.ensures ∙ ap (option_map (λ v. tree v.now)) c.in-Some-at.is)
    ∙ ap Some (sym c.in_ok-start-in-Some-at.ensures)
    )
