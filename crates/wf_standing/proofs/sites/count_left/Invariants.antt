use Rattle.std.proofs.Common.{◌≡◌, ◌+◌, ◌≤◌, drop, map, count_by, option_map}
use Rattle.wf_def.specs.ActionSeen.{action_tree}
use Rattle.wf_standing.specs.Inside.{is_left}
use Rattle.wf_standing.specs.Seen.{standing_tree}
use Rattle.wf_standing.proofs.sites.count_left.Given as goal

abbrev pub invariant-loop-action : goal.invariant-loop-action
invariant-loop-action l = record {
  so_far : l.count + count_by
      (is_left l.site (option_map (λ s. standing_tree s.now) l.at)) (map (λ a. action_tree a.now) (drop l.action-index l.actions))
      ≡ count_by (is_left l.site (option_map (λ s. standing_tree s.now) l.at)) (map (λ a. action_tree a.now) l.actions);
  in_range : l.count ≤ l.action-index;
}
