use Rattle.std.proofs.Common.{◌≡◌, bytes_eq, drop, map, option_map}
use Rattle.std.specs.List.{find}
use Rattle.wf_sight.specs.Seen.{item_tree}
use Rattle.wf_sight.proofs.items.item_of.Given as goal

abbrev pub invariant-loop-held : goal.invariant-loop-held
invariant-loop-held l =
    option_map (λ h. h.1) (find (λ h. bytes_eq l.name h.0) (map item_tree (drop l.held-index l.items)))
    ≡ option_map (λ h. h.1) (find (λ h. bytes_eq l.name h.0) (map item_tree l.items))
