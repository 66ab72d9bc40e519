use Rattle.std.proofs.Common.{rules, ◌≡◌, ℕ, Bool, List, Option, Vec, Global, length, map, ap, ◌∙◌}
use Rattle.std.proofs.lemmas.List.{length-map}
use Rattle.wf_def.specs.ActionSeen.{graph_tree}
use Rattle.wf_def.specs.Layered.{layered}
use Rattle.wf_def.specs.Names.{graph_names}
use Rattle.wf_paths.specs.Table.{paths_of}
use Rattle.wf_order.specs.OrderSeen.{places_seen}
use Rattle.wf_order.specs.Table.{after_at}
use Rattle.wf_order.specs.declared.place.Place.{Place}
use Rattle.wf_order.proofs.PlaceLemmas.{made}
use Rattle.wf_order.proofs.order.Order.make.Goals as goal

pub returns : goal.returns
returns c =
    let names = graph_names (graph_tree c.args.graph.now) in
    let counted : c.len-count.result ≡ length names = search (rules, length-map, c.in_ok-names.ensures) in
    made (length names) c.len-count.result (layered (graph_tree c.args.graph.now)) (places_seen c.in_ok-free.free.items)
    (places_seen c.in_ok-places.places.items) (map (λ (v : Vec ℕ Global). v.items) c.in_ok-nodes.nodes.items)
    (map (λ (v : Vec Bool Global). v.items) c.in_ok-paths.paths.items) counted c.in_ok-free.ensures c.in_ok-places.ensures
    (c.in_ok-nodes.ensures ∙ ap (λ (ps : List (Option Place)). map after_at (places_seen ps)) c.deref.ensures.value)
    (c.in_ok-paths.ensures ∙ ap (λ (ns : List (Vec ℕ Global)). paths_of (map (λ v. v.items) ns)) c.deref-2.ensures.value)
