-- The item of the nearest loop.
use Rattle.std.proofs.Common.{◌≡◌, List, [], ◌∷◌, ◌++◌, map, Some, ap, ◌∙◌}
use Rattle.std.proofs.lemmas.List.{map-append, reverse-append}
use Rattle.std.specs.Prelude.{reverse, slice_get}
use Rattle.wf_val.specs.ValueTree.{ValueTree}
use Rattle.wf_sight.specs.Seen.{item_tree}
use Rattle.wf_sight.specs.declared.items.Held.{Held}

-- the item of the last loop
pub nearest_is : (hs : List Held) (h : Held)
    → slice_get (reverse (map (λ i. i.1) (map item_tree (hs ++ h ∷ [])))) 0 ≡ Some (item_tree h).1
nearest_is hs h =
    let items : List ValueTree = map (λ i. i.1) (map item_tree hs) in
    ap (λ (vs : List ValueTree). slice_get (reverse vs) 0)
    (ap (map (λ i. i.1)) (map-append item_tree hs (h ∷ [])) ∙ map-append (λ i. i.1) (map item_tree hs) (item_tree h ∷ []))
    ∙ ap (λ (vs : List ValueTree). slice_get vs 0) (reverse-append items ((item_tree h).1 ∷ []))
