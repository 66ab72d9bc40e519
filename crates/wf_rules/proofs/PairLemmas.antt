-- The first pointer of the least pair is the least of the first pointers.
use Rattle.std.proofs.Common.{◌≡◌, ℕ, List, [], ◌∷◌, map, Option, Some, None, option_map, Ordering, Less, Equal, Greater, refl, sym, ap}
use Rattle.std.proofs.Common.{◌∙◌}
use Rattle.std.specs.Ordering.{match_ordering, ordering_then}
use Rattle.std.proofs.lemmas.Map.Lookups.{exact_bytes}
use Rattle.wf_json.specs.Pointer.{lesser, least}
use Rattle.wf_json.proofs.PointerLemmas.{lesser-assoc, lesser-none}
use Rattle.wf_val.specs.NameOrder.{bytes_cmp}
use Rattle.wf_varorder.specs.Standing.{pointer_at}
use Rattle.wf_rules.specs.Broken.{first_pointer}
use Rattle.wf_varorder.specs.Least as least_pairs
use Rattle.wf_varorder.specs.Least.{least_from}
use Rattle.wf_varorder.specs.Pairs.{Pair}

-- where the first pointers are the same it is nothing to them which pair is less
by_first : (b p : Pair) (one other : Ordering) → bytes_cmp (first_pointer b) (first_pointer p) ≡ one
    → first_pointer (match_ordering (ordering_then one other) b b p)
    ≡ match_ordering one (first_pointer b) (first_pointer b) (first_pointer p)
by_first b p Less other is = refl
by_first b p Greater other is = refl
by_first b p Equal Less is = refl
by_first b p Equal Equal is = refl
by_first b p Equal Greater is = sym (exact_bytes (first_pointer b) (first_pointer p) is)

one-more : (best : Option Pair) (p : Pair)
    → Some (first_pointer (least_pairs.lesser best p)) ≡ lesser (option_map first_pointer best) (Some (first_pointer p))
one-more None p = refl
one-more (Some b) p =
    ap Some (by_first b p (bytes_cmp (first_pointer b) (first_pointer p)) (bytes_cmp (pointer_at b.1) (pointer_at p.1)) refl)

pub first-of-least : (best : Option Pair) (ps : List Pair)
    → option_map first_pointer (least_from best ps) ≡ lesser (option_map first_pointer best) (least (map first_pointer ps))
first-of-least best [] = sym (lesser-none (option_map first_pointer best))
first-of-least best (p ∷ ps) =
    first-of-least (Some (least_pairs.lesser best p)) ps
    ∙ ap (λ (o : Option (List ℕ)). lesser o (least (map first_pointer ps))) (one-more best p)
    ∙ sym (lesser-assoc (option_map first_pointer best) (Some (first_pointer p)) (least (map first_pointer ps)))
