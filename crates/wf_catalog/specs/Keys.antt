-- A list in the order of keys, made of a list in any order.
use Rattle.std.specs.Prelude.{List, [], ◌∷◌}
use Rattle.std.specs.declared.cmp.Ordering.{Ordering}
use Rattle.wf_lists.specs.KeyOrder.{put_key}

-- of items that have one key the first is kept
abbrev pub all_put : {K X : Type 0} → (K → K → Ordering) → (X → K) → List X → List X
all_put cmp key [] = []
all_put cmp key (x ∷ xs) = put_key cmp key x (all_put cmp key xs)
