-- The entries of a map of members, one after another.
use Rattle.std.proofs.Common.{◌≡◌, List, [], ◌∷◌, ◌++◌, map, Less, refl, ap, string_bytes, string_cmp, String, Global}
use Rattle.std.specs.List.{AllByRecursion}
use Rattle.std.specs.List.Sorted.{IsStrictlySortedBy}
use Rattle.std.specs.Map.{keys_of}
use Rattle.wf_val.specs.Get.{name_of}
use Rattle.wf_val.specs.NameOrder.{IsAboveAll}
use Rattle.wf_val.specs.ValueTree.{ValueTree}

module _ {V : Type 0} where
  below_middle : (first : String Global × V) (es : List (String Global × V)) (e : String Global × V) (more : List (String Global × V))
      → AllByRecursion (λ y. string_cmp first.0 y ≡ Less) (keys_of (es ++ e ∷ more)) → string_cmp first.0 e.0 ≡ Less
  below_middle first [] e more all = all.0
  below_middle first (x ∷ es) e more all = below_middle first es e more all.1

  -- in order, each name is above those before it
  pub above_done : (seen : V → ValueTree) (done : List (String Global × V)) (e : String Global × V) (more : List (String Global × V))
      → IsStrictlySortedBy string_cmp (keys_of (done ++ e ∷ more))
      → IsAboveAll name_of (string_bytes e.0) (map (λ x. (string_bytes x.0, seen x.1)) done)
  unfolding IsStrictlySortedBy
  above_done seen [] e more order = tt
  above_done seen (x ∷ done) e more order = (below_middle x done e more order.0, above_done seen done e more order.1)

pub map-one_more : {X Y : Type 0} (f : X → Y) (done : List X) (x : X) → map f (done ++ x ∷ []) ≡ map f done ++ f x ∷ []
map-one_more f [] x = refl
map-one_more f (y ∷ done) x = ap (λ ys. f y ∷ ys) (map-one_more f done x)
