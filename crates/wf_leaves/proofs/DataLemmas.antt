-- Members that are read in the order of their names.
use Rattle.std.proofs.Common.{◌≡◌, ℕ, List, [], ◌∷◌, ◌++◌, Less}
use Rattle.std.specs.List.{AllByRecursion}
use Rattle.wf_val.specs.Get.{name_of}
use Rattle.wf_val.specs.NameOrder.{bytes_cmp, IsAboveAll, IsInNameOrder}
use Rattle.wf_val.specs.ValueTree.{Member, members}
use Rattle.wf_template.specs.DataTree.{DataMember, name_of_data}
use Rattle.wf_leaves.specs.Texts.{data_of, members_of}

below-data : (k : List ℕ) (ms : List Member) → AllByRecursion (λ y. bytes_cmp k (name_of y) ≡ Less) ms
    → AllByRecursion (λ y. bytes_cmp k (name_of_data y) ≡ Less) (members_of (members ms))
below-data k [] all = tt
below-data k (m ∷ ms) all = (all.0, below-data k ms all.1)

in_order-data : (ms : List Member) → IsInNameOrder name_of ms → IsInNameOrder name_of_data (members_of (members ms))
in_order-data [] order = tt
in_order-data (m ∷ ms) order = (below-data m.0 ms order.0, in_order-data ms order.1)

below-middle : {X : Type 0} (name : X → List ℕ) (k : List ℕ) (xs : List X) (y : X) (ys : List X)
    → AllByRecursion (λ z. bytes_cmp k (name z) ≡ Less) (xs ++ y ∷ ys) → bytes_cmp k (name y) ≡ Less
below-middle name k [] y ys all = all.0
below-middle name k (x ∷ xs) y ys all = below-middle name k xs y ys all.1

-- in order, each name is above those before it
above-front : {X : Type 0} (name : X → List ℕ) (xs : List X) (y : X) (ys : List X) → IsInNameOrder name (xs ++ y ∷ ys) → IsAboveAll name (name y) xs
above-front name [] y ys order = tt
above-front name (x ∷ xs) y ys order = (below-middle name (name x) xs y ys order.0, above-front name xs y ys order.1)

-- so the next member is above those that are read
pub above-read : (ms : List Member) (found : List DataMember) (m : Member) (rest : List Member) → IsInNameOrder name_of ms
    → found ++ (m.0, data_of m.1) ∷ members_of (members rest) ≡ members_of (members ms) → IsAboveAll name_of_data m.0 found
above-read ms found m rest order whole =
    above-front name_of_data found (m.0, data_of m.1) (members_of (members rest)) (rw whole (in_order-data ms order))
