-- The items of a tree of a list, and the order of trees.
use Rattle.std.proofs.Common.{ℕ, zero, suc, ◌+◌, ◌<◌, ◌++◌, Some, option_map, take, slice_get, get_or, map, length, add-one, ◌≡◌, List, [], ◌∷◌, refl, ap, sym, ◌∙◌}
use Rattle.std.proofs.lemmas.Option.{slice_get-map, slice_get_read}
use Rattle.wf_val.specs.Seen.{tree}
use Rattle.wf_val.specs.declared.val.Val.{Val}
use Rattle.wf_val.specs.ValueTree.{ValueTree, Member, trees, items, members, pairs}

pub items-trees : (ts : List ValueTree) → items (trees ts) ≡ ts
items-trees [] = refl
items-trees (t ∷ ts) = ap (λ us. t ∷ us) (items-trees ts)

pub pairs-members : (ms : List Member) → pairs (members ms) ≡ ms
pairs-members [] = refl
pairs-members (m ∷ ms) = ap (λ ns. m ∷ ns) (pairs-members ms)

-- a loop by places: one more item
pub take_more_at : {X : Type 0} (xs : List X) (i : ℕ) (x : X) → slice_get xs i ≡ Some x → take (i + 1) xs ≡ take i xs ++ x ∷ []
take_more_at [] i x is = cc
take_more_at (y ∷ xs) zero x is = ap (λ z. z ∷ []) (cc)
take_more_at (y ∷ xs) (suc i) x is = rw add-one (ap (λ zs. y ∷ zs) (rw add-one at (take_more_at xs i x is)))

-- the item at a place of a list, as its tree
pub item-at : (vs : List Val) (i : ℕ) (v : Val) → i < length vs → v ≡ get_or vs i v → Some (tree v) ≡ slice_get (map tree vs) i
item-at vs i v within is = sym (slice_get-map tree vs i ∙ ap (option_map tree) (slice_get_read vs (length vs) i v refl within is))

pub ruleset listed = (items-trees, pairs-members)
