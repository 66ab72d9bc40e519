-- The least of addresses.
use Rattle.std.specs.Prelude.{◌≡◌, ℕ, Bool, true, false, List, [], ◌∷◌, Option, Some, None, if◌then◌else◌}
use Rattle.std.specs.Ordering.{is_lt}
use Rattle.std.specs.declared.cmp.Ordering.TheVariants.{Less}
use Rattle.wf_val.specs.Address.{address_cmp}
use Rattle.wf_val.specs.NameOrder.{bytes_cmp}
use Rattle.wf_val.specs.declared.address.Address.{Address}

-- it is less than that, where there is one
abbrev pub is_below : Address → Option Address → Bool
is_below y None = true
is_below y (Some a) = is_lt (address_cmp y a)

-- all addresses of a name are above that
abbrev pub is_under : Option Address → List ℕ → Bool
is_under None k = false
is_under (Some a) k = is_lt (bytes_cmp a.name k)

abbrev pub lesser : Option Address → Address → Option Address
lesser least y = if is_below y least then Some y else least

abbrev pub least_from : Option Address → List Address → Option Address
least_from least [] = least
least_from least (y ∷ ys) = least_from (lesser least y) ys

-- IN OTHER WORDS: the test holds there, and at no lesser address; and where there is none, it holds nowhere.
abbrev pub IsLeastAt : (Address → Bool) → Option Address → Type 0
IsLeastAt holds None = (y : Address) → holds y ≡ false
IsLeastAt holds (Some a) = (holds a ≡ true) × ((y : Address) → address_cmp y a ≡ Less → holds y ≡ false)
