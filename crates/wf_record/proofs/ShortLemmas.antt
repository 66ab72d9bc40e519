-- The JSON text of what is left of a list and of an object.
use Rattle.std.proofs.Common.{◌≡◌, ℕ, zero, suc, List, [], refl}
use Rattle.wf_val.specs.ValueTree as value
use Rattle.wf_json.specs.Json.{values, more_values, members, more_members}

-- from a place on: a comma stands before each but the first
abbrev pub values-from : ℕ → value.ValueTrees → List ℕ
values-from zero ts = values ts
values-from (suc k) ts = more_values ts

abbrev pub members-from : ℕ → value.MemberTrees → List ℕ
members-from zero ms = members ms
members-from (suc k) ms = more_members ms

pub no_values_left : (k : ℕ) → values-from k value.no_values ≡ []
no_values_left zero = refl
no_values_left (suc k) = refl

pub no_members_left : (k : ℕ) → members-from k value.no_members ≡ []
no_members_left zero = refl
no_members_left (suc k) = refl
