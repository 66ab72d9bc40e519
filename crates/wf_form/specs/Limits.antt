-- V3: nothing is more than the limits allow, or deeper.
use Rattle.std.specs.Prelude.{ℕ, ◌++◌, List, [], length, ◌||◌, nat_lt, Option, Some, codes}
use Rattle.wf_after.specs.Pointer.{flagged, here}
use Rattle.wf_val.specs.ValueTree.{ValueTree, object, pairs}
use Rattle.wf_val.specs.Get.{get}
use Rattle.wf_form.specs.Whole.{Whole}
use Rattle.wf_form.specs.declared.role.Role.{Role}

-- how many members an object has; none, if it is none
abbrev pub member_count : Option ValueTree → ℕ
member_count (Some (object ms)) = length (pairs ms)
member_count t = 0

-- the object under the key has more members than so many
abbrev pub too_many : ℕ → List ℕ → ValueTree → List (List ℕ)
too_many most key t = flagged (nat_lt most (member_count (get key t))) key

-- actions and variables are told at the top graph, wherever they stand
abbrev pub limits_at : Whole → Role → ValueTree → List (List ℕ)
limits_at whole Role.Definition t =
    flagged (nat_lt 500 whole.actions || whole.has_too_many_variables) (codes "actions")
    ++ (too_many 50 (codes "parameters") t ++ (too_many 10 (codes "triggers") t ++ too_many 10 (codes "outputs") t))
limits_at whole (Role.Action level) t = here (nat_lt 8 level)
limits_at whole (Role.Cases level) t = here (nat_lt 25 (member_count (Some t)))
limits_at whole role t = []

unfoldable pub limits : Whole → Role → ValueTree → List (List ℕ)
limits whole role t = limits_at whole role t
