-- The numbers of actions.
use Rattle.std.specs.Prelude.{ℕ, Bool, List}
use Rattle.std.specs.List.{count_by}
use Rattle.std.specs.Ordering.{is_lt}
use Rattle.wf_val.specs.Cut.{cut_u32}
use Rattle.wf_val.specs.NameOrder.{bytes_cmp}

abbrev pub is_below : List ℕ → List ℕ → Bool
is_below k n = is_lt (bytes_cmp n k)

-- an action's number: how many names of actions in the whole definition are below its own in byte order
abbrev pub number_among : List (List ℕ) → List ℕ → ℕ
number_among names k = cut_u32 (count_by (is_below k) names)
