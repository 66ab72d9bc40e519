-- A LIST THAT IS PUT TOGETHER and measured: what is kept of it may be less than the whole once that doesn't fit, but never its size.
use Rattle.std.specs.Prelude.{ℕ, suc, ◌+◌, ◌^◌, max, List, [], ◌∷◌, ◌++◌, nat_lt, if◌then◌else◌}
use Rattle.wf_val.specs.Arguments.{Answer, within}
use Rattle.wf_val.specs.Cut.{cut_u32, cut_u64}
use Rattle.wf_val.specs.ValueTree.{ValueTree, list, trees, depth, weight}

-- what is kept of a list, and the depth of its deepest item and the weight of all, each cut to the greatest of its type
abbrev pub Collected : Type 0
Collected = List ValueTree × (ℕ × ℕ)

-- no item
abbrev pub nothing : Collected
nothing = ([], (0, 0))

-- the list with an item more at its end: kept where the whole may still fit
abbrev pub with_item : ValueTree → Collected → Collected
with_item t c =
    let w = cut_u64 (cut_u64 (weight t) + c.1.1) in
    (if nat_lt w (2 ^ 20) then c.0 ++ t ∷ [] else c.0, (max (cut_u32 (depth t)) c.1.0, w))

-- the list, where it fits
abbrev pub collected_answer : Collected → Answer
collected_answer c = within (cut_u32 (suc c.1.0)) (cut_u64 (suc c.1.1)) (list (trees c.0))
