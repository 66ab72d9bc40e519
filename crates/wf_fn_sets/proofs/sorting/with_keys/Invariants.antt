use Rattle.std.proofs.Common.{◌≡◌, map, take, option_map}
use Rattle.wf_val.specs.Seen.{tree}
use Rattle.wf_fn_sets.specs.SortKeys.{keyed_trees, number_or_text}
use Rattle.wf_fn_sets.specs.Sorting.{sort_key}
use Rattle.wf_fn_sets.proofs.sorting.with_keys.Given as goal

-- the items so far, with what they are sorted by
abbrev pub invariant-loop-item : goal.invariant-loop-item
invariant-loop-item l =
    map keyed_trees l.keyed.items
    ≡ map (λ x. (number_or_text (sort_key (option_map (λ t. t.now) l.name) x), x)) (map tree (take l.item-index l.values))
