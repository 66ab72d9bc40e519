-- Each type with a value of every type.
use Rattle.std.proofs.Common.{◌≡◌, refl, List, [], ◌∷◌, map, Bool, true, false, pos, negsuc}
use Rattle.std.specs.Prelude.{codes}
use Rattle.wf_val.specs.ValueTree.{ValueTree, null, boolean, number, text, list, object, no_values, value_then, no_members}
use Rattle.wf_def.specs.Sorts.{has_sort}
use Rattle.wf_def.specs.declared.sort.Sort.{Sort}

abbrev samples : List ValueTree
samples =
    null ∷ boolean false ∷ number (pos 0) ∷ number (negsuc 0) ∷ text [] ∷ text (codes "1") ∷ list no_values
    ∷ list (value_then null no_values) ∷ object no_members ∷ []

sort-has : map (λ sort. map (has_sort sort) samples) (Sort.Bool ∷ Sort.Int ∷ Sort.Text ∷ Sort.List ∷ Sort.Obj ∷ [])
    ≡ (false ∷ true ∷ false ∷ false ∷ false ∷ false ∷ false ∷ false ∷ false ∷ [])
    ∷ (false ∷ false ∷ true ∷ true ∷ false ∷ false ∷ false ∷ false ∷ false ∷ [])
    ∷ (false ∷ false ∷ false ∷ false ∷ true ∷ true ∷ false ∷ false ∷ false ∷ [])
    ∷ (false ∷ false ∷ false ∷ false ∷ false ∷ false ∷ true ∷ true ∷ false ∷ [])
    ∷ (false ∷ false ∷ false ∷ false ∷ false ∷ false ∷ false ∷ false ∷ true ∷ []) ∷ []
sort-has = refl
