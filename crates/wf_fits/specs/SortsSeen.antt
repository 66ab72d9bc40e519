-- The types of variables in a table, as contracts see it.
use Rattle.std.specs.Prelude.{ℕ, List, Option, option_map}
use Rattle.wf_lists.specs.KeyOrder.{find_key}
use Rattle.wf_val.specs.NameOrder.{bytes_cmp}
use Rattle.wf_def.specs.ActionSeen.{initial_tree}
use Rattle.wf_def.specs.ActionTree.{InitialTree}
use Rattle.wf_def.specs.declared.sort.Sort.{Sort}
use Rattle.wf_fits.specs.declared.sorts.Typed.{Typed}

abbrev pub typed_tree : Typed → InitialTree
typed_tree t = initial_tree t.initial.now

abbrev pub sort_in : List Typed → List ℕ → Option Sort
sort_in ts k = option_map (λ (t : Typed). t.initial.now.sort) (find_key bytes_cmp (λ (t : Typed). t.initial.now.name) k ts)
