-- Worked rows of what gets rows with an action that doesn't run.
use Rattle.std.proofs.Common.{◌≡◌, [], ◌∷◌, Some, None, refl}
use Rattle.wf_tables.specs.Plan.{EntryTree, PlanTree, leaf, scope}
use Rattle.wf_events.specs.Skipped.{block_of}

-- an action 0, and a Scope 1 of the action 2
abbrev alone : EntryTree
alone = record { after = []; shape = leaf; block = 0 ∷ [] }

abbrev with_inner : EntryTree
with_inner = record { after = []; shape = scope (2 ∷ []); block = 1 ∷ 2 ∷ [] }

abbrev inner : EntryTree
inner = record { after = []; shape = leaf; block = 2 ∷ [] }

abbrev three : PlanTree
three = record {
  top = 0 ∷ 1 ∷ [];
  entries = Some alone ∷ Some with_inner ∷ Some inner ∷ None ∷ [];
  followers = [];
  holders = None ∷ None ∷ Some 1 ∷ [];
}

a_leaf_is_alone : block_of three 0 ≡ 0 ∷ []
a_leaf_is_alone = refl

a_scope_has_its_inner_actions : block_of three 1 ≡ 1 ∷ 2 ∷ []
a_scope_has_its_inner_actions = refl

a_number_of_no_action_has_none : block_of three 3 ≡ []
a_number_of_no_action_has_none = refl

nor_has_one_past_the_end : block_of three 4 ≡ []
nor_has_one_past_the_end = refl
