-- Worked rows of where a container stands.
use Rattle.std.proofs.Common.{◌≡◌, true, false, [], ◌∷◌, refl}
use Rattle.wf_layers.specs.Definition.{InTurn}
use Rattle.wf_tables.specs.Plan.{choice, foreach, scope, until}
use Rattle.wf_events.specs.Round.{but_last, is_turn, outer_at}

none_of_none : but_last [] ≡ []
none_of_none = refl

the_only_one_goes : but_last (4 ∷ []) ≡ []
the_only_one_goes = refl

the_last_goes : but_last (4 ∷ 0 ∷ 7 ∷ []) ≡ 4 ∷ 0 ∷ []
the_last_goes = refl

a_scope_stands_at_its_actions_indexes : outer_at (scope []) (4 ∷ 7 ∷ []) ≡ 4 ∷ 7 ∷ []
a_scope_stands_at_its_actions_indexes = refl

so_does_a_choice : outer_at (choice []) (4 ∷ 7 ∷ []) ≡ 4 ∷ 7 ∷ []
so_does_a_choice = refl

a_foreach_has_one_less : outer_at (foreach InTurn []) (4 ∷ 7 ∷ []) ≡ 4 ∷ []
a_foreach_has_one_less = refl

so_has_an_until : outer_at (until 2 []) (4 ∷ 7 ∷ []) ≡ 4 ∷ []
so_has_an_until = refl

an_iteration_of_a_foreach : is_turn (foreach InTurn []) (4 ∷ []) ≡ true
an_iteration_of_a_foreach = refl

no_iteration_without_an_index : is_turn (foreach InTurn []) [] ≡ false
no_iteration_without_an_index = refl

an_until_counts_none : is_turn (until 2 []) (4 ∷ []) ≡ false
an_until_counts_none = refl
