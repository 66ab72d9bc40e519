-- Worked rows of what the row of a container tells of its loop.
use Rattle.std.proofs.Common.{◌≡◌, ℕ, [], Some, None, refl}
use Rattle.wf_layers.specs.Definition.{InTurn}
use Rattle.wf_tables.specs.Plan.{foreach, leaf, scope, until}
use Rattle.wf_events.specs.Closed.{iterations_by, iterations_of, last_of}

an_until_tells_its_iterations : iterations_of (until 3 []) 2 ≡ 2
an_until_tells_its_iterations = refl

all_that_it_may_have : iterations_of (until 3 []) 3 ≡ 3
all_that_it_may_have = refl

no_more_than_those : iterations_of (until 3 []) 4 ≡ 3
no_more_than_those = refl

none_where_none_has_begun : iterations_of (until 3 []) 0 ≡ 0
none_where_none_has_begun = refl

a_foreach_tells_none : iterations_of (foreach InTurn []) 2 ≡ 0
a_foreach_tells_none = refl

a_scope_tells_none : iterations_of (scope []) 2 ≡ 0
a_scope_tells_none = refl

what_is_no_action_tells_none : iterations_by None 2 ≡ 0
what_is_no_action_tells_none = refl

an_until_tells_its_last_test : last_of {Verdict = ℕ} (until 3 []) (Some 7) ≡ Some 7
an_until_tells_its_last_test = refl

a_foreach_has_no_test : last_of {Verdict = ℕ} (foreach InTurn []) (Some 7) ≡ None
a_foreach_has_no_test = refl

a_leaf_has_no_test : last_of {Verdict = ℕ} leaf (Some 7) ≡ None
a_leaf_has_no_test = refl
