-- Levels at worked graphs: A, then B after A, C after A and D after B, whatever the order of their names.
use Rattle.std.proofs.Common.{◌≡◌, ℕ, List, [], ◌∷◌, true, false, codes, refl, rules}
use Rattle.wf_def.specs.ActionTree.{ActionTree, action, terminate, scope, action_trees}
use Rattle.wf_def.specs.declared.after.After.{After}
use Rattle.wf_def.specs.declared.after.Statuses.{Statuses}
use Rattle.wf_drawn.specs.After.{after_pieces}
use Rattle.wf_drawn.specs.Below.{AreOrdered}
use Rattle.wf_drawn.specs.Levels.{depth, level_at, levels_of}
use Rattle.wf_html.specs.Html.{opened, closed, said}
use Rattle.wf_html.specs.declared.tag.Tag.{Tag}

abbrev succeeded : Statuses
succeeded = record { succeeded = true; failed = false; skipped = false; timed_out = false }

abbrev after : ℕ → After
after n = record { name = codes "A"; number = n; statuses = succeeded }

abbrev at' : ℕ → List After → ActionTree
at' n as' = action (codes "A") n [] as' (scope (action_trees [])) []

abbrev diamond : List ActionTree
diamond = at' 0 [] ∷ at' 1 (after 0 ∷ []) ∷ at' 2 (after 0 ∷ []) ∷ at' 3 (after 2 ∷ after 1 ∷ []) ∷ []

diamond_levels : levels_of diamond ≡ 0 ∷ 1 ∷ 1 ∷ 2 ∷ []
diamond_levels = refl

diamond_depth : depth (levels_of diamond) diamond ≡ 3
diamond_depth = refl

-- a chain against the order of the numbers, with a short cut
against : levels_of (at' 0 (after 1 ∷ after 2 ∷ []) ∷ at' 1 (after 2 ∷ []) ∷ at' 2 [] ∷ []) ≡ 2 ∷ 1 ∷ 0 ∷ []
against = refl

none : depth [] [] ≡ 0
none = refl

-- what is waited for: without statuses where an action just follows
plain : after_pieces (after 0) ≡ opened Tag.After ∷ said (codes "after ") ∷ said (codes "A") ∷ closed Tag.After ∷ []
plain = refl

others : after_pieces (record { name = codes "A"; number = 0; statuses = record { succeeded = false; failed = true; skipped = false; timed_out = true } })
    ≡ opened Tag.After ∷ said (codes "after ") ∷ said (codes "A")
    ∷ said (codes " ") ∷ opened Tag.Wanted ∷ said (codes "Failed") ∷ closed Tag.Wanted
    ∷ said (codes " ") ∷ opened Tag.Wanted ∷ said (codes "TimedOut") ∷ closed Tag.Wanted
    ∷ closed Tag.After ∷ []
others = refl

-- its actions wait for none that waits for them
ordered : AreOrdered (level_at (0 ∷ 1 ∷ 1 ∷ 2 ∷ [])) diamond
ordered = record { differ = search rules; below = search rules; fall = search rules }
