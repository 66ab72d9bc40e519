-- Counts that are put and that fall.
use Rattle.std.specs.Prelude.{ℕ, cond, List, [], ◌∷◌, Option, Some, None, length, map}
use Rattle.wf_plan.specs.Address.{Table, is_own}
use Rattle.wf_plan.specs.Definition.{Need}
use Rattle.wf_kept.specs.Counted.{nonzero}
use Rattle.wf_plan.specs.Plan.{EntryTree, PlanTree}
use Rattle.wf_plan.specs.PlanSeen.{at_place}
use Rattle.wf_tables.specs.declared.entries.CountAt.{CountAt}

abbrev pub or_zero : Option ℕ → ℕ
or_zero None = 0
or_zero (Some c) = c

-- A table with each of these counts, one after the other; 0 isn't kept.
abbrev pub set_all : List CountAt → Table ℕ → Table ℕ
set_all [] t x = t x
set_all (c ∷ cs) t x = set_all cs (λ y. cond (is_own c.instance.action c.instance.at y) (nonzero c.count) (t y)) x

-- what an action waits for
abbrev pub needs_or_none : Option EntryTree → List Need
needs_or_none None = []
needs_or_none (Some e) = e.after

abbrev pub needs_at : PlanTree → ℕ → List Need
needs_at p n = needs_or_none (at_place p.entries n)

-- The counts of a graph that is entered at these indexes: each of its actions waits for all that it names.
abbrev pub entered_counts : PlanTree → List ℕ → List ℕ → List CountAt
entered_counts p at numbers =
    map (λ n. record { instance = record { action = n; at = at }; count = length (needs_at p n) }) numbers
