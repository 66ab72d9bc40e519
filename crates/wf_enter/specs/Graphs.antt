-- Which graph a container enters, by a plan: as the numbers of its actions.
use Rattle.std.specs.Prelude.{ℕ, List, [], Option, Some, None, option_map}
use Rattle.wf_events.specs.Plan.{EntryTree, PlanTree, ShapeTree, leaf, scope, choice, foreach, until, passed_over, taken_at}
use Rattle.wf_events.specs.PlanSeen.{at_place}

-- As it opens, with a decision that takes the branch of this number, counted from 1: a Scope its own, an If or a Switch that branch.
abbrev pub opened_numbers : ShapeTree → ℕ → Option (List ℕ)
opened_numbers leaf c = None
opened_numbers (scope ns) c = Some ns
opened_numbers (choice bs) c = option_map (λ b. b.own) (taken_at bs c)
opened_numbers (foreach pace ns) c = None
opened_numbers (until most ns) c = None

-- As an iteration begins.
abbrev pub turned_numbers : ShapeTree → Option (List ℕ)
turned_numbers leaf = None
turned_numbers (scope ns) = None
turned_numbers (choice bs) = None
turned_numbers (foreach pace ns) = Some ns
turned_numbers (until most ns) = Some ns

abbrev pub opened_by : Option EntryTree → ℕ → Option (List ℕ)
opened_by None c = None
opened_by (Some e) c = opened_numbers e.shape c

abbrev pub turned_by : Option EntryTree → Option (List ℕ)
turned_by None = None
turned_by (Some e) = turned_numbers e.shape

abbrev pub passed_by : Option EntryTree → ℕ → List ℕ
passed_by None c = []
passed_by (Some e) c = passed_over e.shape c

-- the same of a plan's container; and what it passes over
abbrev pub opened_at : PlanTree → ℕ → ℕ → Option (List ℕ)
opened_at p n c = opened_by (at_place p.entries n) c

abbrev pub turned_at : PlanTree → ℕ → Option (List ℕ)
turned_at p n = turned_by (at_place p.entries n)

abbrev pub passed_at : PlanTree → ℕ → ℕ → List ℕ
passed_at p n c = passed_by (at_place p.entries n) c
