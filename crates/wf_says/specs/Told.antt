-- WHAT A ROW SAYS that its container decided: which branch of an If or a Switch was taken, and how many iterations a loop had.
use Rattle.std.specs.Prelude.{ℕ, ℤ, pos, List, [], ◌∷◌, length, Option, Some, None, Ok, if◌then◌else◌, bytes_eq, codes}
use Rattle.wf_val.specs.ValueTree.{ValueTree, number, list, object, items, pairs, Member}
use Rattle.wf_def.specs.ActionTree.{KindTree, branch, switch, switch_else}
use Rattle.wf_data.specs.Record.{Row}
use Rattle.wf_opening.specs.Decisions.{chosen_as, held_as, taken}

-- The branch that would be taken with what the row has as inputs for the value of the condition or the expression: counted from 1, and 0
-- for none. Whoever opens a container again with what its row kept takes that branch.
abbrev pub taken_by : KindTree → Row → ℕ
taken_by (branch test yes' no') r = taken (held_as (Ok r.inputs))
taken_by (switch on cases) r = taken (chosen_as cases (Ok r.inputs))
taken_by (switch_else on cases default) r = taken (chosen_as cases (Ok r.inputs))
taken_by kind r = 0

-- how many items a Foreach had: its inputs are their list
abbrev pub count_items : ValueTree → ℕ
count_items (list ts) = length (items ts)
count_items t = 0

abbrev pub items_said : Row → ℕ
items_said r = count_items r.inputs

-- how often an Until went round: its outputs are exactly `{"iterations":n}`; all others say nothing
abbrev pub number_in : List ℕ → ValueTree → Option ℤ
number_in name (number n) = if bytes_eq name (codes "iterations") then Some n else None
number_in name t = None

abbrev pub told_by : List Member → Option ℤ
told_by (m ∷ []) = number_in m.0 m.1
told_by ms = None

abbrev pub told_rounds : ValueTree → Option ℤ
told_rounds (object ms) = told_by (pairs ms)
told_rounds t = None

abbrev pub count_told : Option ℤ → ℕ
count_told (Some (pos n)) = n
count_told o = 0

abbrev pub rounds_said : Row → ℕ
rounds_said r = count_told (told_rounds r.outputs)
