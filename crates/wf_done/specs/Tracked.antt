-- TRACKED PROPERTIES: an object of their values in the order of their names, or null where one has none. Each fits; together they aren't
-- measured.
use Rattle.std.specs.Prelude.{ℕ, List, [], Result, Ok, Err, Some}
use Rattle.wf_val.specs.ValueTree.{ValueTree, Member, null, object, members}
use Rattle.wf_val.specs.declared.fault.EvalFault.{EvalFault}
use Rattle.wf_template.specs.DataTree.{DataMember, data_members}
use Rattle.wf_variables.specs.Told.{Told}
use Rattle.wf_variables.specs.TreeValue.{member_runs, members_after}

abbrev pub tracked_of : Result (List Member) EvalFault → ValueTree
tracked_of (Ok ms) = object (members ms)
tracked_of (Err f) = null

-- by the number of words drawn before
abbrev pub tracked_from : Told → List DataMember → ℕ → ValueTree
tracked_from l ms n = tracked_of (members_after (member_runs l (data_members ms)) [] n).0

-- none is drawn before
abbrev pub tracked_value : Told → List DataMember → ValueTree
tracked_value l ms = tracked_from l ms 0

-- what is told beside the view of the action that ends
abbrev pub with_own : ValueTree → Told → Told
with_own view l = record l { own = Some view }
