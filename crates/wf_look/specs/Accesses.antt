-- ACCESSES to members and items (Workflow Definition Language, "Expressions", operators `.`, `?` and `[]`).
use Rattle.std.specs.Prelude.{ℕ, ℤ, pos, negsuc, Bool, true, false, List, Option, Some, None, Ok, Err}
use Rattle.std.specs.Fmt.{signed_decimal}
use Rattle.wf_val.specs.Arguments.{Answer, wrong_type}
use Rattle.wf_val.specs.Get as look_up
use Rattle.wf_val.specs.ValueTree.{ValueTree, null, number, text}
use Rattle.wf_val.specs.declared.fault.EvalFault.{EvalFault}
use Rattle.wf_val.specs.declared.function.Fun.{Fun}

-- what an access finds; `?` gives null where there is nothing
abbrev pub found : List ℕ → Bool → Option ValueTree → Answer
found k soft (Some t) = Ok t
found k true None = Ok null
found k false None = Err (EvalFault.NoMember k)

-- the member of a name; only an object has members
abbrev pub member_row : List ℕ → Bool → ValueTree → Answer
member_row k soft t = found k soft (look_up.get k t)

-- the item at a place, which may be below 0; only a list has items
abbrev pub item_at : ℤ → ValueTree → Option ValueTree
item_at (pos i) t = look_up.item i t
item_at (negsuc i) t = None

-- the member or the item that a key names; `?` softens its absence alone, and no other key
abbrev pub index_row : Bool → ValueTree → ValueTree → Answer
index_row soft t (text k) = member_row k soft t
index_row soft t (number i) = found (signed_decimal i) soft (item_at i t)
index_row soft t key = Err (wrong_type Fun.Index 1)
