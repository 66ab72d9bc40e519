-- WHAT IS KEPT OF A UNION while its arguments come.
use Rattle.std.specs.Prelude.{ℕ, suc, List, [], Ok, Err, if◌then◌else◌}
use Rattle.std.specs.List.{fold}
use Rattle.wf_val.specs.Arguments.{Answer, wrong_type, bounded}
use Rattle.wf_val.specs.Arity.{takes}
use Rattle.wf_val.specs.Cut.{cut_u64}
use Rattle.wf_val.specs.ValueTree.{ValueTree, list, object, items, members, pairs, Member}
use Rattle.wf_val.specs.declared.fault.EvalFault.{EvalFault}
use Rattle.wf_val.specs.declared.function.Fun.{Fun}
use Rattle.wf_fn_sets.specs.Sets.{put_all}
use Rattle.wf_functions.specs.Collected.{collected_answer}
use Rattle.wf_folds.specs.Items.{Items, no_items, items_more}

-- there is no argument yet, all are lists, all are objects, or one is of the wrong type
pub data HeldSoFar : Type 0 where
  nothing : HeldSoFar
  lists : Items → HeldSoFar
  objects : List Member → HeldSoFar
  refused : EvalFault → HeldSoFar

-- what is held of the arguments so far, and how many they are, cut to the greatest of the type
abbrev pub UnitedSoFar : Type 0
UnitedSoFar = HeldSoFar × ℕ

abbrev pub nothing_united : UnitedSoFar
nothing_united = (nothing, 0)

-- the argument at a place is of the wrong type; the leftmost such is told
abbrev pub refused_at : ℕ → HeldSoFar → HeldSoFar
refused_at i (refused f) = refused f
refused_at i h = refused (wrong_type Fun.Union i)

-- with a list at a place
abbrev pub held_with_items : ℕ → List ValueTree → HeldSoFar → HeldSoFar
held_with_items i xs nothing = lists (items_more xs no_items)
held_with_items i xs (lists u) = lists (items_more xs u)
held_with_items i xs h = refused_at i h

-- with an object at a place
abbrev pub held_with_members : ℕ → List Member → HeldSoFar → HeldSoFar
held_with_members i ms nothing = objects (put_all [] ms)
held_with_members i ms (objects all) = objects (put_all all ms)
held_with_members i ms h = refused_at i h

-- with the argument at a place
abbrev pub held_with : ℕ → HeldSoFar → ValueTree → HeldSoFar
held_with i h (list xs) = held_with_items i (items xs) h
held_with i h (object ms) = held_with_members i (pairs ms) h
held_with i h t = refused_at i h

abbrev pub with_argument : ValueTree → UnitedSoFar → UnitedSoFar
with_argument t u = (held_with u.1 u.0 t, cut_u64 (suc u.1))

-- what is held, as the answer
abbrev pub held_answer : HeldSoFar → Answer
held_answer nothing = Err (wrong_type Fun.Union 0)
held_answer (lists u) = collected_answer u.0
held_answer (objects ms) = bounded (object (members ms))
held_answer (refused f) = Err f

abbrev pub united_answer : UnitedSoFar → Answer
united_answer u = if takes Fun.Union u.1 then held_answer u.0 else Err (wrong_type Fun.Union u.1)

-- what is kept of arguments from left to right
abbrev pub united_of : List ValueTree → UnitedSoFar
united_of ts = fold (λ u t. with_argument t u) nothing_united ts
