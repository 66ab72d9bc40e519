-- Drills of small sizes, written out.
use Rattle.std.proofs.Common.{◌≡◌, ℕ, pos, List, [], ◌∷◌, ◌++◌, refl, codes, decimal}
use Rattle.wf_val.specs.ValueTree.{ValueTree, number, text, list, trees}
use Rattle.wf_drill.specs.Calls.{answers, answers_to, call_name, object_of}
use Rattle.wf_drill.specs.Drill.{actions, drill_definition, drill_inputs, forward, leaping}

-- names have three digits
first_name : call_name 0 ≡ codes "H000"
first_name = refl

ninth_name : call_name 9 ≡ codes "H009"
ninth_name = refl

tenth_name : call_name 10 ≡ codes "H010"
tenth_name = refl

last_name : call_name 399 ≡ codes "H399"
last_name = refl

-- what is said of actions in files, by hand
abbrev on_success : ValueTree
on_success = list (trees (text (codes "Succeeded") ∷ []))

abbrev on_end : ValueTree
on_end = list (trees (text (codes "Succeeded") ∷ text (codes "Failed") ∷ []))

abbrev http : ValueTree
http = object_of ((
  codes "inputs",
  object_of ((codes "method", text (codes "GET")) ∷ (codes "uri", text (codes "https://contoso.com"))
      ∷ []),
)
    ∷ (codes "runAfter", object_of ((codes "Seed", on_success) ∷ [])) ∷ (codes "type", text (codes "Http")) ∷ [])

abbrev foreach : ℕ → ValueTree
foreach n = object_of ((
  codes "actions",
  object_of ((
    codes "C",
    object_of ((codes "inputs", text (codes "@mul(item(),item())"))
        ∷ (codes "type", text (codes "Compose")) ∷ []),
  ) ∷ []),
)
    ∷ (codes "foreach", text (codes "@range(0," ++ decimal n ++ codes ")"))
    ∷ (codes "runAfter", object_of ((codes "Seed", on_success) ∷ [])) ∷ (codes "type", text (codes "Foreach")) ∷ [])

abbrev compose : ℕ → ValueTree
compose n = object_of ((codes "inputs", number (pos n)) ∷ (codes "type", text (codes "Compose")) ∷ [])

-- sizes 1 and 2, whole
of_one : drill_definition 1 ≡ object_of ((
  codes "actions",
  object_of ((codes "F", foreach 1) ∷ (codes "H000", http)
      ∷ (
        codes "J",
        object_of ((codes "inputs", text (codes "@length(outputs('C'))"))
            ∷ (codes "runAfter", object_of ((codes "F", on_success) ∷ (codes "H000", on_end) ∷ []))
            ∷ (codes "type", text (codes "Compose")) ∷ []),
      )
      ∷ (codes "Seed", compose 1) ∷ []),
) ∷ [])
of_one = refl

of_two : drill_definition 2 ≡ object_of ((
  codes "actions",
  object_of ((codes "F", foreach 2) ∷ (codes "H000", http) ∷ (codes "H001", http)
      ∷ (
        codes "J",
        object_of ((codes "inputs", text (codes "@length(outputs('C'))"))
            ∷ (codes "runAfter", object_of ((codes "F", on_success) ∷ (codes "H000", on_end) ∷ (codes "H001", on_end) ∷ []))
            ∷ (codes "type", text (codes "Compose")) ∷ []),
      )
      ∷ (codes "Seed", compose 2) ∷ []),
) ∷ [])
of_two = refl

-- of size 3 the actions
of_three : actions 3 ≡ (codes "F", foreach 3) ∷ (codes "H000", http) ∷ (codes "H001", http) ∷ (codes "H002", http)
    ∷ (
      codes "J",
      object_of ((codes "inputs", text (codes "@length(outputs('C'))"))
          ∷ (
            codes "runAfter",
            object_of ((codes "F", on_success) ∷ (codes "H000", on_end) ∷ (codes "H001", on_end)
                ∷ (codes "H002", on_end) ∷ []),
          )
          ∷ (codes "type", text (codes "Compose")) ∷ []),
    )
    ∷ (codes "Seed", compose 3) ∷ []
of_three = refl

-- an answer, by hand
abbrev gets : List ℕ → ℕ → ℕ → ValueTree
gets name attempt status = object_of ((codes "action", text name) ∷ (codes "attempt", number (pos attempt))
    ∷ (codes "status", number (pos status)) ∷ [])

inputs_of_one : drill_inputs 1 ≡ object_of ((codes "answers", list (trees (gets (codes "H000") 1 500 ∷ gets (codes "H000") 2 200 ∷ [])))
    ∷ (codes "moment", text (codes "2000-01-01T00:00:00Z")) ∷ (codes "run", text (codes "drill")) ∷ [])
inputs_of_one = refl

answers_to_five : answers 5 ≡ gets (codes "H000") 1 500 ∷ gets (codes "H000") 2 200 ∷ gets (codes "H001") 1 200 ∷ gets (codes "H002") 1 200
    ∷ gets (codes "H003") 1 500 ∷ gets (codes "H003") 2 200 ∷ gets (codes "H004") 1 404 ∷ []
answers_to_five = refl

-- a call that is tried twice, and fails
tried_and_failed : answers_to 9 ≡ gets (codes "H009") 1 500 ∷ gets (codes "H009") 2 404 ∷ []
tried_and_failed = refl

last_call : answers_to 399 ≡ gets (codes "H399") 1 500 ∷ gets (codes "H399") 2 404 ∷ []
last_call = refl

forward_of_one : forward 1 ≡ 0 ∷ 1 ∷ 2 ∷ 3 ∷ 4 ∷ 5 ∷ 6 ∷ 7 ∷ 8 ∷ 9 ∷ 10 ∷ 11 ∷ 12 ∷ 13 ∷ 14 ∷ 15 ∷ []
forward_of_one = refl

leaping_of_one : leaping 1 ≡ 1 ∷ 4 ∷ 7 ∷ 10 ∷ 13 ∷ 16 ∷ 19 ∷ 22 ∷ 25 ∷ 28 ∷ 31 ∷ 34 ∷ 37 ∷ 40 ∷ 43 ∷ 46 ∷ []
leaping_of_one = refl
