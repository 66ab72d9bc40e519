-- A DRILL of a size: a definition that is larger for a larger size, with the inputs of its run and three schedules.
use Rattle.std.specs.Prelude.{ℕ, zero, suc, pos, ◌+◌, ◌*◌, List, [], ◌∷◌, ◌++◌, codes, decimal}
use Rattle.wf_val.specs.ValueTree.{ValueTree, number, text, list, trees, Member}
use Rattle.wf_drill.specs.Calls.{answers, each_call, object_of}

-- the statuses after which an action runs
abbrev pub succeeded : ValueTree
succeeded = list (trees (text (codes "Succeeded") ∷ []))

abbrev pub succeeded_or_failed : ValueTree
succeeded_or_failed = list (trees (text (codes "Succeeded") ∷ text (codes "Failed") ∷ []))

abbrev pub after_seed : ValueTree
after_seed = object_of ((codes "Seed", succeeded) ∷ [])

-- `Seed` hands on the size.
abbrev pub seed : ℕ → ValueTree
seed n = object_of ((codes "inputs", number (pos n)) ∷ (codes "type", text (codes "Compose")) ∷ [])

-- Each call comes after `Seed`; calls don't wait for each other.
abbrev pub request : ValueTree
request = object_of ((codes "method", text (codes "GET")) ∷ (codes "uri", text (codes "https://contoso.com")) ∷ [])

abbrev pub call : ValueTree
call = object_of ((codes "inputs", request) ∷ (codes "runAfter", after_seed) ∷ (codes "type", text (codes "Http")) ∷ [])

-- `F`, also after `Seed`, takes the numbers below the size in turn, and in it `C` squares each.
abbrev pub square : ValueTree
square = object_of ((codes "inputs", text (codes "@mul(item(),item())")) ∷ (codes "type", text (codes "Compose")) ∷ [])

abbrev pub squares : ValueTree
squares = object_of ((codes "C", square) ∷ [])

abbrev pub range_text : ℕ → List ℕ
range_text n = codes "@range(0," ++ decimal n ++ codes ")"

abbrev pub loop_ : ℕ → ValueTree
loop_ n = object_of ((codes "actions", squares) ∷ (codes "foreach", text (range_text n))
    ∷ (codes "runAfter", after_seed) ∷ (codes "type", text (codes "Foreach")) ∷ [])

-- `J` counts the squares, once the loop has succeeded and all calls have ended.
abbrev pub after_all : ℕ → ValueTree
after_all n = object_of ((codes "F", succeeded) ∷ each_call succeeded_or_failed n)

abbrev pub join : ℕ → ValueTree
join n = object_of ((codes "inputs", text (codes "@length(outputs('C'))")) ∷ (codes "runAfter", after_all n)
    ∷ (codes "type", text (codes "Compose")) ∷ [])

-- the actions in the order of their names
abbrev pub actions : ℕ → List Member
actions n = (codes "F", loop_ n) ∷ each_call call n ++ (codes "J", join n) ∷ (codes "Seed", seed n) ∷ []

-- THE DEFINITION
abbrev pub drill_definition : ℕ → ValueTree
drill_definition n = object_of ((codes "actions", object_of (actions n)) ∷ [])

-- THE INPUTS of its run
abbrev pub drill_inputs : ℕ → ValueTree
drill_inputs n = object_of ((codes "answers", list (trees (answers n))) ∷ (codes "moment", text (codes "2000-01-01T00:00:00Z"))
    ∷ (codes "run", text (codes "drill")) ∷ [])

-- so many numbers, each so much above the one before it
abbrev pub numbers : ℕ → ℕ → ℕ → List ℕ
numbers first step zero = []
numbers first step (suc count) = numbers first step count ++ (first + step * count) ∷ []

-- THE SCHEDULES, beside the empty one: the numbers from 0 on, and each third number from 1 on
abbrev pub forward : ℕ → List ℕ
forward n = numbers 0 1 (8 * n + 8)

abbrev pub leaping : ℕ → List ℕ
leaping n = numbers 1 3 (8 * n + 8)
