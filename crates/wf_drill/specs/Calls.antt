-- The calls of a drill: what each is named, and what it gets for an answer.
use Rattle.std.specs.Prelude.{ℕ, zero, suc, pos, ◌/◌, ◌%◌, ◌+◌, List, [], ◌∷◌, ◌++◌, if◌then◌else◌, codes, nat_eq}
use Rattle.wf_val.specs.ValueTree.{ValueTree, number, text, object, members, Member}

-- the object that has these members
abbrev pub object_of : List Member → ValueTree
object_of ms = object (members ms)

-- H, and the three digits of a number below 1000
abbrev pub call_name : ℕ → List ℕ
call_name k = 72 ∷ (48 + k / 100) ∷ (48 + k / 10 % 10) ∷ (48 + k % 10) ∷ []

-- a member of each of the first n calls, all with the same value, in the order of their names
abbrev pub each_call : ValueTree → ℕ → List Member
each_call value zero = []
each_call value (suc n) = each_call value n ++ (call_name n, value) ∷ []

-- what an attempt of a call gets: this status, and no body
abbrev pub answer : ℕ → ℕ → ℕ → ValueTree
answer k attempt status = object_of ((codes "action", text (call_name k)) ∷ (codes "attempt", number (pos attempt))
    ∷ (codes "status", number (pos status)) ∷ [])

-- Each fifth call fails at last, the others succeed.
abbrev pub last_status : ℕ → ℕ
last_status k = if nat_eq (k % 5) 4 then 404 else 200

-- Each third call is tried twice, for a fault of the service; the others once.
abbrev pub answers_to : ℕ → List ValueTree
answers_to k = if nat_eq (k % 3) 0 then answer k 1 500 ∷ answer k 2 (last_status k) ∷ [] else answer k 1 (last_status k) ∷ []

-- the answers to the first n calls, in their order
abbrev pub answers : ℕ → List ValueTree
answers zero = []
answers (suc n) = answers n ++ answers_to n
