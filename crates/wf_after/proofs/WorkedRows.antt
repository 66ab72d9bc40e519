-- Worked values: graphs, and the actions of them that offend.
use Rattle.std.proofs.Common.{◌≡◌, ℕ, List, [], ◌∷◌, codes, refl}
use Rattle.std.proofs.Common.{map}
use Rattle.wf_val.specs.ValueTree.{text, list, object, trees, members, Member}
use Rattle.wf_after.specs.Waits.{bad_run_after}

-- an action of a name, with the entries of its `runAfter`
abbrev action : List ℕ → List Member → Member
action name after = (name, object (members ((codes "runAfter", object (members after)) ∷ [])))

abbrev on : List ℕ → List (List ℕ) → Member
on name statuses = (name, list (trees (map text statuses)))

abbrev then : List ℕ → Member
then name = on name (codes "Succeeded" ∷ [])

abbrev first : List ℕ → Member
first name = (name, object (members []))

none : bad_run_after [] ≡ []
none = refl

in_a_row : bad_run_after (first (codes "A") ∷ action (codes "B") (then (codes "A") ∷ []) ∷ action (codes "C") (then (codes "A")
    ∷ then (codes "B") ∷ []) ∷ []) ≡ []
in_a_row = refl

-- two that wait for each other; C comes behind them and is on no cycle
two_in_a_cycle : bad_run_after (action (codes "A") (then (codes "B") ∷ []) ∷ action (codes "B") (then (codes "A") ∷ [])
    ∷ action (codes "C") (then (codes "B") ∷ []) ∷ [])
    ≡ codes "/A" ∷ codes "/B" ∷ []
two_in_a_cycle = refl

three_in_a_cycle : bad_run_after (action (codes "A") (then (codes "C") ∷ []) ∷ action (codes "B") (then (codes "A") ∷ [])
    ∷ action (codes "C") (then (codes "B") ∷ []) ∷ first (codes "D") ∷ [])
    ≡ codes "/A" ∷ codes "/B" ∷ codes "/C" ∷ []
three_in_a_cycle = refl

-- what comes before a cycle isn't on it either
before_a_cycle : bad_run_after (first (codes "A") ∷ action (codes "B") (then (codes "A") ∷ then (codes "C") ∷ [])
    ∷ action (codes "C") (then (codes "B") ∷ []) ∷ [])
    ≡ codes "/B" ∷ codes "/C" ∷ []
before_a_cycle = refl

itself : bad_run_after (action (codes "A") (then (codes "A") ∷ []) ∷ []) ≡ codes "/A" ∷ []
itself = refl

not_there : bad_run_after (action (codes "A") (then (codes "B") ∷ []) ∷ []) ≡ codes "/A" ∷ []
not_there = refl

-- names compare exactly
another_case : bad_run_after (first (codes "A") ∷ action (codes "B") (then (codes "a") ∷ []) ∷ []) ≡ codes "/B" ∷ []
another_case = refl

-- the four statuses, whatever the case of their letters, one twice, or none at all
statuses : bad_run_after (first (codes "A") ∷ action (codes "B") (on (codes "A") (codes "succeeded" ∷ codes "FAILED" ∷ codes "Skipped"
    ∷ codes "TimedOut" ∷ codes "Failed" ∷ []) ∷ []) ∷ action (codes "C") (on (codes "A") [] ∷ []) ∷ []) ≡ []
statuses = refl

cancelled : bad_run_after (first (codes "A") ∷ action (codes "B") (on (codes "A") (codes "Succeeded" ∷ codes "Cancelled" ∷ []) ∷ [])
    ∷ []) ≡ codes "/B" ∷ []
cancelled = refl

no_status : bad_run_after (first (codes "A") ∷ action (codes "B") (on (codes "A") (codes "Succeeded " ∷ []) ∷ []) ∷ []) ≡ codes "/B" ∷ []
no_status = refl

-- an entry without a status makes a cycle all the same
without_a_status : bad_run_after (action (codes "A") (on (codes "B") [] ∷ []) ∷ action (codes "B") (on (codes "A") [] ∷ []) ∷ [])
    ≡ codes "/A" ∷ codes "/B" ∷ []
without_a_status = refl

-- a slash and a tilde in a name
escaped_names : bad_run_after (action (codes "a/b~") (then (codes "a") ∷ []) ∷ []) ≡ codes "/a~1b~0" ∷ []
escaped_names = refl
