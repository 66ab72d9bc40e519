-- The variables that one action makes, at worked values: 0, 1, several, 20, 21; each of them is looked at.
use Rattle.std.proofs.Common.{◌≡◌, ℕ, zero, suc, List, [], ◌∷◌, ◌++◌, map, true, false, refl}
use Rattle.std.specs.Prelude.{codes, pos}
use Rattle.wf_val.specs.ValueTree.{ValueTree, null, number, text, list, object, trees, members}
use Rattle.wf_kinds.specs.ActionType.{type_of}
use Rattle.wf_kinds.specs.Members.{action_has_members}

abbrev initial : List ℕ → List ℕ → ValueTree
initial name sort = object (members ((codes "name", text name) ∷ (codes "type", text sort) ∷ []))

-- an action that makes these
abbrev making : List ValueTree → ValueTree
making ts = object (members ((codes "inputs", object (members ((codes "variables", list (trees ts)) ∷ [])))
    ∷ (codes "type", text (codes "InitializeVariable")) ∷ []))

-- so many variables of one name: that they are the same isn't asked here
abbrev copies : ℕ → List ValueTree
copies zero = []
copies (suc n) = initial (codes "v") (codes "integer") ∷ copies n

counts : map (λ n. action_has_members (making (copies n))) (0 ∷ 1 ∷ 2 ∷ 19 ∷ 20 ∷ 21 ∷ 250 ∷ [])
    ≡ false ∷ true ∷ true ∷ true ∷ true ∷ false ∷ false ∷ []
unfolding action_has_members type_of
counts = refl

several-accepted : map action_has_members (
    making (initial (codes "a") (codes "integer") ∷ initial (codes "b") (codes "string") ∷ []) ∷
    making (initial (codes "a") (codes "Boolean") ∷ initial (codes "@b") (codes "ARRAY") ∷ initial [] (codes "object") ∷ []) ∷
    -- a value beside them, and what is no member of a variable, are free
    making (object (members ((codes "name", text (codes "a")) ∷ (codes "type", text (codes "integer")) ∷ (codes "value", null) ∷ []))
    ∷ object (members ((codes "name", text (codes "b")) ∷ (codes "other", null) ∷ (codes "type", text (codes "integer")) ∷ [])) ∷ []) ∷
    [])
    ≡ true ∷ true ∷ true ∷ []
unfolding action_has_members type_of
several-accepted = refl

-- the last and the middle one are looked at as the first
several-refused : map action_has_members (
    making (initial (codes "a") (codes "integer") ∷ null ∷ []) ∷
    making (null ∷ initial (codes "a") (codes "integer") ∷ []) ∷
    making (initial (codes "a") (codes "integer") ∷ initial (codes "b") (codes "float") ∷ []) ∷
    making (initial (codes "a") (codes "int") ∷ initial (codes "b") (codes "string") ∷ []) ∷
    making (initial (codes "a") (codes "integer")
    ∷ object (members ((codes "name", number (pos 5)) ∷ (codes "type", text (codes "string")) ∷ []))
    ∷ initial (codes "c") (codes "string") ∷ []) ∷
    making (initial (codes "a") (codes "integer") ∷ object (members ((codes "type", text (codes "string")) ∷ [])) ∷ []) ∷
    making (initial (codes "a") (codes "integer") ∷ object (members ((codes "name", text (codes "b")) ∷ [])) ∷ []) ∷
    making (copies 19 ++ null ∷ []) ∷
    [])
    ≡ false ∷ false ∷ false ∷ false ∷ false ∷ false ∷ false ∷ false ∷ []
unfolding action_has_members type_of
several-refused = refl
