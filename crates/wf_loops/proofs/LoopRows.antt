-- Worked loops. Names are the numbers: 0; a Foreach 1, one iteration after the other, of 2 and a Foreach 3 of 4, side by side; an Until 5
-- of a Scope 6 of 7; an If 8 of 9, and otherwise of an Until 10 of 11.
use Rattle.std.proofs.Common.{◌≡◌, [], ◌∷◌, true, false, refl}
use Rattle.wf_order.specs.Definition.{InTurn, AtMost, Leaf, Scope, Choice, Foreach, Until, no_branch, branch, Graph, done, add}
use Rattle.wf_loops.specs.Loops.{is_earlier, left_round, loops_of, paces_round}

abbrev worked : Graph
worked =
    add 0 [] Leaf
    (add 1 [] (Foreach InTurn (add 2 [] Leaf (add 3 [] (Foreach (AtMost 20) (add 4 [] Leaf done)) done)))
    (add 5 [] (Until 60 (add 6 [] (Scope (add 7 [] Leaf done)) done))
    (add 8 [] (Choice (branch (add 9 [] Leaf done) (branch (add 10 [] (Until 3 (add 11 [] Leaf done)) done) no_branch))) done)))

-- round an action; a loop isn't round itself
of-one-outside : loops_of worked 0 ≡ []
of-one-outside = refl

of-a-loop : loops_of worked 1 ≡ []
of-a-loop = refl

of-one-inside : loops_of worked 2 ≡ 1 ∷ []
of-one-inside = refl

of-an-inner-loop : loops_of worked 3 ≡ 1 ∷ []
of-an-inner-loop = refl

of-two : loops_of worked 4 ≡ 1 ∷ 3 ∷ []
of-two = refl

through-a-scope : loops_of worked 7 ≡ 5 ∷ []
through-a-scope = refl

of-the-first-branch : loops_of worked 9 ≡ []
of-the-first-branch = refl

of-a-later-branch : loops_of worked 11 ≡ 10 ∷ []
of-a-later-branch = refl

of-no-action : loops_of worked 12 ≡ []
of-no-action = refl

-- how those round both go
paces-none : paces_round worked 2 7 ≡ []
paces-none = refl

paces-one : paces_round worked 2 4 ≡ InTurn ∷ []
paces-one = refl

paces-two : paces_round worked 4 4 ≡ InTurn ∷ AtMost 20 ∷ []
paces-two = refl

paces-with-the-loop : paces_round worked 3 4 ≡ InTurn ∷ []
paces-with-the-loop = refl

paces-of-an-until : paces_round worked 6 7 ≡ InTurn ∷ []
paces-of-an-until = refl

paces-of-branches : paces_round worked 9 11 ≡ []
paces-of-branches = refl

paces-of-one-branch : paces_round worked 11 11 ≡ InTurn ∷ []
paces-of-one-branch = refl

-- which a reference from the second to the first leaves
left-all : left_round worked 4 0 ≡ 1 ∷ 3 ∷ []
left-all = refl

left-some : left_round worked 4 2 ≡ 3 ∷ []
left-some = refl

left-none : left_round worked 2 4 ≡ []
left-none = refl

left-from-the-loop : left_round worked 4 3 ≡ 3 ∷ []
left-from-the-loop = refl

left-from-the-outer-loop : left_round worked 4 1 ≡ 1 ∷ 3 ∷ []
left-from-the-outer-loop = refl

left-from-a-branch : left_round worked 11 9 ≡ 10 ∷ []
left-from-a-branch = refl

left-to-outside : left_round worked 0 4 ≡ []
left-to-outside = refl

-- the first index that differs decides, where its loop goes one iteration after the other
lesser-in-turn : is_earlier (InTurn ∷ AtMost 20 ∷ []) (0 ∷ 5 ∷ []) (1 ∷ 2 ∷ []) false ≡ true
lesser-in-turn = refl

greater-in-turn : is_earlier (InTurn ∷ AtMost 20 ∷ []) (1 ∷ 0 ∷ []) (0 ∷ 2 ∷ []) true ≡ false
greater-in-turn = refl

lesser-side-by-side : is_earlier (AtMost 20 ∷ InTurn ∷ []) (0 ∷ 0 ∷ []) (1 ∷ 1 ∷ []) true ≡ false
lesser-side-by-side = refl

inner-in-turn : is_earlier (AtMost 20 ∷ InTurn ∷ []) (3 ∷ 0 ∷ []) (3 ∷ 1 ∷ []) false ≡ true
inner-in-turn = refl

-- where none differs, the actions do
same-and-before : is_earlier (InTurn ∷ []) (2 ∷ []) (2 ∷ []) true ≡ true
same-and-before = refl

same-and-not : is_earlier (InTurn ∷ []) (2 ∷ []) (2 ∷ []) false ≡ false
same-and-not = refl

-- indexes of loops that aren't round both don't count
further-indexes : is_earlier (InTurn ∷ []) (2 ∷ 9 ∷ []) (2 ∷ 0 ∷ 0 ∷ []) true ≡ true
further-indexes = refl

no-loop : is_earlier [] (7 ∷ []) [] true ≡ true
no-loop = refl

-- an instance has an index for each loop; one that lacks some is none
lacking : is_earlier (InTurn ∷ []) [] (0 ∷ []) true ≡ false
lacking = refl
