-- The table at worked graphs. A node is the list of those that it names; a row says of each node whether it leads there.
use Rattle.std.proofs.Common.{◌≡◌, [], ◌∷◌, true, false, refl}
use Rattle.wf_paths.specs.Table.{at, paths_of}

none : paths_of [] ≡ []
none = refl

alone : paths_of ([] ∷ []) ≡ (false ∷ []) ∷ []
alone = refl

-- 1 names 0, and 2 names 1
chain : paths_of ([] ∷ (0 ∷ []) ∷ (1 ∷ []) ∷ []) ≡
    (false ∷ false ∷ false ∷ []) ∷ (true ∷ false ∷ false ∷ []) ∷ (true ∷ true ∷ false ∷ []) ∷ []
chain = refl

-- the same, with the names the other way round
chain-from_the_end : paths_of ((1 ∷ []) ∷ (2 ∷ []) ∷ [] ∷ []) ≡
    (false ∷ true ∷ true ∷ []) ∷ (false ∷ false ∷ true ∷ []) ∷ (false ∷ false ∷ false ∷ []) ∷ []
chain-from_the_end = refl

-- 3 names 1 and 2, which both name 0
two_ways : paths_of ([] ∷ (0 ∷ []) ∷ (0 ∷ []) ∷ (1 ∷ 2 ∷ []) ∷ []) ≡
    (false ∷ false ∷ false ∷ false ∷ []) ∷ (true ∷ false ∷ false ∷ false ∷ [])
    ∷ (true ∷ false ∷ false ∷ false ∷ []) ∷ (true ∷ true ∷ true ∷ false ∷ []) ∷ []
two_ways = refl

-- two pieces that have nothing to do with one another
apart : paths_of ([] ∷ [] ∷ (0 ∷ []) ∷ (1 ∷ []) ∷ []) ≡
    (false ∷ false ∷ false ∷ false ∷ []) ∷ (false ∷ false ∷ false ∷ false ∷ [])
    ∷ (true ∷ false ∷ false ∷ false ∷ []) ∷ (false ∷ true ∷ false ∷ false ∷ []) ∷ []
apart = refl

-- a node that names itself
itself : paths_of ((0 ∷ []) ∷ []) ≡ (true ∷ []) ∷ []
itself = refl

-- 0 and 1 name one another, and 2 stands behind their cycle
cycle : paths_of ((1 ∷ []) ∷ (0 ∷ []) ∷ (1 ∷ []) ∷ []) ≡
    (true ∷ true ∷ false ∷ []) ∷ (true ∷ true ∷ false ∷ []) ∷ (true ∷ true ∷ false ∷ []) ∷ []
cycle = refl

-- 1 and 2 name one another, and 0 stands before their cycle
before_a_cycle : paths_of ([] ∷ (0 ∷ 2 ∷ []) ∷ (1 ∷ []) ∷ []) ≡
    (false ∷ false ∷ false ∷ []) ∷ (true ∷ true ∷ true ∷ []) ∷ (true ∷ true ∷ true ∷ []) ∷ []
before_a_cycle = refl

-- a cycle of three
three : paths_of ((2 ∷ []) ∷ (0 ∷ []) ∷ (1 ∷ []) ∷ []) ≡
    (true ∷ true ∷ true ∷ []) ∷ (true ∷ true ∷ true ∷ []) ∷ (true ∷ true ∷ true ∷ []) ∷ []
three = refl

-- one that is named twice
twice : paths_of ([] ∷ (0 ∷ 0 ∷ []) ∷ []) ≡ (false ∷ false ∷ []) ∷ (true ∷ false ∷ []) ∷ []
twice = refl

-- a number that belongs to no node: the first behind the last, and one far behind
no_node : paths_of ((1 ∷ 7 ∷ []) ∷ []) ≡ (false ∷ []) ∷ []
no_node = refl

-- the row is the later node's, the place in it the earlier one's
row-of_the_later : at (paths_of ([] ∷ (0 ∷ []) ∷ [])) 1 0 ≡ true
row-of_the_later = refl

row-of_the_earlier : at (paths_of ([] ∷ (0 ∷ []) ∷ [])) 0 1 ≡ false
row-of_the_earlier = refl

no_row : at (paths_of ([] ∷ (0 ∷ []) ∷ [])) 2 0 ≡ false
no_row = refl

no_place : at (paths_of ([] ∷ (0 ∷ 2 ∷ []) ∷ [])) 1 2 ≡ false
no_place = refl
