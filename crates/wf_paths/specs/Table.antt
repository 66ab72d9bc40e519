-- A graph as the lists of nodes that each node names, and tables of truth values by two nodes.
use Rattle.std.specs.Prelude.{ℕ, zero, suc, Bool, false, ◌||◌, cond, List, [], ◌∷◌, map, length, Option, Some, None, nat_eq, slice_get, slice_set, true, unwrap_or}
use Rattle.std.specs.List.{list_any}
use Rattle.wf_paths.specs.Path.{leads}

abbrev pub names : List ℕ → ℕ → Bool
names entries p = list_any (nat_eq p) entries

abbrev pub names_in : Option (List ℕ) → ℕ → Bool
names_in None p = false
names_in (Some entries) p = names entries p

-- an edge leads from each node that is named to the node that names it
abbrev pub edge_of : List (List ℕ) → ℕ → ℕ → Bool
edge_of nodes p a = names_in (slice_get nodes a) p

-- the values of a function at n places from i on
abbrev pub from : {X : Type 0} → ℕ → ℕ → (ℕ → X) → List X
from i zero f = []
from i (suc n) f = f i ∷ from (suc i) n f

-- the row of a node a has for each node p whether p leads to a
abbrev pub table : ℕ → (ℕ → ℕ → Bool) → List (List Bool)
table n r = from 0 n (λ a. from 0 n (λ p. r p a))

abbrev pub slot : List Bool → ℕ → Bool
slot row i = unwrap_or (slice_get row i) false

abbrev pub row_at : List (List Bool) → ℕ → List Bool
row_at rows i = unwrap_or (slice_get rows i) []

abbrev pub at : List (List Bool) → ℕ → ℕ → Bool
at rows a p = slot (row_at rows a) p

-- a row with true at each of these places that stands in it
abbrev pub marked : List Bool → List ℕ → List Bool
marked row [] = row
marked row (p ∷ ps) = marked (slice_set row p true) ps

-- what leads to one of two nodes
abbrev pub either : List Bool → List Bool → List Bool
either [] cs = []
either (b ∷ bs) [] = b ∷ bs
either (b ∷ bs) (c ∷ cs) = (b || c) ∷ either bs cs

-- a row, where k may be a stop whose own row is `through`
abbrev pub through_row : List Bool → ℕ → List Bool → List Bool
through_row row k through = cond (slot row k) (either row through) row

abbrev pub round : List (List Bool) → ℕ → List (List Bool)
round rows k = map (λ row. through_row row k (row_at rows k)) rows

-- what leads to what in a graph of n nodes
abbrev pub paths_of : List (List ℕ) → List (List Bool)
paths_of nodes = table (length nodes) (leads (edge_of nodes) (length nodes))
