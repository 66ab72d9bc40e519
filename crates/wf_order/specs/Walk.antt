-- The places of all actions of a graph, one after the other as a walk finds them, and a table that is filled with them.
use Rattle.std.specs.Prelude.{ℕ, suc, Bool, true, false, cond, List, [], ◌∷◌, ◌++◌, map, Option, Some, None, slice_get, slice_set}
use Rattle.wf_def.specs.Definition.{Kind, Leaf, Scope, Choice, Foreach, Until, Branches, no_branch, branch, Graph, done, add}
use Rattle.wf_def.specs.ActionTree.{CaseTrees, no_cases, case_then}
use Rattle.wf_def.specs.Layered.{layered}
use Rattle.wf_order.specs.Table.{PlaceTree}

abbrev pub Entry : Type 0
Entry = ℕ × PlaceTree

-- the actions of a graph that stands inside these containers, as `own` says of its own actions; an action comes before those inside it
abbrev mutual
  pub graph_places : List ℕ → Option (ℕ × ℕ) → Graph → List Entry
  graph_places round own done = []
  graph_places round own (add n after kind rest) =
      (n, record { up = round ++ n ∷ []; stand = own; after = map (λ need. need.name) after })
      ∷ (kind_places (round ++ n ∷ []) n kind ++ graph_places round own rest)

  pub kind_places : List ℕ → ℕ → Kind → List Entry
  kind_places round n Leaf = []
  kind_places round n (Scope g) = graph_places round None g
  kind_places round n (Choice bs) = branch_places round n 1 bs
  kind_places round n (Foreach pace g) = graph_places round None g
  kind_places round n (Until most g) = graph_places round None g

  pub branch_places : List ℕ → ℕ → ℕ → Branches → List Entry
  branch_places round n j no_branch = []
  branch_places round n j (branch b rest) = graph_places round (Some (n, j)) b ++ branch_places round n (suc j) rest

-- the actions of the cases of a Switch, from the branch j on
abbrev pub case_places : List ℕ → ℕ → ℕ → CaseTrees → List Entry
case_places round n j no_cases = []
case_places round n j (case_then name value graph rest) =
    graph_places round (Some (n, j)) (layered graph) ++ case_places round n (suc j) rest

-- a table with a place at its number, where that is free
abbrev pub is_free : Option (Option PlaceTree) → Bool
is_free (Some None) = true
is_free o = false

abbrev pub put : List (Option PlaceTree) → ℕ → PlaceTree → List (Option PlaceTree)
put ps n p = cond (is_free (slice_get ps n)) (slice_set ps n (Some p)) ps

abbrev pub filled : List (Option PlaceTree) → List Entry → List (Option PlaceTree)
filled ps [] = ps
filled ps (e ∷ es) = filled (put ps e.0 e.1) es
