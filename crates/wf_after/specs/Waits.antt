-- Which actions of a graph wait for themselves, and which of them have a `runAfter` that they can't have.
use Rattle.std.specs.Prelude.{ℕ, suc, List, [], ◌∷◌, ◌++◌, Bool, ◌||◌, Option, Some, None}
use Rattle.wf_json.specs.Pointer.{flagged}
use Rattle.wf_paths.specs.Table.{at, paths_of}
use Rattle.wf_val.specs.ValueTree.{Member}
use Rattle.wf_after.specs.Entries.{place_in, entries_of, has_bad_entry}

abbrev pub with_place : Option ℕ → List ℕ → List ℕ
with_place None ps = ps
with_place (Some p) ps = p ∷ ps

-- the places in a graph of those that entries name; a name that isn't there has none
abbrev pub places_of : List Member → List Member → List ℕ
places_of graph [] = []
places_of graph (e ∷ es) = with_place (place_in e.0 graph) (places_of graph es)

-- for each of these actions the places in the graph of those that it runs after
abbrev pub nodes : List Member → List Member → List (List ℕ)
nodes graph [] = []
nodes graph (m ∷ ms) = places_of graph (entries_of m.1) ∷ nodes graph ms

-- what leads to what in a graph along `runAfter`, by places
abbrev pub paths_in : List Member → List (List Bool)
paths_in graph = paths_of (nodes graph graph)

-- the action at a place has a bad entry, or waits for itself
abbrev pub offends : List Member → List (List Bool) → ℕ → Member → Bool
offends graph paths place action = has_bad_entry graph action || at paths place place

-- the pointers of these actions, from place i on, that offend
abbrev pub offenders : List Member → List (List Bool) → ℕ → List Member → List (List ℕ)
offenders graph paths i [] = []
offenders graph paths i (m ∷ ms) = flagged (offends graph paths i m) m.0 ++ offenders graph paths (suc i) ms

-- of all actions of a graph
abbrev pub bad_run_after : List Member → List (List ℕ)
bad_run_after graph = offenders graph (paths_in graph) 0 graph
