-- Where an event may change what is enabled: an engine that keeps the list of enabled events looks at these addresses alone.
use Rattle.std.specs.Prelude.{ℕ, Bool, true, false, ◌&&◌, ◌||◌, List, [], ◌∷◌, ◌++◌, Option, Some, None, nat_eq}
use Rattle.wf_layers.specs.Definition.{Need, Kind, Leaf, Scope, Choice, Foreach, Until, Branches, no_branch, branch, Graph, has_own, needs_of, kind_of}
use Rattle.wf_layers.specs.Address.{Address, address, same_at, is_own}
use Rattle.wf_layers.specs.Machine.{Opening, State, Event, Start, Try, End, Skip, Open, Begin, Test, Close, place_of}

-- The action stands in one of the container's own graphs.
abbrev pub owns_any : Branches → ℕ → Bool
owns_any no_branch p = false
owns_any (branch b rest) p = has_own b p || owns_any rest p

abbrev pub owns : Option Kind → ℕ → Bool
owns None p = false
owns (Some Leaf) p = false
owns (Some (Scope g)) p = has_own g p
owns (Some (Choice bs)) p = owns_any bs p
owns (Some (Foreach pace g)) p = has_own g p
owns (Some (Until most g)) p = has_own g p

-- The indexes are these with one more.
abbrev pub is_next : List ℕ → List ℕ → Bool
is_next [] [] = false
is_next [] (j ∷ js) = same_at [] js
is_next (a ∷ as') [] = false
is_next (a ∷ as') (b ∷ bs) = nat_eq a b && is_next as' bs

-- The indexes inside a container that stands at these.
abbrev pub is_inner : Option Kind → List ℕ → List ℕ → Bool
is_inner None i j = false
is_inner (Some Leaf) i j = false
is_inner (Some (Scope g)) i j = same_at i j
is_inner (Some (Choice bs)) i j = same_at i j
is_inner (Some (Foreach pace g)) i j = is_next i j
is_inner (Some (Until most g)) i j = is_next i j

abbrev pub is_named : List Need → ℕ → Bool
is_named [] p = false
is_named (n ∷ ns) p = nat_eq n.name p || is_named ns p

-- It gives the action a row.
abbrev pub places : Event → Bool
places (End n i) = true
places (Skip n i) = true
places (Close n i) = true
places (Start n i) = false
places (Try n i) = false
places (Open n i) = false
places (Begin n i) = false
places (Test n i) = false

abbrev pub next_of : {Decision Verdict : Type 0} → Option (Opening Decision Verdict) → ℕ
next_of None = 0
next_of (Some w) = w.next

module _ (d : Graph) where
  -- The action at x waits for the one at p, or is the container round it.
  abbrev pub looks_at : Address → Address → Bool
  looks_at p x =
      (is_named (needs_of d x.name) p.name && same_at p.at x.at)
      || (owns (kind_of d x.name) p.name && is_inner (kind_of d x.name) x.at p.at)

  module _ {Row Begun Decision Verdict : Type 0} (s : State Row Begun Decision Verdict) where
    -- The event enters the graph in which x stands.
    abbrev pub enters : Event → Address → Bool
    enters (Open n i) x = owns (kind_of d n) x.name && same_at i x.at
    enters (Begin n i) x = owns (kind_of d n) x.name && same_at (i ++ next_of (s.opens (address n i)) ∷ []) x.at
    enters (Start n i) x = false
    enters (Try n i) x = false
    enters (End n i) x = false
    enters (Skip n i) x = false
    enters (Test n i) x = false
    enters (Close n i) x = false

    -- WHERE THE EVENT MAY CHANGE what is enabled: at its own address; where it places a row, at those that wait for it and at the container
    -- round it; and in a graph that it enters.
    abbrev pub may_change : Event → Address → Bool
    may_change e x = is_own (place_of e).name (place_of e).at x || ((places e && looks_at (place_of e) x) || enters e x)
