-- What an engine puts as a graph is entered, and what that makes of its tables, by a plan.
use Rattle.std.specs.Prelude.{◌≡◌, ℕ, Bool, false, ◌&&◌, cond, List, [], ◌∷◌, ◌++◌, Option, Some, None, length}
use Rattle.wf_layers.specs.Address.{Address, Table, is_own, same_at}
use Rattle.wf_layers.specs.Machine.{Event, State, has_ended}
use Rattle.wf_layers.specs.Source.{Source}
use Rattle.wf_kept.specs.Counted.{nonzero}
use Rattle.wf_events.specs.Known.{is_among}
use Rattle.wf_events.specs.Instance.{Instance}
use Rattle.wf_events.specs.Plan.{PlanTree}
use Rattle.wf_events.specs.PlanSeen.{or_none}
use Rattle.wf_events.specs.Counts.{entered_counts, needs_at}
use Rattle.wf_events.specs.Looked.{idle_at, instances_at, open_at}
use Rattle.wf_enter.specs.declared.edits.Entering.{Entering}

-- A graph of a container goes by the container and the graph's own indexes.
abbrev pub graph_of : ℕ → List ℕ → Option (List ℕ) → Option Instance
graph_of n at None = None
graph_of n at (Some ns) = Some (record { action = n; at = at })

abbrev pub is_at : Option Instance → Address → Bool
is_at None x = false
is_at (Some g) x = is_own g.action g.at x

-- What is put as the container at a place enters this graph, if one, at the indexes k, and its last begun iteration has this index.
pub record IsMade (p : PlanTree) (place : Instance) (graph : Option (List ℕ)) (k : List ℕ) (index : ℕ) (e : Entering) : Type 0 where
  pub container : e.container ≡ place
  pub last : e.last ≡ record { action = place.action; at = place.at ++ index ∷ [] }
  pub entered : e.graph ≡ graph_of place.action k graph
  pub counts : e.counts.items ≡ entered_counts p k (or_none graph)
  pub places : e.places.items ≡ instances_at k (or_none graph)

module _ {Row Begun Decision Verdict : Type 0} (m : Source Row Begun Decision Verdict) (p : PlanTree) where
  -- WHAT THAT MAKES of counts and ready set: each action of the graph waits for all that the plan has of it, the graph lacks all of them,
  -- and of the container so many iterations are unfinished now. The actions are looked at as idle ones, the container as an open one.
  pub record IsEnteredBy (place : Address) (graph : Option (List ℕ)) (k : List ℕ) (now : ℕ) (s' : State Row Begun Decision Verdict)
      (waits waits' lacks lacks' : Table ℕ) (left left' : Address → ℕ) (ready ready' : Table Event) : Type 0 where
    pub waited : (x : Address) → waits' x
        ≡ cond (is_among x.name (or_none graph) && same_at k x.at) (nonzero (length (needs_at p x.name))) (waits x)
    pub lacked : (x : Address) → lacks' x
        ≡ cond (has_ended graph && is_own place.name k x) (nonzero (length (or_none graph))) (lacks x)
    pub unfinished : (x : Address) → left' x ≡ cond (is_own place.name place.at x) now (left x)
    pub looked_at : (x : Address) → ready' x
        ≡ cond (is_among x.name (or_none graph) && same_at k x.at) (idle_at m s'.rows waits' p x)
        (cond (is_own place.name place.at x) (open_at m s'.opens lacks' left' p place) (ready x))
