-- What an engine edits in what it keeps beside the tables, for each kind of event, said of tables alone.
use Rattle.std.specs.Prelude.{◌≡◌, ℕ, ◌-◌, Bool, true, false, ◌&&◌, ◌||◌, not, cond, List, Option, Some, None, length}
use Rattle.wf_layers.specs.Definition.{Kind, Leaf, Scope, Choice, Foreach, Until, Graph, branch_at, has_own, kind_of, needs_of}
use Rattle.wf_layers.specs.Address.{Address, Table, address, is_own, same_at}
use Rattle.wf_layers.specs.Changes.{is_named, is_next, looks_at, owns}
use Rattle.wf_layers.specs.Machine.{Event, State, has_ended}
use Rattle.wf_layers.specs.Source.{Source}
use Rattle.wf_kept.specs.Counted.{less, nonzero, size}
use Rattle.wf_kept.specs.Event.{counted_event}

abbrev pub is_foreach : Option Kind → Bool
is_foreach None = false
is_foreach (Some Leaf) = false
is_foreach (Some (Scope g)) = false
is_foreach (Some (Choice bs)) = false
is_foreach (Some (Foreach pace g)) = true
is_foreach (Some (Until most g)) = false

-- The action stands in a graph of one container at most.
abbrev pub HasOneHolder : Graph → ℕ → Type 0
HasOneHolder d n = (a b : ℕ) → owns (kind_of d a) n ≡ true → owns (kind_of d b) n ≡ true → a ≡ b

-- Of a graph that is entered, if one is: whether it has an action, and how many.
abbrev pub has_own_of : Option Graph → ℕ → Bool
has_own_of None q = false
has_own_of (Some g) q = has_own g q

abbrev pub size_of : Option Graph → ℕ
size_of None = 0
size_of (Some g) = size g

-- What a Scope or a Choice enters as it opens, and a loop as an iteration begins.
abbrev pub opened_graph : {Decision : Type 0} → (Decision → ℕ) → Kind → Decision → Option Graph
opened_graph taken Leaf c = None
opened_graph taken (Scope g) c = Some g
opened_graph taken (Choice bs) c = branch_at bs (taken c)
opened_graph taken (Foreach pace g) c = None
opened_graph taken (Until most g) c = None

abbrev pub turned_graph : Kind → Option Graph
turned_graph Leaf = None
turned_graph (Scope g) = None
turned_graph (Choice bs) = None
turned_graph (Foreach pace g) = Some g
turned_graph (Until most g) = Some g

module _ {Row Begun Decision Verdict : Type 0} (d : Graph) (m : Source Row Begun Decision Verdict) where
  -- what may happen next at an address, by the counts
  abbrev pub event_by : Option Kind → State Row Begun Decision Verdict → Table ℕ → Table ℕ → (Address → ℕ) → Address → Option Event
  event_by None s waits lacks left x = None
  event_by (Some kind) s waits lacks left x = counted_event d m s waits lacks left (needs_of d x.name) kind x.name x.at

  abbrev pub looked : State Row Begun Decision Verdict → Table ℕ → Table ℕ → (Address → ℕ) → Address → Option Event
  looked s waits lacks left x = event_by (kind_of d x.name) s waits lacks left x

  -- WHERE AN ACTION GETS ITS ROW, as it ends, is skipped or closes: each that names it waits for one less, the graph that has it lacks one
  -- less, and where that graph is a Foreach's and lacks nothing now, one iteration less is unfinished. Itself, those that name it and its
  -- container are looked at anew.
  pub record IsPlaced (p : Address) (s' : State Row Begun Decision Verdict) (waits waits' lacks lacks' : Table ℕ) (left left' : Address → ℕ)
      (ready ready' : Table Event) : Type 0 where
    pub named : (x : Address) → waits' x ≡ cond (is_named (needs_of d x.name) p.name && same_at p.at x.at) (less 1 (waits x)) (waits x)
    pub owned : (x : Address) → lacks' x ≡ cond (owns (kind_of d x.name) p.name && same_at p.at x.at) (less 1 (lacks x)) (lacks x)
    pub finished : (x : Address) → left' x
        ≡ cond (is_foreach (kind_of d x.name) && ((owns (kind_of d x.name) p.name && is_next x.at p.at)
        && not (has_ended (lacks' (address x.name p.at))))) (left x - 1) (left x)
    pub looked_at : (x : Address) → ready' x ≡ cond (is_own p.name p.at x || looks_at d p x) (looked s' waits' lacks' left' x) (ready x)

  -- WHERE A CONTAINER AT p OPENS OR BEGINS AN ITERATION: each action of the graph that is entered, at the indexes k, waits for all that it
  -- names, the graph lacks all of them, and of the container so many iterations are unfinished now. Itself and the actions of that graph
  -- are looked at anew.
  pub record IsEntered (p : Address) (entered : Option Graph) (k : List ℕ) (now : ℕ) (s' : State Row Begun Decision Verdict)
      (waits waits' lacks lacks' : Table ℕ) (left left' : Address → ℕ) (ready ready' : Table Event) : Type 0 where
    pub waited : (x : Address) → waits' x
        ≡ cond (has_own_of entered x.name && same_at k x.at) (nonzero (length (needs_of d x.name))) (waits x)
    pub lacked : (x : Address) → lacks' x ≡ cond (has_ended entered && is_own p.name k x) (nonzero (size_of entered)) (lacks x)
    pub unfinished : (x : Address) → left' x ≡ cond (is_own p.name p.at x) now (left x)
    pub looked_at : (x : Address) → ready' x
        ≡ cond (is_own p.name p.at x || (has_own_of entered x.name && same_at k x.at)) (looked s' waits' lacks' left' x) (ready x)
