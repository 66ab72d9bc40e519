-- The graph round an action, and the container that holds it.
use Rattle.std.specs.Prelude.{◌≡◌, ℕ, ◌-◌, Bool, false, ◌&&◌, not, List, [], ◌∷◌, ◌++◌, Option, Some, None}
use Rattle.std.specs.Prelude.{cond, length, nat_lt, option_map}
use Rattle.wf_layers.specs.Address.{Address, Table, address, is_own}
use Rattle.wf_layers.specs.Machine as machine
use Rattle.wf_layers.specs.Machine.{has_ended}
use Rattle.wf_tables.specs.Instances.{address_of}
use Rattle.wf_tables.specs.Instance.{Instance}
use Rattle.wf_tables.specs.Plan.{EntryTree, PlanTree, ShapeTree, leaf, scope, choice, foreach, until}
use Rattle.wf_tables.specs.PlanSeen.{at_place}
use Rattle.wf_events.specs.declared.round.Round.{Round}

abbrev pub but_last : List ℕ → List ℕ
but_last [] = []
but_last (a ∷ []) = []
but_last (a ∷ b ∷ rest) = a ∷ but_last (b ∷ rest)

-- The indexes of a container, by those of the graph in it: a loop stands at all but the last.
abbrev pub outer_at : ShapeTree → List ℕ → List ℕ
outer_at leaf i = i
outer_at (scope g) i = i
outer_at (choice bs) i = i
outer_at (foreach pace g) i = but_last i
outer_at (until most g) i = but_last i

-- The graph at the indexes is an iteration of a Foreach.
abbrev pub is_turn : ShapeTree → List ℕ → Bool
is_turn leaf i = false
is_turn (scope g) i = false
is_turn (choice bs) i = false
is_turn (foreach pace g) i = nat_lt 0 (length i)
is_turn (until most g) i = false

abbrev pub outer_or_same : Option EntryTree → List ℕ → List ℕ
outer_or_same None i = i
outer_or_same (Some e) i = outer_at e.shape i

abbrev pub turn_or_none : Option EntryTree → List ℕ → Bool
turn_or_none None i = false
turn_or_none (Some e) i = is_turn e.shape i

-- the graph of a container at the indexes inside it
abbrev pub round_in : PlanTree → List ℕ → ℕ → Round
round_in p i c = record {
  graph = record { action = c; at = i };
  container = record { action = c; at = outer_or_same (at_place p.entries c) i };
  is_turn = turn_or_none (at_place p.entries c) i;
}

-- the graph round an action; none at the top
abbrev pub round_at : PlanTree → Instance → Option Round
round_at p place = option_map (round_in p place.at) (at_place p.holders place.action)

-- How many containers are put anew as an action gets its row: the one round it, where there is one.
abbrev pub puts : Option Round → ℕ
puts None = 0
puts (Some r) = 1

-- At the address is what the graph lacks.
abbrev pub is_graph : Option Round → Address → Bool
is_graph None x = false
is_graph (Some r) x = is_own r.graph.action r.graph.at x

-- At the address is a Foreach with an iteration that lacks nothing, by what graphs lack.
abbrev pub is_finished : Option Round → Table ℕ → Address → Bool
is_finished None lacks x = false
is_finished (Some r) lacks x =
    (r.is_turn && not (has_ended (lacks (address_of r.graph)))) && is_own r.container.action r.container.at x

-- As it is looked at anew, by what a look gives.
abbrev pub look_out : (Address → Option machine.Event) → Option Round → Table machine.Event → Table machine.Event
look_out look None t x = t x
look_out look (Some r) t x = cond (is_own r.container.action r.container.at x) (look (address_of r.container)) (t x)

-- Where the graph of the last begun iteration of the container goes, by the next one's index; that of index 0 where none has begun.
abbrev pub IsLast : (Address → ℕ) → Option Round → Instance → Type 0
IsLast next None last = Unit {0}
IsLast next (Some r) last = address_of last ≡ address r.container.action (r.container.at ++ (next (address_of r.container) - 1) ∷ [])
