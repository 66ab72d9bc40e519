-- What the tables of places have, as contracts see them.
use Rattle.std.specs.Prelude.{◌≡◌, ℕ, List, [], Option, Some, None, option_map}
use Rattle.std.specs.Ordering.{nat_cmp}
use Rattle.wf_lists.specs.KeyOrder.{find_key}
use Rattle.wf_val.specs.NameOrder.{bytes_cmp}
use Rattle.wf_def.specs.ActionSeen.{action_tree}
use Rattle.wf_def.specs.ActionTree.{ActionTree, action_kind}
use Rattle.wf_def.specs.AllActions.{numbered}
use Rattle.wf_def.specs.DefTree.{DefTree}
use Rattle.wf_def.specs.declared.graph.Action.{out-Action}
use Rattle.wf_meant.specs.Loops.{loops_of}
use Rattle.wf_meant.specs.Sites.{writes_of}
use Rattle.wf_meant.specs.Points.{action_named, graph_of}
use Rattle.wf_catalog.specs.Variables.{numbers_by, variable_number, written}
use Rattle.wf_catalog.specs.Walk.{Walked}
use Rattle.wf_catalog.specs.WalkSeen.{walked}
use Rattle.wf_catalog.specs.declared.named.Named.{Named}
use Rattle.wf_catalog.specs.declared.places.Entry.{Entry}
use Rattle.wf_catalog.specs.declared.variables.Variable.{Variable}

abbrev pub named_tree : Named → ActionTree
named_tree n = action_tree n.action.now

-- ---- variables

abbrev pub variable_tree : Variable → List ℕ × ℕ
variable_tree v = (v.name.now, v.number)

abbrev pub number_in : List Variable → List ℕ → Option ℕ
number_in vs k = option_map (λ (v : Variable). v.number) (find_key bytes_cmp (λ (v : Variable). v.name.now) k vs)

-- ---- actions by their numbers

pub record EntryTree : Type 0 where
  pub place : Walked
  pub written : List ℕ

abbrev pub entry_tree : Entry → EntryTree
entry_tree e = record { place = walked e.placed; written = e.written.items }

-- with these numbers of variables
abbrev pub entry_of : (List ℕ → Option ℕ) → Walked → EntryTree
entry_of number w = record { place = w; written = numbers_by number (writes_of (action_kind w.action)) }

abbrev pub entry_at : List Entry → ℕ → Option EntryTree
entry_at es n = option_map entry_tree (find_key nat_cmp (λ (e : Entry). (out-Action e.placed.action.now).number) n es)

abbrev pub loops_in : Option EntryTree → List ℕ
loops_in None = []
loops_in (Some e) = e.place.loops

abbrev pub written_in : Option EntryTree → List ℕ
written_in None = []
written_in (Some e) = e.written

abbrev pub named_in : List Named → List ℕ → Option ActionTree
named_in ns k = option_map named_tree (find_key bytes_cmp (λ (n : Named). (out-Action n.action.now).name) k ns)

-- The tables have what the definition has.
pub record ArePlaces (d : DefTree) (entries : List Entry) (named : List Named) (numbers : List Variable) : Type 0 where
  pub actions : (n : ℕ) → option_map (λ (e : EntryTree). e.place.action) (entry_at entries n) ≡ numbered n d.top
  pub loops : (n : ℕ) → loops_in (entry_at entries n) ≡ loops_of (graph_of d) n
  pub written : (n : ℕ) → written_in (entry_at entries n) ≡ written d n
  pub names : (k : List ℕ) → named_in named k ≡ action_named d k
  pub variables : (k : List ℕ) → number_in numbers k ≡ variable_number d k
