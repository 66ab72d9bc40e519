-- WHAT IS SEEN at a point of a run, by the rows that are there, what open containers decided, and who wrote last.
use Rattle.std.specs.Prelude.{ℕ, pos, List, [], ◌∷◌, ◌++◌, map, reverse, Option, Some, None, option_map, slice_get, bytes_eq, find}
use Rattle.std.specs.Prelude.{codes}
use Rattle.wf_val.specs.Address.{address_text}
use Rattle.wf_val.specs.Get.{value_of}
use Rattle.wf_val.specs.ValueTree.{ValueTree}
use Rattle.wf_views.specs.Told.{Told}
use Rattle.wf_layers.specs.Address.{Address, Table, address}
use Rattle.wf_layers.specs.Machine.{Opening}
use Rattle.wf_def.specs.DefTree.{DefTree}
use Rattle.wf_views.specs.Starts.{StartTree}
use Rattle.wf_record.specs.Record.{Row}
use Rattle.wf_views.specs.Decisions.{DecisionTree, each}
use Rattle.wf_views.specs.Verdicts.{VerdictTree}
use Rattle.wf_views.specs.LoopsLoops.{loops_of}
use Rattle.wf_views.specs.Look.{Item, index_in, instance, name_of}
use Rattle.wf_views.specs.Points.{graph_of}
use Rattle.wf_views.specs.Views.{result_from, view_from}
use Rattle.wf_sight.specs.Variables.{variable_in}

-- ---- items

abbrev pub Opens : Type 0
Opens = Table (Opening DecisionTree VerdictTree)

abbrev pub named_item : List ℕ → Option ValueTree → List Item
named_item k None = []
named_item k (Some v) = (k, v) ∷ []

-- the item of that index, where the container opened with a list that has one
abbrev pub item_held : List ℕ → ℕ → DecisionTree → List Item
item_held k j (each ts) = named_item k (slice_get ts j)
item_held k j decision = []

abbrev pub item_open : List ℕ → ℕ → Option (Opening DecisionTree VerdictTree) → List Item
item_open k j None = []
item_open k j (Some w) = item_held k j w.decision

-- of these loops at these indexes, the outermost first, where `at` are the indexes before
abbrev pub items_open : DefTree → Opens → List ℕ → List ℕ → (at : List ℕ) → List Item
items_open d opens [] js at = []
items_open d opens ls [] at = []
items_open d opens (l ∷ ls) (j ∷ js) at =
    item_open (name_of d l) j (opens (address l at)) ++ items_open d opens ls js (at ++ j ∷ [])

-- ---- all of it

-- what a run goes by: how it was started, and what an action is told of the run itself
pub record RunTree : Type 0 where
  pub start : StartTree
  pub name : List ℕ
  pub seed : List ℕ
  pub moment : ℕ

-- what is known as an action is asked something
pub record KnownTree : Type 0 where
  pub rows : Table Row
  pub opens : Opens
  pub store : ℕ → Option Address

-- From inside these loops at these indexes, where these are the items; words are those of a place.
abbrev pub seen_with : DefTree → RunTree → (place : List ℕ) → (loops at : List ℕ) → (held : List Item)
    → Table Row → (ℕ → Option Address) → Told
seen_with d run place loops at held known store = record {
  parameter = λ k. value_of k run.start.parameters;
  variable = λ k. variable_in d known store k;
  trigger = run.start.trigger;
  view = λ k. view_from d loops at known k;
  result = λ k. result_from d loops at known k;
  items = reverse (map (λ h. h.1) held);
  item_of = λ k. option_map (λ h. h.1) (find (λ h. bytes_eq k h.0) held);
  index_of = λ k. index_in d loops at k;
  own = None;
  moment = pos run.moment;
  run_name = run.name;
  seed = run.seed;
  place = place;
}

-- the items being those that the open loops decided
abbrev pub seen_from : DefTree → RunTree → (place : List ℕ) → (loops at : List ℕ) → KnownTree → Told
seen_from d run place loops at known = seen_with d run place loops at (items_open d known.opens loops at []) known.rows known.store

-- ---- the points

-- an action as it starts or ends, and a container as it opens or closes
abbrev pub seen_at : DefTree → RunTree → Address → KnownTree → Told
seen_at d run x known = seen_from d run (address_text (instance d x)) (loops_of (graph_of d) x.name) x.at known

-- the test of an Until after its iteration k
abbrev pub seen_in_test : DefTree → RunTree → Address → ℕ → KnownTree → Told
seen_in_test d run u k known =
    seen_from d run (address_text (instance d (address u.name (u.at ++ k ∷ [])))) (loops_of (graph_of d) u.name ++ u.name ∷ [])
    (u.at ++ k ∷ []) known

-- the section `outputs`
abbrev pub seen_by_outputs : DefTree → RunTree → KnownTree → Told
seen_by_outputs d run known = seen_from d run (codes "@outputs") [] [] known
