-- WHAT IS TOLD at the points of a definition, by the rows that are known.
use Rattle.std.specs.Prelude.{ℕ, Bool, true, false, List, [], ◌∷◌, ◌++◌, map, reverse, pos, Option, None, Some, option_map, slice_get}
use Rattle.std.specs.Prelude.{codes, bytes_eq, find}
use Rattle.wf_val.specs.Address.{address_text}
use Rattle.wf_val.specs.Get.{value_of}
use Rattle.wf_val.specs.ValueTree.{ValueTree}
use Rattle.wf_val.specs.declared.address.Address as named
use Rattle.wf_refs.specs.Told.{Told}
use Rattle.wf_refs.specs.Address.{Address, Table, address}
use Rattle.wf_refs.specs.ActionTree.{ActionTree, action_kind, action_name}
use Rattle.wf_refs.specs.AllActions.{numbered}
use Rattle.wf_refs.specs.DefTree.{DefTree}
use Rattle.wf_environment.specs.Starts.{StartTree}
use Rattle.wf_environment.specs.Record.{Row}
use Rattle.wf_says.specs.Decisions.{DecisionTree, nothing, each, decided}
use Rattle.wf_done.specs.Tracked.{with_own}
use Rattle.wf_environment.specs.Environment.{Environment, Facts, facts_of, last_facts}
use Rattle.wf_meant.specs.Points.{Point, point_of, point_of_outputs, point_of_test}
use Rattle.wf_meant.specs.References.{result_at, view_at}
use Rattle.wf_meant.specs.Variables.{variable_at}

abbrev pub name_in : Option ActionTree → List ℕ
name_in None = []
name_in (Some a) = action_name a

abbrev pub name_of : DefTree → ℕ → List ℕ
name_of d n = name_in (numbered n d.top)

-- an instance as a record names it
abbrev pub instance : DefTree → Address → named.Address
instance d x = record { name = name_of d x.name; at = x.at }

-- ---- the index of a loop, by its name

abbrev pub index_or : Bool → ℕ → Option ℕ → Option ℕ
index_or true j other = Some j
index_or false j other = other

-- of loops and their indexes
abbrev pub index_in : DefTree → List ℕ → List ℕ → List ℕ → Option ℕ
index_in d [] js k = None
index_in d ls [] k = None
index_in d (l ∷ ls) (j ∷ js) k = index_or (bytes_eq k (name_of d l)) j (index_in d ls js k)

-- ---- what is told at a point to an action that goes by these facts

-- an item, and the loop whose item it is, by its name
abbrev pub Item : Type 0
Item = List ℕ × ValueTree

-- Words are counted from 0 at each place. `held` are the items, the outermost first, and `own` the view of the action itself.
abbrev pub told_by : DefTree → StartTree → Facts → (place : List ℕ) → Point → (held : List Item) → (own : Option ValueTree) → Table Row
    → Told
told_by d start facts place p held own known = record {
  parameter = λ k. value_of k start.parameters;
  variable = λ k. variable_at d p known k;
  trigger = start.trigger;
  view = λ k. view_at d p known k;
  result = λ k. result_at d p known k;
  items = reverse (map (λ h. h.1) held);
  item_of = λ k. option_map (λ h. h.1) (find (λ h. bytes_eq k h.0) held);
  index_of = λ k. index_in d p.loops p.at k;
  own = own;
  moment = pos facts.moment;
  run_name = facts.run;
  seed = facts.seed;
  place = place;
}

-- what a container decides in a look
abbrev pub decided_by : Option ActionTree → Told → DecisionTree
decided_by None l = nothing
decided_by (Some a) l = decided l (action_kind a)

module _ (d : DefTree) (e : Environment) where
  -- ---- the items of the loops round a point

  -- What is told at an instance inside these items. Words are those of its own address.
  abbrev pub told_within : Address → List Item → Table Row → Told
  told_within x held known =
      told_by d e.start (facts_of e (name_of d x.name)) (address_text (instance d x)) (point_of d x) held None known

  -- What a loop decided as it opened. As long as it is open it has no row, so it is asked once more, at its own point: a point inside a
  -- loop sees all that the loop saw, and of what came after that nothing counts there.
  abbrev pub decided_within : Address → List Item → Table Row → DecisionTree
  decided_within x held known = decided_by (numbered x.name d.top) (told_within x held known)

  -- the item of that index, where the loop has one
  abbrev pub item_as : List ℕ → Option ValueTree → List Item
  item_as k None = []
  item_as k (Some v) = (k, v) ∷ []

  abbrev pub item_in : List ℕ → ℕ → DecisionTree → List Item
  item_in k j (each ts) = item_as k (slice_get ts j)
  item_in k j decision = []

  -- of loops and their indexes, inside those whose indexes and items are there already
  abbrev pub items_from : List ℕ → List ℕ → (at : List ℕ) → (held : List Item) → Table Row → List Item
  items_from [] js at held known = held
  items_from ls [] at held known = held
  items_from (l ∷ ls) (j ∷ js) at held known =
      items_from ls js (at ++ j ∷ []) (held ++ item_in (name_of d l) j (decided_within (address l at) held known)) known

  abbrev pub items_at : Point → Table Row → List Item
  items_at p known = items_from p.loops p.at [] [] known

  -- ---- the four points

  -- to an action as it starts, and to a container as it opens
  abbrev pub told_at : Address → Table Row → Told
  told_at x known = told_within x (items_at (point_of d x) known) known

  -- to its tracked properties, as it ends with this view
  abbrev pub told_ending : Address → ValueTree → Table Row → Told
  told_ending x view known = with_own view (told_at x known)

  -- to the test of an Until after its iteration k, whose words are those of the Until's address with this index behind it
  abbrev pub told_in_test : Address → ℕ → Table Row → Told
  told_in_test u k known =
      told_by d e.start (facts_of e (name_of d u.name)) (address_text (instance d (address u.name (u.at ++ k ∷ []))))
      (point_of_test d u k) (items_at (point_of_test d u k) known) None known

  -- to the section `outputs`
  abbrev pub told_to_outputs : Table Row → Told
  told_to_outputs known = told_by d e.start (last_facts e) (codes "@outputs") (point_of_outputs d) [] None known
