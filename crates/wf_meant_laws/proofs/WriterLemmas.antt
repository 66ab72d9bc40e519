-- The value of a variable at a point is that of the last writer that the point sees.
use Rattle.std.proofs.Common.{◌≡◌, ℕ, Bool, true, false, cond, List, [], ◌∷◌, length, Option, Some, None, ◌⊎◌, inl, inr}
use Rattle.std.proofs.Common.{refl, sym, ap, ◌∙◌, subst, eqb-true, true≢false}
use Rattle.std.specs.Prelude.{filter, filter_map, option_map}
use Rattle.std.specs.List.{AllByRecursion, find}
use Rattle.std.specs.Option.{option_and_then}
use Rattle.std.proofs.lemmas.Option.{none-some}
use Rattle.wf_val.specs.ValueTree.{ValueTree}
use Rattle.wf_layers.specs.Address.{Address, SeenIn, Table, address}
use Rattle.wf_layers.specs.Listed.{Among}
use Rattle.wf_layers.specs.Variables.{IsLastSeen, write_at}
use Rattle.wf_layers.proofs.Basics.{two, when, unless}
use Rattle.wf_seen_laws.specs.ActionTree.{ActionTree, action_number}
use Rattle.wf_seen_laws.specs.AllActions.{all_actions, has_number, numbered}
use Rattle.wf_seen_laws.specs.DefTree.{DefTree}
use Rattle.wf_seen_laws.specs.Loops.{loops_of}
use Rattle.wf_record.specs.Record.{Row}
use Rattle.wf_instance.specs.Answering.{RowSource}
use Rattle.wf_instance.specs.Points.{Point, graph_of, sees}
use Rattle.wf_instance.specs.MeantVariables.{Written, given_by, indexes_from, instances_at, last_from}
use Rattle.wf_instance.specs.MeantVariables.{seen_by, variable_at, writes, written_at}
use Rattle.wf_instance.specs.MeantVariables.{written_before}
use Rattle.wf_instance.proofs.VariableLemmas.{variable_same}
use Rattle.wf_meant_laws.specs.Tables.{LoopsTell}
use Rattle.wf_meant_laws.specs.Writers.{is_writer, value_at, writes_if, writes_to}
use Rattle.wf_meant_laws.proofs.LastLemmas.{found}
use Rattle.wf_meant_laws.proofs.ListLemmas.{all_flat, all_given, all_kept, all_mapped, in_filter, in_filter_map, in_flat, in_map}
use Rattle.wf_meant_laws.proofs.PointLemmas.{Seeing, listed}
use Rattle.wf_meant_laws.proofs.SeeingLemmas.{Known}

pub some_is : {A : Type 0} {u v : A} → Some u ≡ Some v → u ≡ v
some_is e = cc (e)

-- ---- what is found is there

pub record Found {A : Type 0} (p : A → Bool) (xs : List A) (x : A) : Type 0 where
  pub among : Among xs x
  pub holds : p x ≡ true

pub find_is : {A : Type 0} (p : A → Bool) (xs : List A) (x : A) → find p xs ≡ Some x → Found p xs x
find_is p [] x e = absurd (none-some x e)
find_is p (z ∷ xs) x e = elim (two (p z)) [
  | inl t ↦
      let same = some_is (sym (when (p z) (Some z) (find p xs) t) ∙ e) in record {
        among = inl same;
        holds = ap p (sym same) ∙ t;
      }
  | inr f ↦
      let h = find_is p xs x (sym (unless (p z) (Some z) (find p xs) f) ∙ e) in record { among = inr h.among; holds = h.holds }
]

-- ---- what an entry of a list of writers says

abbrev written_of : Address → ValueTree → Written
written_of x value = record { at = x; value = value }

module _ (v : List ℕ) (x : Address) where
  pub record Gave (o : Option Row) (w : Written) : Type 0 where
    pub row : Row
    pub there : o ≡ Some row
    pub gives : given_by v row ≡ Some w.value
    pub at : w.at ≡ x

  gave_value : (row : Row) (o : Option ValueTree) (w : Written) → given_by v row ≡ o
      → option_map (written_of x) o ≡ Some w → Gave (Some row) w
  gave_value row None w is e = absurd (none-some w e)
  gave_value row (Some value) w is e =
      let same : written_of x value ≡ w = some_is e in record {
        row = row;
        there = refl;
        gives = is ∙ ap (λ (q : Written). Some q.value) same;
        at = ap (λ (q : Written). q.at) (sym same);
      }

  gave : (o : Option Row) (w : Written)
      → option_map (written_of x) (option_and_then (given_by v) o) ≡ Some w → Gave o w
  gave None w e = absurd (none-some w e)
  gave (Some row) w e = gave_value row (given_by v row) w refl e

cut_there : {A : Type 0} (b : Bool) (o : Option A) (r : A) → cond b o None ≡ Some r → (b ≡ true) × (o ≡ Some r)
cut_there true o r e = (refl, e)
cut_there false o r e = absurd (none-some r e)

module _ (d : DefTree) (known : Known d) (m : RowSource) (p : Point) (Sees : Address → Type 0) (point : Seeing d p Sees)
    (rows : Table Row)
    (loops : LoopsTell d rows)
    (full : (x : Address) (row : Row) → rows x ≡ Some row → length x.at ≡ length (loops_of (graph_of d) x.name)) (v : List ℕ) where
  -- it was written there
  record Told (w : Written) : Type 0 where
    pub seen : Sees w.at
    pub row : Row
    pub there : rows w.at ≡ Some row
    pub gives : given_by v row ≡ Some w.value
    pub writer : is_writer d v w.at.name ≡ true

  told_one : (a : ActionTree) → numbered (action_number a) d.top ≡ Some a → writes v a ≡ true → (x : Address) (w : Written)
      → x.name ≡ action_number a → written_at v (seen_by p rows) x ≡ Some w → Told w
  told_one a is wr x w name at =
      let g = gave v x (seen_by p rows x) w at in
      let cut = cut_there (sees p x) (rows x) g.row g.there in
      let here : (Sees w.at) × (rows w.at ≡ Some g.row) × (is_writer d v w.at.name ≡ true) =
      subst (λ (y : Address). (Sees y) × (rows y ≡ Some g.row) × (is_writer d v y.name ≡ true)) (sym g.at) (
        point.only x cut.0,
        cut.1,
        ap (λ (n : ℕ). is_writer d v n) name ∙ (ap (λ (o : Option ActionTree). writes_if v o) is ∙ wr),
      ) in record { seen = here.0; row = g.row; there = here.1; gives = g.gives; writer = here.2 }

  all_told : AllByRecursion Told (written_before d p rows v)
  all_told =
      all_flat Told (λ (a : ActionTree). filter_map (written_at v (seen_by p rows)) (instances_at d p rows (action_number a)))
      (filter (writes v) (all_actions d.top))
      (all_kept (λ (a : ActionTree). numbered (action_number a) d.top ≡ Some a)
      (λ (a : ActionTree). AllByRecursion Told (filter_map (written_at v (seen_by p rows)) (instances_at d p rows (action_number a))))
      (writes v) (all_actions d.top)
      (λ a is wr. all_given (λ (x : Address). x.name ≡ action_number a) Told (written_at v (seen_by p rows))
      (instances_at d p rows (action_number a)) (λ x w name at. told_one a is wr x w name at)
      (all_mapped (λ (x : Address). x.name ≡ action_number a) (address (action_number a))
      (indexes_from d (seen_by p rows) (loops_of (graph_of d) (action_number a)) [] p.loops p.at) (λ at. refl)))
      known.found)

  -- each writer that is seen is listed
  in_instances : (x : Address) → Sees x → (row : Row) → rows x ≡ Some row → (n : ℕ) → x.name ≡ n → Among (instances_at d p rows n) x
  in_instances x seen row there n name =
      subst (λ (m : ℕ). Among (instances_at d p rows m) x) name
      (in_map (address x.name) (indexes_from d (seen_by p rows) (loops_of (graph_of d) x.name) [] p.loops p.at) x.at
      (listed d p Sees point rows x seen (λ l outer at turn of. loops x row there l outer at turn of) (full x row there)))

  writer_listed : (x : Address) (row : Row) (value : ValueTree) → Sees x → rows x ≡ Some row → given_by v row ≡ Some value
      → (o : Option ActionTree) → numbered x.name d.top ≡ o → writes_if v o ≡ true
      → Among (written_before d p rows v) (written_of x value)
  writer_listed x row value seen there gives None is wr = absurd (true≢false (sym wr))
  writer_listed x row value seen there gives (Some a) is wr =
      let f = find_is (has_number x.name) (all_actions d.top) a is in
      let name : x.name ≡ action_number a = eqb-true x.name (action_number a) f.holds in
      in_flat (λ (a : ActionTree). filter_map (written_at v (seen_by p rows)) (instances_at d p rows (action_number a)))
      (filter (writes v) (all_actions d.top)) a (written_of x value)
      (in_filter (writes v) (all_actions d.top) a f.among wr)
      (in_filter_map (written_at v (seen_by p rows)) (instances_at d p rows (action_number a)) x (written_of x value)
      (in_instances x seen row there (action_number a) name)
      (ap (λ (o : Option Row). option_map (written_of x) (option_and_then (given_by v) o))
      (when (sees p x) (rows x) None (point.told x seen) ∙ there)
      ∙ ap (λ (o : Option ValueTree). option_map (written_of x) o) gives))

  abbrev wrote : Address → Option Row → Option Address
  wrote y o = write_at (graph_of d) m (writes_to d v) y o

  told_wrote : (w : Written) → Told w → wrote w.at (rows w.at) ≡ Some w.at
  told_wrote w t =
      ap (λ (o : Option Row). wrote w.at o) t.there
      ∙ (when (is_writer d v w.at.name) (option_map (λ (value : ValueTree). w.at) (given_by v t.row)) None t.writer
      ∙ ap (λ (o : Option ValueTree). option_map (λ (value : ValueTree). w.at) o) t.gives)

  none_told : (ws : List Written) → AllByRecursion Told ws → ((w : Written) → Told w → ⊥) → ws ≡ []
  none_told [] all none = refl
  none_told (w ∷ ws) all none = absurd (none w all.0)

  -- what a row writes is its address
  record Wrote (y : Address) (writer : Option Address) : Type 0 where
    pub row : Row
    pub value : ValueTree
    pub there : rows y ≡ Some row
    pub gives : given_by v row ≡ Some value
    pub is : is_writer d v y.name ≡ true
    pub self : writer ≡ Some y

  wrote_value : (y : Address) (writer : Option Address) (row : Row) (o : Option ValueTree) → rows y ≡ Some row → given_by v row ≡ o
      → is_writer d v y.name ≡ true → option_map (λ (value : ValueTree). y) o ≡ writer → (writer ≡ None → ⊥) → Wrote y writer
  wrote_value y writer row None there gives is e some = absurd (some (sym e))
  wrote_value y writer row (Some value) there gives is e some =
      record { row = row; value = value; there = there; gives = gives; is = is; self = sym e }

  wrote_by : (y : Address) (writer : Option Address) (o : Option Row) → rows y ≡ o → wrote y o ≡ writer → (writer ≡ None → ⊥)
      → Wrote y writer
  wrote_by y writer None there e some = absurd (some (sym e))
  wrote_by y writer (Some row) there e some = elim (two (is_writer d v y.name)) [
    | inl t ↦ wrote_value y writer row (given_by v row) there refl t
        (sym (when (is_writer d v y.name) (option_map (λ (value : ValueTree). y) (given_by v row)) None t) ∙ e) some
    | inr f ↦ absurd (some (sym (sym (unless (is_writer d v y.name) (option_map (λ (value : ValueTree). y) (given_by v row)) None f) ∙ e)))
  ]

  last_of_rows : (writer : Option Address) → IsLastSeen (graph_of d) m (writes_to d v) rows Sees writer
      → variable_at d p rows v ≡ value_at v rows writer
  last_of_rows writer (inl none) =
      ap (λ (ws : List Written). option_map (λ (w : Written). w.value) (last_from d None ws))
      (none_told (written_before d p rows v) all_told
      (λ w t. none-some w.at (sym (none.1 w.at t.seen) ∙ told_wrote w t)))
      ∙ ap (λ (o : Option Address). value_at v rows o) (sym none.0)
  last_of_rows writer (inr one) =
      let by = wrote_by one.0 writer (rows one.0) refl one.2 one.3 in
      let at_y = writer_listed one.0 by.row by.value one.1 by.there by.gives (numbered one.0.name d.top) refl by.is in
      let f = found d one.0 Told known.told known.only known.never_both (written_before d p rows v) None
      (written_of one.0 by.value) tt (near one.0 one.4 (written_before d p rows v) all_told) at_y refl in
      ap (λ (o : Option Written). option_map (λ (w : Written). w.value) o) f.is
      ∙ (sym (ap (λ (o : Option Row). option_and_then (given_by v) o)
      (ap rows (sym f.at_y) ∙ f.tells.there) ∙ f.tells.gives)
      ∙ ap (λ (o : Option Address). value_at v rows o) (sym by.self))
    where
      near : (y : Address)
          → ((z : Address) → Sees z → (wrote z (rows z) ≡ None → ⊥) → (z ≡ y) ⊎ SeenIn (graph_of d) y z)
          → (ws : List Written) → AllByRecursion Told ws
          → AllByRecursion (λ (w : Written). ((w.at ≡ y) ⊎ SeenIn (graph_of d) y w.at) × Told w) ws
      near y last [] all = tt
      near y last (w ∷ ws) all =
          ((last w.at all.0.seen (λ no. none-some w.at (sym no ∙ told_wrote w all.0)), all.0), near y last ws all.1)

  -- whatever is known beside what is seen
  pub last_is_read : (writer : Option Address) → IsLastSeen (graph_of d) m (writes_to d v) rows Sees writer
      → (others : Table Row) → ((y : Address) → Sees y → others y ≡ rows y) → variable_at d p others v ≡ value_at v others writer
  last_is_read writer last others agree =
      variable_same d p others rows (λ x s. agree x (point.only x s)) v
      ∙ (last_of_rows writer last ∙ value_same writer last)
    where
      value_same : (writer : Option Address) → IsLastSeen (graph_of d) m (writes_to d v) rows Sees writer
          → value_at v rows writer ≡ value_at v others writer
      value_same writer (inl none) =
          ap (λ (o : Option Address). value_at v rows o) none.0 ∙ ap (λ (o : Option Address). value_at v others o) (sym none.0)
      value_same writer (inr one) =
          let by = wrote_by one.0 writer (rows one.0) refl one.2 one.3 in
          ap (λ (o : Option Address). value_at v rows o) by.self
          ∙ (ap (λ (o : Option Row). option_and_then (given_by v) o) (sym (agree one.0 one.1))
          ∙ ap (λ (o : Option Address). value_at v others o) (sym by.self))
