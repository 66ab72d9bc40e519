-- A resubmission of a record that stands for a meaning: the rows that it makes anew are those of a fresh run, and the rows that it keeps
-- are the record's.
use Rattle.std.proofs.Common.{◌≡◌, ℕ, Bool, true, false, ◌&&◌, cond, List, [], ◌∷◌, ◌++◌, length, map, Option, Some, None, option_map}
use Rattle.std.proofs.Common.{is_eq, ◌⊎◌}
use Rattle.std.proofs.Common.{inl, inr, if◌then◌else◌, refl, sym, ap, ap₂, ◌∙◌, subst}
use Rattle.std.specs.Prelude.{filter, filter_map, flat_map, replicate}
use Rattle.std.specs.List.{cons_option}
use Rattle.std.proofs.lemmas.List.{map-append}
use Rattle.std.proofs.lemmas.Option.{none-some}
use Rattle.wf_val.specs.Address.{address_cmp}
use Rattle.wf_val.specs.declared.address.Address as named
use Rattle.wf_layers.specs.Address.{Address, Table, address, is_within}
use Rattle.wf_layers.specs.Definition.{Skipped, has}
use Rattle.wf_layers.specs.Listed.{Among}
use Rattle.wf_layers.specs.Meaning as layered_meaning
use Rattle.wf_layers.specs.Meaning.{deepest}
use Rattle.wf_layers.specs.Resubmission.{IsOldTable, kept, pin}
use Rattle.wf_layers.specs.Variables.{IsIdle}
use Rattle.wf_layers.proofs.Answered.{old_tables_agree}
use Rattle.wf_layers.proofs.Basics.{and_in, two, unless, when}
use Rattle.wf_layers.proofs.Layers.{out_layers}
use Rattle.wf_layers.proofs.OldTable.{kept_row}
use Rattle.wf_layers.proofs.Resumed.{meaning_is_old_table}
use Rattle.wf_alike.specs.Alike.{AreAlike, BothAlike, no_rows, two_rows}
use Rattle.wf_alike.proofs.Alike.{read_alike}
use Rattle.wf_def.specs.ActionTree.{ActionTree, KindTree, action_kind, action_number, actions_in, branch, switch, switch_else}
use Rattle.wf_def.specs.AllActions.{all_actions, numbered}
use Rattle.wf_def.specs.DefTree.{DefTree}
use Rattle.wf_def.specs.Names.{graph_names}
use Rattle.wf_answers.specs.Inputs.{InputsTree}
use Rattle.wf_data.specs.Simple.{run_status_of}
use Rattle.wf_record.specs.Record.{RecordTree, Row, RowTree, find_row}
use Rattle.wf_record.specs.declared.attempt.Try.{Try}
use Rattle.wf_record_form.specs.ReadBack.{untold, untold_row}
use Rattle.wf_opening.specs.Decisions.{DecisionTree}
use Rattle.wf_environment.specs.Ending.{Ending, ending, section}
use Rattle.wf_environment.specs.Environment.{Environment, last_facts}
use Rattle.wf_environment.specs.Statuses.{status_tree}
use Rattle.wf_turns.specs.Containers.{has_succeeded, is_terminate}
use Rattle.wf_turns.specs.Look.{instance, name_in, name_of, told_to_outputs}
use Rattle.wf_turns.specs.Points.{graph_of, point_of_outputs}
use Rattle.wf_turns.specs.Record.{depth_of, ended_by, ending_by, ending_of, first_from, first_succeeded, is_response, record_of_table}
use Rattle.wf_turns.specs.Record.{responded}
use Rattle.wf_turns.specs.Record.{row_at, row_found, row_outside, rows_of}
use Rattle.wf_turns.specs.References.{upto}
use Rattle.wf_turns.specs.Resubmitted.{pinned_source, pinned_table, recalled, resubmitted, rows_by, said, said_by}
use Rattle.wf_turns.specs.Source.{table_of}
use Rattle.wf_turns.specs.Variables.{instances_at}
use Rattle.wf_meant_laws.specs.Listed.{Entry, told_as}
use Rattle.wf_resubmit.specs.Refused.{has_run, ran_as}
use Rattle.wf_anew.specs.Asked.{IsAskedOf}
use Rattle.wf_anew.specs.Known.{IsKnown}
use Rattle.wf_anew.specs.Layer.{if_found, kept_names}
use Rattle.wf_anew.specs.Standing.{RowsStandFor, StandsFor, as_kept, attempts_of, with_attempts}
use Rattle.wf_anew.proofs.AlikeLemmas.{instances_same, plain, status_same, succeeded_same, told_alike}
use Rattle.wf_anew.proofs.FreshLemmas.{a, again, b, is_one, last_words, more, others, redo, rows_of_it, table_is, turned}
use Rattle.wf_anew.proofs.NameLemmas.{action_of, named_is, number_is}
use Rattle.wf_anew.proofs.ReadLemmas.{reads_alike}
use Rattle.wf_anew.proofs.RecordLemmas.{record_same}
use Rattle.wf_anew.proofs.ToldLemmas.{SameStart}

-- ---- rows that stand for others, by their addresses

-- nothing is found on either side, or two rows of which one stands for the other
data FoundAlike : Option RowTree → Option RowTree → Type 0 where
  none_found : FoundAlike None None
  two_found : {r q : RowTree} → (r ≡ q) ⊎ (r ≡ untold_row q) → FoundAlike (Some r) (Some q)

one_place : (r q : RowTree) → (r ≡ q) ⊎ (r ≡ untold_row q) → r.address ≡ q.address
one_place r q (inl same) = ap (λ (s : RowTree). s.address) same
one_place r q (inr same) = ap (λ (s : RowTree). s.address) same

one_alike : (r q : RowTree) → (r ≡ q) ⊎ (r ≡ untold_row q) → plain r.row ≡ plain q.row
one_alike r q (inl same) = ap (λ (s : RowTree). plain s.row) same
one_alike r q (inr same) = ap (λ (s : RowTree). plain s.row) same

found_alike : (x : named.Address) (rs qs : List RowTree) → RowsStandFor rs qs → FoundAlike (find_row x rs) (find_row x qs)
found_alike x [] [] stand = none_found
found_alike x [] (q ∷ qs) stand = absurd stand
found_alike x (r ∷ rs) [] stand = absurd stand
found_alike x (r ∷ rs) (q ∷ qs) stand =
    let one = one_place r q stand.0 in
    elim (two (is_eq (address_cmp x r.address))) [
      | inl is ↦
          subst (λ (o : Option RowTree). FoundAlike o (find_row x (q ∷ qs)))
          (sym (when (is_eq (address_cmp x r.address)) (Some r) (find_row x rs) is))
          (subst (λ (o : Option RowTree). FoundAlike (Some r) o)
          (sym (when (is_eq (address_cmp x q.address)) (Some q) (find_row x qs)
          (sym (ap (λ (y : named.Address). is_eq (address_cmp x y)) one) ∙ is))) (two_found stand.0))
      | inr is ↦
          subst (λ (o : Option RowTree). FoundAlike o (find_row x (q ∷ qs)))
          (sym (unless (is_eq (address_cmp x r.address)) (Some r) (find_row x rs) is))
          (subst (λ (o : Option RowTree). FoundAlike (find_row x rs) o)
          (sym (unless (is_eq (address_cmp x q.address)) (Some q) (find_row x qs)
          (sym (ap (λ (y : named.Address). is_eq (address_cmp x y)) one) ∙ is))) (found_alike x rs qs stand.1))
    ]

of_found : {o p : Option RowTree} → FoundAlike o p
    → BothAlike plain (option_map (λ (r : RowTree). r.row) o) (option_map (λ (r : RowTree). r.row) p)
of_found none_found = no_rows
of_found (two_found {r = r} {q = q} same) = two_rows (one_alike r q same)

rows_alike : (d : DefTree) (rs qs : List RowTree) → RowsStandFor rs qs → AreAlike plain (rows_by d rs) (rows_by d qs)
rows_alike d rs qs stand x = of_found (found_alike (instance d x) rs qs stand)

run_alike : {o p : Option RowTree} → FoundAlike o p → has_run o ≡ has_run p
run_alike none_found = refl
run_alike (two_found {r = r} {q = q} same) = ap (λ (row : Row). ran_as row.status) (one_alike r q same)

-- so what is asked of the one record is asked of the other
pub asked_too : (d : DefTree) (r m : RecordTree) → RowsStandFor r.rows m.rows → (from : List ℕ) → IsAskedOf d r from → IsAskedOf d m from
asked_too d r m stand from asked = record {
  may = asked.may;
  ran = λ n is. sym (run_alike (found_alike (instance d (address n [])) r.rows m.rows stand)) ∙ asked.ran n is;
}

-- they stand for themselves
pub stand_for_themselves : (rs : List RowTree) → RowsStandFor rs rs
stand_for_themselves [] = tt
stand_for_themselves (r ∷ rs) = (inl refl, stand_for_themselves rs)

untold_stand : (rs : List RowTree) → RowsStandFor (map untold_row rs) rs
untold_stand [] = tt
untold_stand (r ∷ rs) = (inr refl, untold_stand rs)

pub stands_for_itself : (m : RecordTree) → StandsFor m m
stands_for_itself m = record { rows = stand_for_themselves m.rows; all_else = refl }

pub untold_stands : (m : RecordTree) → StandsFor (untold m) m
untold_stands m = record { rows = untold_stand m.rows; all_else = refl }

none_alike : {o p : Option Row} → BothAlike plain o p → o ≡ None → p ≡ None
none_alike no_rows is = refl
none_alike (two_rows {p = q} same) is = absurd (none-some q (sym is))

some_alike : {o p : Option Row} → BothAlike plain o p → (row : Row) → o ≡ Some row → (q : Row) × (p ≡ Some q) × (plain row ≡ plain q)
some_alike no_rows row is = absurd (none-some row is)
some_alike (two_rows {p = r} {q = s} same) row is = let here : r ≡ row = cc in (s, refl, ap plain (sym here) ∙ same)

-- ---- what is recalled by them is the same

said_alike : (found : Option ActionTree) {o p : Option Row} → BothAlike plain o p → said_by found o ≡ said_by found p
said_alike None alike = refl
said_alike (Some q) no_rows = refl
said_alike (Some q) (two_rows {p = r} {q = s} same) =
    told (action_kind q) r ∙ (ap (said (action_kind q)) same ∙ sym (told (action_kind q) s))
  where
    told : (kind : KindTree) (row : Row) → said kind row ≡ said kind (plain row)
    told (branch test yes' no') row = refl
    told (switch on cases) row = refl
    told (switch_else on cases default) row = refl
    told kind row = refl

recalled_alike : (d : DefTree) (rs qs : List RowTree) → RowsStandFor rs qs → recalled d rs ≡ recalled d qs
recalled_alike d rs qs stand = λ i x. said_alike (numbered x.name d.top) (rows_alike d rs qs stand x) i

-- ---- how a run ends, by rows that are alike

module _ (d : DefTree) (e : Environment) (t' u : Table Row) (alike : AreAlike plain t' u) where
  first_alike : (is : KindTree → Bool) → BothAlike plain (first_succeeded d is t') (first_succeeded d is u)
  first_alike is =
      subst (λ (o : Option ActionTree). BothAlike plain (first_succeeded d is t') (row_found u o)) picks
      (found (first_from d None (filter (λ q. is (action_kind q) && has_succeeded (row_outside t' q)) (all_actions d.top))))
    where
      picks : first_from d None (filter (λ q. is (action_kind q) && has_succeeded (row_outside t' q)) (all_actions d.top))
          ≡ first_from d None (filter (λ q. is (action_kind q) && has_succeeded (row_outside u q)) (all_actions d.top))
      picks = λ i.
          first_from d None
          (filter (λ q. is (action_kind q) && succeeded_same (alike (address (action_number q) [])) i) (all_actions d.top))

      found : (o : Option ActionTree) → BothAlike plain (row_found t' o) (row_found u o)
      found None = no_rows
      found (Some q) = alike (address (action_number q) [])

  outputs_alike : told_to_outputs d e t' ≡ told_to_outputs d e u
  outputs_alike = told_alike d e.start (last_facts e) _ (point_of_outputs d) [] None t' u alike

  ended_alike : {o p : Option Row} → BothAlike plain o p → ending_by d e t' o ≡ ending_by d e u p
  ended_alike no_rows = λ i. ending (status_same d t' u alike (actions_in d.top) [] i) (section (outputs_alike i) d.outputs)
  ended_alike (two_rows same) = λ i. ended_by (run_status_of (same i).inputs) (same i).inputs

  pub ending_alike : ending_of d e t' ≡ ending_of d e u
  ending_alike = ended_alike (first_alike is_terminate)

  responded_alike : {o p : Option Row} → BothAlike plain o p → responded o ≡ responded p
  responded_alike no_rows = refl
  responded_alike (two_rows same) = ap (λ (row : Row). row.outputs) same

  pub response_alike : responded (first_succeeded d is_response t') ≡ responded (first_succeeded d is_response u)
  response_alike = responded_alike (first_alike is_response)

-- ---- lists of rows

module _ {X Y : Type 0} (f : Y → Y) (h k : X → Option Y) (each' : (x : X) → h x ≡ option_map f (k x)) where
  pub filter_map_mapped : (xs : List X) → filter_map h xs ≡ map f (filter_map k xs)
  filter_map_mapped [] = refl
  filter_map_mapped (x ∷ xs) = ap₂ (λ (o : Option Y) (ys : List Y). cons_option o ys) (each' x) (filter_map_mapped xs)
      ∙ behind (k x) (filter_map k xs)
    where
      behind : (o : Option Y) (ys : List Y) → cons_option (option_map f o) (map f ys) ≡ map f (cons_option o ys)
      behind None ys = refl
      behind (Some y) ys = refl

flat_map_mapped : {X : Type 0} {Y : Type 0} (f : Y → Y) (h k : X → List Y) → ((x : X) → h x ≡ map f (k x)) → (xs : List X)
    → flat_map h xs ≡ map f (flat_map k xs)
flat_map_mapped {Y = Y} f h k each' [] = refl
flat_map_mapped {Y = Y} f h k each' (x ∷ xs) =
    ap₂ (λ (one other : List Y). one ++ other) (each' x) (flat_map_mapped f h k each' xs) ∙ sym (map-append f (k x) (flat_map k xs))

-- ---- the resubmission of a record that has these rows in place of the meaning's

module _ (d : DefTree) (known : IsKnown d) (e : Environment) (m : RecordTree) (i : InputsTree) (from : List ℕ)
    (rows_are : m.rows ≡ rows_of d (table_of d e (depth_of d))) (start : SameStart e.start (resubmitted m i).start)
    (asked : IsAskedOf d m from) where
  abbrev keeps : ℕ → Bool
  keeps = kept (redo d known e m i from rows_are start asked) (again d known e m i from rows_are start asked)

  abbrev recall : Address → DecisionTree
  recall = recalled d m.rows

  abbrev fresh_table : Table Row
  fresh_table = table_of d (more d known e m i from rows_are start asked) (depth_of d)

  abbrev old_table : Table Row
  old_table = table_of d e (depth_of d)

  outside : (x : Address) → is_within (graph_of d) [] x ≡ false → old_table x ≡ None
  outside x out =
      out_layers (a d known e m i from rows_are start asked) (depth_of d) (graph_of d) [] (deepest (depth_of d) (graph_of d)) (λ y. None) x
      out

  module _ (rs : List RowTree) (stand : RowsStandFor rs m.rows) where
    abbrev it : RecordTree
    it = record m { rows = rs }

    abbrev new_table : Table Row
    new_table = pinned_table d it i from

    -- its rows are those of the table but for attempts, where the definition has some
    abbrev rows_within : Table Row
    rows_within x = cond (is_within (graph_of d) [] x) (rows_by d rs x) None

    within_alike : AreAlike plain rows_within old_table
    within_alike x = elim (two (is_within (graph_of d) [] x)) [
      | inl w ↦
          subst (λ (o : Option Row). BothAlike plain o (old_table x)) (sym (when (is_within (graph_of d) [] x) (rows_by d rs x) None w))
          (subst (λ (o : Option Row). BothAlike plain (rows_by d rs x) o)
          (rows_of_it d known e m i from rows_are start asked x (and_in (has (graph_of d) x.name) true w).0)
          (rows_alike d rs m.rows stand x))
      | inr out ↦
          subst (λ (o : Option Row). BothAlike plain o (old_table x)) (sym (unless (is_within (graph_of d) [] x) (rows_by d rs x) None out))
          (subst (λ (o : Option Row). BothAlike plain None o) (sym (outside x out)) no_rows)
    ]

    -- a row beside an idle one is idle
    idle_alike : {o p : Option Row} → BothAlike plain o p
        → ((q : Row) → p ≡ Some q → IsIdle (a d known e m i from rows_are start asked) q) → (q : Row) → o ≡ Some q
        → IsIdle (a d known e m i from rows_are start asked) q
    idle_alike no_rows idle q is = absurd (none-some q is)
    idle_alike (two_rows {p = r} {q = s} same) idle q is =
        let here : r ≡ q = cc in
        inr (ap (λ (row : Row). status_tree row.status) (sym here) ∙ (ap (λ (row : Row). status_tree row.status) same
        ∙ skipped_status (idle s refl)))
      where
        skipped_status : IsIdle (a d known e m i from rows_are start asked) s → status_tree s.status ≡ Skipped
        skipped_status (inl was) = ap (λ (row : Row). status_tree row.status) was
        skipped_status (inr was) = was

    meant_old : IsOldTable (graph_of d) (a d known e m i from rows_are start asked) (redo d known e m i from rows_are start asked)
        (again d known e m i from rows_are start asked) old_table recall
    meant_old =
        meaning_is_old_table (a d known e m i from rows_are start asked) (b d known e m i from rows_are start asked)
        (redo d known e m i from rows_are start asked) (again d known e m i from rows_are start asked) (graph_of d) (depth_of d) known.falls
        (known.local e) (λ n. (refl, refl)) recall (is_one d known e m i from rows_are start asked)
        (others d known e m i from rows_are start asked)

    is_old : IsOldTable (graph_of d) (a d known e m i from rows_are start asked) (redo d known e m i from rows_are start asked)
        (again d known e m i from rows_are start asked) rows_within recall
    is_old = record {
      split = meant_old.split;
      inside = λ y out. unless (is_within (graph_of d) [] y) (rows_by d rs y) None out;
      rows = λ w n after kind open_there st k none.
          meant_old.rows w n after kind open_there st k (none_alike (within_alike (address n [])) none);
      others = λ n bs is k y h.
          let old = meant_old.others n bs is k y h in (old.0, idle_alike (within_alike y) old.1);
    }

    -- whatever is recalled, the rows may be those within
    new_by : (x : Address) → is_within (graph_of d) [] x ≡ true → new_table x
        ≡ layered_meaning.meaning (pin (a d known e m i from rows_are start asked) (b d known e m i from rows_are start asked)
        (redo d known e m i from rows_are start asked) (again d known e m i from rows_are start asked) rows_within recall) (depth_of d)
        (graph_of d) x
    new_by x w =
        ap (λ (r : Address → DecisionTree). layered_meaning.meaning (pin (b d known e m i from rows_are start asked)
        (b d known e m i from rows_are start asked) (redo d known e m i from rows_are start asked)
        (again d known e m i from rows_are start asked) (rows_by d rs) r) (depth_of d) (graph_of d) x) (recalled_alike d rs m.rows stand)
        ∙ old_tables_agree (graph_of d) (depth_of d) (b d known e m i from rows_are start asked) (b d known e m i from rows_are start asked)
        (redo d known e m i from rows_are start asked) (again d known e m i from rows_are start asked) recall known.falls
        (known.local (resubmitted m i)) (rows_by d rs) rows_within
        (λ y v. sym (when (is_within (graph_of d) [] y) (rows_by d rs y) None v)) x w

    -- what is kept are its rows
    kept_are : (x : Address) → is_within (graph_of d) [] x ≡ true → keeps x.name ≡ true → new_table x ≡ rows_by d rs x
    kept_are x w k =
        new_by x w
        ∙ kept_row (a d known e m i from rows_are start asked) (b d known e m i from rows_are start asked)
        (redo d known e m i from rows_are start asked) (again d known e m i from rows_are start asked) (graph_of d) (depth_of d) known.falls
        (known.local (resubmitted m i)) rows_within recall is_old x k
        ∙ when (is_within (graph_of d) [] x) (rows_by d rs x) None w

  module _ (rs : List RowTree) (stand : RowsStandFor rs m.rows) where
    -- what isn't kept is that of the fresh run
    anew_are : (x : Address) → is_within (graph_of d) [] x ≡ true → keeps x.name ≡ false → new_table rs stand x ≡ fresh_table x
    anew_are x w new =
        ap (λ (r : Address → DecisionTree). layered_meaning.meaning (pin (b d known e m i from rows_are start asked)
        (b d known e m i from rows_are start asked) (redo d known e m i from rows_are start asked)
        (again d known e m i from rows_are start asked) (rows_by d rs) r) (depth_of d) (graph_of d) x) (recalled_alike d rs m.rows stand)
        ∙ read_alike (graph_of d) (depth_of d) (b d known e m i from rows_are start asked) (b d known e m i from rows_are start asked)
        (redo d known e m i from rows_are start asked) (again d known e m i from rows_are start asked) recall plain known.falls
        (known.local (resubmitted m i)) (is_one d known e m i from rows_are start asked).split (reads_alike d (resubmitted m i))
        (rows_by d rs) (rows_by d m.rows) (rows_alike d rs m.rows stand) x w new
        ∙ ap (λ (f : Table Row). f x) (table_is d known e m i from rows_are start asked)

    -- the kept rows of the fresh run are those of the meaning
    old_are : (x : Address) → is_within (graph_of d) [] x ≡ true → keeps x.name ≡ true → fresh_table x ≡ rows_by d m.rows x
    old_are x w k =
        sym (ap (λ (f : Table Row). f x) (table_is d known e m i from rows_are start asked))
        ∙ kept_are m.rows (stand_for_themselves m.rows) x w k

    outside_new : (x : Address) → is_within (graph_of d) [] x ≡ false → new_table rs stand x ≡ None
    outside_new x out =
        out_layers (pinned_source d (it rs stand) i from) (depth_of d) (graph_of d) [] (deepest (depth_of d) (graph_of d)) (λ y. None) x out

    outside_fresh : (x : Address) → is_within (graph_of d) [] x ≡ false → fresh_table x ≡ None
    outside_fresh x out =
        sym (ap (λ (f : Table Row). f x) (table_is d known e m i from rows_are start asked))
        ∙ out_layers (pinned_source d m i from) (depth_of d) (graph_of d) [] (deepest (depth_of d) (graph_of d)) (λ y. None) x out

    itself : (o : Option Row) → BothAlike plain o o
    itself None = no_rows
    itself (Some row) = two_rows refl

    new_alike : AreAlike plain (new_table rs stand) fresh_table
    new_alike x = elim (two (is_within (graph_of d) [] x)) [
      | inl w ↦ elim (two (keeps x.name)) [
        | inl k ↦
            subst (λ (o : Option Row). BothAlike plain o (fresh_table x)) (sym (kept_are rs stand x w k))
            (subst (λ (o : Option Row). BothAlike plain (rows_by d rs x) o) (sym (old_are x w k)) (rows_alike d rs m.rows stand x))
        | inr new ↦ subst (λ (o : Option Row). BothAlike plain o (fresh_table x)) (sym (anew_are x w new)) (itself (fresh_table x))
      ]
      | inr out ↦
          subst (λ (o : Option Row). BothAlike plain o (fresh_table x)) (sym (outside_new x out))
          (subst (λ (o : Option Row). BothAlike plain None o) (sym (outside_fresh x out)) no_rows)
    ]

    -- ---- row by row

    abbrev mended : RowTree → RowTree
    mended = as_kept (kept_names d from) rs

    keeps_named : (x : Address) → has (graph_of d) x.name ≡ true → kept_names d from (name_of d x.name) ≡ keeps x.name
    keeps_named x there =
        let found = action_of d known.named x.name there in
        ap (λ (o : Option ActionTree). kept_names d from (name_in o)) found.1
        ∙ (ap (if_found keeps) (named_is d known.named x.name found.0 found.1)
        ∙ ap keeps (sym (number_is d known.named x.name found.0 found.1)))

    abbrev told_at : Address → Row → RowTree
    told_at x row = record { address = instance d x; row = row }

    kept_each : (x : Address) (o : Option RowTree) (p : Option Row) → find_row (instance d x) rs ≡ o
        → kept_names d from (name_of d x.name) ≡ true → BothAlike plain (option_map (λ (r : RowTree). r.row) o) p
        → option_map (told_at x) (option_map (λ (r : RowTree). r.row) o) ≡ option_map mended (option_map (told_at x) p)
    kept_each x None p is k alike =
        ap (λ (q : Option Row). option_map mended (option_map (told_at x) q)) (sym (none_alike alike refl))
    kept_each x (Some r) p is k alike =
        let beside = some_alike alike r.row refl in
        let row : r.row ≡ record beside.0 { attempts = r.row.attempts } =
        ap (λ (s : Row). record s { attempts = r.row.attempts }) beside.2 in
        let mended_is : mended (told_at x beside.0) ≡ told_at x (record beside.0 { attempts = r.row.attempts }) =
        ap (λ (keep : Bool). if keep then attempts_of (find_row (instance d x) rs) (told_at x beside.0) else told_at x beside.0) k
        ∙ ap (λ (o : Option RowTree). attempts_of o (told_at x beside.0)) is in
        ap (λ (s : Row). Some (told_at x s)) row
        ∙ (ap (λ (s : RowTree). Some s) (sym mended_is)
        ∙ ap (λ (q : Option Row). option_map mended (option_map (told_at x) q)) (sym beside.1))

    left_each : (x : Address) (o : Option Row) → kept_names d from (name_of d x.name) ≡ false
        → option_map mended (option_map (told_at x) o) ≡ option_map (told_at x) o
    left_each x None new = refl
    left_each x (Some row) new =
        ap (λ (keep : Bool). Some (if keep then attempts_of (find_row (instance d x) rs) (told_at x row) else told_at x row)) new

    row_each : (x : Address) → row_at d (new_table rs stand) x ≡ option_map mended (row_at d fresh_table x)
    row_each x = elim (two (is_within (graph_of d) [] x)) [
      | inl w ↦
          let named_as = keeps_named x (and_in (has (graph_of d) x.name) true w).0 in
          elim (two (keeps x.name)) [
            | inl k ↦
                ap (option_map (told_at x)) (kept_are rs stand x w k)
                ∙ kept_each x (find_row (instance d x) rs) (fresh_table x) refl (named_as ∙ k)
                (subst (λ (o : Option Row). BothAlike plain (rows_by d rs x) o) (sym (old_are x w k)) (rows_alike d rs m.rows stand x))
            | inr new ↦
                ap (option_map (told_at x)) (anew_are x w new) ∙ sym (left_each x (fresh_table x) (named_as ∙ new))
          ]
      | inr out ↦
          ap (option_map (told_at x)) (outside_new x out)
          ∙ sym (ap (λ (o : Option Row). option_map mended (option_map (told_at x) o)) (outside_fresh x out))
    ]

    rows_same : rows_of d (new_table rs stand) ≡ map mended (rows_of d fresh_table)
    rows_same =
        flat_map_mapped mended
        (λ n. filter_map (row_at d (new_table rs stand)) (instances_at d (point_of_outputs d) (new_table rs stand) n))
        (λ n. filter_map (row_at d fresh_table) (instances_at d (point_of_outputs d) fresh_table n))
        (λ n. ap (filter_map (row_at d (new_table rs stand)))
        (instances_same d (point_of_outputs d) (new_table rs stand) fresh_table new_alike n)
        ∙ filter_map_mapped mended (row_at d (new_table rs stand)) (row_at d fresh_table) row_each
        (instances_at d (point_of_outputs d) fresh_table n))
        (upto (length (graph_names d.top)))

    abbrev fresh_run : Environment
    fresh_run = more d known e m i from rows_are start asked

    -- THE LAW
    pub stands : record_of_table d (resubmitted m i) (new_table rs stand)
        ≡ with_attempts (kept_names d from) rs (record_of_table d fresh_run fresh_table)
    stands =
        record_same d (resubmitted m i) fresh_run (turned d known e m i from rows_are start asked)
        (last_words d known e m i from rows_are start asked) (new_table rs stand)
        ∙ (λ k. let end : Ending = ending_alike d fresh_run (new_table rs stand) fresh_table new_alike k in
        record (record_of_table d fresh_run (new_table rs stand)) {
          status = end.status;
          error = end.error;
          response = response_alike d fresh_run (new_table rs stand) fresh_table new_alike k;
          outputs = end.outputs;
          rows = rows_same k;
        })

    -- ---- it stands for the fresh run's record again

    beside : {o p : Option RowTree} → FoundAlike o p → (row : Row) → option_map (λ (r : RowTree). r.row) p ≡ Some row
        → (r : RowTree) × (o ≡ Some r) × ((r.row.attempts ≡ row.attempts) ⊎ (r.row.attempts ≡ replicate (length row.attempts) Try.Unknown))
    beside none_found row is = absurd (none-some row is)
    beside (two_found {r = r} {q = q} (inl same)) row is =
        let here : q.row ≡ row = cc in
        (r, refl, inl (ap (λ (s : RowTree). s.row.attempts) same ∙ ap (λ (s : Row). s.attempts) here))
    beside (two_found {r = r} {q = q} (inr same)) row is =
        let here : q.row ≡ row = cc in (
          r,
          refl,
          inr (ap (λ (s : RowTree). s.row.attempts) same ∙ ap (λ (s : Row). replicate (length s.attempts) Try.Unknown) here),
        )

    stands_one : (x : Address) (row : Row) → fresh_table x ≡ Some row → has (graph_of d) x.name ≡ true
        → (mended (told_at x row) ≡ told_at x row) ⊎ (mended (told_at x row) ≡ untold_row (told_at x row))
    stands_one x row is there = elim (two (keeps x.name)) [
      | inr new ↦
          inl (ap (λ (keep : Bool). if keep then attempts_of (find_row (instance d x) rs) (told_at x row) else told_at x row)
          (keeps_named x there ∙ new))
      | inl k ↦
          let found = beside (found_alike (instance d x) rs m.rows stand) row (sym (old_are x (within x there) k) ∙ is) in
          let mended_is : mended (told_at x row) ≡ told_at x (record row { attempts = found.0.row.attempts }) =
          ap (λ (keep : Bool). if keep then attempts_of (find_row (instance d x) rs) (told_at x row) else told_at x row)
          (keeps_named x there ∙ k)
          ∙ ap (λ (o : Option RowTree). attempts_of o (told_at x row)) found.1 in
          elim found.2 [
            | inl same ↦ inl (mended_is ∙ ap (λ (tries : List Try). told_at x (record row { attempts = tries })) same)
            | inr same ↦ inr (mended_is ∙ ap (λ (tries : List Try). told_at x (record row { attempts = tries })) same)
          ]
    ]
      where
        within : (y : Address) → has (graph_of d) y.name ≡ true → is_within (graph_of d) [] y ≡ true
        within y h = ap (λ (b : Bool). b && true) h

    stands_all : (entries : List Entry)
        → ((entry : Entry) → Among entries entry → (fresh_table entry.0 ≡ Some entry.1) × (has (graph_of d) entry.0.name ≡ true))
        → RowsStandFor (map mended (map (told_as d) entries)) (map (told_as d) entries)
    stands_all [] all = tt
    stands_all (entry ∷ entries) all =
        let own = all entry (inl refl) in
        (stands_one entry.0 entry.1 own.0 own.1, stands_all entries (λ other among. all other (inr among)))

    -- THE LAW
    pub stands_again : StandsFor (with_attempts (kept_names d from) rs (record_of_table d fresh_run fresh_table))
        (record_of_table d fresh_run fresh_table)
    stands_again =
        let listed = known.listed fresh_table (known.whole fresh_run) in record {
          rows = subst (λ (qs : List RowTree). RowsStandFor (map mended qs) qs) (sym listed.told)
              (stands_all listed.entries
              (λ entry among.
              let is = listed.all.each entry among in (is, ((known.whole fresh_run).instances entry.0 entry.1 is).0)));
          all_else = refl;
        }
