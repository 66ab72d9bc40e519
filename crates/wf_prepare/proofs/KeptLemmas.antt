-- The rows of a record that fails nowhere fit their actions, stand at instances in iterations that the rows of loops tell, and give the
-- variables that they write.
use Rattle.std.proofs.Common.{◌≡◌, ℕ, ◌<◌, Bool, true, false, not, ◌||◌, List, [], ◌∷◌, map, Option, Some, None, option_map, inl, inr}
use Rattle.std.proofs.Common.{refl, sym, ap, ◌∙◌, subst, true≢false}
use Rattle.std.specs.Prelude.{bytes_eq}
use Rattle.std.specs.List.{list_any}
use Rattle.std.proofs.lemmas.Option.{none-some}
use Rattle.wf_layers.specs.Address.{Address, Table, address}
use Rattle.wf_layers.specs.Definition.{Kind, has}
use Rattle.wf_layers.proofs.Basics.{and_in, and_of, either}
use Rattle.wf_val.specs.ValueTree.{ValueTree}
use Rattle.wf_def.specs.ActionTree.{ActionTree, InitialTree, KindTree, action_kind, append_array, append_string, branch, compose}
use Rattle.wf_def.specs.ActionTree.{connector, decrement, foreach, increment, initialize, join, parse_json, query, response, scope}
use Rattle.wf_def.specs.ActionTree.{select, set_to, switch, switch_else, terminate, until, wait}
use Rattle.wf_def.specs.AllActions.{numbered}
use Rattle.wf_def.specs.DefTree.{DefTree}
use Rattle.wf_def.specs.Layered.{layered_kind}
use Rattle.wf_def.specs.declared.sort.Sort.{Sort}
use Rattle.wf_shaped.specs.Sites.{writes_of}
use Rattle.wf_record.specs.Record.{Row, RowTree}
use Rattle.wf_record.specs.declared.status.Status.{Status}
use Rattle.wf_shaped.specs.Given.{gives}
use Rattle.wf_shaped.specs.VariablesRows.{GivesOne}
use Rattle.wf_loops.specs.Loops.{loops_of}
use Rattle.wf_shape.specs.Standing.{called, fails, fails_as}
use Rattle.wf_ways.proofs.StandLemmas.{stands_along}
use Rattle.wf_shaped.specs.Says.{fits_kind, is_skipped, says, succeeded, succeeds, tells_initials, tells_one}
use Rattle.wf_shaped.specs.Points.{action_named, graph_of}
use Rattle.wf_shaped.specs.Resubmitted.{rows_by}
use Rattle.wf_shaped.specs.Rows.{iterations_of, turns_at, turns_said}
use Rattle.wf_shaped.specs.Variables.{given_as}
use Rattle.wf_meant_laws.specs.Answered.{GiveWhatTheyWrite}
use Rattle.wf_meant_laws.specs.Tables.{AreWhole}
use Rattle.wf_meant_laws.specs.Writers.{writes_if}
use Rattle.wf_meant_laws.proofs.WholeLemmas.{round_of}
use Rattle.wf_shaped.specs.Reading.{reading}
use Rattle.wf_shaped.specs.Fits.{fits_as, fits_in}
use Rattle.wf_shaped.specs.Sorts.{sort_at}
use Rattle.wf_shaped.specs.Failing.{IsLeastFailing}
use Rattle.wf_shaped.proofs.ExactLemmas.{AreKnown}
use Rattle.wf_prepare.specs.Old.{EachRowFits}
use Rattle.wf_prepare.proofs.FailingLemmas.{no_number_fails, same_some}
use Rattle.wf_prepare.proofs.TellLemmas.{AllOf, GivesOf, IsFound, TellsOne, all_give, initials_given, one_given, one_gives, same_name}
use Rattle.wf_prepare.proofs.WholeLemmas.{AreWholeAt, HasTurn, counts, rows_there, whole_rows}

-- ---- a loop tells its iterations as its row is read

count_said : (d : DefTree) (kind : KindTree) (row : Row) (turn : ℕ) → turn < counts (reading d) (layered_kind kind) row
    → turn < turns_said kind row
count_said d (compose inputs) row turn lt = lt
count_said d (connector inputs policy) row turn lt = lt
count_said d (wait inputs) row turn lt = lt
count_said d (response inputs) row turn lt = lt
count_said d (terminate inputs) row turn lt = lt
count_said d (select from item) row turn lt = lt
count_said d (query from filter) row turn lt = lt
count_said d (join from with') row turn lt = lt
count_said d (parse_json content schema) row turn lt = lt
count_said d (initialize variables) row turn lt = lt
count_said d (set_to name value) row turn lt = lt
count_said d (increment name value) row turn lt = lt
count_said d (decrement name value) row turn lt = lt
count_said d (append_array name value) row turn lt = lt
count_said d (append_string name value) row turn lt = lt
count_said d (scope graph) row turn lt = lt
count_said d (branch test yes' no') row turn lt = lt
count_said d (switch on cases) row turn lt = lt
count_said d (switch_else on cases default) row turn lt = lt
count_said d (foreach items repetitions graph) row turn lt = lt
count_said d (until test count fails graph) row turn lt = lt

-- ---- what fits may be said

said_by_fit : (sort : Option Sort) (kind : KindTree) (skipped : Bool) (row : Row) → fits_kind sort kind skipped row ≡ true
    → says sort kind row ≡ true
said_by_fit sort kind skipped row fits = (and_in (not skipped || is_skipped row) (says sort kind row) fits).1

fit_by_said : (sort : Option Sort) (kind : KindTree) (skipped : Bool) (row : Row) → (skipped ≡ true → is_skipped row ≡ true)
    → says sort kind row ≡ true → fits_kind sort kind skipped row ≡ true
fit_by_said sort kind true row is said = and_of (is_skipped row) (says sort kind row) (is refl) said
fit_by_said sort kind false row is said = said

abbrev pub says_as : Option Sort → Option ActionTree → Row → Bool
says_as sort None row = false
says_as sort (Some a) row = says sort (action_kind a) row

-- whether a row may say what it says, by the number of its action
abbrev pub says_in : DefTree → ℕ → Row → Bool
says_in d n row = says_as (sort_at d n) (numbered n d.top) row

said_in : (sort : Option Sort) (o : Option ActionTree) (skipped : Bool) (row : Row) → fits_as sort o skipped row ≡ true
    → says_as sort o row ≡ true
said_in sort None skipped row fits = fits
said_in sort (Some a) skipped row fits = said_by_fit sort (action_kind a) skipped row fits

fits_if_said : (sort : Option Sort) (o : Option ActionTree) (skipped : Bool) (row : Row) → (skipped ≡ true → is_skipped row ≡ true)
    → says_as sort o row ≡ true → fits_as sort o skipped row ≡ true
fits_if_said sort None skipped row is said = said
fits_if_said sort (Some a) skipped row is said = fit_by_said sort (action_kind a) skipped row is said

pub fit_where_said : (d : DefTree) (rows : Table Row) → ((y : Address) (row : Row) → rows y ≡ Some row → says_in d y.name row ≡ true)
    → EachRowFits d rows
fit_where_said d rows said = λ y row skipped there is.
    fits_if_said (sort_at d y.name) (numbered y.name d.top) skipped row is (said y row there)

-- ---- a row that says what it may gives what its action writes

abbrev Any : ValueTree → Type 0
Any v = Unit {0}

not_none : (k : List ℕ) (outputs : ValueTree) → GivesOf k Any outputs → gives k outputs ≡ None → ⊥
not_none k outputs of none = none-some of.value (sym none ∙ of.given)

said_or : (b : Bool) (row : Row) → succeeded row ≡ true → (not (succeeded row) || b) ≡ true → b ≡ true
said_or b row ran said = ap (λ (c : Bool). not c || b) (sym ran) ∙ said

module _ (found : IsFound) where
  of_any : (k : List ℕ) (is : List InitialTree) → AllOf found k Any is
  of_any k [] = tt
  of_any k (i ∷ is) = ((λ same v typed. tt), of_any k is)

  one_of : (k n : List ℕ) (sort : Option Sort) (outputs : ValueTree) → list_any (bytes_eq k) (n ∷ []) ≡ true
      → tells_one n sort outputs ≡ true → GivesOf k Any outputs
  one_of k n sort outputs among told = elim (either (bytes_eq k n) false among) [
    | inl same ↦
        let one : TellsOne n sort outputs = one_given n sort outputs told in
        one_gives found k Any one.type' outputs (λ v typed. tt)
        (subst (λ (m : List ℕ). GivesOne m one.type' outputs) (sym (same_name k n same)) one.given)
    | inr other ↦ absurd (true≢false (sym other))
  ]

  initials_of : (k : List ℕ) (is : List InitialTree) (outputs : ValueTree) → list_any (bytes_eq k) (map (λ i. i.name) is) ≡ true
      → tells_initials is outputs ≡ true → GivesOf k Any outputs
  initials_of k [] outputs among told = absurd (true≢false (sym among))
  initials_of k (i ∷ is) outputs among told =
      all_give found k Any (i ∷ is) outputs (of_any k (i ∷ is)) (initials_given i is outputs told) among

  kind_gives : (k : List ℕ) (sort : Option Sort) (kind : KindTree) (row : Row) → list_any (bytes_eq k) (writes_of kind) ≡ true
      → succeeded row ≡ true → says sort kind row ≡ true → GivesOf k Any row.outputs
  kind_gives k sort (initialize variables) row among ran said =
      initials_of k variables row.outputs among (said_or (tells_initials variables row.outputs) row ran said)
  kind_gives k sort (set_to name value) row among ran said =
      one_of k name sort row.outputs among (said_or (tells_one name sort row.outputs) row ran said)
  kind_gives k sort (increment name value) row among ran said =
      one_of k name sort row.outputs among (said_or (tells_one name sort row.outputs) row ran said)
  kind_gives k sort (decrement name value) row among ran said =
      one_of k name sort row.outputs among (said_or (tells_one name sort row.outputs) row ran said)
  kind_gives k sort (append_array name value) row among ran said =
      one_of k name sort row.outputs among (said_or (tells_one name sort row.outputs) row ran said)
  kind_gives k sort (append_string name value) row among ran said =
      one_of k name sort row.outputs among (said_or (tells_one name sort row.outputs) row ran said)
  kind_gives k sort kind row among ran said = absurd (true≢false (sym among))

  action_gives : (k : List ℕ) (sort : Option Sort) (o : Option ActionTree) (row : Row) → writes_if k o ≡ true → succeeded row ≡ true
      → says_as sort o row ≡ true → GivesOf k Any row.outputs
  action_gives k sort None row among ran said = absurd (true≢false (sym among))
  action_gives k sort (Some a) row among ran said = kind_gives k sort (action_kind a) row among ran said

  pub gives_where_said : (d : DefTree) (rows : Table Row)
      → ((y : Address) (row : Row) → rows y ≡ Some row → says_in d y.name row ≡ true) → GiveWhatTheyWrite d rows
  gives_where_said d rows said = λ k y row there writer ran none.
      not_none k row.outputs
      (action_gives k (sort_at d y.name) (numbered y.name d.top) row writer (ap succeeds ran) (said y row there))
      (ap (λ (s : Status). given_as k s row.outputs) (sym ran) ∙ none)

-- ---- of a record that fails nowhere

module _ (d : DefTree) (known : AreKnown d) (unnamed : action_named d [] ≡ None) (rows : List RowTree)
    (none : IsLeastFailing d rows None) where
  abbrev t : Table Row
  t = rows_by d rows

  abbrev Whole : Address → Type 0
  Whole y = AreWholeAt (reading d) is_skipped (fits_in d) t (graph_of d) (no_number_fails d known unnamed rows none) y.name
      (loops_of (graph_of d) y.name) [] y.at

  there : (y : Address) (row : Row) → t y ≡ Some row → has (graph_of d) y.name ≡ true
  there y row is =
      rows_there (reading d) is_skipped (fits_in d) t (graph_of d) (no_number_fails d known unnamed rows none)
      (λ x i rest skipped out. (stands_along (reading d) is_skipped (fits_in d) t (graph_of d) x skipped i rest).1 out) y row is

  whole_at : (y : Address) (row : Row) → t y ≡ Some row → Whole y
  whole_at y row is =
      whole_rows (reading d) is_skipped (fits_in d) t (graph_of d) (no_number_fails d known unnamed rows none) known.once y row
      (there y row is) is

  -- each says what it may
  pub each_says : (y : Address) (row : Row) → t y ≡ Some row → says_in d y.name row ≡ true
  each_says y row is =
      let called_as = (whole_at y row is).is_called in
      said_in (sort_at d y.name) (numbered y.name d.top) called_as.0 row
      (not_not (fits_in d y.name called_as.0 row)
      (ap (λ (o : Option Row). fails_as (reading d) is_skipped (fits_in d) t y.name (called called_as.0) o) (sym is)
      ∙ (ap (λ s. fails_as (reading d) is_skipped (fits_in d) t y.name s (t y)) (sym called_as.1)
      ∙ no_number_fails d known unnamed rows none y)))
    where
      not_not : (b : Bool) → not b ≡ false → b ≡ true
      not_not true e = refl
      not_not false e = absurd (true≢false e)

  -- the row of a loop tells of the iteration
  turn_told : (l : ℕ) (at : List ℕ) (turn : ℕ)
      → HasTurn (reading d) is_skipped (fits_in d) t (graph_of d) (no_number_fails d known unnamed rows none) l at turn
      → turn < turns_at d t l at
  turn_told l at turn has_turn = at_action (numbered l d.top) refl
    where
      at_action : (o : Option ActionTree) → numbered l d.top ≡ o → turn < iterations_of (numbered l d.top) (t (address l at))
      at_action None is =
          absurd (none-some has_turn.kind
          (ap (option_map (λ (a : ActionTree). layered_kind (action_kind a))) (sym is) ∙ (sym (known.kinds l) ∙ has_turn.of_kind)))
      at_action (Some a) is =
          let kind : layered_kind (action_kind a) ≡ has_turn.kind =
          same_some (layered_kind (action_kind a)) has_turn.kind
          (ap (option_map (λ (b : ActionTree). layered_kind (action_kind b))) (sym is) ∙ (sym (known.kinds l) ∙ has_turn.of_kind)) in
          subst (λ (p : Option ActionTree). turn < iterations_of p (t (address l at))) (sym is)
          (subst (λ (q : Option Row). turn < iterations_of (Some a) q) (sym has_turn.there)
          (count_said d (action_kind a) has_turn.row turn
          (subst (λ (k : Kind). turn < counts (reading d) k has_turn.row) (sym kind) has_turn.below)))

  pub whole_kept : AreWhole d t
  whole_kept = record {
    instances = λ y row is. (there y row is, round_of (graph_of d) y.name ∙ sym (whole_at y row is).count);
    loops = λ y row is l outer at turn of.
        turn_told l at turn ((whole_at y row is).turns outer of.inner l at of.behind turn of.loops of.indexes of.each_loop);
  }
