-- The rows of actions on variables that a definition means tell what they may: a variable has the type that it was initialised with,
-- wherever it is looked up.
use Rattle.std.proofs.Common.{◌≡◌, ℕ, Bool, true, false, ◌||◌, not, cond, List, [], ◌∷◌, map, Option, Some, None, Result, Ok, Err, inl}
use Rattle.std.proofs.Common.{inr, refl, sym, ap, ◌∙◌, subst, true≢false}
use Rattle.std.specs.Prelude.{bytes_eq, filter, filter_map, if◌then◌else◌, option_map}
use Rattle.std.specs.List.{AllByRecursion, list_any}
use Rattle.std.specs.Option.{option_and_then}
use Rattle.std.proofs.lemmas.Option.{none-some}
use Rattle.wf_layers.specs.Address.{Address, Table, address}
use Rattle.wf_layers.specs.Definition.{Kind, Leaf, kind_of}
use Rattle.wf_layers.specs.Source.{leaf}
use Rattle.wf_layers.proofs.Basics.{either}
use Rattle.wf_val.specs.Arguments.{Answer, given}
use Rattle.wf_val.specs.ValueTree.{ValueTree}
use Rattle.wf_val.specs.declared.address.Address as named
use Rattle.wf_val.specs.declared.fault.EvalFault.{EvalFault}
use Rattle.wf_answers.specs.AnswerTree.{AnswerTree}
use Rattle.wf_look.specs.Looked.{or_no_value}
use Rattle.wf_look.specs.Outcomes.{Outcome}
use Rattle.wf_look.specs.Told.{Told}
use Rattle.wf_def.specs.ActionTree.{ActionTree, action_kind, action_name, action_number, InitialTree, KindTree, append_array}
use Rattle.wf_def.specs.ActionTree.{append_string, decrement, increment, initialize, set_to}
use Rattle.wf_def.specs.AllActions.{all_actions, numbered}
use Rattle.wf_def.specs.DefTree.{DefTree}
use Rattle.wf_def.specs.Layered.{layered_kind}
use Rattle.wf_def.specs.Sorts.{has_sort}
use Rattle.wf_def.specs.declared.sort.Sort.{Sort}
use Rattle.wf_shaped.specs.Sites.{writes_of}
use Rattle.wf_shaped.specs.Made.{MadeTree}
use Rattle.wf_shaped.specs.Given.{gives}
use Rattle.wf_shaped.specs.Initials.{made_initialize}
use Rattle.wf_shaped.specs.VariablesRows.{GivesAll, GivesOne, KeepsType}
use Rattle.wf_shaped.specs.Writing as writing
use Rattle.wf_shaped.specs.Writing.{Change, amount, changed}
use Rattle.wf_shaped.specs.TreeValue.{tree_value}
use Rattle.wf_loops.specs.Loops.{loops_of}
use Rattle.wf_shaped.specs.Done.{DoneTree, faulted, succeeded}
use Rattle.wf_shaped.specs.Leaf.{begun_from, done_of, ended, made_by}
use Rattle.wf_record.specs.Record.{Row}
use Rattle.wf_record.specs.declared.attempt.Try.{Try}
use Rattle.wf_record.specs.declared.status.Status.{Status}
use Rattle.wf_shaped.specs.Environment.{Environment, facts_of}
use Rattle.wf_shaped.specs.Says as saying
use Rattle.wf_shaped.specs.Says.{says, tells_initials, tells_one}
use Rattle.wf_shaped.specs.Look.{instance, told_at}
use Rattle.wf_shaped.specs.Points.{Point, graph_of, point_of, sees}
use Rattle.wf_shaped.specs.Rows.{row_of, skipped}
use Rattle.wf_shaped.specs.Source.{begun, finished, source}
use Rattle.wf_shaped.specs.Variables.{Written, given_as, given_by, indexes_from, instances_at, last_from, later_of, seen_by, variable_at}
use Rattle.wf_shaped.specs.Variables.{writes, written_at, written_before}
use Rattle.wf_meant_laws.proofs.ListLemmas.{all_flat, all_given, all_kept, all_mapped}
use Rattle.wf_shaped.specs.Sorts.{changes, initials_of, sort_at, sort_of}
use Rattle.wf_shaped.proofs.ListLemmas.{In}
use Rattle.wf_prepare.proofs.FailingLemmas.{all_in, same_some}
use Rattle.wf_prepare.proofs.HoldLemmas.{Keeps}
use Rattle.wf_prepare.proofs.TellLemmas.{AllOf, GivesOf, IsFound, TellsOne, all_give, initials_given, initials_told, one_given, one_gives}
use Rattle.wf_prepare.proofs.TellLemmas.{one_told, same_name}

-- ---- what is shown of a row: where its action writes variables, it tells what it may

abbrev pub says_written : Option Sort → KindTree → Row → Bool
says_written sort (initialize variables) r = says sort (initialize variables) r
says_written sort (set_to name value) r = says sort (set_to name value) r
says_written sort (increment name value) r = says sort (increment name value) r
says_written sort (decrement name value) r = says sort (decrement name value) r
says_written sort (append_array name value) r = says sort (append_array name value) r
says_written sort (append_string name value) r = says sort (append_string name value) r
says_written sort kind r = true

abbrev pub written_as : Option Sort → Option ActionTree → Row → Bool
written_as sort None r = true
written_as sort (Some a) r = says_written sort (action_kind a) r

abbrev pub is_written : DefTree → Address → Row → Bool
is_written d x r = written_as (sort_at d x.name) (numbered x.name d.top) r

-- ---- a value of the variable's type

pub record IsTyped (d : DefTree) (k : List ℕ) (v : ValueTree) : Type 0 where
  pub sort : Sort
  pub typed : sort_of d k ≡ Some sort
  pub has : has_sort sort v ≡ true

-- what was written there
record Gave (k : List ℕ) (o : Option Row) (w : Written) : Type 0 where
  row : Row
  there : o ≡ Some row
  gives : given_by k row ≡ Some w.value

abbrev written_of : Address → ValueTree → Written
written_of x value = record { at = x; value = value }

gave_value : (k : List ℕ) (x : Address) (row : Row) (o : Option ValueTree) (w : Written) → given_by k row ≡ o
    → option_map (written_of x) o ≡ Some w → Gave k (Some row) w
gave_value k x row None w is e = absurd (none-some w e)
gave_value k x row (Some value) w is e = record {
  row = row;
  there = refl;
  gives = is ∙ ap (λ (q : Written). Some q.value) (same_some (written_of x value) w e);
}

gave : (k : List ℕ) (x : Address) (o : Option Row) (w : Written) → option_map (written_of x) (option_and_then (given_by k) o) ≡ Some w
    → Gave k o w
gave k x None w e = absurd (none-some w e)
gave k x (Some row) w e = gave_value k x row (given_by k row) w refl e

cut_there : {A : Type 0} (b : Bool) (o : Option A) (r : A) → cond b o None ≡ Some r → o ≡ Some r
cut_there true o r e = e
cut_there false o r e = absurd (none-some r e)

-- only what Succeeded gives
record Succeeded (k : List ℕ) (s : Status) (outputs value : ValueTree) : Type 0 where
  status : s ≡ Status.Succeeded
  gives : gives k outputs ≡ Some value

succeeded_gives : (k : List ℕ) (s : Status) (outputs value : ValueTree) → given_as k s outputs ≡ Some value → Succeeded k s outputs value
succeeded_gives k Status.Succeeded outputs value e = record { status = refl; gives = e }
succeeded_gives k Status.Failed outputs value e = absurd (none-some value e)
succeeded_gives k Status.Skipped outputs value e = absurd (none-some value e)
succeeded_gives k Status.TimedOut outputs value e = absurd (none-some value e)
succeeded_gives k Status.Cancelled outputs value e = absurd (none-some value e)

said_or : (s : Status) (b : Bool) → s ≡ Status.Succeeded → (not (saying.succeeds s) || b) ≡ true → b ≡ true
said_or s b is said = ap (λ (q : Status). not (saying.succeeds q) || b) (sym is) ∙ said

module _ (d : DefTree) (found : IsFound)
    (sorts : (a : ActionTree) (i : InitialTree) → In a (all_actions d.top) → In i (initials_of (action_kind a)) → (k : List ℕ)
    → bytes_eq k i.name ≡ true → sort_of d k ≡ Some i.sort) where
  abbrev Typed : List ℕ → ValueTree → Type 0
  Typed k v = IsTyped d k v

  -- ---- what a row that tells what it may gives, is typed

  all_typed : (k : List ℕ) (is : List InitialTree) → ((i : InitialTree) → In i is → bytes_eq k i.name ≡ true → sort_of d k ≡ Some i.sort)
      → AllOf found k (Typed k) is
  all_typed k [] of = tt
  all_typed k (i ∷ is) of = (
    λ same v has. record { sort = i.sort; typed = of i (inl refl) same; has = has },
    all_typed k is (λ j h same. of j (inr h) same),
  )

  one_typed : (k n : List ℕ) (sort : Option Sort) (outputs : ValueTree) → sort ≡ sort_of d n → list_any (bytes_eq k) (n ∷ []) ≡ true
      → tells_one n sort outputs ≡ true → GivesOf k (Typed k) outputs
  one_typed k n sort outputs of among told = elim (either (bytes_eq k n) false among) [
    | inl same ↦
        let one : TellsOne n sort outputs = one_given n sort outputs told in
        let name : k ≡ n = same_name k n same in
        one_gives found k (Typed k) one.type' outputs
        (λ v has. record { sort = one.type'; typed = ap (sort_of d) name ∙ (sym of ∙ one.typed); has = has })
        (subst (λ (m : List ℕ). GivesOne m one.type' outputs) (sym name) one.given)
    | inr other ↦ absurd (true≢false (sym other))
  ]

  initials_typed : (k : List ℕ) (is : List InitialTree) (outputs : ValueTree)
      → ((i : InitialTree) → In i is → bytes_eq k i.name ≡ true → sort_of d k ≡ Some i.sort)
      → list_any (bytes_eq k) (map (λ i. i.name) is) ≡ true → tells_initials is outputs ≡ true → GivesOf k (Typed k) outputs
  initials_typed k [] outputs of among told = absurd (true≢false (sym among))
  initials_typed k (i ∷ is) outputs of among told =
      all_give found k (Typed k) (i ∷ is) outputs (all_typed k (i ∷ is) of) (initials_given i is outputs told) among

  -- the type that a row is judged by is that of the variable that its action changes
  abbrev SortIs : Option Sort → KindTree → Type 0
  SortIs sort kind = sort ≡ option_and_then (sort_of d) (changes kind)

  kind_typed : (k : List ℕ) (sort : Option Sort) (kind : KindTree) (row : Row)
      → ((i : InitialTree) → In i (initials_of kind) → bytes_eq k i.name ≡ true → sort_of d k ≡ Some i.sort)
      → SortIs sort kind → list_any (bytes_eq k) (writes_of kind) ≡ true
      → row.status ≡ Status.Succeeded → says_written sort kind row ≡ true → GivesOf k (Typed k) row.outputs
  kind_typed k sort (initialize variables) row of is among ran said =
      initials_typed k variables row.outputs of among (said_or row.status (tells_initials variables row.outputs) ran said)
  kind_typed k sort (set_to name value) row of is among ran said =
      one_typed k name sort row.outputs is among (said_or row.status (tells_one name sort row.outputs) ran said)
  kind_typed k sort (increment name value) row of is among ran said =
      one_typed k name sort row.outputs is among (said_or row.status (tells_one name sort row.outputs) ran said)
  kind_typed k sort (decrement name value) row of is among ran said =
      one_typed k name sort row.outputs is among (said_or row.status (tells_one name sort row.outputs) ran said)
  kind_typed k sort (append_array name value) row of is among ran said =
      one_typed k name sort row.outputs is among (said_or row.status (tells_one name sort row.outputs) ran said)
  kind_typed k sort (append_string name value) row of is among ran said =
      one_typed k name sort row.outputs is among (said_or row.status (tells_one name sort row.outputs) ran said)
  kind_typed k sort kind row of is among ran said = absurd (true≢false (sym among))

  -- ---- so a variable that is looked up is typed

  module _ (numbers : AllByRecursion (λ a. numbered (action_number a) d.top ≡ Some a) (all_actions d.top)) (rows : Table Row)
      (all_said : (y : Address) (row : Row) → rows y ≡ Some row → is_written d y row ≡ true) where
    abbrev Fine : List ℕ → Written → Type 0
    Fine k w = Typed k w.value

    pub sort_is : (n : ℕ) (a : ActionTree) → numbered n d.top ≡ Some a → SortIs (sort_at d n) (action_kind a)
    sort_is n a is = ap (λ (o : Option ActionTree). changed_sort o) is
      where
        changed_sort : Option ActionTree → Option Sort
        changed_sort None = None
        changed_sort (Some b) = option_and_then (sort_of d) (changes (action_kind b))

    of_row : (k : List ℕ) (a : ActionTree) → In a (all_actions d.top) → writes k a ≡ true → (x : Address)
        → numbered x.name d.top ≡ Some a → (row : Row) → rows x ≡ Some row → (value : ValueTree) → given_by k row ≡ Some value
        → Typed k value
    of_row k a one wr x is row there value given =
        let ran : Succeeded k row.status row.outputs value = succeeded_gives k row.status row.outputs value given in
        let said : says_written (sort_at d x.name) (action_kind a) row ≡ true =
        ap (λ (o : Option ActionTree). written_as (sort_at d x.name) o row) (sym is) ∙ all_said x row there in
        let of : GivesOf k (Typed k) row.outputs =
        kind_typed k (sort_at d x.name) (action_kind a) row (λ i h same. sorts a i one h k same) (sort_is x.name a is) wr ran.status
        said in
        subst (Typed k) (same_some of.value value (sym of.given ∙ ran.gives)) of.typed

    fine_one : (p : Point) (k : List ℕ) (a : ActionTree) → In a (all_actions d.top) → numbered (action_number a) d.top ≡ Some a
        → writes k a ≡ true → (x : Address) (w : Written) → x.name ≡ action_number a → written_at k (seen_by p rows) x ≡ Some w → Fine k w
    fine_one p k a one is wr x w name at =
        let g : Gave k (seen_by p rows x) w = gave k x (seen_by p rows x) w at in
        of_row k a one wr x (ap (λ (n : ℕ). numbered n d.top) name ∙ is) g.row (cut_there (sees p x) (rows x) g.row g.there) w.value g.gives

    -- an action of the definition, with its number
    abbrev Known : ActionTree → Type 0
    Known a = In a (all_actions d.top) × (numbered (action_number a) d.top ≡ Some a)

    all_known : (as' : List ActionTree) → ((a : ActionTree) → In a as' → In a (all_actions d.top)) → AllByRecursion Known as'
    all_known [] within = tt
    all_known (a ∷ as') within = (
      (
        within a (inl refl),
        all_in (λ (b : ActionTree). numbered (action_number b) d.top ≡ Some b) a (all_actions d.top) numbers (within a (inl refl)),
      ),
      all_known as' (λ b h. within b (inr h)),
    )

    all_fine : (p : Point) (k : List ℕ) → AllByRecursion (Fine k) (written_before d p rows k)
    all_fine p k =
        all_flat (Fine k) (λ (a : ActionTree). filter_map (written_at k (seen_by p rows)) (instances_at d p rows (action_number a)))
        (filter (writes k) (all_actions d.top))
        (all_kept Known
        (λ (a : ActionTree). AllByRecursion (Fine k) (filter_map (written_at k (seen_by p rows)) (instances_at d p rows (action_number a))))
        (writes k) (all_actions d.top)
        (λ a one wr. all_given (λ (x : Address). x.name ≡ action_number a) (Fine k) (written_at k (seen_by p rows))
        (instances_at d p rows (action_number a)) (λ x w name at. fine_one p k a one.0 one.1 wr x w name at)
        (all_mapped (λ (x : Address). x.name ≡ action_number a) (address (action_number a))
        (indexes_from d (seen_by p rows) (loops_of (graph_of d) (action_number a)) [] p.loops p.at) (λ at. refl)))
        (all_known (all_actions d.top) (λ a h. h)))

    abbrev FineIf : List ℕ → Option Written → Type 0
    FineIf k None = Unit {0}
    FineIf k (Some w) = Fine k w

    later_fine : (k : List ℕ) (best : Option Written) (w : Written) → FineIf k best → Fine k w → FineIf k (later_of d best w)
    later_fine k None w one other = other
    later_fine k (Some b) w one other = pick (sees (point_of d w.at) b.at)
      where
        pick : (q : Bool) → FineIf k (if q then Some w else Some b)
        pick true = other
        pick false = one

    last_fine : (k : List ℕ) (ws : List Written) (best : Option Written) → FineIf k best → AllByRecursion (Fine k) ws
        → FineIf k (last_from d best ws)
    last_fine k [] best one all = one
    last_fine k (w ∷ ws) best one all = last_fine k ws (later_of d best w) (later_fine k best w one all.0) all.1

    value_of : (k : List ℕ) (o : Option Written) (v : ValueTree) → FineIf k o → option_map (λ w. w.value) o ≡ Some v → Typed k v
    value_of k None v fine e = absurd (none-some v e)
    value_of k (Some w) v fine e = subst (Typed k) (same_some w.value v e) fine

    pub variable_typed : (p : Point) (k : List ℕ) (v : ValueTree) → variable_at d p rows k ≡ Some v → Typed k v
    variable_typed p k v e =
        value_of k (last_from d None (written_before d p rows k)) v
        (last_fine k (written_before d p rows k) None tt (all_fine p k)) e

-- ---- and a leaf that writes tells what it may

pub record KeepTypes : Type 0 where
  pub all : (l : Told) (is : List InitialTree) (n : ℕ) (m : MadeTree) → (made_initialize l is n).0 ≡ Ok m → GivesAll is m.outputs
  pub set : KeepsType writing.set_to
  pub increment : KeepsType writing.incremented
  pub decrement : KeepsType writing.decremented
  pub item : KeepsType writing.with_item
  pub text : KeepsType writing.with_text

module _ (d : DefTree) (keep : KeepTypes) where
  -- the variables that are looked up have their types
  abbrev TypedIn : Told → Type 0
  TypedIn l = (k : List ℕ) (v : ValueTree) → l.variable k ≡ Some v → IsTyped d k v

  -- a change has a value to change
  change_made : (l : Told) (change : Change) → KeepsType change → TypedIn l → (k : List ℕ) (o : Outcome) (m : MadeTree)
      → (changed l change k o).0 ≡ Ok m → tells_one k (sort_of d k) m.outputs ≡ true
  change_made l change keeps typed k o m is = at (l.variable k) refl
    where
      none_made : (a : Answer) → given a (λ v. given (or_no_value k None) (λ u. change k u v)) ≡ Ok m → ⊥
      none_made (Ok v) e = cc
      none_made (Err f) e = cc

      at : (p : Option ValueTree) → l.variable k ≡ p → tells_one k (sort_of d k) m.outputs ≡ true
      at None none =
          absurd (none_made o.0
          (ap (λ (q : Option ValueTree). given o.0 (λ v. given (or_no_value k q) (λ u. change k u v))) (sym none) ∙ is))
      at (Some u) some =
          let of : IsTyped d k u = typed k u some in
          subst (λ (s : Option Sort). tells_one k s m.outputs ≡ true) (sym of.typed)
          (one_told k of.sort m.outputs (keeps l k of.sort u o m some of.has is))

  -- of what it made, or of its fault
  done_says : (kind : KindTree) (test : ValueTree → Bool) (r : Result MadeTree EvalFault)
      → ((m : MadeTree) → done_of kind (Ok m) ≡ succeeded m)
      → ((f : EvalFault) → done_of kind (Err f) ≡ faulted f) → ((m : MadeTree) → r ≡ Ok m → test m.outputs ≡ true)
      → (not (saying.succeeds (done_of kind r).status) || test (done_of kind r).outputs) ≡ true
  done_says kind test (Ok m) fine faulty made =
      subst (λ (q : DoneTree). (not (saying.succeeds q.status) || test q.outputs) ≡ true) (sym (fine m)) (made m refl)
  done_says kind test (Err f) fine faulty made =
      subst (λ (q : DoneTree). (not (saying.succeeds q.status) || test q.outputs) ≡ true) (sym (faulty f)) refl

  change_says : (l : Told) (change : Change) → KeepsType change → TypedIn l → (kind : KindTree) (k : List ℕ) (sort : Option Sort)
      → (o : Outcome)
      → sort ≡ sort_of d k → ((m : MadeTree) → done_of kind (Ok m) ≡ succeeded m) → ((f : EvalFault) → done_of kind (Err f) ≡ faulted f)
      → (not (saying.succeeds (done_of kind (changed l change k o).0).status)
      || tells_one k sort (done_of kind (changed l change k o).0).outputs) ≡ true
  change_says l change keeps typed kind k sort o of fine faulty =
      done_says kind (tells_one k sort) (changed l change k o).0 fine faulty
      (λ m e. ap (λ (s : Option Sort). tells_one k s m.outputs) of ∙ change_made l change keeps typed k o m e)

  abbrev row_with : DoneTree → ValueTree → List Try → Row
  row_with result tracked attempts = row_of result tracked attempts

  leaf_says : (l : Told) (kind : KindTree) (sort : Option Sort) (answers : List AnswerTree) (x : named.Address) (tracked : ValueTree)
      (attempts : List Try) → TypedIn l → sort ≡ option_and_then (sort_of d) (changes kind)
      → says_written sort kind (row_with (ended answers x (begun_from l kind 0)) tracked attempts) ≡ true
  leaf_says l (initialize is) sort answers x tracked attempts typed of =
      done_says (initialize is) (tells_initials is) (made_by l (initialize is) 0).0 (λ m. refl) (λ f. refl)
      (λ m e. initials_told is m.outputs (keep.all l is 0 m e))
  leaf_says l (set_to n t) sort answers x tracked attempts typed of =
      change_says l writing.set_to keep.set typed (set_to n t) n sort (tree_value l t 0) of (λ m. refl) (λ f. refl)
  leaf_says l (increment n t) sort answers x tracked attempts typed of =
      change_says l writing.incremented keep.increment typed (increment n t) n sort (amount l t 0) of (λ m. refl) (λ f. refl)
  leaf_says l (decrement n t) sort answers x tracked attempts typed of =
      change_says l writing.decremented keep.decrement typed (decrement n t) n sort (amount l t 0) of (λ m. refl) (λ f. refl)
  leaf_says l (append_array n t) sort answers x tracked attempts typed of =
      change_says l writing.with_item keep.item typed (append_array n t) n sort (tree_value l t 0) of (λ m. refl) (λ f. refl)
  leaf_says l (append_string n t) sort answers x tracked attempts typed of =
      change_says l writing.with_text keep.text typed (append_string n t) n sort (tree_value l t 0) of (λ m. refl) (λ f. refl)
  leaf_says l kind sort answers x tracked attempts typed of = refl

-- ---- all of it

written_skipped : (sort : Option Sort) (kind : KindTree) → says_written sort kind skipped ≡ true
written_skipped sort (initialize is) = refl
written_skipped sort (set_to n t) = refl
written_skipped sort (increment n t) = refl
written_skipped sort (decrement n t) = refl
written_skipped sort (append_array n t) = refl
written_skipped sort (append_string n t) = refl
written_skipped sort kind = refl

skipped_as : (sort : Option Sort) (o : Option ActionTree) → written_as sort o skipped ≡ true
skipped_as sort None = refl
skipped_as sort (Some a) = written_skipped sort (action_kind a)

written_other : (sort : Option Sort) (kind : KindTree) (k : Kind) (row : Row) → layered_kind kind ≡ k → (k ≡ Leaf → ⊥)
    → says_written sort kind row ≡ true
written_other sort (initialize is) k row of other = absurd (other (sym of))
written_other sort (set_to n t) k row of other = absurd (other (sym of))
written_other sort (increment n t) k row of other = absurd (other (sym of))
written_other sort (decrement n t) k row of other = absurd (other (sym of))
written_other sort (append_array n t) k row of other = absurd (other (sym of))
written_other sort (append_string n t) k row of other = absurd (other (sym of))
written_other sort kind k row of other = refl

module _ (d : DefTree) (e : Environment) (keep : KeepTypes) (found : IsFound)
    (sorts : (a : ActionTree) (i : InitialTree) → In a (all_actions d.top) → In i (initials_of (action_kind a)) → (k : List ℕ)
    → bytes_eq k i.name ≡ true → sort_of d k ≡ Some i.sort)
    (numbers : AllByRecursion (λ a. numbered (action_number a) d.top ≡ Some a) (all_actions d.top))
    (kinds : (n : ℕ) → kind_of (graph_of d) n ≡ option_map (λ a. layered_kind (action_kind a)) (numbered n d.top)) where
  other_kind : (x : Address) (k : Kind) → kind_of (graph_of d) x.name ≡ Some k → (k ≡ Leaf → ⊥) → (row : Row) → is_written d x row ≡ true
  other_kind x k is other row = at (numbered x.name d.top) refl
    where
      at : (o : Option ActionTree) → numbered x.name d.top ≡ o → is_written d x row ≡ true
      at None none = ap (λ (o : Option ActionTree). written_as (sort_at d x.name) o row) none
      at (Some a) some =
          ap (λ (o : Option ActionTree). written_as (sort_at d x.name) o row) some
          ∙ written_other (sort_at d x.name) (action_kind a) k row
          (same_some (layered_kind (action_kind a)) k
          (ap (option_map (λ (b : ActionTree). layered_kind (action_kind b))) (sym some) ∙ (sym (kinds x.name) ∙ is))) other

  leaf_written : (t : Table Row) → ((y : Address) (row : Row) → t y ≡ Some row → is_written d y row ≡ true) → (x : Address)
      → is_written d x (leaf (source d e) x t) ≡ true
  leaf_written t all_said x = at (numbered x.name d.top) refl
    where
      at : (o : Option ActionTree) → numbered x.name d.top ≡ o
          → written_as (sort_at d x.name) (numbered x.name d.top)
          (finished d e (numbered x.name d.top) x (begun d e (numbered x.name d.top) x t) t) ≡ true
      at None none =
          ap (λ (o : Option ActionTree). written_as (sort_at d x.name) o (finished d e o x (begun d e o x t) t)) none
      at (Some a) some =
          ap (λ (o : Option ActionTree). written_as (sort_at d x.name) o (finished d e o x (begun d e o x t) t)) some
          ∙ leaf_says d keep (told_at d e x t) (action_kind a) (sort_at d x.name) (facts_of e (action_name a)).answers (instance d x) _ _
          (λ k v is. variable_typed d found sorts numbers t all_said (point_of d x) k v is)
          (sort_is d found sorts numbers t all_said x.name a some)

  pub keeps_types : Keeps (source d e) (is_written d) (graph_of d)
  keeps_types = record {
    skipped = λ x. skipped_as (sort_at d x.name) (numbered x.name d.top);
    others = other_kind;
    leaves = leaf_written;
  }
