-- Each row that an accepted definition means is one that its action may have.
use Rattle.std.proofs.Common.{◌≡◌, ℕ, zero, suc, ◌+◌, ◌≤◌, ◌<◌, Bool, true, false, ◌||◌, not, cond, List, [], length, Option, Some, None}
use Rattle.std.proofs.Common.{Result, Ok, Err, option_map, inl, inr, refl, sym, ap, ap₂, ◌∙◌, subst, arith, nat_eq}
use Rattle.std.specs.Prelude.{if◌then◌else◌, nat_le}
use Rattle.std.proofs.lemmas.Bool.{le-leb}
use Rattle.std.proofs.lemmas.Option.{none-some}
use Rattle.wf_layers.specs.Address.{Address, Table}
use Rattle.wf_layers.specs.Definition as layers
use Rattle.wf_layers.specs.Definition.{Branches, Graph, Kind, Turns, TurnsAny, TurnsIn, has, has_any, holds, kind_any, kind_in, kind_of}
use Rattle.wf_layers.specs.Laws.{IsFresh}
use Rattle.wf_layers.specs.Meaning.{last, rounds}
use Rattle.wf_layers.specs.Shape.{ReadsBack}
use Rattle.wf_layers.proofs.Basics.{and_of, two, unless, when}
use Rattle.wf_asked.specs.Asked.{is_null}
use Rattle.wf_val.specs.Arguments.{Answer, bounded, given}
use Rattle.wf_val.specs.Cut.{cut_u32, cut_u64}
use Rattle.wf_val.specs.ValueTree.{ValueTree, boolean, depth, fits, items, list, null, number, object, text, weight}
use Rattle.wf_val.specs.declared.address.Address as named
use Rattle.wf_val.specs.declared.fault.EvalFault.{EvalFault}
use Rattle.wf_val.proofs.ValueTreeLemmas.{items-trees}
use Rattle.wf_answers.specs.AnswerTree.{AnswerTree}
use Rattle.wf_look.specs.Told.{Told}
use Rattle.wf_template.specs.DataTree.{DataTree}
use Rattle.wf_shaped.specs.TemplateValue.{template_value}
use Rattle.wf_shaped.specs.TreeValue.{tree_value}
use Rattle.wf_shaped.specs.Truth.{truth_of}
use Rattle.wf_def.specs.ActionTree.{ActionTree, ActionTrees, CaseTrees, action_kind, action_name, KindTree, append_array, append_string}
use Rattle.wf_def.specs.ActionTree.{branch, compose, connector, decrement, foreach, increment, initialize, join, parse_json, query}
use Rattle.wf_def.specs.ActionTree.{response, scope, select, set_to, switch, switch_else, terminate, until, wait}
use Rattle.wf_def.specs.AllActions.{kind_actions, numbered}
use Rattle.wf_def.specs.DefTree.{DefTree}
use Rattle.wf_def.specs.Layered.{layered_kind}
use Rattle.wf_def.specs.declared.sort.Sort.{Sort}
use Rattle.wf_shaped.specs.Made.{MadeTree, fitting}
use Rattle.wf_shaped.specs.Simple.{made_terminate, run_status_of, terminated}
use Rattle.wf_shaped.specs.Leaf.{begun_from, done_of, ended}
use Rattle.wf_shaped.specs.Decisions.{chosen_as, decided, each, each_as, held_as, too_many}
use Rattle.wf_shaped.specs.Verdicts.{VerdictTree, astray, met}
use Rattle.wf_record.specs.Record.{Row}
use Rattle.wf_record.specs.declared.attempt.Try.{Try}
use Rattle.wf_record.specs.declared.status.RunStatus.{RunStatus}
use Rattle.wf_record.specs.declared.status.Status.{Status}
use Rattle.wf_shaped.specs.Environment.{Environment, facts_of}
use Rattle.wf_shaped.specs.Statuses.{status_tree}
use Rattle.wf_shaped.specs.Says as saying
use Rattle.wf_shaped.specs.Says.{has_status, is_boolean, is_count, is_few, is_skipped, is_text_or_number, says, says_or_nothing}
use Rattle.wf_shaped.specs.Says.{says_rounds, skips}
use Rattle.wf_shaped.specs.SaysTold.{told_rounds}
use Rattle.wf_shaped.specs.Containers.{any_terminated, case_status, close_branch, close_foreach, close_until, closed, closed_as, cut_short}
use Rattle.wf_shaped.specs.Containers.{iterations_value, last_status, status_of, unless_cut}
use Rattle.wf_shaped.specs.Look.{decided_by, instance, told_at}
use Rattle.wf_shaped.specs.Points.{graph_of}
use Rattle.wf_shaped.specs.Rows.{row_of, skipped}
use Rattle.wf_shaped.specs.Source.{begun, close_of, finished, source}
use Rattle.wf_shaped.specs.Sorts.{sort_at}
use Rattle.wf_shaped.specs.Reading.{reading}
use Rattle.wf_prepare.proofs.ComeLemmas as come
use Rattle.wf_prepare.proofs.ComeLemmas.{Came, went_round}
use Rattle.wf_prepare.proofs.FailingLemmas.{same_some}
use Rattle.wf_prepare.proofs.KeptLemmas.{says_as, says_in}
use Rattle.wf_prepare.proofs.TypedLemmas.{is_written, says_written, written_as}

-- ---- the inputs of a container that ran

-- nothing, or what is right
abbrev Right : (ValueTree → Bool) → ValueTree → Type 0
Right p t = (is_null t || p t) ≡ true

module _ (at : List ℕ) (known : Table Row) where
  unless_inputs : (p : ValueTree → Bool) (kind : KindTree) (i : ValueTree) (s : Status) → Right p i
      → Right p (unless_cut at known kind i s).inputs
  unless_inputs p kind i s right = pick (any_terminated (kind_actions kind) at known)
    where
      pick : (b : Bool) → Right p (if b then cut_short i else closed_as s i null).inputs
      pick true = right
      pick false = right

  held_inputs : (kind : KindTree) (status : ℕ → Status) (o : Answer)
      → Right is_boolean (close_branch at known kind status (held_as o)).inputs
  held_inputs kind status (Ok (boolean true)) = unless_inputs is_boolean kind (boolean true) (status 1) refl
  held_inputs kind status (Ok (boolean false)) = unless_inputs is_boolean kind (boolean false) (status 2) refl
  held_inputs kind status (Ok null) = refl
  held_inputs kind status (Ok (number n)) = refl
  held_inputs kind status (Ok (text s)) = refl
  held_inputs kind status (Ok (list ts)) = refl
  held_inputs kind status (Ok (object ms)) = refl
  held_inputs kind status (Err f) = refl

  chosen_inputs : (kind : KindTree) (status : ℕ → Status) (cases : CaseTrees) (o : Answer)
      → Right is_text_or_number (close_branch at known kind status (chosen_as cases o)).inputs
  chosen_inputs kind status cases (Ok (text s)) = unless_inputs is_text_or_number kind (text s) _ refl
  chosen_inputs kind status cases (Ok (number n)) = unless_inputs is_text_or_number kind (number n) _ refl
  chosen_inputs kind status cases (Ok null) = refl
  chosen_inputs kind status cases (Ok (boolean b)) = refl
  chosen_inputs kind status cases (Ok (list ts)) = refl
  chosen_inputs kind status cases (Ok (object ms)) = refl
  chosen_inputs kind status cases (Err f) = refl

  each_inputs : (graph : ActionTrees) (o : Answer) → Right is_few (close_foreach graph at known (each_as o)).inputs
  each_inputs graph (Ok (list ts)) = pick (nat_le (length (items ts)) 100000) refl
    where
      pick : (b : Bool) → nat_le (length (items ts)) 100000 ≡ b
          → Right is_few (close_foreach graph at known (if b then each (items ts) else too_many)).inputs
      pick true few = ap (λ (us : List ValueTree). nat_le (length us) 100000) (items-trees (items ts)) ∙ few
      pick false few = refl
  each_inputs graph (Ok null) = refl
  each_inputs graph (Ok (boolean b)) = refl
  each_inputs graph (Ok (number n)) = refl
  each_inputs graph (Ok (text s)) = refl
  each_inputs graph (Ok (object ms)) = refl
  each_inputs graph (Err f) = refl

until_outputs : (fails : Bool) (s : Status) (n : ℕ) (v : Option VerdictTree)
    → (close_until fails s (iterations_value n) v).outputs ≡ iterations_value n
until_outputs fails s n (Some (met true)) = refl
until_outputs false s n (Some (met false)) = refl
until_outputs true s n (Some (met false)) = refl
until_outputs fails s n (Some (astray f)) = refl
until_outputs fails s n None = refl

-- ---- how often an Until goes round

rounds_most : (m j : ℕ) (p : ℕ → Bool) → rounds m j p ≤ j + m
rounds_most zero j p = omega arith
rounds_most (suc m) j p = elim (two (p j)) [
  | inl t ↦ omega (arith, when (p j) (suc j) (rounds m (suc j) p) t)
  | inr f ↦ omega (arith, unless (p j) (suc j) (rounds m (suc j) p) f, rounds_most m (suc j) p)
]

rounds_from : (m j : ℕ) (p : ℕ → Bool) → j ≤ rounds m j p
rounds_from zero j p = omega arith
rounds_from (suc m) j p = elim (two (p j)) [
  | inl t ↦ omega (arith, when (p j) (suc j) (rounds m (suc j) p) t)
  | inr f ↦ omega (arith, unless (p j) (suc j) (rounds m (suc j) p) f, rounds_from m (suc j) p)
]

rounds_least : (m : ℕ) (p : ℕ → Bool) → 0 < m → 1 ≤ rounds m 0 p
rounds_least zero p some = absurd (omega (arith, some))
rounds_least (suc m) p some = elim (two (p 0)) [
  | inl t ↦ omega (arith, when (p 0) 1 (rounds m 1 p) t)
  | inr f ↦ omega (arith, unless (p 0) 1 (rounds m 1 p) f, rounds_from m 1 p)
]

-- an Until has one iteration at least
mutual
  goes_in : (kind : Kind) (n most : ℕ) (h : Graph) → TurnsIn kind → kind_in kind n ≡ Some (layers.Until most h) → 0 < most
  goes_in layers.Leaf n most h turns is = absurd (none-some (layers.Until most h) is)
  goes_in (layers.Scope g) n most h turns is = goes g n most h turns is
  goes_in (layers.Choice bs) n most h turns is = goes_any bs n most h turns is
  goes_in (layers.Foreach pace g) n most h turns is = goes g n most h turns.1 is
  goes_in (layers.Until m g) n most h turns is = goes g n most h turns.1 is

  goes_any : (bs : Branches) (n most : ℕ) (h : Graph) → TurnsAny bs → kind_any bs n ≡ Some (layers.Until most h) → 0 < most
  goes_any layers.no_branch n most h turns is = absurd (none-some (layers.Until most h) is)
  goes_any (layers.branch b bs) n most h turns is = elim (two (has b n)) [
    | inl t ↦ goes b n most h turns.0 (sym (when (has b n) (kind_of b n) (kind_any bs n) t) ∙ is)
    | inr f ↦ goes_any bs n most h turns.1 (sym (unless (has b n) (kind_of b n) (kind_any bs n) f) ∙ is)
  ]

  goes : (g : Graph) (n most : ℕ) (h : Graph) → Turns g → kind_of g n ≡ Some (layers.Until most h) → 0 < most
  goes layers.done n most h turns is = absurd (none-some (layers.Until most h) is)
  goes (layers.add m after kind g) n most h turns is = elim (two (nat_eq m n)) [
    | inl t ↦
        own kind turns.0
        (same_some kind (layers.Until most h)
        (sym (when (nat_eq m n) (Some kind) (cond (holds kind n) (kind_in kind n) (kind_of g n)) t) ∙ is))
    | inr f ↦
        let later = sym (unless (nat_eq m n) (Some kind) (cond (holds kind n) (kind_in kind n) (kind_of g n)) f) ∙ is in
        elim (two (holds kind n)) [
          | inl inside ↦ goes_in kind n most h turns.0 (sym (when (holds kind n) (kind_in kind n) (kind_of g n) inside) ∙ later)
          | inr out ↦ goes g n most h turns.1 (sym (unless (holds kind n) (kind_in kind n) (kind_of g n) out) ∙ later)
        ]
  ]
    where
      own : (k : Kind) → TurnsIn k → k ≡ layers.Until most h → 0 < most
      own layers.Leaf t same = absurd (cc)
      own (layers.Scope g') t same = absurd (cc)
      own (layers.Choice bs') t same = absurd (cc)
      own (layers.Foreach pace g') t same = absurd (cc)
      own (layers.Until most' g') t same = subst (λ (q : ℕ). 0 < q) (same_most most' most g' h same) t.0
        where
          same_most : (a b : ℕ) (x y : Graph) → layers.Until a x ≡ layers.Until b y → a ≡ b
          same_most a b x y is' = cc

-- ---- what a Terminate keeps has a status

bounded_is : (t u : ValueTree) → bounded t ≡ Ok u → t ≡ u
bounded_is t u = go (fits t)
  where
    go : (b : Bool) → (if b then Ok t else Err (EvalFault.TooBig (cut_u32 (depth t)) (cut_u64 (weight t)))) ≡ Ok u → t ≡ u
    go true e = cc
    go false e = absurd cc

kept_is : (i : ValueTree) (a b : Answer) (m : MadeTree) → ((u : ValueTree) → a ≡ Ok u → i ≡ u)
    → given a (λ x. given b (λ y. Ok (record { inputs = x; outputs = y }))) ≡ Ok m → m.inputs ≡ i
kept_is i (Ok x) (Ok y) m is e =
    let made : MadeTree = record { inputs = x; outputs = y } in
    let same : made ≡ m = cc in
    ap (λ (q : MadeTree). q.inputs) (sym same) ∙ sym (is x refl)
kept_is i (Ok x) (Err f) m is e = absurd cc
kept_is i (Err f) b m is e = absurd cc

fitting_keeps : (i o : ValueTree) (m : MadeTree) → fitting i o ≡ Ok m → m.inputs ≡ i
fitting_keeps i o m e = kept_is i (bounded i) (bounded o) m (bounded_is i) e

terminated_keeps : (v : ValueTree) (o : Option RunStatus) (m : MadeTree) → run_status_of v ≡ o → terminated v o ≡ Ok m
    → has_status (run_status_of m.inputs) ≡ true
terminated_keeps v None m is e = absurd cc
terminated_keeps v (Some s) m is e =
    ap (λ (t : ValueTree). has_status (run_status_of t)) (fitting_keeps v null m e) ∙ ap has_status is

terminate_made : (a : Answer) (m : MadeTree) → given a (λ v. terminated v (run_status_of v)) ≡ Ok m
    → has_status (run_status_of m.inputs) ≡ true
terminate_made (Ok v) m e = terminated_keeps v (run_status_of v) m refl e
terminate_made (Err f) m e = absurd cc

terminate_done : (inputs : DataTree) (r : Result MadeTree EvalFault)
    → ((m : MadeTree) → r ≡ Ok m → has_status (run_status_of m.inputs) ≡ true)
    → (not (saying.succeeds (done_of (terminate inputs) r).status)
    || has_status (run_status_of (done_of (terminate inputs) r).inputs)) ≡ true
terminate_done inputs (Ok m) made = made m refl
terminate_done inputs (Err f) made = refl

-- ---- of each kind

said_skipped : (sort : Option Sort) (kind : KindTree) → says sort kind skipped ≡ true
said_skipped sort (compose inputs) = refl
said_skipped sort (connector inputs policy) = refl
said_skipped sort (wait inputs) = refl
said_skipped sort (response inputs) = refl
said_skipped sort (terminate inputs) = refl
said_skipped sort (select from item) = refl
said_skipped sort (query from filter) = refl
said_skipped sort (join from with') = refl
said_skipped sort (parse_json content schema) = refl
said_skipped sort (initialize variables) = refl
said_skipped sort (set_to name value) = refl
said_skipped sort (increment name value) = refl
said_skipped sort (decrement name value) = refl
said_skipped sort (append_array name value) = refl
said_skipped sort (append_string name value) = refl
said_skipped sort (scope graph) = refl
said_skipped sort (branch test yes' no') = refl
said_skipped sort (switch on cases) = refl
said_skipped sort (switch_else on cases default) = refl
said_skipped sort (foreach over repetitions graph) = refl
said_skipped sort (until test count fails graph) = refl

-- what isn't Skipped says nothing, or what is right
right_or_nothing : (skipped' : Bool) (p : ValueTree → Bool) (t : ValueTree) → skipped' ≡ false → Right p t
    → says_or_nothing skipped' p t ≡ true
right_or_nothing skipped' p t ran right = ap (λ (b : Bool). says_or_nothing b p t) ran ∙ right

right_count : (skipped' : Bool) (most n : ℕ) (outputs : ValueTree) → skipped' ≡ false → outputs ≡ iterations_value n → 1 ≤ n → n ≤ most
    → says_rounds skipped' most (told_rounds outputs) ≡ true
right_count skipped' most n outputs ran is one few =
    ap₂ (λ (b : Bool) (t : ValueTree). says_rounds b most (told_rounds t)) ran is
    ∙ and_of (nat_le 1 n) (nat_le n most) (le-leb 1 n one) (le-leb n most few)

not_skipped : (s : Status) → (status_tree s ≡ layers.Skipped → ⊥) → skips s ≡ false
not_skipped Status.Succeeded ran = refl
not_skipped Status.Failed ran = refl
not_skipped Status.Skipped ran = absurd (ran refl)
not_skipped Status.TimedOut ran = refl
not_skipped Status.Cancelled ran = refl

-- a container's row, by what it decided
module _ (sort : Option Sort) (l : Told) (at : List ℕ) (f : Table Row) (tracked : ValueTree) where
  abbrev row_closed : KindTree → ℕ → Option VerdictTree → Row
  row_closed kind n v = row_of (closed kind at (decided l kind) n v f) tracked []

  closed_says : (kind : KindTree) → (layered_kind kind ≡ layers.Leaf → ⊥) → (n : ℕ) (v : Option VerdictTree)
      → ((most : ℕ) (g : Graph) → layered_kind kind ≡ layers.Until most g → (1 ≤ n) × (n ≤ most))
      → is_skipped (row_closed kind n v) ≡ false → says sort kind (row_closed kind n v) ≡ true
  closed_says (scope graph) other n v range ran = refl
  closed_says (branch test yes' no') other n v range ran =
      right_or_nothing (is_skipped (row_closed (branch test yes' no') n v)) is_boolean (row_closed (branch test yes' no') n v).inputs ran
      (held_inputs at f (branch test yes' no') (λ k. if nat_eq k 1 then status_of at f yes' else status_of at f no') (truth_of l test 0).0)
  closed_says (switch on cases) other n v range ran =
      right_or_nothing (is_skipped (row_closed (switch on cases) n v)) is_text_or_number (row_closed (switch on cases) n v).inputs ran
      (chosen_inputs at f (switch on cases) (λ k. case_status at f cases k Status.Succeeded) cases (template_value l on 0).0)
  closed_says (switch_else on cases default) other n v range ran =
      right_or_nothing (is_skipped (row_closed (switch_else on cases default) n v)) is_text_or_number
      (row_closed (switch_else on cases default) n v).inputs ran
      (chosen_inputs at f (switch_else on cases default) (λ k. case_status at f cases k (status_of at f default)) cases
      (template_value l on 0).0)
  closed_says (foreach over repetitions graph) other n v range ran =
      right_or_nothing (is_skipped (row_closed (foreach over repetitions graph) n v)) is_few
      (row_closed (foreach over repetitions graph) n v).inputs ran (each_inputs at f graph (tree_value l over 0).0)
  closed_says (until test count fails graph) other n v range ran =
      let few = range count _ refl in
      right_count (is_skipped (row_closed (until test count fails graph) n v)) count n
      (row_closed (until test count fails graph) n v).outputs ran (until_outputs fails (last_status graph at f n) n v) few.0 few.1
  closed_says kind other n v range ran = absurd (other refl)

-- a leaf's, where what it writes is known
module _ (sort : Option Sort) (l : Told) (answers : List AnswerTree) (x : named.Address) (tracked : ValueTree) (attempts : List Try) where
  abbrev row_ended : KindTree → Row
  row_ended kind = row_of (ended answers x (begun_from l kind 0)) tracked attempts

  ended_says : (kind : KindTree) → layered_kind kind ≡ layers.Leaf → says_written sort kind (row_ended kind) ≡ true
      → says sort kind (row_ended kind) ≡ true
  ended_says (compose inputs) leaf written = refl
  ended_says (connector inputs policy) leaf written = refl
  ended_says (wait inputs) leaf written = refl
  ended_says (response inputs) leaf written = refl
  ended_says (terminate inputs) leaf written =
      terminate_done inputs (made_terminate l inputs 0).0 (terminate_made (tree_value l inputs 0).0)
  ended_says (select from item) leaf written = refl
  ended_says (query from filter) leaf written = refl
  ended_says (join from with') leaf written = refl
  ended_says (parse_json content schema) leaf written = refl
  ended_says (initialize variables) leaf written = written
  ended_says (set_to name value) leaf written = written
  ended_says (increment name value) leaf written = written
  ended_says (decrement name value) leaf written = written
  ended_says (append_array name value) leaf written = written
  ended_says (append_string name value) leaf written = written
  ended_says (scope graph) leaf written = refl
  ended_says kind leaf written = absurd (cc)

-- ---- all of it

abbrev IsContainer : Kind → Type 0
IsContainer layers.Leaf = ⊥
IsContainer (layers.Scope g) = Unit {0}
IsContainer (layers.Choice bs) = Unit {0}
IsContainer (layers.Foreach pace g) = Unit {0}
IsContainer (layers.Until most g) = Unit {0}

abbrev IsNoUntil : Kind → Type 0
IsNoUntil layers.Leaf = Unit {0}
IsNoUntil (layers.Scope g) = Unit {0}
IsNoUntil (layers.Choice bs) = Unit {0}
IsNoUntil (layers.Foreach pace g) = Unit {0}
IsNoUntil (layers.Until most g) = ⊥

not_leaf : (k : Kind) → k ≡ layers.Leaf → IsContainer k → ⊥
not_leaf k is container = subst IsContainer is container

not_until : (k : Kind) (most : ℕ) (g : Graph) → k ≡ layers.Until most g → IsNoUntil k → ⊥
not_until k most g is other = subst IsNoUntil is other

module _ (d : DefTree) (e : Environment) (f : Table Row) (turns : Turns (graph_of d))
    (back : ReadsBack (graph_of d) (source d e) f (reading d))
    (kinds : (n : ℕ) → kind_of (graph_of d) n ≡ option_map (λ a. layered_kind (action_kind a)) (numbered n d.top)) where
  -- the number of iterations is that of an Until
  range_of : (x : Address) (a : ActionTree) → numbered x.name d.top ≡ Some a → (n : ℕ)
      → ((most : ℕ) (g : Graph) → layered_kind (action_kind a) ≡ layers.Until most g → n ≡ went_round (source d e) f most x)
      → (most : ℕ) (g : Graph) → layered_kind (action_kind a) ≡ layers.Until most g → (1 ≤ n) × (n ≤ most)
  range_of x a some n count most g is =
      let went = count most g is in
      let least = rounds_least most (λ j. (source d e).ends ((source d e).test x j f))
      (goes (graph_of d) x.name most g turns
      (kinds x.name ∙ (ap (option_map (λ (b : ActionTree). layered_kind (action_kind b))) some ∙ ap Some is))) in
      let most_of = rounds_most most 0 (λ j. (source d e).ends ((source d e).test x j f)) in
      (omega (arith, went, least), omega (arith, went, most_of))

  -- a container's row as it closed
  container_says : (x : Address) (a : ActionTree) → numbered x.name d.top ≡ Some a → (layered_kind (action_kind a) ≡ layers.Leaf → ⊥)
      → (n : ℕ) (v : Option VerdictTree)
      → ((most : ℕ) (g : Graph) → layered_kind (action_kind a) ≡ layers.Until most g → n ≡ went_round (source d e) f most x)
      → says_in d x.name ((source d e).close x ((source d e).decide x f) n v f) ≡ true
  container_says x a some other n v count =
      let closing : Option ActionTree → Row = λ o. close_of d e o x (decided_by o (told_at d e x f)) n v f in
      let ran : is_skipped (closing (Some a)) ≡ false =
      not_skipped (closing (Some a)).status
      (λ is. back.closed x n v (ap (λ (o : Option ActionTree). status_tree (closing o).status) some ∙ is)) in
      ap (λ (o : Option ActionTree). says_as (sort_at d x.name) o (closing o)) some
      ∙ closed_says (sort_at d x.name) (told_at d e x f) x.at f _ (action_kind a) other n v (range_of x a some n count) ran

  skipped_says : (x : Address) (a : ActionTree) → numbered x.name d.top ≡ Some a → says_in d x.name skipped ≡ true
  skipped_says x a some =
      ap (λ (o : Option ActionTree). says_as (sort_at d x.name) o skipped) some ∙ said_skipped (sort_at d x.name) (action_kind a)

  leaf_says : (x : Address) (a : ActionTree) → numbered x.name d.top ≡ Some a → layered_kind (action_kind a) ≡ layers.Leaf
      → is_written d x (come.ended (source d e) f layers.Leaf x) ≡ true
      → says_in d x.name (come.ended (source d e) f layers.Leaf x) ≡ true
  leaf_says x a some leaf written =
      let ending : Option ActionTree → Row = λ o. finished d e o x (begun d e o x f) f in
      ap (λ (o : Option ActionTree). says_as (sort_at d x.name) o (ending o)) some
      ∙ ended_says (sort_at d x.name) (told_at d e x f) (facts_of e (action_name a)).answers (instance d x) _ _ (action_kind a) leaf
      (ap (λ (o : Option ActionTree). written_as (sort_at d x.name) o (ending o)) (sym some) ∙ written)

  -- by the kind of the action
  by_kind : (x : Address) (row : Row) (a : ActionTree) (k : Kind) → numbered x.name d.top ≡ Some a → layered_kind (action_kind a) ≡ k
      → is_written d x row ≡ true → row ≡ come.ended (source d e) f k x → says_in d x.name row ≡ true
  by_kind x row a layers.Leaf some is written same =
      subst (λ (r : Row). says_in d x.name r ≡ true) (sym same)
      (leaf_says x a some is (subst (λ (r : Row). is_written d x r ≡ true) same written))
  by_kind x row a (layers.Scope g) some is written same =
      subst (λ (r : Row). says_in d x.name r ≡ true) (sym same)
      (container_says x a some (λ leaf. not_leaf (layers.Scope g) (sym is ∙ leaf) tt) 0 None
      (λ most h other. absurd (not_until (layers.Scope g) most h (sym is ∙ other) tt)))
  by_kind x row a (layers.Choice bs) some is written same =
      subst (λ (r : Row). says_in d x.name r ≡ true) (sym same)
      (container_says x a some (λ leaf. not_leaf (layers.Choice bs) (sym is ∙ leaf) tt) 0 None
      (λ most h other. absurd (not_until (layers.Choice bs) most h (sym is ∙ other) tt)))
  by_kind x row a (layers.Foreach pace g) some is written same =
      subst (λ (r : Row). says_in d x.name r ≡ true) (sym same)
      (container_says x a some (λ leaf. not_leaf (layers.Foreach pace g) (sym is ∙ leaf) tt) 0 None
      (λ most h other. absurd (not_until (layers.Foreach pace g) most h (sym is ∙ other) tt)))
  by_kind x row a (layers.Until most g) some is written same =
      subst (λ (r : Row). says_in d x.name r ≡ true) (sym same)
      (container_says x a some (λ leaf. not_leaf (layers.Until most g) (sym is ∙ leaf) tt) (went_round (source d e) f most x)
      (last (went_round (source d e) f most x) (λ j. (source d e).test x j f))
      (λ most' h other. ap (λ (m : ℕ). went_round (source d e) f m x) (same_most most most' g h (sym is ∙ other))))
    where
      same_most : (p q : ℕ) (u v : Graph) → layers.Until p u ≡ layers.Until q v → p ≡ q
      same_most p q u v is' = cc

  -- THE LEMMA
  pub row_says : (fresh : IsFresh (source d e)) (x : Address) (row : Row) (a : ActionTree) → numbered x.name d.top ≡ Some a
      → is_written d x row ≡ true → Came (source d e) f fresh x row (layered_kind (action_kind a)) → says_in d x.name row ≡ true
  row_says fresh x row a some written (inl same) =
      subst (λ (r : Row). says_in d x.name r ≡ true) (sym same) (skipped_says x a some)
  row_says fresh x row a some written (inr same) = by_kind x row a (layered_kind (action_kind a)) some refl written same
