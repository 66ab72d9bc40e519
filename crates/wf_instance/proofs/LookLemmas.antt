-- WHAT IS TOLD at an instance is told by the rows that it sees.
use Rattle.std.proofs.Common.{◌≡◌, ℕ, zero, suc, ◌≤◌, Bool, true, false, ◌||◌, List, [], ◌∷◌, ◌++◌, length, take, Option, Some, None, refl}
use Rattle.std.proofs.Common.{ap, ◌∙◌, subst, arith}
use Rattle.std.specs.List.{AllByRecursion}
use Rattle.wf_lists.proofs.KeyOrderLemmas.{all-put}
use Rattle.std.proofs.lemmas.Cmp.{nat_list_cmp_total}
use Rattle.wf_val.specs.ValueTree.{ValueTree}
use Rattle.wf_val.specs.declared.function.Fun.{Fun}
use Rattle.std.proofs.Common.{nat_eq}
use Rattle.wf_layers.specs.Definition.{Pace, Kind, Graph, Branches, holds, has, has_any, kind_of}
use Rattle.wf_layers.specs.Address.{Address, Table, address, starts, SeenIn}
use Rattle.wf_layers.specs.Seen.{Once}
use Rattle.wf_layers.specs.Source.{Agrees}
use Rattle.wf_layers.proofs.Basics.{and_of, same_self, starts_self, or_first, or_second}
use Rattle.wf_meant.specs.Told.{Told}
use Rattle.wf_meant.specs.Uses.{Use, names, asks, asks_moment, asks_words, Agree, AgreeAt}
use Rattle.wf_meant.specs.ActionTree.{ActionTree, action, action_kind, action_name, action_number, KindTree, compose, connector, wait}
use Rattle.wf_meant.specs.ActionTree.{response, terminate, select, query, join, parse_json, initialize, set_to, increment, decrement}
use Rattle.wf_meant.specs.ActionTree.{append_array, append_string, scope, branch, switch, switch_else, foreach, until, ActionTrees}
use Rattle.wf_meant.specs.ActionTree.{no_actions, action_then, CaseTrees, no_cases, case_then, actions_in}
use Rattle.wf_meant.specs.DefTree.{DefTree}
use Rattle.wf_meant.specs.Layered.{layered, layered_kind, layered_cases}
use Rattle.wf_layers.specs.Definition as layers
use Rattle.wf_accepted_laws.specs.Indexes.{HaveSameIndexes}
use Rattle.wf_accepted_laws.specs.Instances.{Sees}
use Rattle.wf_meant.specs.Starts.{StartTree}
use Rattle.wf_meant.specs.Environment.{Facts}
use Rattle.wf_meant.specs.Loops.{left_round, paces_round}
use Rattle.wf_meant.proofs.InsideLemmas.{seen_inside}
use Rattle.wf_meant.proofs.LeftLemmas.{left_seen, first_is, nothing_first}
use Rattle.wf_meant.specs.Look.{Item, told_by}
use Rattle.wf_meant.specs.Points.{action_named, graph_of, point_of, sees}
use Rattle.wf_meant.specs.References.{by_name, first_level, in_cases, loop_itself, own_loop, result_by, shared, view_by}
use Rattle.wf_record.specs.Record.{Row}
use Rattle.wf_meant.proofs.EarlierLemmas.{many_of}
use Rattle.wf_instance.proofs.NamedLemmas.{AllNamed, Named}
use Rattle.wf_instance.proofs.VariableLemmas.{variable_same}
use Rattle.wf_instance.proofs.ViewLemmas.{AllSame, SameLoop, SameRows, view_same, result_same}

-- ---- the actions of a container's own graphs are inside it

pub all_joined : {X : Type 0} (P : X → Type 0) (xs ys : List X) → AllByRecursion P xs → AllByRecursion P ys → AllByRecursion P (xs ++ ys)
all_joined P [] ys one other = other
all_joined P (x ∷ xs) ys one other = (one.0, all_joined P xs ys one.1 other)

pub all_more : {X : Type 0} (P Q : X → Type 0) (xs : List X) → ((x : X) → P x → Q x) → AllByRecursion P xs → AllByRecursion Q xs
all_more P Q [] weaker all = tt
all_more P Q (x ∷ xs) weaker all = (weaker x all.0, all_more P Q xs weaker all.1)

abbrev pub In : (ℕ → Bool) → List ActionTree → Type 0
In held as' = AllByRecursion (λ a. held (action_number a) ≡ true) as'

pub own_held : (graph : ActionTrees) → In (has (layered graph)) (actions_in graph)
own_held no_actions = tt
own_held (action_then (action name number pointer after kind tracked) rest) = (
  or_first (nat_eq number number || holds (layered_kind kind) number) (has (layered rest) number)
      (or_first (nat_eq number number) (holds (layered_kind kind) number) (same_self number)),
  all_more (λ a. has (layered rest) (action_number a) ≡ true)
      (λ a. has (layered (action_then (action name number pointer after kind tracked) rest)) (action_number a) ≡ true) (actions_in rest)
      (λ a h. or_second (nat_eq number (action_number a) || holds (layered_kind kind) (action_number a))
      (has (layered rest) (action_number a)) h)
      (own_held rest),
)

pub cases_held : (cases : CaseTrees) (last : Branches) → In (has_any (layered_cases cases last)) (in_cases cases)
cases_held no_cases last = tt
cases_held (case_then name value graph rest) last =
    all_joined (λ a. has_any (layered_cases (case_then name value graph rest) last) (action_number a) ≡ true) (actions_in graph)
    (in_cases rest)
    (all_more (λ a. has (layered graph) (action_number a) ≡ true)
    (λ a. has_any (layered_cases (case_then name value graph rest) last) (action_number a) ≡ true) (actions_in graph)
    (λ a h. or_first (has (layered graph) (action_number a)) (has_any (layered_cases rest last) (action_number a)) h) (own_held graph))
    (all_more (λ a. has_any (layered_cases rest last) (action_number a) ≡ true)
    (λ a. has_any (layered_cases (case_then name value graph rest) last) (action_number a) ≡ true) (in_cases rest)
    (λ a h. or_second (has (layered graph) (action_number a)) (has_any (layered_cases rest last) (action_number a)) h)
    (cases_held rest last))

pub last_held : (cases : CaseTrees) (b : Graph) (n : ℕ) → has b n ≡ true → has_any
    (layered_cases cases (layers.branch b layers.no_branch)) n ≡ true
last_held no_cases b n h = or_first (has b n) false h
last_held (case_then name value graph rest) b n h =
    or_second (has (layered graph) n) (has_any (layered_cases rest (layers.branch b layers.no_branch)) n) (last_held rest b n h)

abbrev pub InIf : (ℕ → Bool) → Option (List ActionTree) → Type 0
InIf held None = Unit {0}
InIf held (Some as') = In held as'

pub inner_held : (kind : KindTree) → InIf (holds (layered_kind kind)) (first_level kind)
inner_held (scope graph) = own_held graph
inner_held (branch test yes' no') =
    all_joined (λ a. holds (layered_kind (branch test yes' no')) (action_number a) ≡ true) (actions_in yes') (actions_in no')
    (all_more (λ a. has (layered yes') (action_number a) ≡ true) (λ a. holds (layered_kind (branch test yes' no')) (action_number a) ≡ true)
    (actions_in yes') (λ a h. or_first (has (layered yes') (action_number a)) (has (layered no') (action_number a) || false) h)
    (own_held yes'))
    (all_more (λ a. has (layered no') (action_number a) ≡ true) (λ a. holds (layered_kind (branch test yes' no')) (action_number a) ≡ true)
    (actions_in no') (λ a h. or_second (has (layered yes') (action_number a)) (has (layered no') (action_number a) || false)
    (or_first (has (layered no') (action_number a)) false h)) (own_held no'))
inner_held (switch on cases) = cases_held cases (layers.branch layers.done layers.no_branch)
inner_held (switch_else on cases default) =
    all_joined (λ a. holds (layered_kind (switch_else on cases default)) (action_number a) ≡ true) (in_cases cases) (actions_in default)
    (cases_held cases (layers.branch (layered default) layers.no_branch))
    (all_more (λ a. has (layered default) (action_number a) ≡ true)
    (λ a. holds (layered_kind (switch_else on cases default)) (action_number a) ≡ true)
    (actions_in default) (λ a h. last_held cases (layered default) (action_number a) h) (own_held default))
inner_held (foreach items repetitions graph) = own_held graph
inner_held (until test count fails graph) = own_held graph
inner_held (compose inputs) = tt
inner_held (connector inputs policy) = tt
inner_held (wait inputs) = tt
inner_held (response inputs) = tt
inner_held (terminate inputs) = tt
inner_held (select from item) = tt
inner_held (query from filter) = tt
inner_held (join from with') = tt
inner_held (parse_json content schema) = tt
inner_held (initialize variables) = tt
inner_held (set_to name value) = tt
inner_held (increment name value) = tt
inner_held (decrement name value) = tt
inner_held (append_array name value) = tt
inner_held (append_string name value) = tt

-- ---- the shared indexes are fronts

starts_take : (k : ℕ) (js : List ℕ) → starts (take k js) js ≡ true
starts_take zero js = refl
starts_take (suc k) [] = refl
starts_take (suc k) (j ∷ js) = and_of (nat_eq j j) (starts (take k js) js) (same_self j) (starts_take k js)

take_long : (k : ℕ) (js : List ℕ) → k ≤ length js → length (take k js) ≡ k
take_long zero js le = refl
take_long (suc k) [] le = absurd (omega (arith, le))
take_long (suc k) (j ∷ js) le = ap suc (take_long k js (omega (arith, le)))

pub all_put : (P : ActionTree → Type 0) (as' : List ActionTree) → AllByRecursion P as' → AllByRecursion P (by_name as')
all_put P [] all = tt
all_put P (a ∷ as') all = all-put nat_list_cmp_total action_name P a (by_name as') all.0 (all_put P as' all.1)

-- ---- what the expressions at the action n name: premises from the rules

module _ (d : DefTree) (n : ℕ) where
  abbrev pub ReadsRow : Option ActionTree → Type 0
  ReadsRow None = Unit {0}
  ReadsRow (Some a) = Sees (graph_of d) n (action_number a)

  abbrev pub ReadsResult : Option ActionTree → Type 0
  ReadsResult None = Unit {0}
  ReadsResult (Some a) = Sees (graph_of d) n (action_number a) ×
      (kind_of (graph_of d) (action_number a) ≡ Some (layered_kind (action_kind a)))

  abbrev pub AllRead : List Use → Type 0
  AllRead us = AllNamed d ReadsRow ReadsResult us

-- ---- at an instance y

module _ (d : DefTree) (once : Once (graph_of d)) (y : Address) (t u : Table Row)
    (agree : Agrees (SeenIn (graph_of d)) y t u)
    (deep : (x : ℕ) → length (paces_round (graph_of d) x y.name) ≤ length y.at)
    (earlier : (x : Address) → sees (point_of d y) x ≡ true → SeenIn (graph_of d) y x) where
  abbrev g : Graph
  g = graph_of d

  abbrev front : ℕ → List ℕ
  front x = shared (point_of d y) x

  alike : (x : ℕ) (at : List ℕ) → starts (front x) at ≡ true → HaveSameIndexes g (address x at) y
  alike x at s = record {
    indexes = front x;
    each_loop = take_long (length (paces_round g x y.name)) y.at (deep x) ∙ many_of g x y.name;
    of_one = s;
    of_other = starts_take (length (paces_round g x y.name)) y.at;
  }

  -- the rows of what is named
  pub rows_there : (x : ℕ) → Sees g y.name x → SameRows t u (front x) x
  rows_there x seen at s = agree (address x at) (seen at y.at (alike x at s))

  pub loop_there : (x : ℕ) → Sees g y.name x → SameLoop t u (front x) (left_round g x y.name)
  loop_there x seen l more is =
      agree (address l (front x))
      (left_seen g once (address x (front x)) y l more (front x) is (take_long (length (paces_round g x y.name)) y.at (deep x))
      (starts_self (front x)) (seen (front x) y.at (alike x (front x) (starts_self (front x)))))

  -- and of the loop whose result is asked for
  own_too : (a : ActionTree) (ls : List ℕ) → SameRows t u (front (action_number a)) (action_number a)
      → SameLoop t u (front (action_number a)) ls → SameLoop t u (front (action_number a)) (ls ++ own_loop a)
  own_too a [] rows loop l more is = itself (action_kind a) is
    where
      itself : (kind : KindTree) → loop_itself (action_number a) kind ≡ l ∷ more
          → t (address l (front (action_number a))) ≡ u (address l (front (action_number a)))
      itself (foreach items repetitions graph) e =
          subst (λ (k : ℕ). t (address k (front (action_number a))) ≡ u (address k (front (action_number a)))) (first_is e)
          (rows (front (action_number a)) (starts_self (front (action_number a))))
      itself (until test count fails graph) e =
          subst (λ (k : ℕ). t (address k (front (action_number a))) ≡ u (address k (front (action_number a)))) (first_is e)
          (rows (front (action_number a)) (starts_self (front (action_number a))))
      itself kind e = absurd (nothing_first e)
  own_too a (m ∷ ms) rows loop l more is = loop l ms (cc)

  pub inner_rows : (x : ℕ) (k : Kind) → kind_of g x ≡ Some k → Sees g y.name x → (b : ℕ) → holds k b ≡ true → SameRows t u (front x) b
  inner_rows x k kind seen b inner at s =
      agree (address b at) (seen_inside g once (address x (front x)) (address b at) y k kind inner s
      (seen (front x) y.at (alike x (front x) (starts_self (front x)))))

  row_read : (found : Option ActionTree) → ReadsRow d y.name found → view_by d (point_of d y) t found ≡ view_by d (point_of d y) u found
  row_read None reads = refl
  row_read (Some a) reads =
      view_same t u d (point_of d y) a (rows_there (action_number a) reads) (loop_there (action_number a) reads)

  inner_all : (a : ActionTree) (k : Kind) → kind_of g (action_number a) ≡ Some k → Sees g y.name (action_number a)
      → (o : Option (List ActionTree)) → InIf (holds k) o → AllSame t u (front (action_number a)) o
  inner_all a k kind seen None held = tt
  inner_all a k kind seen (Some inner) held =
      all_put (λ b. SameRows t u (front (action_number a)) (action_number b)) inner
      (all_more (λ b. holds k (action_number b) ≡ true) (λ b. SameRows t u (front (action_number a)) (action_number b)) inner
      (λ b h. inner_rows (action_number a) k kind seen (action_number b) h) held)

  result_read : (found : Option ActionTree) → ReadsResult d y.name found → result_by d (point_of d y) t found ≡ result_by d
      (point_of d y) u found
  result_read None reads = refl
  result_read (Some a) reads =
      result_same t u d (point_of d y) a
      (inner_all a (layered_kind (action_kind a)) reads.1 reads.0 (first_level (action_kind a)) (inner_held (action_kind a)))
      (own_too a (left_round g (action_number a) y.name) (rows_there (action_number a) reads.0) (loop_there (action_number a) reads.0))

  module _ (start : StartTree) (facts : Facts) (place : List ℕ) (held : List Item) (own : Option ValueTree) where
    abbrev told : Table Row → Told
    told rows = told_by d start facts place (point_of d y) held own rows

    agree_one : (asked : Use) → Named d (ReadsRow d y.name) (ReadsResult d y.name) asked → Agree (told t) (told u) asked
    agree_one (names Fun.Actions k) e = row_read (action_named d k) e
    agree_one (names Fun.Outputs k) e = row_read (action_named d k) e
    agree_one (names Fun.Body k) e = row_read (action_named d k) e
    agree_one (names Fun.Result k) e = result_read (action_named d k) e
    agree_one (names Fun.Items k) e = refl
    agree_one (names Fun.IterationIndexes k) e = refl
    agree_one (names Fun.Parameters k) e = refl
    agree_one (names Fun.Variables k) e = variable_same d (point_of d y) t u (λ x s. agree x (earlier x s)) k
    agree_one (names f k) e = tt
    agree_one (asks Fun.Action) e = refl
    agree_one (asks Fun.Item) e = refl
    agree_one (asks Fun.Trigger) e = refl
    agree_one (asks Fun.TriggerOutputs) e = refl
    agree_one (asks Fun.TriggerBody) e = refl
    agree_one (asks Fun.Workflow) e = refl
    agree_one (asks f) e = tt
    agree_one asks_moment e = refl
    agree_one asks_words e = (refl, refl)

    pub agree_all : (us : List Use) → AllRead d y.name us → AgreeAt (told t) (told u) us
    agree_all [] e = tt
    agree_all (asked ∷ us) e = (agree_one asked e.0, agree_all us e.1)
