-- The rows of a definition tell their turns, and no action is tried often.
use Rattle.std.proofs.Common.{◌≡◌, ℕ, zero, suc, ◌+◌, ◌≤◌, Bool, true, false, cond, List, length, Option, Some, None, inl, inr, refl}
use Rattle.std.proofs.Common.{sym, ap, subst, arith}
use Rattle.std.specs.Prelude.{Ok, Err}
use Rattle.std.specs.List.{AllByRecursion}
use Rattle.wf_val.specs.Arguments.{Answer}
use Rattle.wf_val.specs.declared.address.Address as named
use Rattle.wf_val.proofs.ValueTreeLemmas.{items-trees}
use Rattle.wf_retry.specs.Again.{retries}
use Rattle.wf_retry.specs.declared.policy.Policy.{Policy}
use Rattle.wf_answers.specs.AnswerTree.{AnswerTree}
use Rattle.wf_layers.specs.Definition.{Pace, Kind, Foreach, Until, Graph, kind_of}
use Rattle.wf_layers.specs.Address.{Address, Table}
use Rattle.wf_layers.specs.Bound.{TellsTurns}
use Rattle.wf_layers.specs.Meaning as layered_meaning
use Rattle.wf_layers.specs.Meaning.{last}
use Rattle.wf_layers.specs.Resubmission.{pin}
use Rattle.wf_layers.proofs.Basics.{two, rounds_more, unless, when}
use Rattle.wf_known_laws.specs.ActionTree.{ActionTree, action_kind, action_name, KindTree, compose, connector}
use Rattle.wf_known_laws.specs.ActionTree.{wait, response, terminate, select}
use Rattle.wf_known_laws.specs.ActionTree.{query, join, parse_json, initialize, set_to, increment}
use Rattle.wf_known_laws.specs.ActionTree.{decrement, append_array, append_string, scope}
use Rattle.wf_known_laws.specs.ActionTree.{branch, switch, switch_else, foreach, until}
use Rattle.wf_known_laws.specs.AllActions.{all_actions, has_number, numbered}
use Rattle.wf_known_laws.specs.DefTree.{DefTree}
use Rattle.wf_known_laws.specs.Layered.{layered_kind}
use Rattle.wf_known_laws.specs.Held.{IsInRange, IsPolicyInRange}
use Rattle.wf_meant.specs.Told.{Told}
use Rattle.wf_meant.specs.TreeValue.{tree_value}
use Rattle.wf_record.specs.Cost as cost
use Rattle.wf_record.specs.Record.{Row}
use Rattle.wf_record.specs.declared.status.Status.{Status}
use Rattle.wf_meant.specs.Last.{Answered, last_attempt}
use Rattle.wf_meant.specs.Last as calls
use Rattle.wf_meant.specs.Decisions.{DecisionTree, nothing, held, chosen, each, too_many, faulty, items_of}
use Rattle.wf_meant.specs.Verdicts.{VerdictTree, met, astray, ends}
use Rattle.wf_meant.specs.Leaf.{BegunTree, begun_from, called_with, tries_in}
use Rattle.wf_meant.specs.Environment.{Environment, facts_of}
use Rattle.wf_meant.specs.Answering.{AnswersAs, RowSource}
use Rattle.wf_meant.specs.Containers.{close_until, closed, iterations_value, last_status}
use Rattle.wf_meant.specs.Look.{instance, told_at}
use Rattle.wf_meant.specs.Points.{graph_of}
use Rattle.wf_meant.specs.Source.{begun, close_of, finished, source, tries_of}
use Rattle.wf_turns.specs.Turns.{turns}
use Rattle.wf_turns.proofs.SourceLemmas.{is_written_out}
use Rattle.wf_turns.proofs.FoundLemmas.{found_all, of_kind}
use Rattle.wf_turns.proofs.RangeLemmas.{HasRange}

-- ---- what a row tells

first_of : (n m : ℕ) → n ≤ n + m
first_of n m = omega arith

second_of : (k n m : ℕ) → k ≤ m → k ≤ n + m
second_of k n m le = omega (arith, le)

-- an Until's outputs say how often it went round
rounds_told : (n : ℕ) → 1 ≤ n → n ≤ 5000 → cost.rounds (iterations_value n) ≡ n
rounds_told n least most = grind arith

until_tells : (fails : Bool) (status : Status) (n : ℕ) (v : VerdictTree) → 1 ≤ n → n ≤ 5000
    → n ≤ cost.iterations (close_until fails status (iterations_value n) (Some v)).inputs
    (close_until fails status (iterations_value n) (Some v)).outputs
until_tells fails status n (met true) least most = omega (arith, rounds_told n least most)
until_tells false status n (met false) least most = omega (arith, rounds_told n least most)
until_tells true status n (met false) least most = omega (arith, rounds_told n least most)
until_tells fails status n (astray f) least most = omega (arith, rounds_told n least most)

foreach_tells : (pace : Pace) (g : Graph) (kind : KindTree) (at : List ℕ) (f : Table Row) (decision : DecisionTree)
    → layered_kind kind ≡ Foreach pace g
    → items_of decision ≤ cost.iterations (closed kind at decision 0 None f).inputs (closed kind at decision 0 None f).outputs
foreach_tells pace g (compose inputs) at f decision is = absurd (cc)
foreach_tells pace g (connector inputs policy) at f decision is = absurd (cc)
foreach_tells pace g (wait inputs) at f decision is = absurd (cc)
foreach_tells pace g (response inputs) at f decision is = absurd (cc)
foreach_tells pace g (terminate inputs) at f decision is = absurd (cc)
foreach_tells pace g (select from item) at f decision is = absurd (cc)
foreach_tells pace g (query from filter) at f decision is = absurd (cc)
foreach_tells pace g (join from with') at f decision is = absurd (cc)
foreach_tells pace g (parse_json content schema) at f decision is = absurd (cc)
foreach_tells pace g (initialize variables) at f decision is = absurd (cc)
foreach_tells pace g (set_to name value) at f decision is = absurd (cc)
foreach_tells pace g (increment name value) at f decision is = absurd (cc)
foreach_tells pace g (decrement name value) at f decision is = absurd (cc)
foreach_tells pace g (append_array name value) at f decision is = absurd (cc)
foreach_tells pace g (append_string name value) at f decision is = absurd (cc)
foreach_tells pace g (scope graph) at f decision is = absurd (cc)
foreach_tells pace g (branch test yes' no') at f decision is = absurd (cc)
foreach_tells pace g (switch on cases) at f decision is = absurd (cc)
foreach_tells pace g (switch_else on cases default) at f decision is = absurd (cc)
foreach_tells pace g (foreach items repetitions graph) at f nothing is = omega arith
foreach_tells pace g (foreach items repetitions graph) at f (held b) is = omega arith
foreach_tells pace g (foreach items repetitions graph) at f (chosen v n) is = omega arith
foreach_tells pace g (foreach items repetitions graph) at f (each ts) is = omega (arith, ap length (items-trees ts))
foreach_tells pace g (foreach items repetitions graph) at f too_many is = omega arith
foreach_tells pace g (foreach items repetitions graph) at f (faulty fault) is = omega arith
foreach_tells pace g (until test count fails graph) at f decision is = absurd (cc)

until_kind_tells : (most : ℕ) (g : Graph) (kind : KindTree) (at : List ℕ) (f : Table Row) (decision : DecisionTree) (n : ℕ)
    (v : VerdictTree) → layered_kind kind ≡ Until most g → IsInRange kind → 1 ≤ n → n ≤ most
    → n ≤ cost.iterations (closed kind at decision n (Some v) f).inputs (closed kind at decision n (Some v) f).outputs
until_kind_tells most g (compose inputs) at f decision n v is range least le = absurd (cc)
until_kind_tells most g (connector inputs policy) at f decision n v is range least le = absurd (cc)
until_kind_tells most g (wait inputs) at f decision n v is range least le = absurd (cc)
until_kind_tells most g (response inputs) at f decision n v is range least le = absurd (cc)
until_kind_tells most g (terminate inputs) at f decision n v is range least le = absurd (cc)
until_kind_tells most g (select from item) at f decision n v is range least le = absurd (cc)
until_kind_tells most g (query from filter) at f decision n v is range least le = absurd (cc)
until_kind_tells most g (join from with') at f decision n v is range least le = absurd (cc)
until_kind_tells most g (parse_json content schema) at f decision n v is range least le = absurd (cc)
until_kind_tells most g (initialize variables) at f decision n v is range least le = absurd (cc)
until_kind_tells most g (set_to name value) at f decision n v is range least le = absurd (cc)
until_kind_tells most g (increment name value) at f decision n v is range least le = absurd (cc)
until_kind_tells most g (decrement name value) at f decision n v is range least le = absurd (cc)
until_kind_tells most g (append_array name value) at f decision n v is range least le = absurd (cc)
until_kind_tells most g (append_string name value) at f decision n v is range least le = absurd (cc)
until_kind_tells most g (scope graph) at f decision n v is range least le = absurd (cc)
until_kind_tells most g (branch test yes' no') at f decision n v is range least le = absurd (cc)
until_kind_tells most g (switch on cases) at f decision n v is range least le = absurd (cc)
until_kind_tells most g (switch_else on cases default) at f decision n v is range least le = absurd (cc)
until_kind_tells most g (foreach items repetitions graph) at f decision n v is range least le = absurd (cc)
until_kind_tells most g (until test count fails graph) at f decision n v is range least le =
    let same : count ≡ most = cc in
    until_tells fails (last_status graph at f n) n v least (omega (arith, le, range.1, same))

-- an Until goes round at least once, and at most as often as its count
rounds_most : (m j : ℕ) (stops : ℕ → Bool) → layered_meaning.rounds m j stops ≤ j + m
rounds_most zero j stops = omega arith
rounds_most (suc m) j stops = elim (two (stops j)) [
  | inl t ↦ omega (arith, when (stops j) (suc j) (layered_meaning.rounds m (suc j) stops) t)
  | inr f ↦ omega (arith, unless (stops j) (suc j) (layered_meaning.rounds m (suc j) stops) f, rounds_most m (suc j) stops)
]

rounds_from_none : (most : ℕ) (stops : ℕ → Bool) → layered_meaning.rounds most 0 stops ≤ most
rounds_from_none most stops = omega (arith, rounds_most most 0 stops)

rounds_least : (most : ℕ) (stops : ℕ → Bool) → 1 ≤ most → 1 ≤ layered_meaning.rounds most 0 stops
rounds_least zero stops some = absurd (omega (arith, some))
rounds_least (suc m) stops some = omega (arith, rounds_more m 0 stops)

until_most : (most : ℕ) (g : Graph) (kind : KindTree) → layered_kind kind ≡ Until most g → IsInRange kind → 1 ≤ most
until_most most g (compose inputs) is range = absurd (cc)
until_most most g (connector inputs policy) is range = absurd (cc)
until_most most g (wait inputs) is range = absurd (cc)
until_most most g (response inputs) is range = absurd (cc)
until_most most g (terminate inputs) is range = absurd (cc)
until_most most g (select from item) is range = absurd (cc)
until_most most g (query from filter) is range = absurd (cc)
until_most most g (join from with') is range = absurd (cc)
until_most most g (parse_json content schema) is range = absurd (cc)
until_most most g (initialize variables) is range = absurd (cc)
until_most most g (set_to name value) is range = absurd (cc)
until_most most g (increment name value) is range = absurd (cc)
until_most most g (decrement name value) is range = absurd (cc)
until_most most g (append_array name value) is range = absurd (cc)
until_most most g (append_string name value) is range = absurd (cc)
until_most most g (scope graph) is range = absurd (cc)
until_most most g (branch test yes' no') is range = absurd (cc)
until_most most g (switch on cases) is range = absurd (cc)
until_most most g (switch_else on cases default) is range = absurd (cc)
until_most most g (foreach items repetitions graph) is range = absurd (cc)
until_most most g (until test count fails graph) is range = let same : count ≡ most = cc in omega (arith, range.0, same)

-- ---- of a definition

module _ (d : DefTree) (e : Environment) (f : Table Row) where
  attempts_of : (found : Option ActionTree) (x : Address) (b : BegunTree) → length (tries_of d e found x b)
      ≤ turns (finished d e found x b f)
  attempts_of None x b = omega arith
  attempts_of (Some a) x b =
      first_of (length (tries_of d e (Some a) x b))
      (cost.iterations (finished d e (Some a) x b f).inputs (finished d e (Some a) x b f).outputs)

  items_of_one : (a : ActionTree) (x : Address) (pace : Pace) (g : Graph) (decision : DecisionTree)
      → layered_kind (action_kind a) ≡ Foreach pace g → items_of decision ≤ turns (close_of d e (Some a) x decision 0 None f)
  items_of_one a x pace g decision is =
      second_of (items_of decision) 0 (cost.iterations (closed (action_kind a) x.at decision 0 None f).inputs
      (closed (action_kind a) x.at decision 0 None f).outputs) (foreach_tells pace g (action_kind a) x.at f decision is)

  rounds_of_one : (a : ActionTree) (x : Address) (most : ℕ) (g : Graph) (decision : DecisionTree) (test : ℕ → VerdictTree) (n : ℕ)
      → layered_kind (action_kind a) ≡ Until most g → HasRange a → 1 ≤ n → n ≤ most
      → n ≤ turns (close_of d e (Some a) x decision n (last n test) f)
  rounds_of_one a x most g decision test zero is range least le = omega arith
  rounds_of_one a x most g decision test (suc j) is range least le =
      second_of (suc j) 0 (cost.iterations (closed (action_kind a) x.at decision (suc j) (Some (test j)) f).inputs
      (closed (action_kind a) x.at decision (suc j) (Some (test j)) f).outputs)
      (until_kind_tells most g (action_kind a) x.at f decision (suc j) (test j) is range least le)

module _ (d : DefTree) (ranges : AllByRecursion HasRange (all_actions d.top)) where
  -- the action of a number, by its kind
  in_range : (n : ℕ) (k : Kind) → kind_of (graph_of d) n ≡ Some k
      → (a : ActionTree) × (numbered n d.top ≡ Some a) × (layered_kind (action_kind a) ≡ k) × HasRange a
  in_range n k is =
      let found = of_kind n d.top k is in
      (found.0, found.1, found.2, found_all HasRange (has_number n) (all_actions d.top) found.0 ranges found.1)

  module _ (e : Environment) (f : Table Row) where
    -- whatever was decided
    items_at : (x : Address) (pace : Pace) (g : Graph) (decision : DecisionTree) → kind_of (graph_of d) x.name ≡ Some (Foreach pace g)
        → items_of decision ≤ turns (close_of d e (numbered x.name d.top) x decision 0 None f)
    items_at x pace g decision is =
        let found = in_range x.name (Foreach pace g) is in
        subst (λ (o : Option ActionTree). items_of decision ≤ turns (close_of d e o x decision 0 None f)) (sym found.1)
        (items_of_one d e f found.0 x pace g decision found.2)

    rounds_at : (x : Address) (most : ℕ) (g : Graph) (decision : DecisionTree) (test : ℕ → VerdictTree)
        → kind_of (graph_of d) x.name ≡ Some (Until most g)
        → layered_meaning.rounds most 0 (λ j. ends (test j)) ≤ turns (close_of d e (numbered x.name d.top) x decision
        (layered_meaning.rounds most 0 (λ j. ends (test j))) (last (layered_meaning.rounds most 0 (λ j. ends (test j))) test) f)
    rounds_at x most g decision test is =
        let found = in_range x.name (Until most g) is in
        let n = layered_meaning.rounds most 0 (λ j. ends (test j)) in
        let least : 1 ≤ n = rounds_least most (λ j. ends (test j)) (until_most most g (action_kind found.0) found.2 found.3) in
        subst (λ (o : Option ActionTree). n ≤ turns (close_of d e o x decision n (last n test) f)) (sym found.1)
        (rounds_of_one d e f found.0 x most g decision test n found.2 found.3 least (rounds_from_none most (λ j. ends (test j))))

    -- THE LAW
    pub tells : (m : RowSource) → AnswersAs d e m → TellsTurns (graph_of d) m f turns
    tells m answers = subst (λ (n : RowSource). TellsTurns (graph_of d) n f turns) (sym (is_written_out d e m answers)) (record {
      attempts = λ x is. attempts_of d e f (numbered x.name d.top) x (begun d e (numbered x.name d.top) x f);
      items = λ x pace g is. items_at x pace g (m.decide x f) is;
      rounds = λ x most g is. rounds_at x most g (m.decide x f) (λ j. (source d e).test x j f) is;
    })

    -- and of a resubmission
    pub tells_again : (redo again : ℕ → Bool) (old : Table Row) (recall : Address → DecisionTree)
        → TellsTurns (graph_of d) (pin (source d e) (source d e) redo again old recall) f turns
    tells_again redo again old recall = record {
      attempts = λ x is. attempts_of d e f (numbered x.name d.top) x (begun d e (numbered x.name d.top) x f);
      items = λ x pace g is. items_at x pace g (cond (again x.name) (recall x) ((source d e).decide x f)) is;
      rounds = λ x most g is.
          rounds_at x most g (cond (again x.name) (recall x) ((source d e).decide x f)) (λ j. (source d e).test x j f) is;
    }

-- ---- attempts

module _ (few : (policy : Policy) (answers : Answered) → last_attempt policy answers ≤ 1 + retries policy)
    (kept : (policy : Policy) (answers : Answered) → length (calls.tries_of policy answers) ≡ last_attempt policy answers) where
  few_retries : (policy : Policy) → IsPolicyInRange policy → retries policy ≤ 90
  few_retries Policy.Standard range = omega arith
  few_retries Policy.Never range = omega arith
  few_retries (Policy.Count n) range = range.1

  few_calls : (answers : List AnswerTree) (x : named.Address) (policy : Policy) (inputs : Answer) → IsPolicyInRange policy
      → length (tries_in answers x (called_with policy inputs)) ≤ 91
  few_calls answers x policy (Err fault) range = omega arith
  few_calls answers x policy (Ok inputs) range =
      omega (arith, kept policy (calls.answered_at answers x), few policy (calls.answered_at answers x), few_retries policy range)

  few_tries : (l : Told) (kind : KindTree) (answers : List AnswerTree) (x : named.Address) → IsInRange kind
      → length (tries_in answers x (begun_from l kind 0)) ≤ 91
  few_tries l (connector inputs policy) answers x range = few_calls answers x policy (tree_value l inputs 0).0 range
  few_tries l (compose inputs) answers x range = omega arith
  few_tries l (wait inputs) answers x range = omega arith
  few_tries l (response inputs) answers x range = omega arith
  few_tries l (terminate inputs) answers x range = omega arith
  few_tries l (select from item) answers x range = omega arith
  few_tries l (query from filter) answers x range = omega arith
  few_tries l (join from with') answers x range = omega arith
  few_tries l (parse_json content schema) answers x range = omega arith
  few_tries l (initialize variables) answers x range = omega arith
  few_tries l (set_to name value) answers x range = omega arith
  few_tries l (increment name value) answers x range = omega arith
  few_tries l (decrement name value) answers x range = omega arith
  few_tries l (append_array name value) answers x range = omega arith
  few_tries l (append_string name value) answers x range = omega arith
  few_tries l (scope graph) answers x range = omega arith
  few_tries l (branch test yes' no') answers x range = omega arith
  few_tries l (switch on cases) answers x range = omega arith
  few_tries l (switch_else on cases default) answers x range = omega arith
  few_tries l (foreach items repetitions graph) answers x range = omega arith
  few_tries l (until test count fails graph) answers x range = omega arith

  few_of : (d : DefTree) (e : Environment) (x : Address) (known : Table Row) → AllByRecursion HasRange (all_actions d.top)
      → (found : Option ActionTree) → numbered x.name d.top ≡ found → length (tries_of d e found x (begun d e found x known)) ≤ 91
  few_of d e x known ranges None is = omega arith
  few_of d e x known ranges (Some a) is =
      few_tries (told_at d e x known) (action_kind a) (facts_of e (action_name a)).answers (instance d x)
      (found_all HasRange (has_number x.name) (all_actions d.top) a ranges is)

  -- THE LAW
  pub attempts_few : (d : DefTree) (e : Environment) (x : Address) (known : Table Row) → AllByRecursion HasRange (all_actions d.top)
      → (source d e).tries x ((source d e).start x known) ≤ 91
  attempts_few d e x known ranges = few_of d e x known ranges (numbered x.name d.top) refl
