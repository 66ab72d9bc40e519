-- Each action stands once in the list of all, and among those that wait for another.
use Rattle.std.proofs.Common.{◌≡◌, ℕ, zero, suc, ◌≤◌, true, false, ◌||◌, List, [], ◌∷◌, ◌++◌, replicate, ◌⊎◌, inl, inr, ⊎_elim, sym, ◌∙◌, subst, arith, nat_eq, true≢false}
use Rattle.std.specs.List.{AllByRecursion}
use Rattle.wf_def.specs.Definition.{Graph, Branches, holds, has, has_any}
use Rattle.wf_def.specs.Definition as layers
use Rattle.wf_def.specs.Seen.{Once, OnceAny, OnceIn}
use Rattle.wf_def.specs.Waiting.{times}
use Rattle.wf_def.proofs.Basics.{either, not_true, or_first, or_second, same_self}
use Rattle.wf_def.specs.ActionTree.{ActionTree, action, action_number, KindTree, compose, connector, wait, response, terminate, select, query, join, parse_json, initialize, set_to, increment, decrement, append_array, append_string, scope, branch, switch, switch_else, foreach, until, ActionTrees, no_actions, action_then, CaseTrees, no_cases, case_then}
use Rattle.wf_def.specs.AllActions.{all_actions, cases_actions, kind_actions}
use Rattle.wf_def.specs.Layered.{layered, layered_cases, layered_kind}
use Rattle.wf_asks.specs.Known.{is_among}
use Rattle.wf_plan.specs.Once.{AreApart, AreDistinct, NamesOnce, StandOnce, has_one}
use Rattle.wf_plan.specs.Plan.{followers_of, needs}
use Rattle.wf_plan.proofs.ExactLemmas.{among_or, among_same}
use Rattle.wf_plan.proofs.NumberLemmas.{once_last}

-- ---- numbers of lists in a row

one_of_two : (as' bs : List ActionTree) (q : ℕ) → has_one (as' ++ bs) q ≡ true → (has_one as' q ≡ true) ⊎ (has_one bs q ≡ true)
one_of_two [] bs q h = inr h
one_of_two (a ∷ as') bs q h =
    ⊎_elim (λ t. inl (or_first (nat_eq (action_number a) q) (has_one as' q) t))
    (λ t. ⊎_elim (λ u. inl (or_second (nat_eq (action_number a) q) (has_one as' q) u)) (λ u. inr u) (one_of_two as' bs q t))
    (either (nat_eq (action_number a) q) (has_one (as' ++ bs) q) h)

both_apart : (as' bs : List ActionTree) → AreApart as' → AreApart bs → ((q : ℕ) → has_one as' q ≡ true → has_one bs q ≡ true → ⊥)
    → AreApart (as' ++ bs)
both_apart [] bs one other apart = other
both_apart (a ∷ as') bs one other apart = (
  not_true (has_one (as' ++ bs) (action_number a))
      (λ t. ⊎_elim (λ u. true≢false (sym u ∙ one.0))
      (λ u. apart (action_number a)
      (or_first (nat_eq (action_number a) (action_number a)) (has_one as' (action_number a)) (same_self (action_number a))) u)
      (one_of_two as' bs (action_number a) t)),
  both_apart as' bs one.1 other (λ q t. apart q (or_second (nat_eq (action_number a) q) (has_one as' q) t)),
)

-- ---- what is in the list is in the graph

mutual
  graph_has : (graph : ActionTrees) (q : ℕ) → has_one (all_actions graph) q ≡ true → has (layered graph) q ≡ true
  graph_has no_actions q h = absurd (true≢false (sym h))
  graph_has (action_then (action name number pointer after kind tracked) rest) q h =
      ⊎_elim
      (λ t. or_first (nat_eq number q || holds (layered_kind kind) q) (has (layered rest) q)
      (or_first (nat_eq number q) (holds (layered_kind kind) q) t))
      (λ t. ⊎_elim
      (λ u. or_first (nat_eq number q || holds (layered_kind kind) q) (has (layered rest) q)
      (or_second (nat_eq number q) (holds (layered_kind kind) q) (kind_has kind q u)))
      (λ u. or_second (nat_eq number q || holds (layered_kind kind) q) (has (layered rest) q) (graph_has rest q u))
      (one_of_two (kind_actions kind) (all_actions rest) q t))
      (either (nat_eq number q) (has_one (kind_actions kind ++ all_actions rest) q) h)

  kind_has : (kind : KindTree) (q : ℕ) → has_one (kind_actions kind) q ≡ true → holds (layered_kind kind) q ≡ true
  kind_has (compose inputs) q h = h
  kind_has (connector inputs policy) q h = h
  kind_has (wait inputs) q h = h
  kind_has (response inputs) q h = h
  kind_has (terminate inputs) q h = h
  kind_has (select from item) q h = h
  kind_has (query from filter) q h = h
  kind_has (join from with') q h = h
  kind_has (parse_json content schema) q h = h
  kind_has (initialize variables) q h = h
  kind_has (set_to name value) q h = h
  kind_has (increment name value) q h = h
  kind_has (decrement name value) q h = h
  kind_has (append_array name value) q h = h
  kind_has (append_string name value) q h = h
  kind_has (scope graph) q h = graph_has graph q h
  kind_has (branch test yes' no') q h =
      ⊎_elim (λ t. or_first (has (layered yes') q) (has (layered no') q || false) (graph_has yes' q t))
      (λ t. or_second (has (layered yes') q) (has (layered no') q || false) (or_first (has (layered no') q) false (graph_has no' q t)))
      (one_of_two (all_actions yes') (all_actions no') q h)
  kind_has (switch on cases) q h = cases_have cases (layers.branch layers.done layers.no_branch) q h
  kind_has (switch_else on cases default) q h =
      ⊎_elim (λ t. cases_have cases (layers.branch (layered default) layers.no_branch) q t)
      (λ t. last_has cases (layers.branch (layered default) layers.no_branch) q (or_first (has (layered default) q) false (graph_has default q t)))
      (one_of_two (cases_actions cases) (all_actions default) q h)
  kind_has (foreach items repetitions graph) q h = graph_has graph q h
  kind_has (until test count fails graph) q h = graph_has graph q h

  cases_have : (cases : CaseTrees) (last : Branches) (q : ℕ) → has_one (cases_actions cases) q ≡ true
      → has_any (layered_cases cases last) q ≡ true
  cases_have no_cases last q h = absurd (true≢false (sym h))
  cases_have (case_then name value graph rest) last q h =
      ⊎_elim (λ t. or_first (has (layered graph) q) (has_any (layered_cases rest last) q) (graph_has graph q t))
      (λ t. or_second (has (layered graph) q) (has_any (layered_cases rest last) q) (cases_have rest last q t))
      (one_of_two (all_actions graph) (cases_actions rest) q h)

  last_has : (cases : CaseTrees) (last : Branches) (q : ℕ) → has_any last q ≡ true → has_any (layered_cases cases last) q ≡ true
  last_has no_cases last q h = h
  last_has (case_then name value graph rest) last q h =
      or_second (has (layered graph) q) (has_any (layered_cases rest last) q) (last_has rest last q h)

-- what the last branch has no case has
cases_off : (cases : CaseTrees) (b : Graph) → OnceAny (layered_cases cases (layers.branch b layers.no_branch)) → (q : ℕ)
    → has_one (cases_actions cases) q ≡ true → has b q ≡ true → ⊥
cases_off no_cases b once q h inside = true≢false (sym h)
cases_off (case_then name value graph rest) b once q h inside =
    ⊎_elim
    (λ t. true≢false (sym (last_has rest (layers.branch b layers.no_branch) q (or_first (has b q) false inside))
    ∙ once.0 q (graph_has graph q t)))
    (λ t. cases_off rest b once.2 q t inside)
    (one_of_two (all_actions graph) (cases_actions rest) q h)

mutual
  graph_apart : (graph : ActionTrees) → Once (layered graph) → AreApart (all_actions graph)
  graph_apart no_actions once = tt
  graph_apart (action_then (action name number pointer after kind tracked) rest) once = (
    not_true (has_one (kind_actions kind ++ all_actions rest) number)
        (λ t. ⊎_elim (λ u. true≢false (sym (kind_has kind number u) ∙ once.0))
        (λ u. true≢false (sym (graph_has rest number u)
        ∙ once.1 number (or_first (nat_eq number number) (holds (layered_kind kind) number) (same_self number))))
        (one_of_two (kind_actions kind) (all_actions rest) number t)),
    both_apart (kind_actions kind) (all_actions rest) (kind_apart kind once.2) (graph_apart rest once.3)
        (λ q t u. true≢false (sym (graph_has rest q u) ∙ once.1 q (or_second (nat_eq number q) (holds (layered_kind kind) q) (kind_has kind q t)))),
  )

  kind_apart : (kind : KindTree) → OnceIn (layered_kind kind) → AreApart (kind_actions kind)
  kind_apart (compose inputs) once = tt
  kind_apart (connector inputs policy) once = tt
  kind_apart (wait inputs) once = tt
  kind_apart (response inputs) once = tt
  kind_apart (terminate inputs) once = tt
  kind_apart (select from item) once = tt
  kind_apart (query from filter) once = tt
  kind_apart (join from with') once = tt
  kind_apart (parse_json content schema) once = tt
  kind_apart (initialize variables) once = tt
  kind_apart (set_to name value) once = tt
  kind_apart (increment name value) once = tt
  kind_apart (decrement name value) once = tt
  kind_apart (append_array name value) once = tt
  kind_apart (append_string name value) once = tt
  kind_apart (scope graph) once = graph_apart graph once
  kind_apart (branch test yes' no') once =
      both_apart (all_actions yes') (all_actions no') (graph_apart yes' once.1) (graph_apart no' once.2.1)
      (λ q t u. true≢false (sym (or_first (has (layered no') q) false (graph_has no' q u)) ∙ once.0 q (graph_has yes' q t)))
  kind_apart (switch on cases) once = cases_apart cases (layers.branch layers.done layers.no_branch) once
  kind_apart (switch_else on cases default) once =
      both_apart (cases_actions cases) (all_actions default) (cases_apart cases (layers.branch (layered default) layers.no_branch) once)
      (graph_apart default (once_last cases (layered default) once))
      (λ q t u. cases_off cases (layered default) once q t (graph_has default q u))
  kind_apart (foreach items repetitions graph) once = graph_apart graph once
  kind_apart (until test count fails graph) once = graph_apart graph once

  cases_apart : (cases : CaseTrees) (last : Branches) → OnceAny (layered_cases cases last) → AreApart (cases_actions cases)
  cases_apart no_cases last once = tt
  cases_apart (case_then name value graph rest) last once =
      both_apart (all_actions graph) (cases_actions rest) (graph_apart graph once.1) (cases_apart rest last once.2)
      (λ q t u. true≢false (sym (cases_have rest last q u) ∙ once.0 q (graph_has graph q t)))

-- ---- who waits for another

follower_had : (as' : List ActionTree) (n q : ℕ) → is_among q (followers_of as' n) ≡ true → has_one as' q ≡ true
follower_had [] n q h = h
follower_had (a ∷ as') n q h =
    ⊎_elim
    (λ t. or_first (nat_eq (action_number a) q) (has_one as' q)
    (let is = among_same q (action_number a) (times (needs a) n) t in
    subst (λ x. nat_eq (action_number a) x ≡ true) is (same_self (action_number a))))
    (λ t. or_second (nat_eq (action_number a) q) (has_one as' q) (follower_had as' n q t))
    (among_or q (replicate (times (needs a) n) (action_number a)) (followers_of as' n) h)

few_distinct : (k b : ℕ) (ns : List ℕ) → k ≤ 1 → is_among b ns ≡ false → AreDistinct ns → AreDistinct (replicate k b ++ ns)
few_distinct zero b ns le off once = once
few_distinct (suc zero) b ns le off once = (off, once)
few_distinct (suc (suc k)) b ns le off once = absurd (omega (arith, le))

followers_distinct : (as' : List ActionTree) → AreApart as' → AllByRecursion NamesOnce as' → (n : ℕ) → AreDistinct (followers_of as' n)
followers_distinct [] apart once n = tt
followers_distinct (a ∷ as') apart once n =
    few_distinct (times (needs a) n) (action_number a) (followers_of as' n) (once.0 n)
    (not_true (is_among (action_number a) (followers_of as' n))
    (λ t. true≢false (sym (follower_had as' n (action_number a) t) ∙ apart.0)))
    (followers_distinct as' apart.1 once.1 n)

pub stand_once : (graph : ActionTrees) → Once (layered graph) → StandOnce graph
stand_once graph once =
    let apart = graph_apart graph once in record {
      apart = apart;
      followers = λ names n. followers_distinct (all_actions graph) apart names n;
    }
