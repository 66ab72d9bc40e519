-- A definition whose rules hold is an instance of the laws of order.
use Rattle.std.proofs.Common.{◌≡◌, ℕ, suc, ◌+◌, Bool, true, false, ◌||◌, cond, List, [], ◌∷◌, ◌++◌, length, Some, ◌⊎◌, inl, inr, refl, sym}
use Rattle.std.proofs.Common.{ap, ◌∙◌, arith, true≢false, nat_eq}
use Rattle.std.specs.List.{AllByRecursion}
use Rattle.wf_layers.specs.Definition.{Kind, Graph, Branches, Closed, IsDepth, Turns, holds, has, has_any, kind_of}
use Rattle.wf_layers.specs.Definition as layers
use Rattle.wf_layers.specs.Address.{Address, starts, SeenIn}
use Rattle.wf_layers.specs.Laws.{IsInstance}
use Rattle.wf_layers.specs.Seen.{Once, OnceAny, OnceIn}
use Rattle.wf_layers.proofs.Basics.{two, or_first, or_second, same_self, when, unless}
use Rattle.wf_layers.proofs.Seen.{answers_sound}
use Rattle.wf_accepted_laws.specs.Order.{Contains}
use Rattle.wf_meant.specs.ActionTree.{ActionTree, action, action_kind, KindTree, compose, connector}
use Rattle.wf_meant.specs.ActionTree.{wait, response, terminate, select, query}
use Rattle.wf_meant.specs.ActionTree.{join, parse_json, initialize, set_to, increment, decrement}
use Rattle.wf_meant.specs.ActionTree.{append_array, append_string, scope, branch}
use Rattle.wf_meant.specs.ActionTree.{switch, switch_else, foreach, until, ActionTrees, no_actions, action_then, CaseTrees, no_cases}
use Rattle.wf_meant.specs.ActionTree.{case_then}
use Rattle.wf_meant.specs.AllActions.{all_actions, cases_actions, kind_actions, numbered}
use Rattle.wf_meant.specs.DefTree.{DefTree}
use Rattle.wf_meant.specs.Layered.{layered, layered_cases, layered_kind}
use Rattle.wf_meant.specs.Environment.{Environment}
use Rattle.wf_meant.specs.Loops.{loops_any, loops_in, loops_of}
use Rattle.wf_meant.specs.Points.{graph_of}
use Rattle.wf_meant.specs.Source.{source}
use Rattle.wf_instance.proofs.AnswerLemmas.{Laws, Rules}
use Rattle.wf_meant.proofs.RoundLemmas.{loops_none}
use Rattle.wf_instance.proofs.TestLemmas.{Tests}
use Rattle.wf_instance.proofs.WalkLemmas.{IsFound, Placed, PlacedCases, PlacedIn, answers}

all_front : {X : Type 0} (P : X → Type 0) (xs ys : List X) → AllByRecursion P (xs ++ ys) → AllByRecursion P xs
all_front P [] ys all = tt
all_front P (x ∷ xs) ys all = (all.0, all_front P xs ys all.1)

all_back : {X : Type 0} (P : X → Type 0) (xs ys : List X) → AllByRecursion P (xs ++ ys) → AllByRecursion P ys
all_back P [] ys all = all
all_back P (x ∷ xs) ys all = all_back P xs ys all.1

-- ---- where each action stands

module _ (d : DefTree) where
  abbrev Found : List ActionTree → Type 0
  Found as' = AllByRecursion (IsFound d) as'

  -- of each action of a graph in l loops: the loops round it in the definition are l and those round it in the graph
  abbrev Count : Graph → ℕ → Type 0
  Count graph l = (n : ℕ) → has graph n ≡ true → length (loops_of (graph_of d) n) ≡ l + length (loops_of graph n)

  abbrev CountIn : (ℕ → Bool) → (ℕ → List ℕ) → ℕ → Type 0
  CountIn held loops l = (n : ℕ) → held n ≡ true → length (loops_of (graph_of d) n) ≡ l + length (loops n)

  deeper : (m l : ℕ) (graph : Graph) → CountIn (has graph) (λ n. m ∷ loops_of graph n) l → Count graph (suc l)
  deeper m l graph count n own = omega (arith, count n own)

  -- of branches: the first, and the others
  counts_first : (b : Graph) (rest : Branches) (l : ℕ) → CountIn (has_any (layers.branch b rest)) (loops_any (layers.branch b rest)) l
      → Count b l
  counts_first b rest l count n here =
      count n (or_first (has b n) (has_any rest n) here) ∙ ap (λ (ls : List ℕ). l + length ls)
      (when (has b n) (loops_of b n) (loops_any rest n) here)

  counts_rest : (b : Graph) (rest : Branches) (l : ℕ) → ((m : ℕ) → has b m ≡ true → has_any rest m ≡ false)
      → CountIn (has_any (layers.branch b rest)) (loops_any (layers.branch b rest)) l → CountIn (has_any rest) (loops_any rest) l
  counts_rest b rest l apart count n there =
      count n (or_second (has b n) (has_any rest n) there)
      ∙ ap (λ (ls : List ℕ). l + length ls) (unless (has b n) (loops_of b n) (loops_any rest n) (off (two (has b n))))
    where
      off : (has b n ≡ true) ⊎ (has b n ≡ false) → has b n ≡ false
      off (inl t) = absurd (true≢false (sym there ∙ apart n t))
      off (inr f) = f

  -- the last branch of a Switch
  pub once_last : (cases : CaseTrees) (b : Graph) → OnceAny (layered_cases cases (layers.branch b layers.no_branch)) → Once b
  once_last no_cases b once = once.1
  once_last (case_then name value graph rest) b once = once_last rest b once.2

  count_last : (cases : CaseTrees) (b : Graph) (l : ℕ) → OnceAny (layered_cases cases (layers.branch b layers.no_branch))
      → CountIn (has_any (layered_cases cases (layers.branch b layers.no_branch)))
      (loops_any (layered_cases cases (layers.branch b layers.no_branch))) l
      → Count b l
  count_last no_cases b l once count = counts_first b layers.no_branch l count
  count_last (case_then name value graph rest) b l once count =
      count_last rest b l once.2 (counts_rest (layered graph) (layered_cases rest (layers.branch b layers.no_branch)) l once.0 count)

  mutual
    pub placed : (graph : ActionTrees) (l : ℕ) → Found (all_actions graph) → Once (layered graph) → Count (layered graph) l
        → Placed d graph l
    placed no_actions l found once count = tt
    placed (action_then (action name number pointer after kind tracked) rest) l found once count = (
      found.0,
      own (count number (or_first (nat_eq number number || holds (layered_kind kind) number) (has (layered rest) number)
          (or_first (nat_eq number number) (holds (layered_kind kind) number) (same_self number)))),
      placed_in kind number l (all_front (IsFound d) (kind_actions kind) (all_actions rest) found.1) once.2
          (λ n held. count n (or_first (nat_eq number n || holds (layered_kind kind) n) (has (layered rest) n)
          (or_second (nat_eq number n) (holds (layered_kind kind) n) held))
          ∙ ap (λ (ls : List ℕ). l + length ls)
          (when (holds (layered_kind kind) n) (loops_in number (layered_kind kind) n) (loops_of (layered rest) n) held)),
      placed rest l (all_back (IsFound d) (kind_actions kind) (all_actions rest) found.1) once.3
          (λ n there. count n (or_second (nat_eq number n || holds (layered_kind kind) n) (has (layered rest) n) there)
          ∙ ap (λ (ls : List ℕ). l + length ls)
          (unless (holds (layered_kind kind) n) (loops_in number (layered_kind kind) n) (loops_of (layered rest) n) (behind n there))),
    )
      where
        own : length (loops_of (graph_of d) number) ≡ l + length
            (cond (holds (layered_kind kind) number) (loops_in number (layered_kind kind) number) (loops_of (layered rest) number))
            → length (loops_of (graph_of d) number) ≡ l
        own count' = omega (
          arith,
          count',
          ap length (unless (holds (layered_kind kind) number) (loops_in number (layered_kind kind) number)
              (loops_of (layered rest) number) once.0
              ∙ loops_none (layered rest) number (once.1 number (or_first (nat_eq number number) (holds (layered_kind kind) number)
              (same_self number)))),
        )

        behind : (n : ℕ) → has (layered rest) n ≡ true → holds (layered_kind kind) n ≡ false
        behind n there = elim (two (holds (layered_kind kind) n)) [
          | inl t ↦ absurd (true≢false (sym there ∙ once.1 n (or_second (nat_eq number n) (holds (layered_kind kind) n) t)))
          | inr f ↦ f
        ]

    pub placed_in : (kind : KindTree) (m l : ℕ) → Found (kind_actions kind) → OnceIn (layered_kind kind)
        → CountIn (holds (layered_kind kind)) (loops_in m (layered_kind kind)) l → PlacedIn d kind l
    placed_in (compose inputs) m l found once count = tt
    placed_in (connector inputs policy) m l found once count = tt
    placed_in (wait inputs) m l found once count = tt
    placed_in (response inputs) m l found once count = tt
    placed_in (terminate inputs) m l found once count = tt
    placed_in (select from item) m l found once count = tt
    placed_in (query from filter) m l found once count = tt
    placed_in (join from with') m l found once count = tt
    placed_in (parse_json content schema) m l found once count = tt
    placed_in (initialize variables) m l found once count = tt
    placed_in (set_to name value) m l found once count = tt
    placed_in (increment name value) m l found once count = tt
    placed_in (decrement name value) m l found once count = tt
    placed_in (append_array name value) m l found once count = tt
    placed_in (append_string name value) m l found once count = tt
    placed_in (scope graph) m l found once count = placed graph l found once count
    placed_in (branch test yes' no') m l found once count = (
      placed yes' l (all_front (IsFound d) (all_actions yes') (all_actions no') found) once.1 (counts_first (layered yes')
          (layers.branch (layered no') layers.no_branch) l count),
      placed no' l (all_back (IsFound d) (all_actions yes') (all_actions no') found) once.2.1
          (counts_first (layered no') layers.no_branch l (counts_rest (layered yes')
          (layers.branch (layered no') layers.no_branch) l once.0 count)),
    )
    placed_in (switch on cases) m l found once count =
        placed_cases cases (layers.branch layers.done layers.no_branch) l found once count
    placed_in (switch_else on cases default) m l found once count = (
      placed_cases cases (layers.branch (layered default) layers.no_branch) l
          (all_front (IsFound d) (cases_actions cases) (all_actions default) found) once count,
      placed default l (all_back (IsFound d) (cases_actions cases) (all_actions default) found) (once_last cases (layered default) once)
          (count_last cases (layered default) l once count),
    )
    placed_in (foreach items repetitions graph) m l found once count = placed graph (suc l) found once (deeper m l (layered graph) count)
    placed_in (until test count' fails graph) m l found once count = placed graph (suc l) found once (deeper m l (layered graph) count)

    pub placed_cases : (cases : CaseTrees) (last : Branches) (l : ℕ) → Found (cases_actions cases) → OnceAny (layered_cases cases last)
        → CountIn (has_any (layered_cases cases last)) (loops_any (layered_cases cases last)) l → PlacedCases d cases l
    placed_cases no_cases last l found once count = tt
    placed_cases (case_then name value graph rest) last l found once count = (
      placed graph l (all_front (IsFound d) (all_actions graph) (cases_actions rest) found) once.1
          (counts_first (layered graph) (layered_cases rest last) l count),
      placed_cases rest last l (all_back (IsFound d) (all_actions graph) (cases_actions rest) found) once.2
          (counts_rest (layered graph) (layered_cases rest last) l once.0 count),
    )

-- THE PREMISE OF ALL LAWS
pub instance_of : (d : DefTree) (e : Environment) (rules : Rules d) (laws : Laws) (tests : Tests d) (depth : ℕ → ℕ)
    → ((c x z : Address) → Contains (graph_of d) c.name x.name → starts c.at x.at ≡ true → SeenIn (graph_of d) c z → SeenIn
    (graph_of d) x z)
    → ((n : ℕ) (a : ActionTree) → numbered n d.top ≡ Some a → kind_of (graph_of d) n ≡ Some (layered_kind (action_kind a)))
    → AllByRecursion (IsFound d) (all_actions d.top)
    → Closed (graph_of d) (graph_of d) → IsDepth (graph_of d) depth → Turns (graph_of d)
    → IsInstance (graph_of d) (source d e) depth
instance_of d e rules laws tests depth seen_inside kinds found closed falls turns = record {
  local = answers_sound (graph_of d) (source d e) rules.kept.once closed
      (answers d e rules laws seen_inside tests kinds d.top 0 (placed d d.top 0 found rules.kept.once (λ n own. omega arith)));
  closed = closed;
  falls = falls;
  turns = turns;
  own = λ n. (refl, refl);
}
