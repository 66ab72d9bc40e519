-- THE ANSWERS OF A WHOLE DEFINITION are local.
use Rattle.std.proofs.Common.{◌≡◌, ℕ, suc, true, List, [], length, Option, Some, refl, sym, ◌∙◌, subst}
use Rattle.wf_layers.specs.Definition.{Kind, Graph, Branches, holds, has, has_any, kind_of}
use Rattle.wf_layers.specs.Definition as layers
use Rattle.wf_layers.specs.Address.{Address, Table, address, starts, SeenIn}
use Rattle.wf_layers.specs.Seen.{Answers, AnswersAny, AnswersIn}
use Rattle.wf_layers.specs.Source.{Agrees, AgreesInside, CloseLocal, DecideLocal, Source}
use Rattle.wf_accepted_laws.specs.Order.{Contains}
use Rattle.wf_meant.specs.ActionTree.{ActionTree, action, action_kind, action_number, KindTree, compose}
use Rattle.wf_meant.specs.ActionTree.{connector, wait, response, terminate}
use Rattle.wf_meant.specs.ActionTree.{select, query, join, parse_json, initialize, set_to}
use Rattle.wf_meant.specs.ActionTree.{increment, decrement, append_array, append_string}
use Rattle.wf_meant.specs.ActionTree.{scope, branch, switch, switch_else, foreach, until, ActionTrees, no_actions, action_then, CaseTrees}
use Rattle.wf_meant.specs.ActionTree.{no_cases, case_then}
use Rattle.wf_meant.specs.AllActions.{numbered}
use Rattle.wf_meant.specs.DefTree.{DefTree}
use Rattle.wf_meant.specs.Layered.{layered, layered_cases, layered_kind}
use Rattle.wf_meant.specs.Environment.{Environment}
use Rattle.wf_meant.specs.Loops.{loops_of}
use Rattle.wf_meant.specs.Decisions.{DecisionTree}
use Rattle.wf_meant.specs.Verdicts.{VerdictTree}
use Rattle.wf_meant.specs.Leaf.{BegunTree}
use Rattle.wf_meant.specs.Points.{graph_of}
use Rattle.wf_record.specs.Record.{Row}
use Rattle.wf_meant.specs.Source.{close_of, source}
use Rattle.wf_instance.proofs.AnswerLemmas.{Laws, Rules, close_same, decide_same, finish_same, halts_same, start_same}
use Rattle.wf_instance.proofs.ItemLemmas.{Alike, Opened}
use Rattle.wf_instance.proofs.OpenedLemmas.{opened_loops}
use Rattle.wf_instance.proofs.TestLemmas.{Tests, tested_same}

-- ---- where each action stands: it is found by its number, and so many loops are round it

module _ (d : DefTree) where
  abbrev pub IsFound : ActionTree → Type 0
  IsFound a = numbered (action_number a) d.top ≡ Some a

  abbrev mutual
    pub Placed : ActionTrees → ℕ → Type 0
    Placed no_actions l = Unit {0}
    Placed (action_then (action name number pointer after kind tracked) rest) l =
        (numbered number d.top ≡ Some (action name number pointer after kind tracked)) × (length (loops_of (graph_of d) number) ≡ l)
        × PlacedIn kind l × Placed rest l

    pub PlacedIn : KindTree → ℕ → Type 0
    PlacedIn (compose inputs) l = Unit {0}
    PlacedIn (connector inputs policy) l = Unit {0}
    PlacedIn (wait inputs) l = Unit {0}
    PlacedIn (response inputs) l = Unit {0}
    PlacedIn (terminate inputs) l = Unit {0}
    PlacedIn (select from item) l = Unit {0}
    PlacedIn (query from filter) l = Unit {0}
    PlacedIn (join from with') l = Unit {0}
    PlacedIn (parse_json content schema) l = Unit {0}
    PlacedIn (initialize variables) l = Unit {0}
    PlacedIn (set_to name value) l = Unit {0}
    PlacedIn (increment name value) l = Unit {0}
    PlacedIn (decrement name value) l = Unit {0}
    PlacedIn (append_array name value) l = Unit {0}
    PlacedIn (append_string name value) l = Unit {0}
    PlacedIn (scope graph) l = Placed graph l
    PlacedIn (branch test yes' no') l = Placed yes' l × Placed no' l
    PlacedIn (switch on cases) l = PlacedCases cases l
    PlacedIn (switch_else on cases default) l = PlacedCases cases l × Placed default l
    PlacedIn (foreach items repetitions graph) l = Placed graph (suc l)
    PlacedIn (until test count fails graph) l = Placed graph (suc l)

    pub PlacedCases : CaseTrees → ℕ → Type 0
    PlacedCases no_cases l = Unit {0}
    PlacedCases (case_then name value graph rest) l = Placed graph l × PlacedCases rest l

module _ (d : DefTree) (e : Environment) (rules : Rules d) (laws : Laws)
    (seen_inside : (c x z : Address) → Contains (graph_of d) c.name x.name → starts c.at x.at ≡ true → SeenIn (graph_of d) c z
    → SeenIn (graph_of d) x z)
    (tests : Tests d)
    (kinds : (n : ℕ) (a : ActionTree) → numbered n d.top ≡ Some a → kind_of (graph_of d) n ≡ Some (layered_kind (action_kind a))) where
  abbrev g : Graph
  g = graph_of d

  abbrev s : Source Row BegunTree DecisionTree VerdictTree
  s = source d e

  module _ (n l : ℕ) (long : length (loops_of g n) ≡ l) (i : List ℕ) (of : length i ≡ l) (t u : Table Row)
      (agree : Agrees (SeenIn g) (address n i) t u) where
    alike : Alike d e rules.kept laws.decides t u (address n i)
    alike = record { full = of ∙ sym long; agree = agree }

    opened : Opened d e rules.kept laws.decides t u (loops_of g n) i []
    opened = opened_loops d e rules.kept laws.decides t u (address n i) agree seen_inside

    pub start_at : s.start (address n i) t ≡ s.start (address n i) u
    start_at = start_same d e rules laws t u (address n i) alike opened

    pub finish_at : (b : BegunTree) → s.finish (address n i) b t ≡ s.finish (address n i) b u
    finish_at b = finish_same d e rules laws t u (address n i) alike opened b

    pub decide_at : s.decide (address n i) t ≡ s.decide (address n i) u
    decide_at = decide_same d e rules laws t u (address n i) alike opened

    pub halts_at : s.halts (address n i) t ≡ s.halts (address n i) u
    halts_at = halts_same d e rules laws t u (address n i) alike opened

    pub close_at : (a : ActionTree) → numbered n d.top ≡ Some a → AgreesInside (layered_kind (action_kind a)) i t u
        → (decision : DecisionTree) (k : ℕ) (v : Option VerdictTree)
        → s.close (address n i) decision k v t ≡ s.close (address n i) decision k v u
    close_at a is inside decision k v =
        subst (λ (found : Option ActionTree). close_of d e found (address n i) decision k v t ≡ close_of d e found
        (address n i) decision k v u) (sym is)
        (close_same d e rules laws t u (address n i) alike opened a is inside decision k v)

  leaf : (n l : ℕ) → length (loops_of g n) ≡ l → AnswersIn g s layers.Leaf n l
  leaf n l long = ((λ i of t u agree. start_at n l long i of t u agree), λ i of t u b agree. finish_at n l long i of t u agree b)

  decides : (n l : ℕ) → length (loops_of g n) ≡ l → DecideLocal s (SeenIn g) n l
  decides n l long = λ i of t u agree. decide_at n l long i of t u agree

  closes : (a : ActionTree) (kind : KindTree) (n l : ℕ) → numbered n d.top ≡ Some a → action_kind a ≡ kind → length (loops_of g n) ≡ l
      → CloseLocal s (SeenIn g) (layered_kind kind) n l
  closes a kind n l is of' long = λ i of t u decision k v agree inside.
      close_at n l long i of t u agree a is (subst (λ (q : KindTree). AgreesInside (layered_kind q) i t u) (sym of') inside) decision k v

  mutual
    pub answers : (graph : ActionTrees) (l : ℕ) → Placed d graph l → Answers g s (layered graph) l
    answers no_actions l placed = tt
    answers (action_then (action name number pointer after kind tracked) rest) l placed = (
      (λ i of t u agree. halts_at number l placed.1 i of t u agree),
      answers_in (action name number pointer after kind tracked) kind number l placed.0 refl placed.1 placed.2,
      answers rest l placed.3,
    )

    pub answers_in : (a : ActionTree) (kind : KindTree) (n l : ℕ) → numbered n d.top ≡ Some a → action_kind a ≡ kind → length
        (loops_of g n) ≡ l
        → PlacedIn d kind l → AnswersIn g s (layered_kind kind) n l
    answers_in a (scope graph) n l is of long placed = (closes a (scope graph) n l is of long, decides n l long, answers graph l placed)
    answers_in a (branch test yes' no') n l is of long placed =
        (closes a (branch test yes' no') n l is of long, decides n l long, (answers yes' l placed.0, (answers no' l placed.1, tt)))
    answers_in a (switch on cases) n l is of long placed = (
      closes a (switch on cases) n l is of long,
      decides n l long,
      answers_cases cases (layers.branch layers.done layers.no_branch) l placed (tt, tt),
    )
    answers_in a (switch_else on cases default) n l is of long placed = (
      closes a (switch_else on cases default) n l is of long,
      decides n l long,
      answers_cases cases (layers.branch (layered default) layers.no_branch) l placed.0 (answers default l placed.1, tt),
    )
    answers_in a (foreach items repetitions graph) n l is of long placed =
        (closes a (foreach items repetitions graph) n l is of long, decides n l long, answers graph (suc l) placed)
    answers_in a (until test count fails graph) n l is of long placed =
        (closes a (until test count fails graph) n l is of long, decides n l long, tested_same d e rules laws tests seen_inside a n l test count fails graph is of (kinds n a is) long, answers graph (suc l) placed)
    answers_in a (compose inputs) n l is of long placed = leaf n l long
    answers_in a (connector inputs policy) n l is of long placed = leaf n l long
    answers_in a (wait inputs) n l is of long placed = leaf n l long
    answers_in a (response inputs) n l is of long placed = leaf n l long
    answers_in a (terminate inputs) n l is of long placed = leaf n l long
    answers_in a (select from item) n l is of long placed = leaf n l long
    answers_in a (query from filter) n l is of long placed = leaf n l long
    answers_in a (join from with') n l is of long placed = leaf n l long
    answers_in a (parse_json content schema) n l is of long placed = leaf n l long
    answers_in a (initialize variables) n l is of long placed = leaf n l long
    answers_in a (set_to name value) n l is of long placed = leaf n l long
    answers_in a (increment name value) n l is of long placed = leaf n l long
    answers_in a (decrement name value) n l is of long placed = leaf n l long
    answers_in a (append_array name value) n l is of long placed = leaf n l long
    answers_in a (append_string name value) n l is of long placed = leaf n l long

    pub answers_cases : (cases : CaseTrees) (last : Branches) (l : ℕ) → PlacedCases d cases l → AnswersAny g s last l
        → AnswersAny g s (layered_cases cases last) l
    answers_cases no_cases last l placed more = more
    answers_cases (case_then name value graph rest) last l placed more = (answers graph l placed.0, answers_cases rest last l placed.1 more)
