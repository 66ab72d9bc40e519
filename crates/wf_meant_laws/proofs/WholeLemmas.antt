-- The row of a loop tells how many iterations there were.
use Rattle.std.proofs.Common.{◌≡◌, ℕ, suc, ◌<◌, Bool, true, false, ◌&&◌, cond, List, length, Option, Some, None}
use Rattle.std.proofs.Common.{refl, sym, ap, ◌∙◌, subst}
use Rattle.wf_layers.specs.Address.{Address, Table, address}
use Rattle.wf_layers.specs.Called.{iterations}
use Rattle.wf_layers.specs.Definition as layers
use Rattle.wf_layers.specs.Definition.{Branches, Graph, Kind, Pace, Foreach, Until, done, add, holds, has, kind_of, no_branch, branch}
use Rattle.wf_layers.specs.Instances.{loop_count, loop_count_any, loop_count_in}
use Rattle.wf_layers.specs.Meaning.{last}
use Rattle.wf_seen_laws.specs.Indexes as indexes
use Rattle.wf_seen_laws.specs.Indexes.{loops_round}
use Rattle.wf_seen_laws.specs.Loops.{loops_any, loops_in, loops_of}
use Rattle.wf_seen_laws.specs.ActionTree.{ActionTree, ActionTrees, action, action_kind, KindTree, compose}
use Rattle.wf_seen_laws.specs.ActionTree.{connector, wait, response, terminate}
use Rattle.wf_seen_laws.specs.ActionTree.{select, query, join, parse_json, initialize, set_to}
use Rattle.wf_seen_laws.specs.ActionTree.{increment, decrement, append_array, append_string}
use Rattle.wf_seen_laws.specs.ActionTree.{scope, switch, switch_else, foreach, until}
use Rattle.wf_seen_laws.specs.ActionTree as tree
use Rattle.wf_seen_laws.specs.AllActions.{numbered}
use Rattle.wf_seen_laws.specs.DefTree.{DefTree}
use Rattle.wf_seen_laws.specs.Layered.{layered_kind}
use Rattle.wf_instance.specs.Decisions.{DecisionTree, items_of}
use Rattle.wf_instance.specs.Verdicts.{VerdictTree}
use Rattle.wf_record.specs.Record.{Row}
use Rattle.wf_instance.specs.Laws.{IsForeach, IsUntil}
use Rattle.wf_layers.specs.Seen.{Once}
use Rattle.wf_seen_laws.specs.Turns.{IsInstance}
use Rattle.wf_seen_laws.proofs.InsideLemmas.{kind_has}
use Rattle.wf_instance.specs.Environment.{Environment}
use Rattle.wf_instance.specs.Answering.{AnswersAs, RowSource}
use Rattle.wf_instance.specs.Containers.{last_status}
use Rattle.wf_instance.specs.Points.{graph_of}
use Rattle.wf_instance.specs.Rows.{iterations_of, turns_at}
use Rattle.wf_instance.specs.Source.{close_of}
use Rattle.wf_instance.proofs.TellLemmas.{items_back, rounds_back}
use Rattle.wf_instance.proofs.KindLemmas.{kinds}
use Rattle.wf_seen_laws.specs.Laws.{HadMore, HadTurn}
use Rattle.wf_meant_laws.specs.Tables.{StandAtInstances}
use Rattle.wf_meant_laws.proofs.WriterLemmas.{some_is}

-- ---- as many indexes as loops

pick : (b : Bool) (ls ms : List ℕ) (p q : ℕ) → p ≡ length ls → q ≡ length ms → cond b p q ≡ length (cond b ls ms)
pick true ls ms p q one other = one
pick false ls ms p q one other = other

mutual
  count_in : (n : ℕ) (kind : Kind) (x : ℕ) → loop_count_in kind x ≡ length (loops_in n kind x)
  count_in n layers.Leaf x = refl
  count_in n (layers.Scope g) x = count_of g x
  count_in n (layers.Choice bs) x = count_any bs x
  count_in n (Foreach pace g) x = ap suc (count_of g x)
  count_in n (Until most g) x = ap suc (count_of g x)

  count_any : (bs : Branches) (x : ℕ) → loop_count_any bs x ≡ length (loops_any bs x)
  count_any no_branch x = refl
  count_any (branch b rest) x = pick (has b x) (loops_of b x) (loops_any rest x) (loop_count b x) (loop_count_any rest x) (count_of b x)
      (count_any rest x)

  pub count_of : (g : Graph) (x : ℕ) → loop_count g x ≡ length (loops_of g x)
  count_of done x = refl
  count_of (add n after kind rest) x = pick (holds kind x) (loops_in n kind x) (loops_of rest x) (loop_count_in kind x) (loop_count rest x)
      (count_in n kind x) (count_of rest x)

pick_both : (b : Bool) (ls ms : List ℕ) (p q : ℕ) → p ≡ length ls → q ≡ length ms → cond (b && b) p q ≡ length (cond b ls ms)
pick_both true ls ms p q one other = one
pick_both false ls ms p q one other = other

mutual
  round_in : (n : ℕ) (kind : Kind) (x : ℕ) → indexes.loops_in kind x x ≡ length (loops_in n kind x)
  round_in n layers.Leaf x = refl
  round_in n (layers.Scope g) x = round_of g x
  round_in n (layers.Choice bs) x = round_any bs x
  round_in n (Foreach pace g) x = ap suc (round_of g x)
  round_in n (Until most g) x = ap suc (round_of g x)

  round_any : (bs : Branches) (x : ℕ) → indexes.loops_any bs x x ≡ length (loops_any bs x)
  round_any no_branch x = refl
  round_any (branch b rest) x = pick_both (has b x) (loops_of b x) (loops_any rest x) (loops_round b x x) (indexes.loops_any rest x x)
      (round_of b x) (round_any rest x)

  pub round_of : (g : Graph) (x : ℕ) → loops_round g x x ≡ length (loops_of g x)
  round_of done x = refl
  round_of (add n after kind rest) x = pick_both (holds kind x) (loops_in n kind x) (loops_of rest x) (indexes.loops_in kind x x)
      (loops_round rest x x) (round_in n kind x) (round_of rest x)

-- ---- which actions are loops

-- the kind of an action, where the laws of order know it as a loop
abbrev LoopIf : Kind → KindTree → Type 0
LoopIf (Foreach pace g) kind = IsForeach kind
LoopIf (Until most g) kind = IsUntil kind
LoopIf k kind = Unit {0}

loop_is : (kind : KindTree) → LoopIf (layered_kind kind) kind
loop_is (compose inputs) = tt
loop_is (connector inputs policy) = tt
loop_is (wait inputs) = tt
loop_is (response inputs) = tt
loop_is (terminate inputs) = tt
loop_is (select from item) = tt
loop_is (query from filter) = tt
loop_is (join from with') = tt
loop_is (parse_json content schema) = tt
loop_is (initialize variables) = tt
loop_is (set_to name value) = tt
loop_is (increment name value) = tt
loop_is (decrement name value) = tt
loop_is (append_array name value) = tt
loop_is (append_string name value) = tt
loop_is (scope graph) = tt
loop_is (tree.branch test yes' no') = tt
loop_is (switch on cases) = tt
loop_is (switch_else on cases default) = tt
loop_is (foreach items repetitions graph) = tt
loop_is (until test count fails graph) = tt

-- ---- the rows of a definition's loops

module _ (d : DefTree) (e : Environment) (rows : Table Row) where
  -- the row of an action that was closed with this decision, after so many iterations, tells of them
  foreach_row : (a : ActionTree) (x : Address) (decision : DecisionTree) (turn : ℕ) → IsForeach (action_kind a)
      → turn < items_of decision → turn < iterations_of (Some a) (Some (close_of d e (Some a) x decision 0 None rows))
  foreach_row (action name number pointer after (foreach items repetitions graph) tracked) x decision turn is lt =
      subst (λ (n : ℕ). turn < n) (sym (items_back graph x.at rows decision)) lt
  foreach_row (action name number pointer after kind tracked) x decision turn is lt = absurd is

  until_row : (a : ActionTree) (x : Address) (decision : DecisionTree) (n : ℕ) (verdict : Option VerdictTree) (turn : ℕ)
      → IsUntil (action_kind a) → turn < n → turn < iterations_of (Some a) (Some (close_of d e (Some a) x decision n verdict rows))
  until_row (action name number pointer after (until test count fails graph) tracked) x decision n verdict turn is lt =
      subst (λ (k : ℕ). turn < k) (sym (rounds_back fails (last_status graph x.at rows n) n verdict)) lt
  until_row (action name number pointer after kind tracked) x decision n verdict turn is lt = absurd is

  -- of any source by which the actions answer as the definition's
  module _ (m : RowSource) (answers : AnswersAs d e m) (once : Once (graph_of d))
      (numbers : (l : ℕ) → has (graph_of d) l ≡ true → (a : ActionTree) × (numbered l d.top ≡ Some a)) where
    -- the action of a loop
    kind_found : (l : ℕ) (k : Kind) (a : ActionTree) → kind_of (graph_of d) l ≡ Some k → numbered l d.top ≡ Some a
        → layered_kind (action_kind a) ≡ k
    kind_found l k a is found = some_is (sym (kinds d once l a found) ∙ is)

    abbrev Closes : Type 0
    Closes = Address → DecisionTree → ℕ → Option VerdictTree → Table Row → Row

    -- its row, as it closes by the source, tells what it does as it closes by the definition
    closed_tells : (l : ℕ) (at : List ℕ) (turn : ℕ) (decision : DecisionTree) (n : ℕ) (verdict : Option VerdictTree) (a : ActionTree)
        → numbered l d.top ≡ Some a
        → turn < iterations_of (Some a) (Some (close_of d e (Some a) (address l at) decision n verdict rows))
        → rows (address l at) ≡ Some (m.close (address l at) decision n verdict rows) → turn < turns_at d rows l at
    closed_tells l at turn decision n verdict a found tells there =
        subst (λ (o : Option Row). turn < iterations_of (numbered l d.top) o) (sym there)
        (subst (λ (close : Closes). turn < iterations_of (numbered l d.top) (Some (close (address l at) decision n verdict rows)))
        (sym answers.close)
        (subst (λ (o : Option ActionTree). turn < iterations_of o (Some (close_of d e o (address l at) decision n verdict rows)))
        (sym found) tells))

    told_by_row : (l : ℕ) (at : List ℕ) (turn : ℕ) (k : Kind) → kind_of (graph_of d) l ≡ Some k
        → HadMore m rows k (address l at) turn → turn < turns_at d rows l at
    told_by_row l at turn layers.Leaf is had = absurd had
    told_by_row l at turn (layers.Scope g) is had = absurd had
    told_by_row l at turn (layers.Choice bs) is had = absurd had
    told_by_row l at turn (Foreach pace g) is had =
        let decision = m.decide (address l at) rows in
        let a = numbers l (kind_has (graph_of d) l (Foreach pace g) is) in
        let kind = subst (λ (k : Kind). LoopIf k (action_kind a.0)) (kind_found l (Foreach pace g) a.0 is a.1)
        (loop_is (action_kind a.0)) in
        closed_tells l at turn decision 0 None a.0 a.1
        (foreach_row a.0 (address l at) decision turn kind
        (subst (λ (items : DecisionTree → ℕ). turn < items decision) answers.items had.1)) had.0
    told_by_row l at turn (Until most g) is had =
        let n = iterations m (Until most g) (address l at) rows in
        let verdict = last n (λ (j : ℕ). m.test (address l at) j rows) in
        let a = numbers l (kind_has (graph_of d) l (Until most g) is) in
        let kind = subst (λ (k : Kind). LoopIf k (action_kind a.0)) (kind_found l (Until most g) a.0 is a.1)
        (loop_is (action_kind a.0)) in
        closed_tells l at turn (m.decide (address l at) rows) n verdict a.0 a.1
        (until_row a.0 (address l at) (m.decide (address l at) rows) n verdict turn kind had.1) had.0

    pub had_tells : (l : ℕ) (at : List ℕ) (turn : ℕ) → HadTurn (graph_of d) m rows l at turn → turn < turns_at d rows l at
    had_tells l at turn h = told_by_row l at turn h.kind h.is h.had

-- an index for each loop
pub full_of : (d : DefTree) (rows : Table Row) → StandAtInstances d rows → (x : Address) (row : Row) → rows x ≡ Some row
    → length x.at ≡ length (loops_of (graph_of d) x.name)
full_of d rows stand x row there = sym (stand x row there).1 ∙ round_of (graph_of d) x.name

pub stands : (d : DefTree) (x : Address) → (has (graph_of d) x.name ≡ true) × (loop_count (graph_of d) x.name ≡ length x.at)
    → IsInstance (graph_of d) x
stands d x at = (at.0, round_of (graph_of d) x.name ∙ (sym (count_of (graph_of d) x.name) ∙ at.1))
