-- Where a run stands, told by what is kept of it.
use Rattle.std.proofs.Common.{◌≡◌, ◌≢◌, ℕ, Bool, true, false, List, [], ◌∷◌, nat_lt, length, Option, None, Some, inl, sym, subst, refl, ◌∙◌, arith, true≢false, is_eq, ◌||◌, map}
use Rattle.std.specs.List.{AllByRecursion}
use Rattle.std.specs.Prelude.{IfSome, is_some}
use Rattle.wf_stands.specs.Answered.{answered}
use Rattle.wf_answers.specs.AnswerTree.{Key, key_cmp}
use Rattle.wf_answers.specs.Inputs.{InputsTree}
use Rattle.wf_answers.specs.InputsSeen.{inputs_tree}
use Rattle.wf_answers.specs.declared.inputs.Inputs.{Inputs}
use Rattle.wf_asks.specs.Instances.{address_of}
use Rattle.wf_asks.specs.Known.{open_tree}
use Rattle.wf_asks.specs.declared.known.OpenAt.{OpenAt}
use Rattle.wf_asks.specs.declared.known.RowAt.{RowAt}
use Rattle.wf_def.specs.DefTree.{DefTree}
use Rattle.wf_stands.specs.Costs.{cost_of_row}
use Rattle.wf_stands.specs.Weights.{begun_weight, decision_weight}
use Rattle.wf_done.specs.DoneSeen.{begun_tree}
use Rattle.wf_done.specs.declared.leaf.Begun.{Begun}
use Rattle.wf_environment.specs.Environment.{fresh}
use Rattle.wf_layers.specs.Address.{Address}
use Rattle.wf_layers.specs.Machine.{IsOver}
use Rattle.wf_lists.specs.KeyOrder.{IsInKeyOrder}
use Rattle.wf_lists.proofs.KeyOrderLemmas.{in_order-map, in_order-on}
use Rattle.wf_planned.specs.Points.{graph_of}
use Rattle.wf_meter.specs.Cost.{leaf_cost, open_cost}
use Rattle.wf_opening.specs.DecisionSeen.{decision_tree, verdict_tree}
use Rattle.wf_opening.specs.Decisions.{items_of}
use Rattle.wf_opening.specs.declared.decide.Decision.{Decision}
use Rattle.wf_opening.specs.declared.verdict.Verdict.{Verdict}
use Rattle.wf_quiet.proofs.Wanted.{over}
use Rattle.wf_reading.specs.ReadSeen.{def_tree}
use Rattle.wf_record.specs.declared.row.Row.{Row}
use Rattle.wf_stands.specs.Checked.{Checked}
use Rattle.wf_runnable.specs.Aside.{Aside, IsAside, IsAsideAtLast}
use Rattle.wf_stands.specs.Moment.{Costs, source_of}
use Rattle.wf_stands.specs.Stands as stands
use Rattle.wf_tables.specs.Tables.{leaf_tree}
use Rattle.wf_tables.specs.declared.entries.LeafAt.{LeafAt}
use Rattle.wf_talk.specs.Keys.{is_among}
use Rattle.wf_talk.specs.Seen.{want_cmp, want_key}
use Rattle.wf_talk.specs.Standing.{TooLarge}
use Rattle.wf_trigger.specs.Starts.{StartTree}
use Rattle.wf_trigger.specs.StartsSeen.{start_tree}
use Rattle.wf_trigger.specs.declared.starts.Start.{Start}
use Rattle.wf_stands.specs.Seen.{row_content}
use Rattle.wf_session.specs.Begun.{AreListed, IsDear, Lists, moment, price}
use Rattle.wf_session.specs.Stood.{Stands, run_of, run_with, wanted_in}
use Rattle.wf_waits.specs.Kept.{keys_of, waiting_key}
use Rattle.wf_waits.specs.declared.waiting.Waiting.{Waiting}
use Rattle.wf_waits.proofs.KeyLemmas.{exact_key, tied}
use Rattle.wf_session.specs.Waiting.{Wants, key_at}
use Rattle.wf_session.proofs.CostLemmas.{pair, sum_paired, tells}

-- ---- what it costs

pub costs : (d : DefTree) (start : StartTree) (i : InputsTree) (h : Lists) → AreListed h
    → Costs d start (moment h) (price (run_of d start i) h)
costs d start i h listed =
    let rows = sum_paired (λ (r : RowAt Row). r.instance) (λ (r : RowAt Row). row_content r.row) (λ p. cost_of_row p.1) h.0 in
    let leaves =
    sum_paired (λ (l : LeafAt Begun). l.instance) (leaf_tree begun_tree) (λ p. leaf_cost begun_weight p.1) h.1.0 in
    let opens =
    sum_paired (λ (o : OpenAt Decision Verdict). o.instance) (open_tree decision_tree verdict_tree)
    (λ p. open_cost (graph_of d) items_of decision_weight p.0 p.1) h.1.1.0 in
    record {
      rows = map (pair (λ (r : RowAt Row). r.instance) (λ (r : RowAt Row). row_content r.row)) h.0;
      leaves = map (pair (λ (l : LeafAt Begun). l.instance) (leaf_tree begun_tree)) h.1.0;
      opens = map (pair (λ (o : OpenAt Decision Verdict). o.instance) (open_tree decision_tree verdict_tree)) h.1.1.0;
      rows_are = tells (λ (r : RowAt Row). r.instance) (λ (r : RowAt Row). row_content r.row) h.0 listed.rows;
      leaves_are = tells (λ (l : LeafAt Begun). l.instance) (leaf_tree begun_tree) h.1.0 listed.running;
      opens_are = tells (λ (o : OpenAt Decision Verdict). o.instance) (open_tree decision_tree verdict_tree) h.1.1.0 listed.opens;
      sum_is = omega (arith, rows, leaves, opens);
    }

pub too_dear : (d : DefTree) (start : StartTree) (i : InputsTree) → IsDear (run_of d start i) → stands.Stands d start i TooLarge
too_dear d start i dear =
    inl
    (record {
      reached = moment dear.lists;
      comes = record { events = dear.comes.events; run = dear.comes.run };
      cost = price (run_of d start i) dear.lists;
      costs = costs d start i dear.lists dear.listed;
      beyond = dear.beyond;
    })

-- ---- what waits

-- one of them has the key
pub found_waiting : {P : Waiting → Type 0} (k : Key) (ws : List Waiting) → AllByRecursion P ws → is_among k (keys_of ws) ≡ true
    → (w : Waiting) × P w × (k ≡ waiting_key w)
found_waiting k [] all is = absurd (true≢false (sym is))
found_waiting {P} k (w ∷ ws) all is = go (is_eq (key_cmp k (waiting_key w))) refl is (found_waiting k ws all.1)
  where
    go : (b : Bool) → is_eq (key_cmp k (waiting_key w)) ≡ b → (b || is_among k (keys_of ws)) ≡ true
        → (is_among k (keys_of ws) ≡ true → (v : Waiting) × P v × (k ≡ waiting_key v)) → (v : Waiting) × P v × (k ≡ waiting_key v)
    go true here is later = (w, all.0, exact_key k (waiting_key w) (tied (key_cmp k (waiting_key w)) here))
    go false here is later = later is

module _ (d : DefTree) (start : StartTree) (i : InputsTree) (rest : Aside) (ws : List Waiting) (st : Stands (run_of d start i) rest ws) where
  pub waits_for : IsInKeyOrder want_cmp (λ (w : Waiting). w.want) ws → keys_of ws ≢ [] → stands.WaitsFor d start i (keys_of ws)
  waits_for order some = record {
    still = moment rest.0.0;
    is_still = st.still;
    wanted = record {
      in_order =
          in_order-map key_cmp (λ (k : Key). k) waiting_key ws (in_order-on key_cmp want_key (λ (w : Waiting). w.want) ws order);
      each = st.all;
      only = λ key is.
          let found = found_waiting key ws st.waiting is in
          let m = found.1 in (address_of found.0.instance, found.0.want.attempt, found.2 ∙ m.key_is, m.waits);
    };
    some = some;
    cost = price (run_of d start i) rest.0.0;
    costs = costs d start i rest.0.0 st.listed;
    within = st.within;
  }

  module _ (none : keys_of ws ≡ []) where
    no_wants : (x : Address) (k : ℕ) → Wants (run_of d start i) (moment rest.0.0) x k → ⊥
    no_wants x k wants =
        true≢false (sym (subst (λ keys. is_among (key_at (run_of d start i) x k) keys ≡ true) none (st.all x k wants)))

    -- none waits
    pub none_waits : stands.AreWanted d start i (moment rest.0.0) []
    none_waits = record {
      in_order = tt;
      each = λ x k wants. absurd (no_wants x k wants);
      only = λ key is. absurd (true≢false (sym is));
    }

    -- so nothing may happen any more
    pub is_over : IsOver (graph_of d) (source_of d start i) (moment rest.0.0)
    is_over = over (answered d i) (graph_of d) (source_of d start i) (moment rest.0.0) st.still.quiet no_wants

pub waiting_with : (d : DefTree) (start : StartTree) (i : InputsTree) (ws : List Waiting) → IsInKeyOrder want_cmp (λ (w : Waiting). w.want) ws
    → (o : Option Aside) → IfSome o (λ rest. Stands (run_of d start i) rest ws) → is_some o ≡ true → nat_lt 0 (length ws) ≡ true
    → stands.WaitsFor d start i (wanted_in o ws)
waiting_with d start i ws order None st is some = absurd (true≢false (sym is))
waiting_with d start i ws order (Some rest) st is some = waits_for d start i rest ws st order (not_empty ws some)
  where
    not_empty : (xs : List Waiting) → nat_lt 0 (length xs) ≡ true → keys_of xs ≢ []
    not_empty [] lt = λ e. absurd (true≢false (sym lt))
    not_empty (x ∷ xs) lt = λ e. cc (e)

-- with a start that is the same
pub at_last : (checked : Checked) (start : Start) (inputs : Inputs) (rest : Aside) (ws : List Waiting)
    → Stands (run_with checked start inputs) rest ws → keys_of ws ≡ [] → (copy : Start) → start_tree copy ≡ start_tree start
    → IsAsideAtLast checked copy inputs rest
at_last checked start inputs rest ws st none copy same =
    let d = def_tree checked.def in
    let i = inputs_tree inputs in record {
      aside = subst (λ (t : StartTree). IsAside d (fresh t i) (source_of d t i) rest) (sym same) st.aside;
      over =
          subst (λ (t : StartTree). IsOver (graph_of d) (source_of d t i) (moment rest.0.0)) (sym same)
          (is_over d (start_tree start) i rest ws st none);
    }
