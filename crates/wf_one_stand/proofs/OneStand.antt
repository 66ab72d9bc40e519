-- No two ways of a run lead to two standings.
use Rattle.std.proofs.Common.{◌≡◌, ◌≤◌, ℕ, ◌+◌, true, List, [], ⊎_elim, refl, sym, ap, ◌∙◌, subst, arith}
use Rattle.wf_layers.specs.Address.{Table}
use Rattle.wf_layers.specs.Laws.{IsInstance}
use Rattle.wf_layers.specs.Listed.{sum_of}
use Rattle.wf_layers.specs.Machine.{fresh}
use Rattle.wf_kept.specs.Reached.{IsReached, begun}
use Rattle.wf_quiet.proofs.Answered.{is_run}
use Rattle.wf_one_quiet.proofs.One.{one_quiet_state, to_the_quiet_state}
use Rattle.wf_priced.specs.Priced.{PaysItsParts, TellsRows}
use Rattle.wf_dearer.specs.StateCosts.{StateCosts}
use Rattle.wf_dearer.proofs.CostLemmas.{under_its_meaning, under_what_follows}
use Rattle.wf_stands.specs.Answered.{answered}
use Rattle.wf_answers.specs.AnswerTree.{Key}
use Rattle.wf_answers.specs.Inputs.{InputsTree}
use Rattle.wf_def.specs.DefTree.{DefTree}
use Rattle.wf_paying.specs.Weights.{begun_weight, decision_weight}
use Rattle.wf_environment.specs.Environment as environment
use Rattle.wf_paying.specs.Points.{graph_of}
use Rattle.wf_paying.specs.Record.{depth_of}
use Rattle.wf_paying.specs.Source.{table_of}
use Rattle.wf_paying.specs.Listed.{Entry}
use Rattle.wf_opening.specs.Decisions.{items_of}
use Rattle.wf_paying.specs.Paying.{cost_of_row, first_cost}
use Rattle.wf_record.specs.Cost as record_cost
use Rattle.wf_record.specs.Record.{Row}
use Rattle.wf_stands.specs.Moment.{ComesTo, Costs, IsStill, Moment, source_of}
use Rattle.wf_stands.specs.Moment as moment
use Rattle.wf_stands.specs.Stands.{AreWanted, Stands, meant}
use Rattle.wf_talk.specs.Keys.{is_among}
use Rattle.wf_talk.specs.Standing.{Standing, TooLarge, Waits, Ends}
use Rattle.wf_trigger.specs.Starts.{StartTree}
use Rattle.wf_one_stand.proofs.KeyListLemmas.{same_keys}

-- the rows that the definition means, and that they pay what their actions cost before they had them
abbrev rows_of : DefTree → StartTree → InputsTree → Table Row
rows_of d start inputs = table_of d (environment.fresh start inputs) (depth_of d)

abbrev RowsPay : DefTree → StartTree → InputsTree → Type 0
RowsPay d start inputs =
    PaysItsParts (source_of d start inputs) (graph_of d) (rows_of d start inputs) cost_of_row begun_weight decision_weight

-- what a moment costs beside what its run was started with
beside : (d : DefTree) (start : StartTree) (s : Moment) (c : ℕ) → Costs d start s c
    → (t : ℕ) × StateCosts (graph_of d) items_of cost_of_row begun_weight decision_weight s t × (c ≡ first_cost start + t)
beside d start s c costs =
    let all = costs.sum_is in (
      _,
      record {
        rows = costs.rows;
        leaves = costs.leaves;
        opens = costs.opens;
        rows_are = costs.rows_are;
        leaves_are = costs.leaves_are;
        opens_are = costs.opens_are;
        total_is = refl;
      },
      omega (arith, all),
    )

module _ (d : DefTree) (start : StartTree) (inputs : InputsTree)
    (is : IsInstance (graph_of d) (source_of d start inputs) (depth_of d)) where
  -- ---- the moment that the run comes to last

  last_is_one : (s t : Moment) → IsStill d start inputs s → IsStill d start inputs t → s ≡ t
  last_is_one s t still still' =
      one_quiet_state (answered d inputs) (graph_of d) (source_of d start inputs) (depth_of d) is s t still still'

  module _ (s t : Moment) (still : IsStill d start inputs s) (still' : IsStill d start inputs t) (keys others : List Key)
      (wanted : AreWanted d start inputs s keys) (wanted' : AreWanted d start inputs t others) where
    among_others : (k : Key) → is_among k keys ≡ true → is_among k others ≡ true
    among_others k e =
        let waits = wanted.only k e in
        subst (λ z. is_among z others ≡ true) (sym waits.2)
        (wanted'.each waits.0 waits.1 (subst (λ z. moment.Waits d start inputs z waits.0 waits.1) (last_is_one s t still still') waits.3))

  one_list : (s t : Moment) → IsStill d start inputs s → IsStill d start inputs t → (keys others : List Key)
      → AreWanted d start inputs s keys → AreWanted d start inputs t others → keys ≡ others
  one_list s t still still' keys others wanted wanted' =
      same_keys keys others wanted.in_order wanted'.in_order (among_others s t still still' keys others wanted wanted')
      (among_others t s still' still others keys wanted' wanted)

  -- ---- what moments cost

  reached : (s : Moment) → ComesTo d start inputs s → IsReached (graph_of d) (depth_of d) (source_of d start inputs) s
  reached s comes =
      begun comes.events is (is_run (answered d inputs) (graph_of d) (source_of d start inputs) fresh comes.events s comes.run)

  module _ (pays : RowsPay d start inputs) (s : Moment) (comes : ComesTo d start inputs s) (a : ℕ) (costs : Costs d start s a) where
    -- the last one costs no less
    under_the_last : (q : Moment) → IsStill d start inputs q → (b : ℕ) → Costs d start q b → a ≤ b
    under_the_last q still b costs' =
        let on = to_the_quiet_state (answered d inputs) (graph_of d) (source_of d start inputs) (depth_of d) is q still comes.events s
        comes.run in
        let run = is_run (answered d inputs) (graph_of d) (source_of d start inputs) s on.0 q on.1 in
        let before = beside d start s a costs in
        let after = beside d start q b costs' in
        let most = under_what_follows (graph_of d) (depth_of d) (source_of d start inputs) s (reached s comes) cost_of_row begun_weight
        decision_weight pays on.0 q run after.0 after.1 before.0 before.1 in
        let one = before.2 in
        let other = after.2 in
        omega (arith, most, one, other)

    -- and neither does the record that is meant
    under_the_record : (entries : List Entry) → TellsRows (λ (x : Entry). x.0) (λ (x : Entry). x.1)
        (rows_of d start inputs) entries
        → (outputs : ℕ) → record_cost.cost (meant d start inputs)
        ≡ first_cost start + outputs + sum_of (λ (x : Entry). cost_of_row x.1) entries
        → a ≤ record_cost.cost (meant d start inputs)
    under_the_record entries tells outputs record_is =
        let before = beside d start s a costs in
        let most = under_its_meaning (graph_of d) (depth_of d) (source_of d start inputs) s (reached s comes) cost_of_row begun_weight
        decision_weight pays before.0 before.1 (λ (x : Entry). x.0) (λ (x : Entry). x.1) entries tells in
        let one = before.2 in
        omega (arith, most, one, record_is)

  -- ---- where the run stands

  module _ (pays : RowsPay d start inputs) (entries : List Entry)
      (tells : TellsRows (λ (x : Entry). x.0) (λ (x : Entry). x.1) (rows_of d start inputs) entries)
      (outputs : ℕ) (record_is : record_cost.cost (meant d start inputs)
      ≡ first_cost start + outputs + sum_of (λ (x : Entry). cost_of_row x.1) entries) where
    waits_or_ends : (keys : List Key) (line : List ℕ) → Stands d start inputs (Waits keys) → Stands d start inputs (Ends line) → ⊥
    waits_or_ends keys line waits ends =
        waits.some (one_list waits.still ends.still waits.is_still ends.is_still keys [] waits.wanted ends.wanted)

    waits_or_too_large : (keys : List Key) → Stands d start inputs (Waits keys) → Stands d start inputs TooLarge → ⊥
    waits_or_too_large keys waits large =
        ⊎_elim
        (λ dear. let most = under_the_last pays dear.reached dear.comes dear.cost dear.costs waits.still waits.is_still waits.cost
        waits.costs in
        let few = waits.within in
        let many = dear.beyond in
        omega (arith, most, few, many))
        (λ leaves. waits.some (one_list waits.still leaves.still waits.is_still leaves.is_still keys [] waits.wanted leaves.wanted)) large

    ends_or_too_large : (line : List ℕ) → Stands d start inputs (Ends line) → Stands d start inputs TooLarge → ⊥
    ends_or_too_large line ends large =
        ⊎_elim
        (λ dear. let most = under_the_record pays dear.reached dear.comes dear.cost dear.costs entries tells outputs record_is in
        let few = ends.within in
        let many = dear.beyond in
        omega (arith, most, few, many))
        (λ leaves. let few = ends.within in let many = leaves.beyond in omega (arith, few, many)) large

    pub one_stand : (one other : Standing) → Stands d start inputs one → Stands d start inputs other → one ≡ other
    one_stand (Waits keys) (Waits others) a b =
        ap Waits (one_list a.still b.still a.is_still b.is_still keys others a.wanted b.wanted)
    one_stand (Waits keys) (Ends line) a b = absurd (waits_or_ends keys line a b)
    one_stand (Waits keys) TooLarge a b = absurd (waits_or_too_large keys a b)
    one_stand (Ends line) (Waits keys) a b = absurd (waits_or_ends keys line b a)
    one_stand (Ends line) (Ends line') a b = ap Ends (a.line_is ∙ sym b.line_is)
    one_stand (Ends line) TooLarge a b = absurd (ends_or_too_large line a b)
    one_stand TooLarge (Waits keys) a b = absurd (waits_or_too_large keys b a)
    one_stand TooLarge (Ends line) a b = absurd (ends_or_too_large line b a)
    one_stand TooLarge TooLarge a b = refl
