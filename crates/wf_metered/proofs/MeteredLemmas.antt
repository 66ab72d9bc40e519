-- What the sums beside a state tell, and how they move.
use Rattle.std.proofs.Common.{◌≡◌, ◌<◌, ◌≤◌, ℕ, ◌+◌, ◌-◌, ◌^◌, Bool, true, false, cond, List, Option, Some, None, option_map, length, refl, sym, subst, ap, ◌∙◌, arith}
use Rattle.wf_val.specs.Cut.{cut_u64}
use Rattle.wf_lists.specs.KeyOrder.{IsInKeyOrder}
use Rattle.wf_layers.specs.Address.{Address, Table}
use Rattle.wf_layers.specs.Definition.{Graph}
use Rattle.wf_layers.specs.Listed.{sum_of}
use Rattle.wf_layers.specs.Machine.{Event, Opening, Running, Step, place_of}
use Rattle.wf_layers.specs.Source.{Source}
use Rattle.wf_kept.specs.Reached.{IsReached}
use Rattle.wf_asks.specs.Instances.{address_of, instance_cmp, rows_in}
use Rattle.wf_asks.specs.Known.{open_tree, opens_in}
use Rattle.wf_asks.specs.declared.known.OpenAt.{OpenAt}
use Rattle.wf_asks.specs.declared.known.RowAt.{RowAt}
use Rattle.wf_meter.specs.Plan.{PlanTree}
use Rattle.wf_meter.specs.PlanOf.{IsPlanOf}
use Rattle.wf_meter.specs.Tables.{event_at, event_tree, leaf_tree, running_in, state_of}
use Rattle.wf_meter.specs.EventAt.{EventAt}
use Rattle.wf_meter.specs.EventKind.{EventKind}
use Rattle.wf_meter.specs.EventKind.TheVariants.{Start, Try, End, Skip, Open, Begin, Test, Close}
use Rattle.wf_meter.specs.LeafAt.{LeafAt}
use Rattle.wf_meter.specs.Cost.{leaf_cost, opens_cost, rows_cost, running_cost}
use Rattle.wf_meter.specs.Parts.{block_of, block_worth, decides, decision_part, gives_rows, leaf_part, moves_containers, moves_leaves, row_part, turns_cost, turns_part, worth, decisions_sum, leaves_sum, rows_sum, turns_sum}
use Rattle.wf_meter.proofs.CutLemmas.{cut_bound, cut_whole}
use Rattle.wf_meter.proofs.MoveLemmas.{containers_move, containers_within, leaves_move, leaves_within, rows_move, rows_within}
use Rattle.wf_meter.proofs.PriceLemmas.{all_priced}
use Rattle.wf_meter.proofs.StayLemmas.{containers_stay, decisions_stay, leaves_stay, rows_stay}
use Rattle.wf_metered.specs.Sums.{AreParts, AreSums, IsAsked, MayMove, moved}
use Rattle.wf_metered.specs.declared.sums.Moves.{Moves}
use Rattle.wf_metered.specs.declared.sums.Sums.{Sums}

-- ---- numbers

-- a sum from which a part goes and to which another comes
exchanged : (sum before after old new gone come : ℕ) → sum ≡ old → before ≡ gone → after ≡ come → new + gone ≡ old + come → gone ≤ old
    → (before ≤ sum) × (sum - before + after ≡ new)
exchanged sum before after old new gone come s b a move within = (omega (arith, s, b, within), omega (arith, s, b, a, move, within))

-- parts that are looked at only where they change
where_asked : (weighs : Bool) (old new gone come : ℕ) → new + gone ≡ old + come → gone ≤ old → (weighs ≡ false → come ≡ gone)
    → (new + cond weighs gone 0 ≡ old + cond weighs come 0) × (cond weighs gone 0 ≤ old)
where_asked true old new gone come move within same = (move, within)
where_asked false old new gone come move within same =
    let stays = same refl in (omega (arith, move, stays), omega (arith, within))

whole_of : (rows running turns decisions r l t w opens : ℕ) → cut_u64 rows ≡ cut_u64 r → cut_u64 running ≡ cut_u64 l
    → cut_u64 turns ≡ cut_u64 t → cut_u64 decisions ≡ cut_u64 w → t + w ≡ opens
    → cut_u64 (rows + running + (turns + decisions)) ≡ cut_u64 (r + l + opens)
whole_of rows running turns decisions r l t w opens a b c e all = omega (arith, a, b, c, e, all)

-- what is kept of a container by its decision alone
abbrev weight_of : {Decision : Type 0} → (Decision → ℕ) → Option Decision → ℕ
weight_of weight None = 0
weight_of weight (Some c) = cut_u64 (weight c)

by_decision : {Decision Verdict : Type 0} (weight : Decision → ℕ) (x : Address) (o : Option (Opening Decision Verdict))
    → worth (decision_part weight) x o ≡ weight_of weight (option_map (λ (w : Opening Decision Verdict). w.decision) o)
by_decision weight x None = refl
by_decision weight x (Some w) = refl

module _ {Row Begun Decision Verdict Kept Started Decided Told : Type 0} (see : Row → Kept) (started : Begun → Started)
    (decided : Decision → Decided) (told : Verdict → Told) (d : Graph) (depth : ℕ → ℕ) (m : Source Kept Started Decided Told)
    (p : PlanTree) (plan : IsPlanOf d p) (cost : Kept → ℕ) (begun_weight : Started → ℕ) (weight : Decided → ℕ)
    (rows : List (RowAt Row)) (running : List (LeafAt Begun)) (opens : List (OpenAt Decision Verdict))
    (reached : IsReached d depth m (state_of see started decided told rows running opens))
    (by_rows : IsInKeyOrder instance_cmp (λ (r : RowAt Row). r.instance) rows)
    (by_running : IsInKeyOrder instance_cmp (λ (l : LeafAt Begun). l.instance) running)
    (by_opens : IsInKeyOrder instance_cmp (λ (o : OpenAt Decision Verdict). o.instance) opens)
    (sums : Sums) (are : AreSums see started decided told p cost begun_weight m.items weight rows running opens sums) where
  pub total_is : cut_u64 (sums.rows + sums.running + (sums.turns + sums.decisions))
      ≡ cut_u64 (rows_cost see cost rows + running_cost started begun_weight running + opens_cost decided told d m.items weight opens)
  total_is =
      whole_of sums.rows sums.running sums.turns sums.decisions
      (rows_cost see cost rows) (running_cost started begun_weight running)
      (sum_of (λ (o : OpenAt Decision Verdict). turns_cost p m.items (address_of o.instance) (open_tree decided told o)) opens)
      (sum_of (λ (o : OpenAt Decision Verdict). weight (decided o.decision)) opens) (opens_cost decided told d m.items weight opens)
      (ap cut_u64 are.rows_are ∙ cut_whole (λ (x : RowAt Row). cost (see x.row)) rows)
      (ap cut_u64 are.running_are ∙ cut_whole (λ (x : LeafAt Begun). leaf_cost begun_weight (leaf_tree started x)) running)
      (ap cut_u64 are.turns_are
      ∙ cut_whole (λ (o : OpenAt Decision Verdict). turns_cost p m.items (address_of o.instance) (open_tree decided told o)) opens)
      (ap cut_u64 are.decisions_are ∙ cut_whole (λ (o : OpenAt Decision Verdict). weight (decided o.decision)) opens)
      (all_priced see started decided told d depth m p plan rows running opens reached by_opens m.items weight)

  module _ (rows' : List (RowAt Row)) (running' : List (LeafAt Begun)) (opens' : List (OpenAt Decision Verdict))
      (by_rows' : IsInKeyOrder instance_cmp (λ (r : RowAt Row). r.instance) rows')
      (by_running' : IsInKeyOrder instance_cmp (λ (l : LeafAt Begun). l.instance) running')
      (by_opens' : IsInKeyOrder instance_cmp (λ (o : OpenAt Decision Verdict). o.instance) opens')
      (few_rows : length rows' < 2 ^ 63) (few_running : length running' < 2 ^ 63) (few_opens : length opens' < 2 ^ 63)
      (e : Event)
      (st : Step d m (state_of see started decided told rows running opens) e (state_of see started decided told rows' running' opens'))
    where
      abbrev new_rows : ℕ
      new_rows = rows_sum see cost rows'

      abbrev new_running : ℕ
      new_running = leaves_sum started begun_weight running'

      abbrev new_turns : ℕ
      new_turns = turns_sum decided told p m.items opens'

      abbrev new_decisions : ℕ
      new_decisions = decisions_sum decided told weight opens'

      rows_fit : new_rows < 2 ^ 128
      rows_fit = let bound = cut_bound (λ (r : RowAt Row). cost (see r.row)) rows' in omega (arith, bound, few_rows)

      running_fit : new_running < 2 ^ 128
      running_fit =
          let bound = cut_bound (λ (l : LeafAt Begun). leaf_cost begun_weight (leaf_tree started l)) running' in
          omega (arith, bound, few_running)

      turns_fit : new_turns < 2 ^ 128
      turns_fit =
          let bound = cut_bound (λ (o : OpenAt Decision Verdict).
          turns_cost p m.items (address_of o.instance) (open_tree decided told o)) opens' in
          omega (arith, bound, few_opens)

      decisions_fit : new_decisions < 2 ^ 128
      decisions_fit =
          let bound = cut_bound (λ (o : OpenAt Decision Verdict). weight (decided o.decision)) opens' in omega (arith, bound, few_opens)

      -- what a container at the event's own action decided by, where the event neither opens nor closes it
      decision_stays : decides e ≡ false
          → worth (decision_part weight) (place_of e) (opens_in decided told opens' (place_of e))
          ≡ worth (decision_part weight) (place_of e) (opens_in decided told opens (place_of e))
      decision_stays apart =
          by_decision weight (place_of e) (opens_in decided told opens' (place_of e))
          ∙ ap (weight_of weight)
          (decisions_stay d m (state_of see started decided told rows running opens) e
          (state_of see started decided told rows' running' opens') st apart (place_of e))
          ∙ sym (by_decision weight (place_of e) (opens_in decided told opens (place_of e)))

      -- and of all else, what stands there where the event doesn't move it
      block_stays : gives_rows e ≡ false
          → block_worth (row_part cost) (rows_in see rows') (place_of e).at (block_of p (place_of e).name)
          ≡ block_worth (row_part cost) (rows_in see rows) (place_of e).at (block_of p (place_of e).name)
      block_stays apart =
          ap (λ (t : Table Kept). block_worth (row_part cost) t (place_of e).at (block_of p (place_of e).name))
          (rows_stay d m (state_of see started decided told rows running opens) e
          (state_of see started decided told rows' running' opens') st apart)

      leaf_stays : moves_leaves e ≡ false
          → worth (leaf_part begun_weight) (place_of e) (running_in started running' (place_of e))
          ≡ worth (leaf_part begun_weight) (place_of e) (running_in started running (place_of e))
      leaf_stays apart =
          ap (λ (t : Table (Running Started)). worth (leaf_part begun_weight) (place_of e) (t (place_of e)))
          (leaves_stay d m (state_of see started decided told rows running opens) e
          (state_of see started decided told rows' running' opens') st apart)

      container_stays : moves_containers e ≡ false
          → worth (turns_part p m.items) (place_of e) (opens_in decided told opens' (place_of e))
          ≡ worth (turns_part p m.items) (place_of e) (opens_in decided told opens (place_of e))
      container_stays apart =
          ap (λ (t : Table (Opening Decided Told)). worth (turns_part p m.items) (place_of e) (t (place_of e)))
          (containers_stay d m (state_of see started decided told rows running opens) e
          (state_of see started decided told rows' running' opens') st apart)

      module _ (asked : Moves) (is : IsAsked e asked) (before after : Sums)
          (b : AreParts see started decided told p cost begun_weight m.items weight rows running opens asked (place_of e) before)
          (a : AreParts see started decided told p cost begun_weight m.items weight rows' running' opens' asked (place_of e) after)
        where
          rows_follow : (before.rows ≤ sums.rows) × (sums.rows - before.rows + after.rows ≡ new_rows)
          rows_follow =
              let there = where_asked asked.rows _ new_rows _ _
              (rows_move see started decided told d depth m p plan rows rows' running running' opens opens' reached e st by_rows
              by_rows' (row_part cost))
              (rows_within see started decided told d depth m p plan rows rows' running running' opens opens' reached e st by_rows
              (row_part cost))
              (λ u. block_stays (sym is.rows_are ∙ u)) in
              exchanged sums.rows before.rows after.rows _ new_rows _ _ are.rows_are b.rows_are a.rows_are there.0 there.1

          running_follow : (before.running ≤ sums.running) × (sums.running - before.running + after.running ≡ new_running)
          running_follow =
              let there = where_asked asked.running _ new_running _ _
              (leaves_move see started decided told d depth m p plan rows rows' running running' opens opens' reached e st by_running
              by_running' (leaf_part begun_weight))
              (leaves_within see started decided told d depth m p plan rows rows' running running' opens opens' reached e st by_running
              (leaf_part begun_weight))
              (λ u. leaf_stays (sym is.running_are ∙ u)) in
              exchanged sums.running before.running after.running _ new_running _ _ are.running_are b.running_are a.running_are there.0
              there.1

          turns_follow : (before.turns ≤ sums.turns) × (sums.turns - before.turns + after.turns ≡ new_turns)
          turns_follow =
              let there = where_asked asked.turns _ new_turns _ _
              (containers_move see started decided told d depth m p plan rows rows' running running' opens opens' reached e st by_opens
              by_opens' (turns_part p m.items))
              (containers_within see started decided told d depth m p plan rows rows' running running' opens opens' reached e st by_opens
              (turns_part p m.items))
              (λ u. container_stays (sym is.turns_are ∙ u)) in
              exchanged sums.turns before.turns after.turns _ new_turns _ _ are.turns_are b.turns_are a.turns_are there.0 there.1

          decisions_follow : (before.decisions ≤ sums.decisions)
              × (sums.decisions - before.decisions + after.decisions ≡ new_decisions)
          decisions_follow =
              let there = where_asked asked.decisions _ new_decisions _ _
              (containers_move see started decided told d depth m p plan rows rows' running running' opens opens' reached e st by_opens
              by_opens' (decision_part weight))
              (containers_within see started decided told d depth m p plan rows rows' running running' opens opens' reached e st by_opens
              (decision_part weight))
              (λ u. decision_stays (sym is.decisions_are ∙ u)) in
              exchanged sums.decisions before.decisions after.decisions _ new_decisions _ _ are.decisions_are b.decisions_are
              a.decisions_are there.0 there.1

          may_move : MayMove sums before after
          may_move = record {
            rows_within = rows_follow.0;
            running_within = running_follow.0;
            turns_within = turns_follow.0;
            decisions_within = decisions_follow.0;
            rows_fit = subst (λ n. n < 2 ^ 128) (sym rows_follow.1) rows_fit;
            running_fit = subst (λ n. n < 2 ^ 128) (sym running_follow.1) running_fit;
            turns_fit = subst (λ n. n < 2 ^ 128) (sym turns_follow.1) turns_fit;
            decisions_fit = subst (λ n. n < 2 ^ 128) (sym decisions_follow.1) decisions_fit;
          }

          follow : MayMove sums before after
              × AreSums see started decided told p cost begun_weight m.items weight rows' running' opens' (moved sums before after)
          follow = (
            may_move,
            record {
              rows_are = rows_follow.1;
              running_are = running_follow.1;
              turns_are = turns_follow.1;
              decisions_are = decisions_follow.1;
            },
          )

      abbrev Before : Moves → Address → Sums → Type 0
      Before = AreParts see started decided told p cost begun_weight m.items weight rows running opens

      abbrev After : Moves → Address → Sums → Type 0
      After = AreParts see started decided told p cost begun_weight m.items weight rows' running' opens'

      -- SUMS THAT ARE MOVED by what stands at an event's action are those of the next state.
      pub sums_follow : (asked : Moves) → IsAsked e asked → (x : Address) → place_of e ≡ x → (before after : Sums)
          → AreParts see started decided told p cost begun_weight m.items weight rows running opens asked x before
          → AreParts see started decided told p cost begun_weight m.items weight rows' running' opens' asked x after
          → MayMove sums before after
          × AreSums see started decided told p cost begun_weight m.items weight rows' running' opens' (moved sums before after)
      sums_follow asked is x here before after b a =
          follow asked is before after (subst (λ y. Before asked y before) (sym here) b) (subst (λ y. After asked y after) (sym here) a)

-- where an event is
pub place_is : (e : EventAt) → place_of (event_tree e) ≡ address_of e.instance
place_is e = go e.kind
  where
    go : (k : EventKind) → place_of (event_at k e.instance.action e.instance.at) ≡ address_of e.instance
    go Start = refl
    go Try = refl
    go End = refl
    go Skip = refl
    go Open = refl
    go Begin = refl
    go Test = refl
    go Close = refl
