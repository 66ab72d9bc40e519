-- The sums that are kept beside a state.
use Rattle.std.specs.Prelude.{◌≡◌, ◌≤◌, ◌<◌, ◌+◌, ◌-◌, ◌^◌, ℕ, Bool, List, cond}
use Rattle.wf_layers.specs.Address.{Address}
use Rattle.wf_layers.specs.Definition.{Graph}
use Rattle.wf_layers.specs.Machine.{Event}
use Rattle.wf_asks.specs.Instances.{rows_in}
use Rattle.wf_asks.specs.Known.{opens_in}
use Rattle.wf_asks.specs.declared.known.OpenAt.{OpenAt}
use Rattle.wf_asks.specs.declared.known.RowAt.{RowAt}
use Rattle.wf_meter.specs.Plan.{PlanTree}
use Rattle.wf_meter.specs.PlanOf.{IsPlanOf}
use Rattle.wf_meter.specs.Tables.{running_in}
use Rattle.wf_meter.specs.LeafAt.{LeafAt}
use Rattle.wf_meter.specs.Parts.{block_of, block_worth, decision_part, leaf_part, row_part, turns_part, worth, decisions_sum, leaves_sum, rows_sum, turns_sum}
use Rattle.wf_meter.specs.Parts.{decides, gives_rows, moves_containers, moves_leaves}
use Rattle.wf_metered.specs.declared.sums.Moves.{Moves}
use Rattle.wf_metered.specs.declared.sums.Sums.{Sums}

module _ {Row Begun Decision Verdict Kept Started Decided Told : Type 0} (see : Row → Kept) (started : Begun → Started)
    (decided : Decision → Decided) (told : Verdict → Told) (p : PlanTree) (cost : Kept → ℕ) (begun_weight : Started → ℕ)
    (items weight : Decided → ℕ) (rows : List (RowAt Row)) (running : List (LeafAt Begun)) (opens : List (OpenAt Decision Verdict)) where
  -- Over rows, running leaves and open containers, these once for themselves and their iterations and once by what they keep of what they
  -- decided by; each part cut to the greatest u64.
  pub record AreSums (sums : Sums) : Type 0 where
    pub rows_are : sums.rows ≡ rows_sum see cost rows
    pub running_are : sums.running ≡ leaves_sum started begun_weight running
    pub turns_are : sums.turns ≡ turns_sum decided told p items opens
    pub decisions_are : sums.decisions ≡ decisions_sum decided told weight opens

  -- The same of what stands at one action, and of rows, at those inside it that stand in no loop there; of each only where it is asked for.
  pub record AreParts (asked : Moves) (x : Address) (parts : Sums) : Type 0 where
    pub rows_are : parts.rows ≡ cond asked.rows (block_worth (row_part cost) (rows_in see rows) x.at (block_of p x.name)) 0
    pub running_are : parts.running ≡ cond asked.running (worth (leaf_part begun_weight) x (running_in started running x)) 0
    pub turns_are : parts.turns ≡ cond asked.turns (worth (turns_part p items) x (opens_in decided told opens x)) 0
    pub decisions_are : parts.decisions ≡ cond asked.decisions (worth (decision_part weight) x (opens_in decided told opens x)) 0

-- THE SAME BY A GRAPH: whichever plan of it one goes by.
module _ {Row Begun Decision Verdict Kept Started Decided Told : Type 0} (see : Row → Kept) (started : Begun → Started)
    (decided : Decision → Decided) (told : Verdict → Told) (d : Graph) (cost : Kept → ℕ) (begun_weight : Started → ℕ)
    (items weight : Decided → ℕ) (rows : List (RowAt Row)) (running : List (LeafAt Begun)) (opens : List (OpenAt Decision Verdict)) where
  abbrev pub AreSumsOf : Sums → Type 0
  AreSumsOf sums =
      (p : PlanTree) → IsPlanOf d p → AreSums see started decided told p cost begun_weight items weight rows running opens sums

-- Those are asked for that the event can move.
pub record IsAsked (e : Event) (asked : Moves) : Type 0 where
  pub rows_are : asked.rows ≡ gives_rows e
  pub running_are : asked.running ≡ moves_leaves e
  pub turns_are : asked.turns ≡ moves_containers e
  pub decisions_are : asked.decisions ≡ decides e

-- Sums from which some parts go, and to which others come.
abbrev pub moved : Sums → Sums → Sums → Sums
moved sums before after = record {
  rows = sums.rows - before.rows + after.rows;
  running = sums.running - before.running + after.running;
  turns = sums.turns - before.turns + after.turns;
  decisions = sums.decisions - before.decisions + after.decisions;
}

-- What goes is part of them, and what they come to is no greater than they may be.
pub record MayMove (sums before after : Sums) : Type 0 where
  pub rows_within : before.rows ≤ sums.rows
  pub running_within : before.running ≤ sums.running
  pub turns_within : before.turns ≤ sums.turns
  pub decisions_within : before.decisions ≤ sums.decisions
  pub rows_fit : sums.rows - before.rows + after.rows < 2 ^ 128
  pub running_fit : sums.running - before.running + after.running < 2 ^ 128
  pub turns_fit : sums.turns - before.turns + after.turns < 2 ^ 128
  pub decisions_fit : sums.decisions - before.decisions + after.decisions < 2 ^ 128
