-- Rows that are put together.
use Rattle.std.specs.Prelude.{ℕ, ◌&&◌, List, [], ◌∷◌, Some, cond, None, map}
use Rattle.wf_lists.specs.KeyOrder.{put_key}
use Rattle.wf_plan.specs.Address.{Table, same_at}
use Rattle.wf_plan.specs.Instances.{instance_cmp}
use Rattle.wf_plan.specs.Known.{is_among}
use Rattle.wf_plan.specs.Instance.{Instance}
use Rattle.wf_plan.specs.RowAt.{RowAt}

-- a row of each action at these indexes
abbrev pub skipped_at : {Row : Type 0} → Row → List ℕ → List ℕ → List (Instance × Row)
skipped_at row at numbers = map (λ n. (record { action = n; at = at }, row)) numbers

abbrev pub put_rows : {Row : Type 0} → List (RowAt Row) → List (RowAt Row) → List (RowAt Row)
put_rows [] rows = rows
put_rows {Row} (r ∷ block) rows = put_rows block (put_key instance_cmp (λ (z : RowAt Row). z.instance) r rows)

-- THE BLOCK: of these actions at these indexes the row, and none elsewhere
abbrev pub block_at : {Row : Type 0} → Row → List ℕ → List ℕ → Table Row
block_at row at numbers x = cond (is_among x.name numbers && same_at at x.at) (Some row) None
