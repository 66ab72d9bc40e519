-- What a page is drawn from beside the definition.
use Rattle.std.specs.Prelude.{ℕ, List, Option, option_map}
use Rattle.wf_record.specs.Record.{RowTree}
use Rattle.wf_record.specs.Seen.{record_tree}
use Rattle.wf_drawn.specs.declared.view.View.{View}

-- the rows of the record, those of an earlier record where there is one, and the levels of the actions by their numbers
pub record ViewTree : Type 0 where
  pub rows : List RowTree
  pub earlier : Option (List RowTree)
  pub levels : List ℕ

abbrev pub view_tree : View → ViewTree
view_tree v = record {
  rows = (record_tree v.log.now).rows;
  earlier = option_map (λ r. (record_tree r.now).rows) v.earlier;
  levels = v.levels.now;
}
