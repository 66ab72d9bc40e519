use Rattle.std.proofs.Common.{◌≡◌, None, drop, map}
use Rattle.wf_layers.specs.Address.{Address}
use Rattle.wf_paths.specs.Table.{slot}
use Rattle.wf_turns.specs.ReadSeen.{def_tree}
use Rattle.wf_record.specs.Seen.{row_tree}
use Rattle.wf_sight_laws.specs.Seen.{rows_seen}
use Rattle.wf_regained.specs.Kept.{with_all_kept}
use Rattle.wf_regained.proofs.kept.kept_rows.Given as goal

-- what is added and what is left are all
abbrev pub invariant-loop-row : goal.invariant-loop-row
invariant-loop-row l =
    (x : Address) → with_all_kept (def_tree l.places) (slot l.kept) (rows_seen l.rows.0) (map row_tree (drop l.row-index l.log)) x
    ≡ with_all_kept (def_tree l.places) (slot l.kept) (λ y. None) (map row_tree l.log) x
