use Rattle.std.proofs.Common.{◌≡◌, ℕ, length}
use Rattle.wf_catalog.specs.Keys.{all_put}
use Rattle.wf_catalog.proofs.KeyLemmas.{put_over}
use Rattle.wf_catalog.proofs.tables.by_keys.Given as goal

-- what is left, put over what is there, is the whole
abbrev pub invariant-loop-item : goal.invariant-loop-item
invariant-loop-item g l =
    put_over g.T.Key.Ord.cmp g.T.Keyed.key_of l.table l.left.items ≡ all_put g.T.Key.Ord.cmp g.T.Keyed.key_of l.fn.items.items

abbrev pub decreases-loop-item : goal.decreases-loop-item
decreases-loop-item g l = length l.left.items
