use Rattle.std.proofs.Common.{◌≡◌, ℕ, None, drop}
use Rattle.wf_asks.specs.Known.{store_in}
use Rattle.wf_turns.specs.ReadSeen.{def_tree}
use Rattle.wf_regained.specs.Last.{last_from}
use Rattle.wf_regained.proofs.last.last_writers.Given as goal

abbrev pub invariant-loop-place : goal.invariant-loop-place
invariant-loop-place l =
    (v : ℕ) → last_from (def_tree l.checked.def) v (store_in l.store.0 v) (drop l.place l.rows.0)
    ≡ last_from (def_tree l.checked.def) v None l.rows.0
