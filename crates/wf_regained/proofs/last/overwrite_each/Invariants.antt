use Rattle.std.proofs.Common.{◌≡◌, ℕ, drop}
use Rattle.wf_asks.specs.Instances.{address_of}
use Rattle.wf_asks.specs.Known.{store_in}
use Rattle.wf_turns.specs.ReadSeen.{def_tree}
use Rattle.wf_regained.specs.Last.{each_last}
use Rattle.wf_regained.proofs.last.overwrite_each.Given as goal

-- the variables that are left, over what is put, are all
abbrev pub invariant-loop-variable : goal.invariant-loop-variable
invariant-loop-variable l =
    (v : ℕ) → each_last (def_tree l.checked.def) (drop l.variable-index l.variables) (store_in l.store.0) (address_of l.place) v
    ≡ each_last (def_tree l.checked.def) l.variables (store_in l.fn.store.0) (address_of l.place) v
