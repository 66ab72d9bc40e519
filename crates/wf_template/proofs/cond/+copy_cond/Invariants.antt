use Rattle.std.proofs.Common.{◌≡◌, map, take}
use Rattle.wf_template.specs.CondSeen.{cond_tree}
use Rattle.wf_template.proofs.cond.+copy_cond.Given as goal

-- the copies so far
abbrev pub invariant-Conds::copy-loop-item : goal.invariant-Conds::copy-loop-item
invariant-Conds::copy-loop-item l = map cond_tree l.copies.items ≡ map cond_tree (take l.item-index l.item-items)
