use Rattle.std.proofs.Common.{arith, rules}
use Rattle.wf_refs.proofs.LoopLemmas.{member-falls, tree-falls}
use Rattle.wf_refs.proofs.templates.+trees.Goals as goal

pub in_trees-in_tree-requires : goal.in_trees-in_tree-requires
in_trees-in_tree-requires t c = let le = tree-falls _ _ _ c.loop-item-test.true c.item-item.is in search (rules, arith)

pub in_members-in_tree-requires : goal.in_members-in_tree-requires
in_members-in_tree-requires t c = let le = member-falls _ _ _ c.loop-member-test.true c.member-item.is in search (rules, arith)
