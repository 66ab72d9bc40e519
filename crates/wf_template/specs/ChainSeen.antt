-- What a chain of accesses stands for.
use Rattle.std.specs.Prelude.{List, [], ◌∷◌}
use Rattle.wf_val.specs.Seen.{tree}
use Rattle.wf_template.specs.ExprTree.{ExprTree, literal, call, member, index, expr_trees}
use Rattle.wf_template.specs.ExprSeen.{expr_tree, exprs_seen}
use Rattle.wf_template.specs.declared.chain.Start.{Start}
use Rattle.wf_template.specs.declared.chain.Access.{Access}
use Rattle.wf_template.specs.declared.chain.Top.{Top}
use Rattle.wf_template.specs.declared.chain.Chain.{Chain}

abbrev pub start_tree : Start → ExprTree
start_tree (Start.Lit value) = literal (tree value.now)
start_tree (Start.Call name args) = call name.now (expr_trees (exprs_seen args.now))

abbrev pub accessed : ExprTree → Access → ExprTree
accessed b (Access.Member name soft) = member b name.now soft
accessed b (Access.Index key soft) = index b (expr_tree key.now) soft

abbrev pub top_tree : Top → ExprTree
top_tree (Top.Start start) = start_tree start
top_tree (Top.Access base access) = accessed (expr_tree base.now) access

-- each access stands on what the later ones make
abbrev pub built : ExprTree → List Access → ExprTree
built b [] = b
built b (a ∷ rest) = accessed (built b rest) a

abbrev pub chain_tree : Chain → ExprTree
chain_tree c = built (start_tree c.start) c.accesses.items
