-- How many indexes the address of an action has.
use Rattle.std.specs.Prelude.{ℕ, suc, cond}
use Rattle.wf_layers.specs.Definition.{Kind, Leaf, Scope, Choice, Foreach, Until, Branches, no_branch, branch, Graph, done, add, holds, has}

-- How many loops stand round the action m in the container, branches or graph: none where it doesn't stand there.
abbrev mutual
  pub loop_count_in : Kind → ℕ → ℕ
  loop_count_in Leaf m = 0
  loop_count_in (Scope g) m = loop_count g m
  loop_count_in (Choice bs) m = loop_count_any bs m
  loop_count_in (Foreach pace g) m = suc (loop_count g m)
  loop_count_in (Until most g) m = suc (loop_count g m)

  pub loop_count_any : Branches → ℕ → ℕ
  loop_count_any no_branch m = 0
  loop_count_any (branch b rest) m = cond (has b m) (loop_count b m) (loop_count_any rest m)

  pub loop_count : Graph → ℕ → ℕ
  loop_count done m = 0
  loop_count (add n after kind rest) m = cond (holds kind m) (loop_count_in kind m) (loop_count rest m)
