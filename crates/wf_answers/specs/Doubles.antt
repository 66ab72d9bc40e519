-- Attempts that two answers are for: in other words what is told of answers that are gathered.
use Rattle.std.specs.Prelude.{◌≢◌, ◌≤◌, ℕ, suc, List, [], ◌∷◌, if◌then◌else◌}
use Rattle.std.specs.Ordering.{is_eq}
use Rattle.std.specs.declared.cmp.Ordering.TheVariants.{Less}
use Rattle.wf_answers.specs.AnswerTree.{AnswerTree, Key, key_cmp, key_of}

-- how many answers are for an attempt
abbrev pub count_for : Key → List AnswerTree → ℕ
count_for k [] = 0
count_for k (a ∷ answers) = if is_eq (key_cmp k (key_of a)) then suc (count_for k answers) else count_for k answers

-- two answers are for the attempt, and for no lesser one
pub record IsLeastDouble (answers : List AnswerTree) (k : Key) : Type 0 where
  pub double : 2 ≤ count_for k answers
  pub least : (j : Key) → 2 ≤ count_for j answers → key_cmp j k ≢ Less
