-- Answers by the attempts that they are for, and the least attempt that two are for.
use Rattle.std.specs.Prelude.{List, [], ◌∷◌, Option, Some, None, if◌then◌else◌}
use Rattle.std.specs.BTreeSet.{insert_key}
use Rattle.std.specs.List.{list_any}
use Rattle.std.specs.Ordering.{is_eq, match_ordering}
use Rattle.wf_answers.specs.AnswerTree.{AnswerTree, answer_cmp}

pub record Gathered : Type 0 where
  -- the first answer for each attempt, in the order of attempts
  pub kept : List AnswerTree
  -- of the others one for the least attempt
  pub twice : Option AnswerTree

abbrev pub lesser_twice : Option AnswerTree → AnswerTree → AnswerTree
lesser_twice None a = a
lesser_twice (Some b) a = match_ordering (answer_cmp b a) b b a

-- one answer more
abbrev pub with_answer : Gathered → AnswerTree → Gathered
with_answer g a =
    if list_any (λ b. is_eq (answer_cmp a b)) g.kept then record { kept = g.kept; twice = Some (lesser_twice g.twice a) }
    else record { kept = insert_key answer_cmp g.kept a; twice = g.twice }

abbrev pub gathered_onto : Gathered → List AnswerTree → Gathered
gathered_onto g [] = g
gathered_onto g (a ∷ answers) = gathered_onto (with_answer g a) answers

abbrev pub nothing_gathered : Gathered
nothing_gathered = record { kept = []; twice = None }

abbrev pub gathered : List AnswerTree → Gathered
gathered answers = gathered_onto nothing_gathered answers
