-- What is gathered, as contracts see it.
use Rattle.std.specs.Prelude.{map, option_map}
use Rattle.wf_answers.specs.AnswerSeen.{answer_tree}
use Rattle.wf_answers.specs.Gathered.{Gathered}
use Rattle.wf_answers.specs.declared.gather.Gather.{Gather}

abbrev pub gather_tree : Gather → Gathered
gather_tree g = record { kept = map answer_tree g.kept.keys; twice = option_map answer_tree g.twice }
