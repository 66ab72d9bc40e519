use Rattle.std.proofs.Common.{map, option_map, ap, sym, ◌∙◌}
use Rattle.wf_answers.specs.AnswerSeen.{answer_tree}
use Rattle.wf_answers.proofs.GatherLemmas.{with_known, with_new, noted, holding}
use Rattle.wf_answers.proofs.gather.Gather.with.Goals as goal

pub returns-then-contains : goal.returns-then-contains
returns-then-contains c =
    let held = c.args.self.kept.keys in
    let twice = option_map answer_tree c.args.self.twice in
    ap (noted (map answer_tree held)) c.lesser_twice.ensures ∙ with_known held twice (answer_tree c.args.answer) (sym c.contains.ensures
    ∙ c.if-contains.true)

pub returns-in_ok-_is_new : goal.returns-in_ok-_is_new
returns-in_ok-_is_new c =
    let held = c.args.self.kept.keys in
    let twice = option_map answer_tree c.args.self.twice in
    ap (holding twice) c.in_ok-_is_new.ensures.keys ∙ with_new held twice c.args.answer (sym c.contains.ensures ∙ c.if-contains.false)
