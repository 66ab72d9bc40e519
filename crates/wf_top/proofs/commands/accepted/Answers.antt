use Rattle.std.proofs.Common.{◌≡◌, ◌∙◌, [], Some, ap, refl, sym}
use Rattle.std.proofs.lemmas.List.{get_or_default}
use Rattle.wf_top.specs.Words.{command_of, word}
use Rattle.wf_top.specs.declared.words.Command.TheVariants.{Run, Trace}
use Rattle.wf_top.proofs.Asked.{second_length}
use Rattle.wf_top.proofs.LengthLemmas.{resubmit_length, set_length}
use Rattle.wf_top.proofs.commands.accepted.Goals as goal

-- the third word is the one that `run` was handed, and the fourth too, where there is one
pub returns-in-Run-clause-follows : goal.returns-in-Run-clause-follows
returns-in-Run-clause-follows g c =
    let words = c.args.words.now in
    let names : command_of words ≡ Some Run = c.requires ∙ ap Some c.in-Run.is in
    let third : c.index-words-2.result ≡ word words 2 =
    c.index-words-2.is ∙ get_or_default words 2 c.index-words-2.result [] (second_length Run words refl names) in
    rw (c.in-Run.is, sym third, sym c.schedule_word-schedule.ensures) c.run.ensures.follows

pub returns-in-Trace-clause-follows : goal.returns-in-Trace-clause-follows
returns-in-Trace-clause-follows g c =
    let words = c.args.words.now in
    let names : command_of words ≡ Some Trace = c.requires ∙ ap Some c.in-Trace.is in
    let third : c.index-words-2-in-Trace.result ≡ word words 2 =
    c.index-words-2-in-Trace.is ∙ get_or_default words 2 c.index-words-2-in-Trace.result [] (second_length Trace words refl names) in
    rw (c.in-Trace.is, sym third, sym c.schedule_word-schedule.ensures) c.run-in-Trace.ensures.follows

pub one_asked-requires : goal.one_asked-requires
one_asked-requires g c = resubmit_length c.args.words.now (c.requires ∙ ap Some c.in-Resubmit.is)

pub set_asked-requires : goal.set_asked-requires
set_asked-requires g c = set_length c.args.words.now (c.requires ∙ ap Some c.in-ResubmitSet.is)
