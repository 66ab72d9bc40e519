use Rattle.std.proofs.Common.{◌≡◌, ◌∙◌, [], Some, ap, sym}
use Rattle.std.proofs.lemmas.List.{get_or_default}
use Rattle.wf_top.specs.Commands.{plan}
use Rattle.wf_top.specs.Drill.{drilled}
use Rattle.wf_top.specs.Words.{word}
use Rattle.wf_top.proofs.Asked.{plan_defined, plan_drilled, some_length}
use Rattle.wf_top.proofs.Following.{reaches_now}
use Rattle.wf_top.proofs.LengthLemmas.{drill_size}
use Rattle.wf_top.proofs.commands.follow.Goals as goal

-- the second word is the one that `defined` was handed
pub returns-in-Check : goal.returns-in-Check
returns-in-Check g c =
    let words = c.args.words.now in
    let second : c.index-words-1-in-Check.result ≡ word words 1 =
    c.index-words-1-in-Check.is
    ∙ get_or_default words 1 c.index-words-1-in-Check.result [] (some_length c.args.command words c.requires.names) in record {
      follows = rw (plan_defined c.args.command words c.in-Check.is, sym second) c.defined.ensures.follows;
      same = c.defined.ensures.same;
    }

-- `drill` reads no file
pub drilled-requires : goal.drilled-requires
drilled-requires g c = drill_size c.args.words.now c.in-Drill.size (c.requires.names ∙ ap Some c.in-Drill.is)

pub returns-in-Drill-clause-follows : goal.returns-in-Drill-clause-follows
returns-in-Drill-clause-follows g c =
    let words = c.args.words.now in
    let same : plan c.args.command words ≡ drilled c.in-Drill.size =
    ap (λ command. plan command words) c.in-Drill.is ∙ plan_drilled c.in-Drill.size words in
    rw same (reaches_now _ (drilled c.in-Drill.size) _ c.drilled.result c.drilled.ensures.said c.drilled.ensures.stopped)
