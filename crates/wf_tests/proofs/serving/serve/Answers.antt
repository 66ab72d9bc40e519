use Rattle.std.proofs.Common.{sym}
use Rattle.wf_tests.specs.Words.{wish_tree}
use Rattle.wf_tests.proofs.EndLemmas.{reported, stopped}
use Rattle.wf_tests.proofs.serving.serve.Goals as goal

-- all tests are reported
pub returns-in-Ok-clause-tested : goal.returns-in-Ok-clause-tested
returns-in-Ok-clause-tested g c =
    reported (g.F.Files.held c.args.files.now) (g.F.Files.failed c.args.files.now) (g.F.Files.failed c.make_report.new.files)
    g.P.Program.says c.args.words.now (g.O.Sink.taken c.args.out.now) (g.O.Sink.taken c.tell_report.new.out) c.tell_report.result
    (wish_tree c.in-Some.asked) c.in-Ok.ensures.report.1.0 c.in-Ok.report.text c.in-Ok.report.passed (sym c.in-Some.ensures)
    c.in-Ok.ensures.report.0 c.in-Ok.ensures.report.1.1 c.tell_report.ensures.writes

-- no test runs
pub returns-in-Err-clause-tested : goal.returns-in-Err-clause-tested
returns-in-Err-clause-tested g c =
    stopped (g.F.Files.held c.args.files.now) (g.F.Files.failed c.args.files.now) (g.F.Files.failed c.make_report.new.files)
    g.P.Program.says c.args.words.now (g.O.Sink.taken c.args.out.now) (g.O.Sink.taken c.tell_stop.new.out) c.tell_stop.result
    (wish_tree c.in-Some.asked) c.in-Err.stop (sym c.in-Some.ensures) c.in-Err.ensures.stop c.in-Err.ensures.told
    c.tell_stop.ensures.writes
