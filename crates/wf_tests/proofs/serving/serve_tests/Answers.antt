use Rattle.wf_tests.proofs.EndLemmas.{answered_is_read, failed_is_told, misuse_is_told, one_fails, six_stops, three_failed, two_misuses, zero_passes}
use Rattle.wf_tests.proofs.serving.serve_tests.Goals as goal

-- 0 is the status of a report alone, and of one without a failure
pub returns-clause-passed : goal.returns-clause-passed
returns-clause-passed g c =
    zero_passes (g.F.Files.held c.args.files.now) (g.F.Files.failed c.args.files.now) (g.F.Files.failed c.serve.new.files)
    g.P.Program.says c.args.words.now (g.O.Sink.taken c.args.out.now) (g.O.Sink.taken c.serve.new.out) c.serve.result
    c.serve.ensures.tested

-- 1 that of one with a failure
pub returns-clause-failed : goal.returns-clause-failed
returns-clause-failed g c =
    one_fails (g.F.Files.held c.args.files.now) (g.F.Files.failed c.args.files.now) (g.F.Files.failed c.serve.new.files)
    g.P.Program.says c.args.words.now (g.O.Sink.taken c.args.out.now) (g.O.Sink.taken c.serve.new.out) c.serve.result
    c.serve.ensures.tested

-- they come where all files were read
pub returns-clause-read : goal.returns-clause-read
returns-clause-read g c =
    answered_is_read (g.F.Files.held c.args.files.now) (g.F.Files.failed c.args.files.now) (g.F.Files.failed c.serve.new.files)
    g.P.Program.says c.args.words.now (g.O.Sink.taken c.args.out.now) (g.O.Sink.taken c.serve.new.out) c.serve.result
    c.serve.ensures.tested

-- 2 is that of words that are none
pub returns-clause-two : goal.returns-clause-two
returns-clause-two g c =
    two_misuses (g.F.Files.held c.args.files.now) (g.F.Files.failed c.args.files.now) (g.F.Files.failed c.serve.new.files)
    g.P.Program.says c.args.words.now (g.O.Sink.taken c.args.out.now) (g.O.Sink.taken c.serve.new.out) c.serve.result
    c.serve.ensures.tested

pub returns-clause-misused : goal.returns-clause-misused
returns-clause-misused g c =
    misuse_is_told (g.F.Files.held c.args.files.now) (g.F.Files.failed c.args.files.now) (g.F.Files.failed c.serve.new.files)
    g.P.Program.says c.args.words.now (g.O.Sink.taken c.args.out.now) (g.O.Sink.taken c.serve.new.out) c.serve.result
    c.serve.ensures.tested

-- 3 is that of a read that failed
pub returns-clause-three : goal.returns-clause-three
returns-clause-three g c =
    three_failed (g.F.Files.held c.args.files.now) (g.F.Files.failed c.args.files.now) (g.F.Files.failed c.serve.new.files)
    g.P.Program.says c.args.words.now (g.O.Sink.taken c.args.out.now) (g.O.Sink.taken c.serve.new.out) c.serve.result
    c.serve.ensures.tested

pub returns-clause-unread : goal.returns-clause-unread
returns-clause-unread g c =
    failed_is_told (g.F.Files.held c.args.files.now) (g.F.Files.failed c.args.files.now) (g.F.Files.failed c.serve.new.files)
    g.P.Program.says c.args.words.now (g.O.Sink.taken c.args.out.now) (g.O.Sink.taken c.serve.new.out) c.serve.result
    c.serve.ensures.tested

-- 6 is that of a file that is no such file
pub returns-clause-six : goal.returns-clause-six
returns-clause-six g c =
    six_stops (g.F.Files.held c.args.files.now) (g.F.Files.failed c.args.files.now) (g.F.Files.failed c.serve.new.files)
    g.P.Program.says c.args.words.now (g.O.Sink.taken c.args.out.now) (g.O.Sink.taken c.serve.new.out) c.serve.result
    c.serve.ensures.tested
