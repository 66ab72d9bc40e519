use Rattle.std.proofs.Common.{◌≡◌, take}
use Rattle.wf_tests.specs.Loaded.{AreSources}
use Rattle.wf_tests.specs.Sources.{IsThere}
use Rattle.wf_tests.specs.Whole.{AreReady}
use Rattle.wf_tests.proofs.loading.sources_of.Given as goal

-- the files so far were read
abbrev pub invariant-loop-test : goal.invariant-loop-test
invariant-loop-test g l = record {
  read : AreSources (g.F.Files.held l.files) l.file l.sources;
  definition : IsThere l.sources l.suite.definition;
  ready : AreReady l.sources (take l.test-index l.test-items);
  unfailed : g.F.Files.failed l.files ≡ g.F.Files.failed l.fn.files;
  same : g.F.Files.held l.files ≡ g.F.Files.held l.fn.files;
}
