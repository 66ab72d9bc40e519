use Rattle.std.proofs.Common.{◌≡◌, take}
use Rattle.wf_tests.specs.Loaded.{AreLoaded}
use Rattle.wf_tests.proofs.loading.load_all.Given as goal

-- the files so far were read
abbrev pub invariant-loop-name : goal.invariant-loop-name
invariant-loop-name g l = record {
  loaded : AreLoaded (g.F.Files.held l.files) (take l.name-index l.names) l.all.items;
  unfailed : g.F.Files.failed l.files ≡ g.F.Files.failed l.fn.files;
  same : g.F.Files.held l.files ≡ g.F.Files.held l.fn.files;
}
