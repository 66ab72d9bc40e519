-- That all files are there which the tests of a file name.
use Rattle.std.specs.Prelude.{List, All}
use Rattle.wf_suite.specs.declared.suite.Suite.{Suite}
use Rattle.wf_suite.specs.declared.suite.Test.{Test}
use Rattle.wf_tests.specs.Command.{IsReady}
use Rattle.wf_tests.specs.Sources.{IsThere}
use Rattle.wf_tests.specs.declared.sources.Sources.{Sources}

-- what each of these tests is handed is there
abbrev pub AreReady : Sources → List Test → Type 0
AreReady sources tests = All (λ (test : Test). IsReady sources test.kind) tests

-- The definition is there, and what each test is handed.
abbrev pub IsWhole : Suite → Sources → Type 0
IsWhole suite sources = IsThere sources suite.definition × AreReady sources suite.tests
