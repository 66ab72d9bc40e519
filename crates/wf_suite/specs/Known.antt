-- The tests that were read.
use Rattle.std.specs.Prelude.{List}
use Rattle.wf_suite.specs.declared.known.Known.{Known}
use Rattle.wf_suite.specs.declared.suite.Test.{Test}

abbrev pub tests_known : Known → List Test
tests_known known = known.tests
