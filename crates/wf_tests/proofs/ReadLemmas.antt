-- That each file was read which a test names that was run.
use Rattle.std.proofs.Common.{◌≡◌, ℕ, List, [], ◌∷◌, ◌++◌, Option, None, Some, subst}
use Rattle.std.specs.Prelude.{IfSome}
use Rattle.std.specs.List.{AllByRecursion}
use Rattle.wf_judged.specs.declared.lines.Ended.{Ended}
use Rattle.wf_outside.specs.Outside.{Held}
use Rattle.wf_suite.specs.declared.suite.Given.{Given}
use Rattle.wf_suite.specs.declared.suite.Kind.{Kind}
use Rattle.wf_suite.specs.declared.suite.Test.{Test}
use Rattle.wf_tap.specs.declared.report.Outcome.{Outcome}
use Rattle.wf_tap.specs.declared.report.Results.{Results}
use Rattle.wf_tests.specs.Command.{inputs_in, inputs_of, schedule_in, schedule_of}
use Rattle.wf_tests.specs.Loaded.{AreLoaded, AreSources, HasRead}
use Rattle.wf_tests.specs.Named.{AreRead, HasReadTests, IsRead, file_of, inputs_file, schedule_file}
use Rattle.wf_tests.specs.Names.{beside}
use Rattle.wf_tests.specs.Runs.{AreRun, Says}
use Rattle.wf_tests.specs.Served.{AreTested}
use Rattle.wf_tests.specs.Sources.{source_named}
use Rattle.wf_tests.specs.declared.loaded.Loaded.{Loaded}
use Rattle.wf_tests.specs.declared.sources.Sources.{Sources}

module _ (held : Held) where
  module _ (file : List ℕ) (sources : Sources) (are : AreSources held file sources) where
    named : (name bytes : List ℕ) → source_named sources name ≡ Some bytes → IsRead held file name
    named name bytes is =
        (bytes, subst (λ (o : Option (List ℕ)). IfSome o (λ bs. HasRead held (beside file name) bs)) is (are name))

    given : (g : Given) (bytes : List ℕ) → inputs_in sources g ≡ Some bytes → IfSome (file_of g) (λ name. IsRead held file name)
    given (Given.File name) bytes is = named name bytes is
    given (Given.Itself ms) bytes is = tt

    of-inputs : (kind : Kind) (bytes : List ℕ) → inputs_of sources kind ≡ Some bytes
        → IfSome (inputs_file kind) (λ name. IsRead held file name)
    of-inputs Kind.Check bytes is = tt
    of-inputs (Kind.Run inputs schedule further seed) bytes is = given inputs bytes is
    of-inputs (Kind.Again of from inputs schedule) bytes is = given inputs bytes is

    scheduled : (name : Option (List ℕ)) (bytes : List ℕ) → schedule_in sources name ≡ Some bytes
        → IfSome name (λ n. IsRead held file n)
    scheduled None bytes is = tt
    scheduled (Some name) bytes is = named name bytes is

    of-schedule : (kind : Kind) (bytes : List ℕ) → schedule_of sources kind ≡ Some bytes
        → IfSome (schedule_file kind) (λ name. IsRead held file name)
    of-schedule Kind.Check bytes is = tt
    of-schedule (Kind.Run inputs schedule further seed) bytes is = scheduled schedule bytes is
    of-schedule (Kind.Again of from inputs schedule) bytes is = scheduled schedule bytes is

    tests-read : (says : Says) (definition : List ℕ) (before : List Ended) (tests : List Test) (ends : List Ended)
        (outcomes : List Outcome) → AreRun says sources definition before tests ends outcomes
        → AllByRecursion (λ (test : Test). AreRead held file definition test) tests
    tests-read says definition before [] ends outcomes run = tt
    tests-read says definition before (t ∷ ts) [] outcomes run = absurd run
    tests-read says definition before (t ∷ ts) (e ∷ es) [] run = absurd run
    tests-read says definition before (t ∷ ts) (e ∷ es) (o ∷ os) run = (
      record {
        of_definition = named definition run.0.text run.0.definition_there;
        of_inputs = of-inputs t.kind run.0.inputs run.0.inputs_there;
        of_schedule = of-schedule t.kind run.0.schedule run.0.schedule_there;
      },
      tests-read says definition (before ++ e ∷ []) ts es os run.1,
    )

  -- where all tests of files were run, each file was read that these name
  pub all_read : (says : Says) (files : List (List ℕ)) (loaded : List Loaded) (results : List Results) → AreLoaded held files loaded
      → AreTested says loaded results → AllByRecursion (λ (file : List ℕ). HasReadTests held file) files
  all_read says [] loaded results are tested = tt
  all_read says (file ∷ files) [] results are tested = absurd are
  all_read says (file ∷ files) (l ∷ ls) [] are tested = absurd tested
  all_read says (file ∷ files) (l ∷ ls) (r ∷ rs) are tested = (
    record {
      bytes = are.0.bytes;
      suite = l.suite;
      read = are.0.read;
      tests = are.0.tests;
      named =
          tests-read file l.sources are.0.sources says l.suite.definition [] l.suite.tests tested.0.1.0 r.outcomes tested.0.1.1;
    },
    all_read says files ls rs are.1 tested.1,
  )
