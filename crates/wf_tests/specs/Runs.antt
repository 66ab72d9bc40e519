-- That tests were run: each by its command, over the files that it names, and judged by how that ended.
use Rattle.std.specs.Prelude.{◌≡◌, ℕ, suc, List, [], ◌∷◌, ◌++◌, length, map, Option, Some}
use Rattle.wf_judged.specs.Failures.{failures_of}
use Rattle.wf_judged.specs.Why.{why}
use Rattle.wf_judged.specs.declared.lines.Ended.{Ended}
use Rattle.wf_suite.specs.declared.suite.Test.{Test}
use Rattle.wf_tap.specs.declared.report.Outcome.{Outcome}
use Rattle.wf_tests.specs.Command.{further_of, handed, history_of, inputs_of, schedule_of, seed_of, words_of}
use Rattle.wf_tests.specs.Schedules.{further_schedule}
use Rattle.wf_tests.specs.Sources.{source_named}
use Rattle.wf_tests.specs.declared.sources.Sources.{Sources}

-- what a program says of words over files that hold these bytes
abbrev pub Says : Type 1
Says = (List ℕ → Option (List ℕ)) → List (List ℕ) → ℕ → List ℕ → Type 0

module _ (says : Says) where
  -- The words ended so, over files that hold this of each name.
  pub record Came (words : List (List ℕ)) (held : List ℕ → Option (List ℕ)) (ended : Ended) : Type 0 where
    pub bytes_of : List ℕ → Option (List ℕ)
    pub same : (name : List ℕ) → bytes_of name ≡ held name
    pub said : says bytes_of words ended.status ended.text.items

  -- They ended so under the further schedules of a seed, from a place on.
  abbrev pub CameUnder : List (List ℕ) → (List ℕ → List ℕ → Option (List ℕ)) → ℕ → ℕ → List Ended → Type 0
  CameUnder words held seed place [] = Unit {0}
  CameUnder words held seed place (ended ∷ others) =
      Came words (held (further_schedule seed place)) ended × CameUnder words held seed (suc place) others

  -- A TEST WAS RUN, behind others that ended so: its command ended so, and under its further schedules so, and its outcome is what is told
  -- of these ends.
  pub record IsRun (sources : Sources) (definition : List ℕ) (ends : List Ended) (test : Test) (ended : Ended) (outcome : Outcome)
      : Type 0 where
    pub text : List ℕ
    pub inputs : List ℕ
    pub schedule : List ℕ
    pub others : List Ended
    pub definition_there : source_named sources definition ≡ Some text
    pub inputs_there : inputs_of sources test.kind ≡ Some inputs
    pub schedule_there : schedule_of sources test.kind ≡ Some schedule
    pub came : Came (words_of test.kind (history_of test.kind ends)) (handed text (history_of test.kind ends) inputs schedule) ended
    pub came_under : CameUnder (words_of test.kind (history_of test.kind ends)) (handed text (history_of test.kind ends) inputs)
        (seed_of test.kind) 0 others
    pub all_others : length others ≡ further_of test.kind
    pub named : outcome.name ≡ test.name
    pub judged : map why outcome.failures ≡ failures_of test ended others

  -- Tests were run in turn, behind those that ended so.
  abbrev pub AreRun : Sources → List ℕ → List Ended → List Test → List Ended → List Outcome → Type 0
  AreRun sources definition before [] [] [] = Unit {0}
  AreRun sources definition before (test ∷ tests) (ended ∷ ends) (outcome ∷ outcomes) =
      IsRun sources definition before test ended outcome × AreRun sources definition (before ++ ended ∷ []) tests ends outcomes
  AreRun sources definition before tests ends outcomes = ⊥
