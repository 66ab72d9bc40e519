-- The definitions of the program of tests, at worked names, words, schedules and ends.
use Rattle.std.proofs.Common.{◌≡◌, ℕ, List, [], ◌∷◌, true, false, Some, None, Ok, inl, inr, refl, sym, ap, arith}
use Rattle.std.specs.Fmt.{digits}
use Rattle.std.specs.Prelude.{codes, ⊤}
use Rattle.std.specs.Str.Lossy.{utf8_lossy}
use Rattle.wf_json.specs.declared.fault.JsonFault.{JsonFault}
use Rattle.wf_suite.specs.declared.fault.SuiteFault.{SuiteFault}
use Rattle.wf_suite.specs.declared.suite.Given.{Given}
use Rattle.wf_suite.specs.declared.suite.Kind.{Kind}
use Rattle.wf_tap.specs.declared.report.Failure.{Failure}
use Rattle.wf_tap.specs.declared.report.Outcome.{Outcome}
use Rattle.wf_suite.specs.declared.suite.Suite.{Suite}
use Rattle.wf_tests.specs.Asked.{IsAsked}
use Rattle.wf_tests.specs.Command.{further_of, handed, history_of, inputs_in, seed_of, words_of}
use Rattle.wf_tests.specs.Named.{inputs_file, schedule_file}
use Rattle.wf_tests.specs.Names.{beside, folder}
use Rattle.wf_tests.specs.Reading.{json_words, suite_in, suite_words}
use Rattle.wf_tests.specs.Schedules.{lines_behind, start}
use Rattle.wf_tests.specs.Served.{End, status_of, text_of}
use Rattle.wf_tests.specs.Words.{wish_of}
use Rattle.wf_tests.specs.declared.sources.Sources.{Sources}
use Rattle.wf_tests.specs.declared.stop.Stop.{Stop}

-- what a row unfolds to be computed
unfoldable computed : ⊤
unfolding digits lines_behind
computed = tt

-- ---- names of files

name-in_a_folder : beside (codes "a/b/tests.json") (codes "c.json") ≡ utf8_lossy (codes "a/b/c.json")
name-in_a_folder = refl

name-in_none : beside (codes "tests.json") (codes "c.json") ≡ utf8_lossy (codes "c.json")
name-in_none = refl

name-rooted : beside (codes "a/b/tests.json") (codes "/c.json") ≡ codes "/c.json"
name-rooted = refl

name-above : beside (codes "/a/tests.json") (codes "../c.json") ≡ utf8_lossy (codes "/a/../c.json")
name-above = refl

folder-at_the_root : folder (codes "/tests.json") ≡ codes "/"
folder-at_the_root = refl

-- ---- words

words-none : wish_of [] ≡ None
words-none = refl

words-no_file : wish_of (codes "--junit" ∷ []) ≡ None
words-no_file = refl

words-files : wish_of (codes "a" ∷ codes "b" ∷ []) ≡ Some (record { junit = false; files = codes "a" ∷ codes "b" ∷ [] })
words-files = refl

words-junit : wish_of (codes "--junit" ∷ codes "a" ∷ []) ≡ Some (record { junit = true; files = codes "a" ∷ [] })
words-junit = refl

-- behind a file it is the name of one
words-behind : wish_of (codes "a" ∷ codes "--junit" ∷ []) ≡ Some (record { junit = false; files = codes "a" ∷ codes "--junit" ∷ [] })
words-behind = refl

-- ---- the command of a test

abbrev a_run : Kind
a_run = Kind.Run (Given.File (codes "i")) (Some (codes "s")) 3 7

abbrev anew : Kind
anew = Kind.Again 1 (codes "A" ∷ codes "B" ∷ []) (Given.Itself []) None

command-check : words_of Kind.Check [] ≡ codes "check" ∷ codes "definition" ∷ []
command-check = refl

command-run : words_of a_run [] ≡ codes "run" ∷ codes "definition" ∷ codes "inputs" ∷ codes "schedule" ∷ []
command-run = refl

command-anew : words_of anew [] ≡ codes "resubmit-set" ∷ codes "definition" ∷ codes "history" ∷ [] ∷ codes "inputs" ∷ codes "schedule"
    ∷ codes "A" ∷ codes "B" ∷ []
command-anew = refl

command-inputs : (sources : Sources) → inputs_in sources (Given.Itself []) ≡ Some (codes "{}")
command-inputs sources = refl

command-history : history_of anew [] ≡ []
command-history = refl

-- each file has a name of its own
module _ (d h i s : List ℕ) where
  files-definition : handed d h i s (codes "definition") ≡ Some d
  files-definition = refl

  files-history : handed d h i s (codes "history") ≡ Some h
  files-history = refl

  files-inputs : handed d h i s (codes "inputs") ≡ Some i
  files-inputs = refl

  files-schedule : handed d h i s (codes "schedule") ≡ Some s
  files-schedule = refl

  files-other : handed d h i s (codes "Schedule") ≡ None
  files-other = refl

names-of_a_run : inputs_file a_run ≡ Some (codes "i")
names-of_a_run = refl

names-its_schedule : schedule_file a_run ≡ Some (codes "s")
names-its_schedule = refl

names-none : inputs_file anew ≡ None
names-none = refl

-- ---- further schedules

further-count : further_of a_run ≡ 3
further-count = refl

further-seed : seed_of a_run ≡ 7
further-seed = refl

further-none : further_of anew ≡ 0
further-none = refl

-- what `rand` of the C standard gives from 1
numbers-from_one : lines_behind 5 1 ≡ codes "16838\n5758\n10113\n17515\n31051\n"
unfolding computed
numbers-from_one = refl

-- a seed counts by what it leaves of 2^31, and so does where a schedule begins
start-first : start 7 0 ≡ 7
start-first = refl

start-second : start 7 1 ≡ 7926
start-second = refl

start-large : start 2147483648 0 ≡ 0
start-large = refl

-- ---- faults of a file of tests

fault-not_json : json_words JsonFault.NotJson ≡ codes "NotJson"
fault-not_json = refl

fault-too_deep : json_words (JsonFault.TooDeep (codes "/a")) ≡ codes "TooDeep \"/a\""
fault-too_deep = refl

fault-form : suite_words (SuiteFault.Form (codes "/tests/0")) ≡ codes "Form \"/tests/0\""
fault-form = refl

fault-twice : suite_words (SuiteFault.Twice (codes "a \"b\"")) ≡ codes "Twice \"a \\\"b\\\"\""
fault-twice = refl

fault-no_test : suite_words (SuiteFault.NoTest (codes "a")) ≡ codes "NoTest \"a\""
fault-no_test = refl

-- ---- files that are asked for

abbrev one_word : List (List ℕ)
one_word = codes "a/tests.json" ∷ []

asked-a_word : IsAsked None one_word (codes "a/tests.json")
asked-a_word = (record { junit = false; files = one_word }, refl, (codes "a/tests.json", (0, omega arith, refl), inl refl))

asked-a_definition : (bytes : List ℕ) (suite : Suite) → suite_in bytes ≡ Ok suite → suite.definition ≡ codes "c.json"
    → IsAsked None one_word (utf8_lossy (codes "a/c.json"))
asked-a_definition bytes suite tests named = (
  record { junit = false; files = one_word },
  refl,
  (
    codes "a/tests.json",
    (0, omega arith, refl),
    inr (bytes, suite, tt, tests, inl (sym (ap (beside (codes "a/tests.json")) named))),
  ),
)

-- ---- ends

end-misused : status_of End.Misused ≡ 2
end-misused = refl

end-unread : text_of (End.Stops (Stop.CannotRead (codes "a/b"))) ≡ codes "cannot read \"a/b\"\n"
end-unread = refl

end-unread_status : status_of (End.Stops (Stop.CannotRead (codes "a/b"))) ≡ 3
end-unread_status = refl

end-long : text_of (End.Stops (Stop.TooLong (codes "a"))) ≡ codes "too long \"a\"\n"
end-long = refl

end-long_status : status_of (End.Stops (Stop.TooLong (codes "a"))) ≡ 6
end-long_status = refl

end-no_tests : text_of (End.Stops (Stop.NoTests (codes "a") (codes "NotJson"))) ≡ codes "tests \"a\" NotJson\n"
end-no_tests = refl

end-no_tests_status : status_of (End.Stops (Stop.NoTests (codes "a") (codes "NotJson"))) ≡ 6
end-no_tests_status = refl

end-memory : status_of (End.Stops Stop.Memory) ≡ 5
end-memory = refl

end-no_test : status_of (End.Reports false []) ≡ 0
end-no_test = refl

-- one failure is one too many
abbrev with_one : Outcome
with_one = record { name = codes "t"; failures = Failure.Says (codes "no") ∷ [] }

abbrev with_none : Outcome
with_none = record { name = codes "t"; failures = [] }

end-a_failure : status_of (End.Reports false (record { file = codes "a"; outcomes = with_none ∷ with_one ∷ [] } ∷ [])) ≡ 1
end-a_failure = refl

end-all_pass : status_of (End.Reports true (record { file = codes "a"; outcomes = with_none ∷ with_none ∷ [] } ∷ [])) ≡ 0
end-all_pass = refl
