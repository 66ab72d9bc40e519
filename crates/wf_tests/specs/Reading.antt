-- What a file of tests is read as, and the line that says why it is none.
use Rattle.std.specs.Prelude.{ℕ, List, [], ◌++◌, Result, Ok, Err, codes}
use Rattle.wf_json.specs.Json.{string}
use Rattle.wf_json.specs.Read.{read_value}
use Rattle.wf_json.specs.declared.fault.JsonFault.{JsonFault}
use Rattle.wf_suite.specs.Suite.{suite_of}
use Rattle.wf_suite.specs.declared.fault.SuiteFault.{SuiteFault}
use Rattle.wf_suite.specs.declared.suite.Suite.{Suite}
use Rattle.wf_val.specs.ValueTree.{ValueTree}

abbrev pub json_words : JsonFault → List ℕ
json_words JsonFault.NotJson = codes "NotJson"
json_words (JsonFault.NotWhole pointer) = codes "NotWhole " ++ string pointer
json_words (JsonFault.TooDeep pointer) = codes "TooDeep " ++ string pointer
json_words JsonFault.Memory = []

abbrev pub suite_words : SuiteFault → List ℕ
suite_words (SuiteFault.Form pointer) = codes "Form " ++ string pointer
suite_words (SuiteFault.Twice name) = codes "Twice " ++ string name
suite_words (SuiteFault.NoTest name) = codes "NoTest " ++ string name
suite_words SuiteFault.Memory = []

abbrev pub or_words : Result Suite SuiteFault → Result Suite (List ℕ)
or_words (Ok suite) = Ok suite
or_words (Err fault) = Err (suite_words fault)

abbrev pub of_value : Result ValueTree JsonFault → Result Suite (List ℕ)
of_value (Ok t) = or_words (suite_of t)
of_value (Err fault) = Err (json_words fault)

-- the tests that the bytes of a file are, or in words why they are none
abbrev pub suite_in : List ℕ → Result Suite (List ℕ)
suite_in bytes = of_value (read_value bytes)
