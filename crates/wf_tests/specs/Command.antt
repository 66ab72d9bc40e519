-- The command of a test: its words, and the files that it is handed, which have names of their own.
use Rattle.std.specs.Prelude.{◌≡◌, ◌≢◌, ◌⊎◌, ℕ, List, [], ◌∷◌, Option, Some, None, if◌then◌else◌, bytes_eq, codes, slice_get}
use Rattle.wf_json.specs.Json.{json}
use Rattle.wf_judged.specs.Lines.{run_named}
use Rattle.wf_judged.specs.declared.lines.Ended.{Ended}
use Rattle.wf_suite.specs.declared.suite.Given.{Given}
use Rattle.wf_suite.specs.declared.suite.Kind.{Kind}
use Rattle.wf_val.specs.ValueTree.{object, members}
use Rattle.wf_tests.specs.Sources.{source_named}
use Rattle.wf_tests.specs.declared.sources.Sources.{Sources}

-- ---- what the files hold

abbrev pub text_of : Option Ended → List ℕ
text_of (Some ended) = ended.text.items
text_of None = []

-- what the test wrote that is resubmitted; the tests before this one ended so
abbrev pub history_of : Kind → List Ended → List ℕ
history_of Kind.Check ends = []
history_of (Kind.Run inputs schedule further seed) ends = []
history_of (Kind.Again of from inputs schedule) ends = text_of (slice_get ends of)

abbrev pub inputs_in : Sources → Given → Option (List ℕ)
inputs_in sources (Given.File name) = source_named sources name
inputs_in sources (Given.Itself ms) = Some (json (object (members ms)))

-- a check has no inputs
abbrev pub inputs_of : Sources → Kind → Option (List ℕ)
inputs_of sources Kind.Check = Some []
inputs_of sources (Kind.Run inputs schedule further seed) = inputs_in sources inputs
inputs_of sources (Kind.Again of from inputs schedule) = inputs_in sources inputs

-- where no schedule is named it is the empty one
abbrev pub schedule_in : Sources → Option (List ℕ) → Option (List ℕ)
schedule_in sources None = Some []
schedule_in sources (Some name) = source_named sources name

abbrev pub schedule_of : Sources → Kind → Option (List ℕ)
schedule_of sources Kind.Check = Some []
schedule_of sources (Kind.Run inputs schedule further seed) = schedule_in sources schedule
schedule_of sources (Kind.Again of from inputs schedule) = schedule_in sources schedule

-- all that is handed to a test's command is there
abbrev pub IsReady : Sources → Kind → Type 0
IsReady sources kind = (inputs_of sources kind ≢ None) × (schedule_of sources kind ≢ None)

-- the bytes of each name
abbrev pub handed : List ℕ → List ℕ → List ℕ → List ℕ → List ℕ → Option (List ℕ)
handed definition history inputs schedule name =
    if bytes_eq (codes "schedule") name then Some schedule else
    (if bytes_eq (codes "inputs") name then Some inputs else
    (if bytes_eq (codes "history") name then Some history else
    (if bytes_eq (codes "definition") name then Some definition else None)))

-- ---- the words

abbrev pub check_words : List (List ℕ)
check_words = codes "check" ∷ codes "definition" ∷ []

abbrev pub run_words : List (List ℕ)
run_words = codes "run" ∷ codes "definition" ∷ codes "inputs" ∷ codes "schedule" ∷ []

abbrev pub again_words : List ℕ → List (List ℕ) → List (List ℕ)
again_words run from =
    codes "resubmit-set" ∷ codes "definition" ∷ codes "history" ∷ run ∷ codes "inputs" ∷ codes "schedule" ∷ from

-- a resubmission is of the first run of its history
abbrev pub words_of : Kind → List ℕ → List (List ℕ)
words_of Kind.Check history = check_words
words_of (Kind.Run inputs schedule further seed) history = run_words
words_of (Kind.Again of from inputs schedule) history = again_words (run_named history) from

-- these words are the command of a test
abbrev pub IsOfATest : List (List ℕ) → Type 0
IsOfATest words =
    (words ≡ check_words) ⊎ (words ≡ run_words) ⊎ ((run : List ℕ) × (from : List (List ℕ)) × (words ≡ again_words run from))

-- under how many further schedules a test runs, and what they are made from
abbrev pub further_of : Kind → ℕ
further_of (Kind.Run inputs schedule further seed) = further
further_of kind = 0

abbrev pub seed_of : Kind → ℕ
seed_of (Kind.Run inputs schedule further seed) = seed
seed_of kind = 0
