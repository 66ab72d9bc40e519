-- What is written of runs, and what they cost together.
use Rattle.std.specs.Prelude.{ℕ, List, [], ◌∷◌, ◌++◌, codes, flat_map, map, sum_by}
use Rattle.wf_record.specs.Cost.{cost}
use Rattle.wf_record.specs.Record.{RecordTree, record_line}
use Rattle.wf_told.specs.Under.{Told}
use Rattle.wf_told.specs.Summary.{summary_line}

-- the lines of a run's events, below them its record's line, and below that the line on how it went
abbrev pub run_text : Told → List ℕ
run_text t = t.events ++ record_line t.left ++ summary_line t.left.run t.steps t.peak

-- runs, one after the other
abbrev pub runs_in_a_row : List Told → List ℕ
runs_in_a_row runs = flat_map run_text runs

-- the same, and a line that says so where no run started
abbrev pub text_of : List Told → List ℕ
text_of [] = codes "# no run\n"
text_of (t ∷ ts) = runs_in_a_row (t ∷ ts)

-- the records that runs left
abbrev pub records_left : List Told → List RecordTree
records_left runs = map (λ t. t.left) runs

-- what runs cost together, by their records
abbrev pub total_cost : List RecordTree → ℕ
total_cost records = sum_by cost records
