-- A record is read back from its value, member by member.
use Rattle.std.proofs.Common.{◌≡◌, ℕ, ◌<◌, ◌-◌, ◌^◌, min, List, [], ◌∷◌, map, length, replicate, Ok, refl, ap, ◌∙◌, arith}
use Rattle.std.specs.List.{AllByRecursion}
use Rattle.hex.specs.Hex.{encode_lower, decode_sized}
use Rattle.hex.proofs.HexLemmas.{decode_sized-encode_lower}
use Rattle.wf_val.specs.Cut.{cut_u32}
use Rattle.wf_val.specs.ValueTree.{trees, items, members, pairs, Member}
use Rattle.wf_val.proofs.ValueTreeLemmas.{items-trees, pairs-members}
use Rattle.wf_record_form.specs.OfVal.{if_of_form}
use Rattle.wf_record_form.specs.ReadBack.{HasFewAttempts, IsInRange, IsOfForm, IsReadAsUntold, IsReadBack, IsRowInRange, IsTryInRange}
use Rattle.wf_record_form.specs.ReadBack.{first_record_value, first_row_value, untold, untold_row}
use Rattle.wf_record_form.specs.Reading.{decoded, index_in, record_of, row_of, run_status_of_word, status_of_word, try_in}
use Rattle.wf_record.specs.Record.{RowTree, RecordTree, index_value, record_value, row_value, run_status_name, status_name, try_value}
use Rattle.wf_record.specs.declared.attempt.Try.{Try}
use Rattle.wf_record.specs.declared.status.Status.{Status}
use Rattle.wf_record.specs.declared.status.RunStatus.{RunStatus}

status_back : (s : Status) → status_of_word (status_name s) ≡ s
status_back Status.Succeeded = refl
status_back Status.Failed = refl
status_back Status.Skipped = refl
status_back Status.TimedOut = refl
status_back Status.Cancelled = refl

run_status_back : (s : RunStatus) → run_status_of_word (run_status_name s) ≡ s
run_status_back RunStatus.Succeeded = refl
run_status_back RunStatus.Failed = refl
run_status_back RunStatus.Cancelled = refl

uncut_index : (n : ℕ) → n < 2 ^ 63 → min n (2 ^ 63 - 1) ≡ n
uncut_index n lt = omega arith

uncut_code : (n : ℕ) → n < 2 ^ 32 → cut_u32 n ≡ n
uncut_code n lt = omega arith

indexes_back : (at' : List ℕ) → AllByRecursion (λ n. n < 2 ^ 63) at' → map index_in (map index_value at') ≡ at'
indexes_back [] all = refl
indexes_back (n ∷ at') all = rw (uncut_index n all.0, indexes_back at' all.1) refl

try_back : (t : Try) → IsTryInRange t → try_in (try_value t) ≡ t
try_back (Try.Code n) lt = ap (λ k. Try.Code k) (uncut_code n lt)
try_back Try.NoConnection lt = refl
try_back Try.TimedOut lt = refl
try_back Try.NoAnswer lt = refl
try_back Try.Unknown lt = refl

tries_back : (ts : List Try) → AllByRecursion IsTryInRange ts → map try_in (map try_value ts) ≡ ts
tries_back [] all = refl
tries_back (t ∷ ts) all = rw (try_back t all.0, tries_back ts all.1) refl

-- a row with these in place of its own
abbrev row_with : RowTree → List ℕ → Status → List Try → RowTree
row_with r at' status attempts = record {
  address = record { name = r.address.name; at = at' };
  row = record {
    status = status;
    code = r.row.code;
    inputs = r.row.inputs;
    outputs = r.row.outputs;
    error = r.row.error;
    tracked = r.row.tracked;
    attempts = attempts;
  };
}

row_same : (r : RowTree) (at' : List ℕ) (status : Status) (attempts : List Try)
    → at' ≡ r.address.at → status ≡ r.row.status → attempts ≡ r.row.attempts → row_with r at' status attempts ≡ r
row_same r at' status attempts a s t = rw (a, s, t) refl

row_back : (r : RowTree) → IsRowInRange r → row_of (row_value r) ≡ r
row_back r range =
    row_same r (map index_in (items (trees (map index_value r.address.at)))) (status_of_word (status_name r.row.status))
    (map try_in (items (trees (map try_value r.row.attempts))))
    (ap (map index_in) (items-trees (map index_value r.address.at)) ∙ indexes_back r.address.at range.at_in_range)
    (status_back r.row.status)
    (ap (map try_in) (items-trees (map try_value r.row.attempts)) ∙ tries_back r.row.attempts range.attempts)

rows_back : (rs : List RowTree) → AllByRecursion IsRowInRange rs → map row_of (map row_value rs) ≡ rs
rows_back [] all = refl
rows_back (r ∷ rs) all = rw (row_back r all.0, rows_back rs all.1) refl

abbrev record_with : RecordTree → List ℕ → List Member → RunStatus → List RowTree → RecordTree
record_with r digest parameters status rows = record {
  run = r.run;
  digest = digest;
  trigger = r.trigger;
  parameters = parameters;
  status = status;
  error = r.error;
  response = r.response;
  outputs = r.outputs;
  rows = rows;
}

record_same : (r : RecordTree) (digest : List ℕ) (parameters : List Member) (status : RunStatus) (rows : List RowTree)
    → digest ≡ r.digest → parameters ≡ r.parameters → status ≡ r.status → rows ≡ r.rows → record_with r digest parameters status rows ≡ r
record_same r digest parameters status rows d p s w = rw (d, p, s, w) refl

record_back : (r : RecordTree) → IsInRange r → record_of (record_value r) ≡ r
record_back r range =
    record_same r (decoded (decode_sized (encode_lower r.digest) 32)) (pairs (members r.parameters))
    (run_status_of_word (run_status_name r.status)) (map row_of (items (trees (map row_value r.rows))))
    (ap decoded (decode_sized-encode_lower r.digest 32 range.digest_length range.digest_bytes))
    (pairs-members r.parameters) (run_status_back r.status)
    (ap (map row_of) (items-trees (map row_value r.rows)) ∙ rows_back r.rows range.rows_in_range)

pub read_back : (r : RecordTree) → IsInRange r → IsOfForm r → IsReadBack r
read_back r range form = ap (if_of_form (record_value r)) form ∙ ap (λ q. Ok q) (record_back r range)

-- ---- form 1

first_row_back : (r : RowTree) → IsRowInRange r → length r.row.attempts < 2 ^ 32 → row_of (first_row_value r) ≡ untold_row r
first_row_back r range few =
    row_same (untold_row r) (map index_in (items (trees (map index_value r.address.at)))) (status_of_word (status_name r.row.status))
    (replicate (cut_u32 (length r.row.attempts)) Try.Unknown)
    (ap (map index_in) (items-trees (map index_value r.address.at)) ∙ indexes_back r.address.at range.at_in_range)
    (status_back r.row.status) (ap (λ n. replicate n Try.Unknown) (uncut_code (length r.row.attempts) few))

first_rows_back : (rs : List RowTree) → AllByRecursion IsRowInRange rs → AllByRecursion (λ row. length row.row.attempts < 2 ^ 32) rs
    → map row_of (map first_row_value rs) ≡ map untold_row rs
first_rows_back [] all few = refl
first_rows_back (r ∷ rs) all few = rw (first_row_back r all.0 few.0, first_rows_back rs all.1 few.1) refl

first_record_back : (r : RecordTree) → IsInRange r → HasFewAttempts r → record_of (first_record_value r) ≡ untold r
first_record_back r range few =
    record_same (untold r) (decoded (decode_sized (encode_lower r.digest) 32)) (pairs (members r.parameters))
    (run_status_of_word (run_status_name r.status)) (map row_of (items (trees (map first_row_value r.rows))))
    (ap decoded (decode_sized-encode_lower r.digest 32 range.digest_length range.digest_bytes))
    (pairs-members r.parameters) (run_status_back r.status)
    (ap (map row_of) (items-trees (map first_row_value r.rows)) ∙ first_rows_back r.rows range.rows_in_range few)

pub read_untold : (r : RecordTree) → IsInRange r → HasFewAttempts r → IsReadAsUntold r
read_untold r range few form = ap (if_of_form (first_record_value r)) form ∙ ap (λ q. Ok q) (first_record_back r range few)
