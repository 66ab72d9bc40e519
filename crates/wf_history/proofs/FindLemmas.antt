-- What is found of a run, line by line.
use Rattle.std.proofs.Common.{◌≡◌, ℕ, suc, ◌+◌, Bool, true, false, cond, List, [], ◌∷◌, length, Option, Some, None, Result, Ok, Err, refl}
use Rattle.std.proofs.Common.{ap, ◌∙◌, arith}
use Rattle.std.specs.List.{filter}
use Rattle.wf_lines.specs.Lines.{lines_of, without_return}
use Rattle.wf_val.specs.declared.val.Val.{Val}
use Rattle.wf_record.specs.Record.{RecordTree}
use Rattle.wf_history.specs.History.{Kept, bad, if_records, is_of, line_then, on_line, only_one, records_from}
use Rattle.wf_history.specs.Seen.{SoughtTree, nothing, one, two, found_behind, on_value, said, with_all, with_value}
use Rattle.wf_history.specs.declared.fault.HistoryFault.{HistoryFault}

-- ---- the records behind those so far

two_stay : (run : List ℕ) (i j : ℕ) (ks : List Kept) → said (with_all run (two i j) ks) ≡ Err (HistoryFault.Twice i j)
two_stay run i j [] = refl
two_stay run i j (k ∷ ks) = ap (λ s. said (with_all run s ks)) (same (is_of run k)) ∙ two_stay run i j ks
  where
    same : (b : Bool) → cond b (two i j) (two i j) ≡ two i j
    same true = refl
    same false = refl

one_found : (run : List ℕ) (j : ℕ) (r : RecordTree) (ks : List Kept)
    → said (with_all run (one j r) ks) ≡ only_one ((j, r) ∷ filter (is_of run) ks)
one_found run j r [] = refl
one_found run j r (k ∷ ks) = by_name (is_of run k) (one_found run j r ks)
  where
    by_name : (b : Bool) → said (with_all run (one j r) ks) ≡ only_one ((j, r) ∷ filter (is_of run) ks)
        → said (with_all run (cond b (two j k.0) (one j r)) ks)
        ≡ only_one ((j, r) ∷ cond b (k ∷ filter (is_of run) ks) (filter (is_of run) ks))
    by_name true later = two_stay run j k.0 ks
    by_name false later = later

all_found : (run : List ℕ) (ks : List Kept) → said (with_all run nothing ks) ≡ only_one (filter (is_of run) ks)
all_found run [] = refl
all_found run (k ∷ ks) = by_name (is_of run k) (all_found run ks)
  where
    by_name : (b : Bool) → said (with_all run nothing ks) ≡ only_one (filter (is_of run) ks)
        → said (with_all run (cond b (one k.0 k.1) nothing) ks) ≡ only_one (cond b (k ∷ filter (is_of run) ks) (filter (is_of run) ks))
    by_name true later = one_found run k.0 k.1 ks
    by_name false later = later

pub found_all : (run : List ℕ) (r : Result (List Kept) ℕ) → found_behind run nothing r ≡ if_records run r
found_all run (Err k) = refl
found_all run (Ok ks) = all_found run ks

-- ---- a line more

one_line : (run : List ℕ) (s : SoughtTree) (k : ℕ) (o : Option Val) (rest : Result (List Kept) ℕ)
    → found_behind run s (line_then k (on_value o) rest) ≡ found_behind run (with_value run s k o) rest
one_line run s k None rest = refl
one_line run s k (Some v) (Err j) = refl
one_line run s k (Some v) (Ok ks) = refl

pub find_step : (run rest more first : List ℕ) (s : SoughtTree) (k : ℕ) (o : Option Val) → lines_of rest ≡ first ∷ lines_of more
    → on_line (without_return first) ≡ on_value o
    → found_behind run s (records_from k (lines_of rest)) ≡ found_behind run (with_value run s k o) (records_from (k + 1) (lines_of more))
find_step run rest more first s k o split is =
    ap (λ ls. found_behind run s (records_from k ls)) split
    ∙ ap (λ x. found_behind run s (line_then k x (records_from (suc k) (lines_of more)))) is
    ∙ one_line run s k o (records_from (suc k) (lines_of more))
    ∙ ap (λ n. found_behind run (with_value run s k o) (records_from n (lines_of more))) next
  where
    next : suc k ≡ k + 1
    next = omega arith

pub find_bad : (run rest more first : List ℕ) (s : SoughtTree) (k : ℕ) → lines_of rest ≡ first ∷ lines_of more
    → on_line (without_return first) ≡ bad → found_behind run s (records_from k (lines_of rest)) ≡ Err (HistoryFault.Line k)
find_bad run rest more first s k split is =
    ap (λ ls. found_behind run s (records_from k ls)) split
    ∙ ap (λ x. found_behind run s (line_then k x (records_from (suc k) (lines_of more)))) is

pub find_end : (run rest : List ℕ) (s : SoughtTree) (k : ℕ) → length rest ≡ 0 → found_behind run s (records_from k (lines_of rest)) ≡ said s
find_end run [] s k is = refl
find_end run (b ∷ rest) s k is = absurd (omega (arith, is))
