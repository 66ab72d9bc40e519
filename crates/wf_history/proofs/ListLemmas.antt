-- What is said of all records, line by line.
use Rattle.std.proofs.Common.{◌≡◌, ℕ, suc, ◌+◌, List, [], ◌∷◌, length, map, Option, Some, None, Result, Ok, Err, refl, sym, ap, ◌∙◌}
use Rattle.std.proofs.Common.{append_assoc, append-nil, arith}
use Rattle.wf_lines.specs.Lines.{lines_of, without_return}
use Rattle.wf_val.specs.Seen.{tree}
use Rattle.wf_val.specs.declared.val.Val.{Val}
use Rattle.wf_record_form.specs.Reading.{record_of}
use Rattle.wf_history.specs.History.{Kept, ListedTree, bad, if_listed, if_scanned, line_then, listed, on_line, records_from}
use Rattle.wf_history.specs.Seen.{listed_behind, listed_with, on_value}
use Rattle.wf_history.specs.declared.fault.HistoryFault.{HistoryFault}

pub listed_all : (r : Result (List Kept) ℕ) → listed_behind [] r ≡ if_listed r
listed_all (Err k) = refl
listed_all (Ok ks) = refl

one_line : (ls : List ListedTree) (k : ℕ) (o : Option Val) (rest : Result (List Kept) ℕ)
    → listed_behind ls (line_then k (on_value o) rest) ≡ listed_behind (listed_with ls o) rest
one_line ls k None rest = refl
one_line ls k (Some v) (Err j) = refl
one_line ls k (Some v) (Ok ks) = ap (λ xs. Ok xs) (sym (append_assoc ls (listed (0, record_of (tree v)) ∷ []) (map listed ks)))

pub list_step : (rest more first : List ℕ) (ls : List ListedTree) (k : ℕ) (o : Option Val) → lines_of rest ≡ first ∷ lines_of more
    → on_line (without_return first) ≡ on_value o
    → listed_behind ls (records_from k (lines_of rest)) ≡ listed_behind (listed_with ls o) (records_from (k + 1) (lines_of more))
list_step rest more first ls k o split is =
    ap (λ xs. listed_behind ls (records_from k xs)) split
    ∙ ap (λ x. listed_behind ls (line_then k x (records_from (suc k) (lines_of more)))) is
    ∙ one_line ls k o (records_from (suc k) (lines_of more))
    ∙ ap (λ n. listed_behind (listed_with ls o) (records_from n (lines_of more))) next
  where
    next : suc k ≡ k + 1
    next = omega arith

pub list_bad : (rest more first : List ℕ) (ls : List ListedTree) (k : ℕ) → lines_of rest ≡ first ∷ lines_of more
    → on_line (without_return first) ≡ bad → listed_behind ls (records_from k (lines_of rest)) ≡ Err (HistoryFault.Line k)
list_bad rest more first ls k split is =
    ap (λ xs. listed_behind ls (records_from k xs)) split
    ∙ ap (λ x. listed_behind ls (line_then k x (records_from (suc k) (lines_of more)))) is

pub list_end : (rest : List ℕ) (ls : List ListedTree) (k : ℕ) → length rest ≡ 0 → listed_behind ls (records_from k (lines_of rest)) ≡ Ok ls
list_end [] ls k is = ap (λ xs. Ok xs) (append-nil ls)
list_end (b ∷ rest) ls k is = absurd (omega (arith, is))

-- ---- the same with nothing said

one_scanned : (k : ℕ) (o : Option Val) (rest : Result (List Kept) ℕ) → if_scanned (line_then k (on_value o) rest) ≡ if_scanned rest
one_scanned k None rest = refl
one_scanned k (Some v) (Err j) = refl
one_scanned k (Some v) (Ok ks) = refl

pub scan_step : (rest more first : List ℕ) (k : ℕ) (o : Option Val) → lines_of rest ≡ first ∷ lines_of more
    → on_line (without_return first) ≡ on_value o
    → if_scanned (records_from k (lines_of rest)) ≡ if_scanned (records_from (k + 1) (lines_of more))
scan_step rest more first k o split is =
    ap (λ xs. if_scanned (records_from k xs)) split
    ∙ ap (λ x. if_scanned (line_then k x (records_from (suc k) (lines_of more)))) is
    ∙ one_scanned k o (records_from (suc k) (lines_of more))
    ∙ ap (λ n. if_scanned (records_from n (lines_of more))) next
  where
    next : suc k ≡ k + 1
    next = omega arith

pub scan_bad : (rest more first : List ℕ) (k : ℕ) → lines_of rest ≡ first ∷ lines_of more
    → on_line (without_return first) ≡ bad → if_scanned (records_from k (lines_of rest)) ≡ Err (HistoryFault.Line k)
scan_bad rest more first k split is =
    ap (λ xs. if_scanned (records_from k xs)) split
    ∙ ap (λ x. if_scanned (line_then k x (records_from (suc k) (lines_of more)))) is

pub scan_end : (rest : List ℕ) (k : ℕ) → length rest ≡ 0 → if_scanned (records_from k (lines_of rest)) ≡ Ok tt
scan_end [] k is = refl
scan_end (b ∷ rest) k is = absurd (omega (arith, is))
