-- Each row has one status, and is of one name.
use Rattle.std.proofs.Common.{◌≡◌, ℕ, suc, ◌+◌, ◌-◌, true, false, List, [], ◌∷◌, cond, count_by, drop, length, refl, ◌∙◌, arith}
use Rattle.std.proofs.Common.{bytes_eq}
use Rattle.std.specs.List.{AllByRecursion}
use Rattle.std.proofs.lemmas.List.{length-drop}
use Rattle.std.proofs.lemmas.List.Sums.{sum_by-cons}
use Rattle.wf_record.specs.Record.{RowTree, status_name}
use Rattle.wf_record.specs.declared.status.Status.{Status}
use Rattle.wf_shown.specs.Counts.{has_status}
use Rattle.wf_shown.specs.Once.{counted_in_all, owned, owners}
use Rattle.wf_shown.specs.Rows.{is_of, most_shown, rows_of}

abbrev is_status : Status → Status → ℕ
is_status s t = cond (bytes_eq (status_name s) (status_name t)) 1 0

-- a status is one of the five
one_status : (t : Status) (a b c d e n : ℕ) → a + (b + (c + (d + e))) ≡ n
    → (is_status Status.Succeeded t + a) + ((is_status Status.Failed t + b) + ((is_status Status.Skipped t + c)
    + ((is_status Status.TimedOut t + d) + (is_status Status.Cancelled t + e)))) ≡ suc n
one_status Status.Succeeded a b c d e n is = omega (arith, is)
one_status Status.Failed a b c d e n is = omega (arith, is)
one_status Status.Skipped a b c d e n is = omega (arith, is)
one_status Status.TimedOut a b c d e n is = omega (arith, is)
one_status Status.Cancelled a b c d e n is = omega (arith, is)

with_status : (s : Status) (r : RowTree) (rs : List RowTree)
    → count_by (has_status s) (r ∷ rs) ≡ is_status s r.row.status + count_by (has_status s) rs
with_status s r rs = sum_by-cons (λ x. cond (has_status s x) 1 0) r rs

all_counted_once : (rs : List RowTree) → counted_in_all rs ≡ length rs
all_counted_once [] = refl
all_counted_once (r ∷ rs) =
    let first = with_status Status.Succeeded r rs in
    let second = with_status Status.Failed r rs in
    let third = with_status Status.Skipped r rs in
    let fourth = with_status Status.TimedOut r rs in
    let fifth = with_status Status.Cancelled r rs in
    let one = one_status r.row.status (count_by (has_status Status.Succeeded) rs) (count_by (has_status Status.Failed) rs)
    (count_by (has_status Status.Skipped) rs) (count_by (has_status Status.TimedOut) rs) (count_by (has_status Status.Cancelled) rs)
    (length rs) (all_counted_once rs) in
    omega (arith, first, second, third, fourth, fifth, one)

pub others_counted : (rs : List RowTree) → counted_in_all (drop most_shown rs) ≡ length rs - most_shown
others_counted rs = all_counted_once (drop most_shown rs) ∙ length-drop most_shown rs

-- a further row of a name
rows_more : (name : List ℕ) (r : RowTree) (rs : List RowTree)
    → length (rows_of name (r ∷ rs)) ≡ cond (is_of name r) 1 0 + length (rows_of name rs)
rows_more name r rs =
    elim (is_of name r) as (λ b. length (cond b (r ∷ rows_of name rs) (rows_of name rs)) ≡ cond b 1 0 + length (rows_of name rs)) [
      | true ↦ omega arith
      | false ↦ omega arith
    ]

-- a further row is counted at each of its names
owned_more : (names : List (List ℕ)) (r : RowTree) (rs : List RowTree) → owned names (r ∷ rs) ≡ owners names r + owned names rs
owned_more [] r rs = refl
owned_more (name ∷ names) r rs =
    let next = owned_more names r rs in
    let here = rows_more name r rs in
    let new = sum_by-cons (λ n. length (rows_of n (r ∷ rs))) name names in
    let old = sum_by-cons (λ n. length (rows_of n rs)) name names in
    let own = sum_by-cons (λ n. cond (is_of n r) 1 0) name names in
    omega (arith, next, here, new, old, own)

pub split_by_names : (names : List (List ℕ)) (rows : List RowTree) → AllByRecursion (λ r. owners names r ≡ 1) rows
    → owned names rows ≡ length rows
split_by_names names [] all = none names
  where
    none : (names : List (List ℕ)) → owned names [] ≡ 0
    none [] = refl
    none (name ∷ names) =
        let more = sum_by-cons (λ n. length (rows_of n [])) name names in
        let rest = none names in
        omega (arith, more, rest)
split_by_names names (r ∷ rs) all =
    let next = owned_more names r rs in
    let rest = split_by_names names rs all.1 in
    let one : owners names r ≡ 1 = all.0 in
    omega (arith, next, rest, one)
