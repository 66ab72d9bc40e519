-- Runs that are written one after the other, and what their records cost together.
use Rattle.std.proofs.Common.{◌≡◌, ℕ, ◌+◌, ◌<◌, ◌≤◌, Bool, true, false, ◌||◌, List, [], ◌∷◌, ◌++◌, take, Result, Some, Ok, Err, cond}
use Rattle.std.proofs.Common.{codes, slice_get, nat_eq, nat_le, refl, ap, ◌∙◌, append-nil, arith}
use Rattle.std.proofs.lemmas.Bool.{cond-true, cond-false}
use Rattle.std.proofs.lemmas.Bool.Decides.{nat_tests}
use Rattle.std.proofs.lemmas.List.{map-append, take_more}
use Rattle.std.proofs.lemmas.List.Concat.{flat_map-append}
use Rattle.std.proofs.lemmas.List.Folds.{list_any-append}
use Rattle.std.proofs.lemmas.List.Sums.{sum_by_push}
use Rattle.std.proofs.lemmas.Option.{get_or_from_slice_get, slice_get_within}
use Rattle.std.specs.List.{list_any}
use Rattle.wf_record.specs.Cost.{cost}
use Rattle.wf_record.specs.Record.{RecordTree, record_line}
use Rattle.wf_told.specs.Under.{Told}
use Rattle.wf_told.specs.Records.{records_within}
use Rattle.wf_told.specs.Summary.{summary_line}
use Rattle.wf_told.specs.Text.{records_left, run_text, runs_in_a_row, text_of, total_cost}
use Rattle.wf_told.specs.declared.fault.RunsFault.{RunsFault}

pub text-append : (rs ss : List Told) → runs_in_a_row (rs ++ ss) ≡ runs_in_a_row rs ++ runs_in_a_row ss
text-append rs ss = flat_map-append run_text rs ss

-- ---- one run more

pub text-more : (runs : List Told) (t : Told) → runs_in_a_row (runs ++ t ∷ []) ≡ runs_in_a_row runs ++ run_text t
text-more runs t = text-append runs (t ∷ []) ∙ ap (λ text. runs_in_a_row runs ++ text) (append-nil (run_text t))

pub cost-more : (runs : List Told) (t : Told)
    → total_cost (records_left (runs ++ t ∷ [])) ≡ total_cost (records_left runs) + cost t.left
cost-more runs t = ap total_cost (map-append (λ u. u.left) runs (t ∷ [])) ∙ sum_by_push cost (records_left runs) t.left

pub first-more : {S : Type 0} (starts : List S) (k : ℕ) (s : S) → slice_get starts k ≡ Some s
    → take (k + 1) starts ≡ take k starts ++ s ∷ []
first-more starts k s is =
    take_more starts k s (slice_get_within starts k s is)
    ∙ ap (λ x. take k starts ++ x ∷ []) (get_or_from_slice_get starts k s s is)

-- ---- the limit

pub within : (rs : List RecordTree) → total_cost rs ≤ 67108864 → records_within rs ≡ Ok rs
within rs le = cond-true (nat_le (total_cost rs) 67108864) _ _ (grind (arith, nat_tests))

pub past : (rs : List RecordTree) → 67108864 < total_cost rs → records_within rs ≡ Err RunsFault.TooLarge
past rs lt = cond-false (nat_le (total_cost rs) 67108864) _ _ (grind (arith, nat_tests))

-- what they come to, by the limit
pub by-limit : (rs : List RecordTree) (goal : Result (List RecordTree) RunsFault → Type 0) → (total_cost rs ≤ 67108864 → goal (Ok rs))
    → (67108864 < total_cost rs → goal (Err RunsFault.TooLarge)) → goal (records_within rs)
by-limit rs goal fine over = go (nat_le (total_cost rs) 67108864) refl
  where
    go : (b : Bool) → nat_le (total_cost rs) 67108864 ≡ b → goal (cond b (Ok rs) (Err RunsFault.TooLarge))
    go true is = fine (grind (arith, nat_tests))
    go false is = over (grind (arith, nat_tests))

-- ---- the line that says that there are none

-- A record's line begins with a bracket, so each text of runs has one, and the line that says that there are none hasn't.
abbrev has_bracket : List ℕ → Bool
has_bracket bytes = list_any (λ b. nat_eq b 123) bytes

line-has : (r : RecordTree) → has_bracket (record_line r) ≡ true
unfolding record_line
line-has r = refl

has-here : (a b c : List ℕ) → has_bracket b ≡ true → has_bracket (a ++ b ++ c) ≡ true
has-here a b c has =
    list_any-append (λ x. nat_eq x 123) (a ++ b) c
    ∙ ap (λ e. e || has_bracket c)
    (list_any-append (λ x. nat_eq x 123) a b ∙ ap (λ e. has_bracket a || e) has ∙ or_true (has_bracket a))
  where
    or_true : (e : Bool) → e || true ≡ true
    or_true true = refl
    or_true false = refl

run-has : (t : Told) → has_bracket (run_text t) ≡ true
run-has t = has-here t.events (record_line t.left) (summary_line t.left.run t.steps t.peak) (line-has t.left)

pub text-some : (t : Told) (ts : List Told) → text_of (t ∷ ts) ≡ codes "# no run\n" → ⊥
text-some t ts same =
    let has : has_bracket (text_of (t ∷ ts)) ≡ true =
    list_any-append (λ x. nat_eq x 123) (run_text t) (runs_in_a_row ts) ∙ ap (λ e. e || has_bracket (runs_in_a_row ts)) (run-has t) in
    let hasnt : has_bracket (text_of (t ∷ ts)) ≡ false = ap has_bracket same in
    cc
