-- The value of a record that fits is of the form.
use Rattle.std.proofs.Common.{◌≡◌, ℕ, zero, suc, pos, ◌<◌, ◌≤◌, ◌-◌, ◌^◌, min, Bool, true, false, not, ◌&&◌, ◌||◌, nat_le, List, [], ◌∷◌}
use Rattle.std.proofs.Common.{◌++◌, length, map, Option, Some, None, Less, refl, sym, ap, ap₂, ◌∙◌, subst, append_assoc, append-nil}
use Rattle.std.proofs.Common.{arith}
use Rattle.std.proofs.lemmas.Bool.Decides.{nat_tests}
use Rattle.std.proofs.lemmas.List.{length-map}
use Rattle.std.specs.List.{AllByRecursion, list_all}
use Rattle.std.specs.Ordering.{is_lt}
use Rattle.std.specs.Prelude.{codes, ◌==◌, ◌/◌, ◌%◌, ◌*◌, slice_index}
use Rattle.hex.specs.Hex.{IsBytes, encode_lower, encode_with, lower_digits}
use Rattle.hex.proofs.HexLemmas.{length-encode_with}
use Rattle.wf_asked.specs.Asked.{is_name}
use Rattle.wf_json.specs.Pointer.{here, least, member_step, item_step}
use Rattle.wf_lists.specs.KeyOrder.{IsInKeyOrder}
use Rattle.wf_places.specs.Form.{in_items, in_members, in_part, places}
use Rattle.wf_val.specs.Address.{address_cmp}
use Rattle.wf_val.specs.ValueTree.{ValueTree, null, boolean, number, text, list, object, ValueTrees, trees, items, MemberTrees}
use Rattle.wf_val.specs.ValueTree.{no_members, member_then, members, fits}
use Rattle.wf_val.specs.declared.address.Address.{Address}
use Rattle.wf_val.proofs.ValueTreeLemmas.{items-trees}
use Rattle.wf_record_form.specs.Fitting.{AllFit, IsFittingRecord, IsFittingRow, FittingIsOfForm, IsMeasured, IsTextOrNull, IsTracked}
use Rattle.wf_record_form.specs.Fitting.{IsTriggerValue, IsTry}
use Rattle.wf_record.specs.Record.{RecordTree, RowTree, address_of, at_value, attempts_value, index_value, record_value, row_value}
use Rattle.wf_record.specs.Record.{run_status_name, status_name, try_value}
use Rattle.wf_record_form.specs.RecordForm.{are_unordered, flagged_item, indexes_after, is_digest, is_digit, named_at, part_member}
use Rattle.wf_record_form.specs.RecordForm.{record_form, row_address, unordered, unordered_after}
use Rattle.wf_record.specs.declared.attempt.Try.{Try}
use Rattle.wf_record_form.specs.declared.part.Part.{Part}
use Rattle.wf_record_form.specs.declared.part.Version.{Version}
use Rattle.wf_record.specs.declared.status.RunStatus.{RunStatus}
use Rattle.wf_record.specs.declared.status.Status.{Status}

-- ---- members

-- one member more in which nothing is amiss
with_fine : (part sub : Part) (k : List ℕ) (t : ValueTree) (ms : MemberTrees) → part_member part k ≡ Some sub
    → places record_form sub t ≡ []
    → in_members record_form part ms ≡ [] → in_members record_form part (member_then k t ms) ≡ []
with_fine part sub k t ms role fine rest =
    ap (λ (o : Option Part). map (λ p. member_step k ++ p) (in_part (record_form.is_closed part) o (λ q. places record_form q t))
    ++ in_members record_form part ms) role
    ∙ ap₂ (λ (ps qs : List (List ℕ)). map (λ p. member_step k ++ p) ps ++ qs) fine rest

any_members : (ms : MemberTrees) → in_members record_form Part.Any ms ≡ []
any_members no_members = refl
any_members (member_then k t ms) = any_members ms

any_fine : (t : ValueTree) → places record_form Part.Any t ≡ []
any_fine null = refl
any_fine (boolean b) = refl
any_fine (number n) = refl
any_fine (text s) = refl
any_fine (list ts) = refl
any_fine (object ms) = any_members ms

fitting_members : (ms : MemberTrees) → in_members record_form Part.Fitting ms ≡ []
fitting_members no_members = refl
fitting_members (member_then k t ms) = fitting_members ms

fitting_own : (b : Bool) → b ≡ true → here (not b) ++ ([] ++ []) ≡ []
fitting_own true is = refl
fitting_own false is = absurd (cc)

fitting_fine : (t : ValueTree) → fits t ≡ true → places record_form Part.Fitting t ≡ []
fitting_fine null is = fitting_own (fits null) is
fitting_fine (boolean b) is = fitting_own (fits (boolean b)) is
fitting_fine (number n) is = fitting_own (fits (number n)) is
fitting_fine (text s) is = fitting_own (fits (text s)) is
fitting_fine (list ts) is = append-nil (here (not (fits (list ts))) ++ ([] ++ [])) ∙ fitting_own (fits (list ts)) is
fitting_fine (object ms) is =
    ap₂ (λ (ps qs : List (List ℕ)). ps ++ qs) (fitting_own (fits (object ms)) is) (fitting_members ms)

measured_members : (ms : MemberTrees) → AllFit ms → in_members record_form Part.Measured ms ≡ []
measured_members no_members all = refl
measured_members (member_then k t ms) all =
    with_fine Part.Measured Part.Fitting k t ms refl (fitting_fine t all.0) (measured_members ms all.1)

measured_fine : (t : ValueTree) → IsMeasured t → places record_form Part.Measured t ≡ []
measured_fine null is = fitting_own (fits null) is
measured_fine (boolean b) is = fitting_own (fits (boolean b)) is
measured_fine (number n) is = fitting_own (fits (number n)) is
measured_fine (text s) is = fitting_own (fits (text s)) is
measured_fine (list ts) is = append-nil (here (not (fits (list ts))) ++ ([] ++ [])) ∙ fitting_own (fits (list ts)) is
measured_fine (object ms) all = measured_members ms all

tracked_members : (ms : MemberTrees) → AllFit ms → in_members record_form Part.Tracked ms ≡ []
tracked_members no_members all = refl
tracked_members (member_then k t ms) all =
    with_fine Part.Tracked Part.Fitting k t ms refl (fitting_fine t all.0) (tracked_members ms all.1)

tracked_fine : (t : ValueTree) → IsTracked t → places record_form Part.Tracked t ≡ []
tracked_fine null is = refl
tracked_fine (boolean b) is = absurd is
tracked_fine (number n) is = absurd is
tracked_fine (text s) is = absurd is
tracked_fine (list ts) is = absurd is
tracked_fine (object ms) all = tracked_members ms all

text_or_null_fine : (t : ValueTree) → IsTextOrNull t → places record_form Part.TextOrNull t ≡ []
text_or_null_fine null is = refl
text_or_null_fine (boolean b) is = absurd is
text_or_null_fine (number n) is = absurd is
text_or_null_fine (text s) is = refl
text_or_null_fine (list ts) is = absurd is
text_or_null_fine (object ms) is = absurd is

parameter_members : (ms : MemberTrees) → AllFit ms → in_members record_form Part.Parameters ms ≡ []
parameter_members no_members all = refl
parameter_members (member_then k t ms) all =
    with_fine Part.Parameters Part.Fitting k t ms refl (fitting_fine t all.0) (parameter_members ms all.1)

name_fine : (s : List ℕ) → is_name 80 (text s) ≡ true → places record_form Part.Name (text s) ≡ []
name_fine s is = fitting_own (is_name 80 (text s)) is

digest_fine : (s : List ℕ) → is_digest (text s) ≡ true → places record_form Part.Digest (text s) ≡ []
digest_fine s is = fitting_own (is_digest (text s)) is

status_fine : (s : Status) → places record_form Part.Status (text (status_name s)) ≡ []
status_fine Status.Succeeded = refl
status_fine Status.Failed = refl
status_fine Status.Skipped = refl
status_fine Status.TimedOut = refl
status_fine Status.Cancelled = refl

run_status_fine : (s : RunStatus) → places record_form Part.RunStatus (text (run_status_name s)) ≡ []
run_status_fine RunStatus.Succeeded = refl
run_status_fine RunStatus.Failed = refl
run_status_fine RunStatus.Cancelled = refl

-- ---- a digest

digit_at : (k : ℕ) → k < 16 → is_digit (slice_index lower_digits k) ≡ true
digit_at zero lt = refl
digit_at (suc zero) lt = refl
digit_at (suc (suc zero)) lt = refl
digit_at (suc (suc (suc zero))) lt = refl
digit_at (suc (suc (suc (suc zero)))) lt = refl
digit_at (suc (suc (suc (suc (suc zero))))) lt = refl
digit_at (suc (suc (suc (suc (suc (suc zero)))))) lt = refl
digit_at (suc (suc (suc (suc (suc (suc (suc zero))))))) lt = refl
digit_at (suc (suc (suc (suc (suc (suc (suc (suc zero)))))))) lt = refl
digit_at (suc (suc (suc (suc (suc (suc (suc (suc (suc zero))))))))) lt = refl
digit_at (suc (suc (suc (suc (suc (suc (suc (suc (suc (suc zero)))))))))) lt = refl
digit_at (suc (suc (suc (suc (suc (suc (suc (suc (suc (suc (suc zero))))))))))) lt = refl
digit_at (suc (suc (suc (suc (suc (suc (suc (suc (suc (suc (suc (suc zero)))))))))))) lt = refl
digit_at (suc (suc (suc (suc (suc (suc (suc (suc (suc (suc (suc (suc (suc zero))))))))))))) lt = refl
digit_at (suc (suc (suc (suc (suc (suc (suc (suc (suc (suc (suc (suc (suc (suc zero)))))))))))))) lt = refl
digit_at (suc (suc (suc (suc (suc (suc (suc (suc (suc (suc (suc (suc (suc (suc (suc zero))))))))))))))) lt = refl
digit_at (suc (suc (suc (suc (suc (suc (suc (suc (suc (suc (suc (suc (suc (suc (suc (suc n)))))))))))))))) lt = absurd (omega (arith, lt))

both_true : (p q : Bool) → p ≡ true → q ≡ true → (p && q) ≡ true
both_true p q a b = rw (a, b) refl

digits_are : (bytes : List ℕ) → IsBytes bytes → list_all is_digit (encode_with lower_digits bytes) ≡ true
unfolding encode_with
digits_are [] all = refl
digits_are (b ∷ bytes) all =
    let first : b < 256 = all 0 in
    both_true (is_digit (slice_index lower_digits (b / 16))) _ (digit_at (b / 16) (omega (arith, first)))
    (both_true (is_digit (slice_index lower_digits (b % 16))) _ (digit_at (b % 16) (omega arith)) (digits_are bytes (λ i. all (suc i))))

digest_is : (bytes : List ℕ) → length bytes ≡ 32 → IsBytes bytes → is_digest (text (encode_lower bytes)) ≡ true
digest_is bytes is all =
    both_true (length (encode_lower bytes) == 64) (list_all is_digit (encode_lower bytes))
    (ap (λ n. n == 64) (length-encode_with lower_digits bytes ∙ ap (λ n. 2 * n) is)) (digits_are bytes all)

-- ---- items

with_item : (part : Part) (place : ℕ) (t : ValueTree) (ts : ValueTrees) → places record_form part t ≡ []
    → in_items record_form part (suc place) ts ≡ []
    → map (λ p. item_step place ++ p) (places record_form part t) ++ in_items record_form part (suc place) ts ≡ []
with_item part place t ts fine rest = ap₂ (λ (ps qs : List (List ℕ)). map (λ p. item_step place ++ p) ps ++ qs) fine rest

index_items : (place : ℕ) (at' : List ℕ) → in_items record_form Part.Index place (trees (map index_value at')) ≡ []
index_items place [] = refl
index_items place (n ∷ at') = index_items (suc place) at'

within : (n : ℕ) → 100 ≤ n → n ≤ 599 → (nat_le 100 n && nat_le n 599) ≡ true
within n low high = grind (arith, nat_tests, low, high)

try_fine : (t : Try) → IsTry t → places record_form Part.Attempt (try_value t) ≡ []
try_fine (Try.Code n) is = fitting_own ((nat_le 100 n && nat_le n 599) || false) (ap (λ b. b || false) (within n is.0 is.1))
try_fine Try.NoConnection is = refl
try_fine Try.TimedOut is = refl
try_fine Try.NoAnswer is = refl
try_fine Try.Unknown is = refl

try_items : (place : ℕ) (ts : List Try) → AllByRecursion IsTry ts → in_items record_form Part.Attempt place (trees (map try_value ts)) ≡ []
try_items place [] all = refl
try_items place (t ∷ ts) all =
    with_item Part.Attempt place (try_value t) (trees (map try_value ts)) (try_fine t all.0) (try_items (suc place) ts all.1)

attempts_fine : (ts : List Try) → length ts ≤ 91 → AllByRecursion IsTry ts
    → places record_form (Part.Attempts Version.Two) (attempts_value ts) ≡ []
attempts_fine ts few all =
    ap₂ (λ (ps qs : List (List ℕ)). ps ++ qs) (fitting_own (nat_le (length (items (trees (map try_value ts)))) 91) count)
    (try_items 0 ts all)
  where
    count : nat_le (length (items (trees (map try_value ts)))) 91 ≡ true
    count =
        ap (λ (xs : List ValueTree). nat_le (length xs) 91) (items-trees (map try_value ts))
        ∙ ap (λ n. nat_le n 91) (length-map ts try_value) ∙ is (length ts) few
      where
        is : (n : ℕ) → n ≤ 91 → nat_le n 91 ≡ true
        is n le = grind (arith, nat_tests, le)

-- ---- a row, and rows in order

row_fine : (r : RowTree) → IsFittingRow r → places record_form (Part.Row Version.Two) (row_value r) ≡ []
row_fine r f =
    let role : Part = Part.Row Version.Two in
    let tracked : MemberTrees = member_then (codes "tracked") r.row.tracked no_members in
    let status : MemberTrees = member_then (codes "status") (text (status_name r.row.status)) tracked in
    let outputs : MemberTrees = member_then (codes "outputs") r.row.outputs status in
    let name : MemberTrees = member_then (codes "name") (text r.address.name) outputs in
    let inputs : MemberTrees = member_then (codes "inputs") r.row.inputs name in
    let error : MemberTrees = member_then (codes "error") r.row.error inputs in
    let code : MemberTrees = member_then (codes "code") (text r.row.code) error in
    let attempts : MemberTrees = member_then (codes "attempts") (attempts_value r.row.attempts) code in
    with_fine role Part.At (codes "at") (at_value r.address.at) attempts refl (index_items 0 r.address.at)
    (with_fine role (Part.Attempts Version.Two) (codes "attempts") (attempts_value r.row.attempts) code refl
    (attempts_fine r.row.attempts f.few f.attempts)
    (with_fine role Part.Text (codes "code") (text r.row.code) error refl refl
    (with_fine role Part.TextOrNull (codes "error") r.row.error inputs refl (text_or_null_fine r.row.error f.error)
    (with_fine role Part.Fitting (codes "inputs") r.row.inputs name refl (fitting_fine r.row.inputs f.inputs)
    (with_fine role Part.Name (codes "name") (text r.address.name) outputs refl (name_fine r.address.name f.name)
    (with_fine role Part.Measured (codes "outputs") r.row.outputs status refl (measured_fine r.row.outputs f.outputs)
    (with_fine role Part.Status (codes "status") (text (status_name r.row.status)) tracked refl (status_fine r.row.status)
    (with_fine role Part.Tracked (codes "tracked") r.row.tracked no_members refl (tracked_fine r.row.tracked f.tracked) refl))))))))

row_items : (place : ℕ) (rs : List RowTree) → AllByRecursion IsFittingRow rs
    → in_items record_form (Part.Row Version.Two) place (trees (map row_value rs)) ≡ []
row_items place [] all = refl
row_items place (r ∷ rs) all =
    with_item (Part.Row Version.Two) place (row_value r) (trees (map row_value rs)) (row_fine r all.0) (row_items (suc place) rs all.1)

uncut : (n : ℕ) → n < 2 ^ 63 → min n (2 ^ 63 - 1) ≡ n
uncut n lt = omega arith

indexes_named : (done at' : List ℕ) → AllByRecursion (λ n. n < 2 ^ 63) at' → indexes_after done (map index_value at') ≡ Some (done ++ at')
indexes_named done [] all = ap (λ ns. Some ns) (sym (append-nil done))
indexes_named done (n ∷ at') all =
    ap (λ k. indexes_after (done ++ k ∷ []) (map index_value at')) (uncut n all.0)
    ∙ indexes_named (done ++ n ∷ []) at' all.1 ∙ ap (λ ns. Some ns) (append_assoc done (n ∷ []) at')

row_names : (r : RowTree) → IsFittingRow r → row_address (row_value r) ≡ Some r.address
row_names r f =
    ap (λ (ts : List ValueTree). named_at r.address.name (indexes_after [] ts)) (items-trees (map index_value r.address.at))
    ∙ ap (named_at r.address.name) (indexes_named [] r.address.at f.at_in_range)

unflagged : (a b : Address) (place : ℕ) → address_cmp a b ≡ Less → flagged_item (are_unordered (Some a) (Some b)) place ≡ []
unflagged a b place is = ap (λ o. flagged_item (not (is_lt o)) place) is

ordered_after : (a : Address) (place : ℕ) (rs : List RowTree) → AllByRecursion IsFittingRow rs
    → AllByRecursion (λ r. address_cmp a (address_of r) ≡ Less) rs → IsInKeyOrder address_cmp address_of rs
    → unordered_after (Some a) place (map row_value rs) ≡ []
ordered_after a place [] all above order = refl
ordered_after a place (r ∷ rs) all above order =
    ap (λ (o : Option Address). flagged_item (are_unordered (Some a) o) place ++ unordered_after o (suc place) (map row_value rs))
    (row_names r all.0)
    ∙ ap₂ (λ (ps qs : List (List ℕ)). ps ++ qs) (unflagged a r.address place above.0)
    (ordered_after r.address (suc place) rs all.1 order.0 order.1)

all_ordered : (rs : List RowTree) → AllByRecursion IsFittingRow rs → IsInKeyOrder address_cmp address_of rs
    → unordered (map row_value rs) ≡ []
all_ordered [] all order = refl
all_ordered (r ∷ rs) all order =
    ap (λ (o : Option Address). flagged_item (are_unordered None o) 0 ++ unordered_after o 1 (map row_value rs)) (row_names r all.0)
    ∙ ordered_after r.address 1 rs all.1 order.0 order.1

rows_fine : (rs : List RowTree) → AllByRecursion IsFittingRow rs → IsInKeyOrder address_cmp address_of rs
    → places record_form (Part.Rows Version.Two) (list (trees (map row_value rs))) ≡ []
rows_fine rs all order =
    ap₂ (λ (ps qs : List (List ℕ)). ps ++ qs)
    (ap (λ (ts : List ValueTree). unordered ts) (items-trees (map row_value rs)) ∙ all_ordered rs all order) (row_items 0 rs all)

-- ---- a record

trigger_fine : (t : ValueTree) → IsTriggerValue t → places record_form Part.Trigger t ≡ []
trigger_fine t f =
    let outputs : MemberTrees = member_then (codes "outputs") f.outputs no_members in
    subst (λ (u : ValueTree). places record_form Part.Trigger u ≡ []) (sym f.is)
    (with_fine Part.Trigger Part.TextOrNull (codes "name") f.name outputs refl (text_or_null_fine f.name f.named)
    (with_fine Part.Trigger Part.Measured (codes "outputs") f.outputs no_members refl (measured_fine f.outputs f.measured) refl))

record_fine : (r : RecordTree) → IsFittingRecord r → places record_form (Part.Record Version.Two) (record_value r) ≡ []
record_fine r f =
    let role : Part = Part.Record Version.Two in
    let trigger : MemberTrees = member_then (codes "trigger") r.trigger no_members in
    let status : MemberTrees = member_then (codes "status") (text (run_status_name r.status)) trigger in
    let run : MemberTrees = member_then (codes "run") (text r.run) status in
    let rows : MemberTrees = member_then (codes "rows") (list (trees (map row_value r.rows))) run in
    let response : MemberTrees = member_then (codes "response") r.response rows in
    let parameters : MemberTrees = member_then (codes "parameters") (object (members r.parameters)) response in
    let outputs : MemberTrees = member_then (codes "outputs") r.outputs parameters in
    let form : MemberTrees = member_then (codes "form") (number (pos 2)) outputs in
    let error : MemberTrees = member_then (codes "error") r.error form in
    with_fine role Part.Digest (codes "definition") (text (encode_lower r.digest)) error refl
    (digest_fine (encode_lower r.digest) (digest_is r.digest f.digest_length f.digest_bytes))
    (with_fine role Part.Any (codes "error") r.error form refl (any_fine r.error)
    (with_fine role Part.Number (codes "form") (number (pos 2)) outputs refl refl
    (with_fine role Part.Measured (codes "outputs") r.outputs parameters refl (measured_fine r.outputs f.outputs)
    (with_fine role Part.Parameters (codes "parameters") (object (members r.parameters)) response refl
    (parameter_members (members r.parameters) f.parameters)
    (with_fine role Part.Measured (codes "response") r.response rows refl (measured_fine r.response f.response)
    (with_fine role (Part.Rows Version.Two) (codes "rows") (list (trees (map row_value r.rows))) run refl
    (rows_fine r.rows f.rows f.in_order)
    (with_fine role Part.Name (codes "run") (text r.run) status refl (name_fine r.run f.run)
    (with_fine role Part.RunStatus (codes "status") (text (run_status_name r.status)) trigger refl (run_status_fine r.status)
    (with_fine role Part.Trigger (codes "trigger") r.trigger no_members refl (trigger_fine r.trigger f.trigger) refl)))))))))

pub fitting_is_of_form : (r : RecordTree) → FittingIsOfForm r
fitting_is_of_form r f = ap least (record_fine r f)
