-- A record whose value is of the form fits, where its numbers are in range and its trigger is well formed.
use Rattle.std.proofs.Common.{◌≡◌, ℕ, ℤ, suc, pos, ◌≤◌, Bool, true, false, ◌&&◌, ◌||◌, nat_le, List, [], ◌∷◌, length, map}
use Rattle.std.proofs.Common.{slice_get, Option, Some, None, Ok, Less, Equal, Greater, refl, sym, ap, ap₂, ◌∙◌, subst, arith}
use Rattle.std.proofs.Common.{inl, inr, true≢false}
use Rattle.std.proofs.lemmas.Bool.{leb-true}
use Rattle.std.proofs.lemmas.Cmp.{nat_list_cmp_total, tied_itself}
use Rattle.std.proofs.lemmas.List.{length-map}
use Rattle.std.proofs.lemmas.List.Elements.{Contains-append_right}
use Rattle.std.proofs.lemmas.Slice.Eq.{bytes_eq-Decides}
use Rattle.std.specs.List.{AllByRecursion, Contains}
use Rattle.std.specs.Prelude.{codes, bytes_eq, if◌then◌else◌}
use Rattle.wf_lists.specs.KeyOrder.{IsInKeyOrder}
use Rattle.wf_layers.proofs.Basics.{two}
use Rattle.wf_asked.specs.Asked.{is_name, is_null, is_text, is_within}
use Rattle.wf_json.specs.Pointer.{least}
use Rattle.wf_json.proofs.PointerLemmas.{least-none}
use Rattle.wf_places.specs.Amiss.{missing, further, in_member, in_item}
use Rattle.wf_places.specs.Form.{Form, places}
use Rattle.wf_val.specs.Address.{address_cmp}
use Rattle.wf_val.specs.Get.{get, is_object, name_of}
use Rattle.wf_val.specs.NameOrder.{IsInNameOrder, bytes_cmp}
use Rattle.wf_val.specs.ValueTree.{ValueTree, null, boolean, number, text, list, object, trees, items, MemberTrees, no_members, member_then}
use Rattle.wf_val.specs.ValueTree.{members, pairs, Member, fits}
use Rattle.wf_val.specs.WellFormed.{IsWellFormed}
use Rattle.wf_val.proofs.ValueTreeLemmas.{items-trees}
use Rattle.wf_record.specs.Record.{RecordTree, RowTree, address_of, attempts_value, record_value, row_value, try_value}
use Rattle.wf_record.specs.declared.attempt.Try.{Try}
use Rattle.wf_record_form.specs.Fitting.{AllFit, IsFittingRecord, IsFittingRow, IsMeasured, IsTextOrNull, IsTracked, IsTriggerValue, IsTry}
use Rattle.wf_record_form.specs.OfVal.{if_known, if_of_form, of_val, other_form, record_places}
use Rattle.wf_record_form.specs.Reading.{record_of, row_of, rows_in}
use Rattle.wf_record_form.specs.ReadBack.{IsInRange, IsOfForm, IsRowInRange}
use Rattle.wf_record_form.specs.RecordForm.{is_word_of, record_form, try_words}
use Rattle.wf_formed.proofs.AnswerLemmas.{IsFine, first_of, is_fine, member_fine, right, second_of}
use Rattle.wf_formed.proofs.FitLemmas.{and_parts}

-- ---- the form of records, by its roles

record IsRecordForm {R : Type 0} (form : Form R) (whole : R) : Type 0 where
  named : R
  run_is : form.member whole (codes "run") ≡ Some named
  named_right : (t : ValueTree) → form.is_right named t ≡ is_name 80 t
  fitting : R
  fitting_right : (t : ValueTree) → form.is_right fitting t ≡ fits t
  measured : R
  outputs_is : form.member whole (codes "outputs") ≡ Some measured
  response_is : form.member whole (codes "response") ≡ Some measured
  measured_right : (t : ValueTree) → form.is_right measured t ≡ (is_object t || fits t)
  measured_part : (name : List ℕ) → form.member measured name ≡ Some fitting
  parameters : R
  parameters_is : form.member whole (codes "parameters") ≡ Some parameters
  parameters_part : (name : List ℕ) → form.member parameters name ≡ Some fitting
  rows : R
  rows_is : form.member whole (codes "rows") ≡ Some rows
  row : R
  row_is : form.item rows ≡ Some row
  row_name_is : form.member row (codes "name") ≡ Some named
  row_inputs_is : form.member row (codes "inputs") ≡ Some fitting
  row_outputs_is : form.member row (codes "outputs") ≡ Some measured
  told : R
  row_error_is : form.member row (codes "error") ≡ Some told
  told_right : (t : ValueTree) → form.is_right told t ≡ (is_text t || is_null t)
  tracked : R
  row_tracked_is : form.member row (codes "tracked") ≡ Some tracked
  tracked_right : (t : ValueTree) → form.is_right tracked t ≡ (is_object t || is_null t)
  tracked_part : (name : List ℕ) → form.member tracked name ≡ Some fitting
  attempts : R
  row_attempts_is : form.member row (codes "attempts") ≡ Some attempts
  attempts_right : (ts : List ValueTree) → form.is_right attempts (list (trees ts)) ≡ nat_le (length (items (trees ts))) 91
  attempt : R
  attempt_is : form.item attempts ≡ Some attempt
  attempt_right : (t : ValueTree) → form.is_right attempt t ≡ (is_within 100 599 t || is_word_of try_words t)
  trigger : R
  trigger_is : form.member whole (codes "trigger") ≡ Some trigger
  trigger_right : (t : ValueTree) → form.is_right trigger t ≡ is_object t
  trigger_closed : form.is_closed trigger ≡ true
  trigger_names : Contains (form.needed trigger) (codes "name")
  trigger_outputs : Contains (form.needed trigger) (codes "outputs")
  trigger_member : (name : List ℕ) → form.member trigger name
      ≡ (if bytes_eq name (codes "name") then Some told else (if bytes_eq name (codes "outputs") then Some measured else None))

-- ---- a trigger has exactly these two members

abbrev Name : List ℕ
Name = codes "name"

abbrev Outputs : List ℕ
Outputs = codes "outputs"

not_less : (k : List ℕ) → bytes_cmp k k ≡ Less → ⊥
not_less k less = let it : Equal ≡ Less = sym (tied_itself nat_list_cmp_total k) ∙ less in absurd (cc (it))

is_that : (k l : List ℕ) → bytes_eq k l ≡ true → k ≡ l
is_that k l is = (bytes_eq-Decides k l).0 is

apart : Name ≡ Outputs → ⊥
apart same = true≢false (sym ((bytes_eq-Decides Name Outputs).1 same))

data OneOf (k : List ℕ) : Type 0 where
  first : k ≡ Name → OneOf k
  second : k ≡ Outputs → OneOf k

-- of two of them the lesser is the first
below : (k l : List ℕ) → bytes_cmp k l ≡ Less → OneOf k → OneOf l → (k ≡ Name) × (l ≡ Outputs)
below k l less (first is) (first also) =
    absurd (not_less Name (ap₂ (λ (m n : List ℕ). bytes_cmp m n) (sym is) (sym also) ∙ less))
below k l less (first is) (second also) = (is, also)
below k l less (second is) (first also) =
    let it : Greater ≡ Less = ap₂ (λ (m n : List ℕ). bytes_cmp m n) (sym is) (sym also) ∙ less in absurd (cc (it))
below k l less (second is) (second also) =
    absurd (not_less Outputs (ap₂ (λ (m n : List ℕ). bytes_cmp m n) (sym is) (sym also) ∙ less))

two_members : (k l : List ℕ) (a b : ValueTree) (rest : MemberTrees) → k ≡ Name → l ≡ Outputs → rest ≡ no_members
    → object (member_then k a (member_then l b rest)) ≡ object (members ((Name, a) ∷ (Outputs, b) ∷ []))
two_members k l a b rest is also none =
    ap (λ (n : List ℕ). object (member_then n a (member_then l b rest))) is
    ∙ (ap (λ (n : List ℕ). object (member_then Name a (member_then n b rest))) also
    ∙ ap (λ (r : MemberTrees). object (member_then Name a (member_then Outputs b r))) none)

module _ {R : Type 0} (form : Form R) (whole : R) (roles : IsRecordForm form whole) where
  -- of what stands member by member
  all_fit : (role : R) (ms : MemberTrees) → ((name : List ℕ) → form.member role name ≡ Some roles.fitting) → IsFine form role (object ms)
      → (kept : MemberTrees) → ((k : List ℕ) (u : ValueTree) → Contains (pairs kept) (k, u) → Contains (pairs ms) (k, u)) → AllFit kept
  all_fit role ms part fine no_members there = tt
  all_fit role ms part fine (member_then k t kept) there = (
    right form roles.fitting t (fits t)
        (λ p amiss. fine _ (in_member (there k t (first_of (k, t) (pairs kept))) (part k) amiss)) (roles.fitting_right t),
    all_fit role ms part fine kept (λ n u c. there n u (Contains-append_right ((k, t) ∷ []) (pairs kept) (n, u) c)),
  )

  measured_is : (t : ValueTree) → IsFine form roles.measured t → IsMeasured t
  measured_is (object ms) fine = all_fit roles.measured ms roles.measured_part fine ms (λ k u c. c)
  measured_is null fine = right form roles.measured null (fits null) fine (roles.measured_right null)
  measured_is (boolean b) fine = right form roles.measured (boolean b) (fits (boolean b)) fine (roles.measured_right (boolean b))
  measured_is (number n) fine = right form roles.measured (number n) (fits (number n)) fine (roles.measured_right (number n))
  measured_is (text s) fine = right form roles.measured (text s) (fits (text s)) fine (roles.measured_right (text s))
  measured_is (list ts) fine = right form roles.measured (list ts) (fits (list ts)) fine (roles.measured_right (list ts))

  told_is : (t : ValueTree) → IsFine form roles.told t → IsTextOrNull t
  told_is null fine = tt
  told_is (text s) fine = tt
  told_is (boolean b) fine = absurd (true≢false (sym (right form roles.told (boolean b) false fine (roles.told_right (boolean b)))))
  told_is (number n) fine = absurd (true≢false (sym (right form roles.told (number n) false fine (roles.told_right (number n)))))
  told_is (list ts) fine = absurd (true≢false (sym (right form roles.told (list ts) false fine (roles.told_right (list ts)))))
  told_is (object ms) fine = absurd (true≢false (sym (right form roles.told (object ms) false fine (roles.told_right (object ms)))))

  tracked_is : (t : ValueTree) → IsFine form roles.tracked t → IsTracked t
  tracked_is null fine = tt
  tracked_is (object ms) fine = all_fit roles.tracked ms roles.tracked_part fine ms (λ k u c. c)
  tracked_is (boolean b) fine =
      absurd (true≢false (sym (right form roles.tracked (boolean b) false fine (roles.tracked_right (boolean b)))))
  tracked_is (number n) fine = absurd (true≢false (sym (right form roles.tracked (number n) false fine (roles.tracked_right (number n)))))
  tracked_is (text s) fine = absurd (true≢false (sym (right form roles.tracked (text s) false fine (roles.tracked_right (text s)))))
  tracked_is (list ts) fine = absurd (true≢false (sym (right form roles.tracked (list ts) false fine (roles.tracked_right (list ts)))))

  -- ---- attempts

  try_is : (t : Try) → IsFine form roles.attempt (try_value t) → IsTry t
  try_is (Try.Code n) fine =
      let is = right form roles.attempt (number (pos n)) ((nat_le 100 n && nat_le n 599) || false) fine
      (roles.attempt_right (number (pos n))) in
      let both = and_parts (nat_le 100 n) (nat_le n 599) (first_holds (nat_le 100 n && nat_le n 599) is) in
      (leb-true 100 n both.0, leb-true n 599 both.1)
    where
      first_holds : (b : Bool) → (b || false) ≡ true → b ≡ true
      first_holds true is = refl
      first_holds false is = is
  try_is Try.NoConnection fine = tt
  try_is Try.TimedOut fine = tt
  try_is Try.NoAnswer fine = tt
  try_is Try.Unknown fine = tt

  tries_are : (ts : List Try)
      → ((i : ℕ) (u : ValueTree) → slice_get (items (trees (map try_value ts))) i ≡ Some u → IsFine form roles.attempt u)
      → AllByRecursion IsTry ts
  tries_are [] fine = tt
  tries_are (t ∷ ts) fine = (try_is t (fine 0 (try_value t) refl), tries_are ts (λ i u is. fine (suc i) u is))

  few_are : (ts : List Try) → IsFine form roles.attempts (attempts_value ts) → length ts ≤ 91
  few_are ts fine =
      let is = right form roles.attempts (attempts_value ts) (nat_le (length (items (trees (map try_value ts)))) 91) fine
      (roles.attempts_right (map try_value ts)) in
      omega (
        arith,
        leb-true (length (items (trees (map try_value ts)))) 91 is,
        ap length (items-trees (map try_value ts)),
        length-map ts try_value,
      )

  -- ---- rows

  row_is_fit : (r : RowTree) → IsRowInRange r → IsFine form roles.row (row_value r) → IsFittingRow r
  row_is_fit r range fine =
      let tries = member_fine form roles.row roles.attempts (codes "attempts") (row_value r) (attempts_value r.row.attempts) fine
      roles.row_attempts_is refl in
      record {
        at_in_range = range.at_in_range;
        name = right form roles.named (text r.address.name) (is_name 80 (text r.address.name))
            (member_fine form roles.row roles.named (codes "name") (row_value r) (text r.address.name) fine roles.row_name_is refl)
            (roles.named_right (text r.address.name));
        inputs = right form roles.fitting r.row.inputs (fits r.row.inputs)
            (member_fine form roles.row roles.fitting (codes "inputs") (row_value r) r.row.inputs fine roles.row_inputs_is refl)
            (roles.fitting_right r.row.inputs);
        outputs = measured_is r.row.outputs
            (member_fine form roles.row roles.measured (codes "outputs") (row_value r) r.row.outputs fine roles.row_outputs_is refl);
        error = told_is r.row.error
            (member_fine form roles.row roles.told (codes "error") (row_value r) r.row.error fine roles.row_error_is refl);
        tracked = tracked_is r.row.tracked
            (member_fine form roles.row roles.tracked (codes "tracked") (row_value r) r.row.tracked fine roles.row_tracked_is refl);
        few = few_are r.row.attempts tries;
        attempts = tries_are r.row.attempts (λ i u is p amiss. tries _ (in_item i is roles.attempt_is amiss));
      }

  rows_are_fit : (rs : List RowTree) → AllByRecursion IsRowInRange rs
      → ((i : ℕ) (u : ValueTree) → slice_get (items (trees (map row_value rs))) i ≡ Some u → IsFine form roles.row u)
      → AllByRecursion IsFittingRow rs
  rows_are_fit [] range fine = tt
  rows_are_fit (r ∷ rs) range fine =
      (row_is_fit r range.0 (fine 0 (row_value r) refl), rows_are_fit rs range.1 (λ i u is. fine (suc i) u is))

  -- ---- the trigger

  -- each name is one of the two
  one_of : (ms : MemberTrees) → IsFine form roles.trigger (object ms) → (k : List ℕ) (u : ValueTree) → Contains (pairs ms) (k, u) → OneOf k
  one_of ms fine k u c = elim (two (bytes_eq k Name)) [
    | inl is ↦ first (is_that k Name is)
    | inr other ↦ elim (two (bytes_eq k Outputs)) [
      | inl is ↦ second (is_that k Outputs is)
      | inr none ↦ absurd (fine _ (further c roles.trigger_closed (roles.trigger_member k ∙ neither other none)))
    ]
  ]
    where
      neither : bytes_eq k Name ≡ false → bytes_eq k Outputs ≡ false
          → (if bytes_eq k Name then Some roles.told else (if bytes_eq k Outputs then Some roles.measured else None)) ≡ None
      neither other none =
          ap (λ (b : Bool). if b then Some roles.told else (if bytes_eq k Outputs then Some roles.measured else None)) other
          ∙ ap (λ (b : Bool). if b then Some roles.measured else None) none

  -- no third one follows
  none_more : (l : List ℕ) (rest : MemberTrees) → l ≡ Outputs → AllByRecursion (λ (m : Member). bytes_cmp l m.0 ≡ Less) (pairs rest)
      → AllByRecursion (λ (m : Member). OneOf m.0) (pairs rest) → rest ≡ no_members
  none_more l no_members also order ones = refl
  none_more l (member_then n c more) also order ones = absurd (apart (sym (below l n order.0 (second also) ones.0).0 ∙ also))

  all_ones : (ms : MemberTrees) → IsFine form roles.trigger (object ms) → (kept : MemberTrees)
      → ((k : List ℕ) (u : ValueTree) → Contains (pairs kept) (k, u) → Contains (pairs ms) (k, u))
      → AllByRecursion (λ (m : Member). OneOf m.0) (pairs kept)
  all_ones ms fine no_members there = tt
  all_ones ms fine (member_then k t kept) there = (
    one_of ms fine k t (there k t (first_of (k, t) (pairs kept))),
    all_ones ms fine kept (λ n u c. there n u (Contains-append_right ((k, t) ∷ []) (pairs kept) (n, u) c)),
  )

  abbrev IsExact : MemberTrees → Type 0
  IsExact ms = (a : ValueTree) × (b : ValueTree) × (object ms ≡ object (members ((Name, a) ∷ (Outputs, b) ∷ [])))

  exact_one : (k : List ℕ) (a : ValueTree) → IsFine form roles.trigger (object (member_then k a no_members)) → OneOf k → ⊥
  exact_one k a fine (first is) =
      fine _ (missing roles.trigger_outputs (ap (λ (n : List ℕ). get Outputs (object (member_then n a no_members))) is))
  exact_one k a fine (second is) =
      fine _ (missing roles.trigger_names (ap (λ (n : List ℕ). get Name (object (member_then n a no_members))) is))

  exact_by : (ms : MemberTrees) → IsFine form roles.trigger (object ms) → IsInNameOrder name_of (pairs ms)
      → AllByRecursion (λ (m : Member). OneOf m.0) (pairs ms) → IsExact ms
  exact_by no_members fine order ones = absurd (fine _ (missing roles.trigger_names refl))
  exact_by (member_then k a no_members) fine order ones = absurd (exact_one k a fine ones.0)
  exact_by (member_then k a (member_then l b rest)) fine order ones =
      let both = below k l order.0.0 ones.0 ones.1.0 in
      (a, b, two_members k l a b rest both.0 both.1 (none_more l rest both.1 order.1.0 ones.1.1))

  trigger_exact : (t : ValueTree) → IsWellFormed t → IsFine form roles.trigger t → IsTriggerValue t
  trigger_exact (object ms) well fine =
      let (a, b, is) = exact_by ms fine well.0 (all_ones ms fine ms (λ k u c. c)) in
      let same = subst (IsFine form roles.trigger) is fine in
      record {
        name = a;
        outputs = b;
        is = is;
        named = told_is a (member_fine form roles.trigger roles.told Name (object (members ((Name, a) ∷ (Outputs, b) ∷ []))) a same
            (roles.trigger_member Name) refl);
        measured = measured_is b (member_fine form roles.trigger roles.measured Outputs (object (members ((Name, a) ∷ (Outputs, b) ∷ []))) b
            same (roles.trigger_member Outputs) refl);
      }
  trigger_exact null well fine = absurd (true≢false (sym (right form roles.trigger null false fine (roles.trigger_right null))))
  trigger_exact (boolean b) well fine =
      absurd (true≢false (sym (right form roles.trigger (boolean b) false fine (roles.trigger_right (boolean b)))))
  trigger_exact (number n) well fine =
      absurd (true≢false (sym (right form roles.trigger (number n) false fine (roles.trigger_right (number n)))))
  trigger_exact (text s) well fine =
      absurd (true≢false (sym (right form roles.trigger (text s) false fine (roles.trigger_right (text s)))))
  trigger_exact (list ts) well fine =
      absurd (true≢false (sym (right form roles.trigger (list ts) false fine (roles.trigger_right (list ts)))))

  -- ---- all

  record_back : (r : RecordTree) → places form whole (record_value r) ≡ [] → IsInRange r → IsWellFormed r.trigger
      → IsInKeyOrder address_cmp address_of r.rows → IsFittingRecord r
  record_back r none range well order =
      let t = record_value r in
      let fine = is_fine form whole t none in
      let rows = member_fine form whole roles.rows (codes "rows") t (list (trees (map row_value r.rows))) fine roles.rows_is refl in
      record {
        digest_length = range.digest_length;
        digest_bytes = range.digest_bytes;
        outputs = measured_is r.outputs
            (member_fine form whole roles.measured (codes "outputs") t r.outputs fine roles.outputs_is refl);
        parameters = all_fit roles.parameters (members r.parameters) roles.parameters_part
            (member_fine form whole roles.parameters (codes "parameters") t (object (members r.parameters)) fine roles.parameters_is refl)
            (members r.parameters) (λ k u c. c);
        response = measured_is r.response
            (member_fine form whole roles.measured (codes "response") t r.response fine roles.response_is refl);
        run = right form roles.named (text r.run) (is_name 80 (text r.run))
            (member_fine form whole roles.named (codes "run") t (text r.run) fine roles.run_is refl) (roles.named_right (text r.run));
        trigger = trigger_exact r.trigger well
            (member_fine form whole roles.trigger (codes "trigger") t r.trigger fine roles.trigger_is refl);
        rows = rows_are_fit r.rows range.rows_in_range (λ i u is p amiss. rows _ (in_item i is roles.row_is amiss));
        in_order = order;
      }

-- the role of the whole goes by the value, which says its form
back_by : {R : Type 0} (form : Form R) (whole : ValueTree → R) (r : RecordTree)
    → ((t : ValueTree) → t ≡ record_value r → places form (whole t) t ≡ []) → IsRecordForm form (whole (record_value r)) → IsInRange r
    → IsWellFormed r.trigger → IsInKeyOrder address_cmp address_of r.rows → IsFittingRecord r
back_by form whole r none roles range well order =
    record_back form (whole (record_value r)) roles r (none (record_value r) refl) range well order

head_of : {X : Type 0} (x y : X) → Contains (x ∷ y ∷ []) x
head_of x y = (0, omega arith, refl)

back_at : (r : RecordTree) → ((t : ValueTree) → t ≡ record_value r → record_places t ≡ []) → IsInRange r → IsWellFormed r.trigger
    → IsInKeyOrder address_cmp address_of r.rows → IsFittingRecord r
back_at r none range well order =
    back_by record_form _ r none (record {
      named = _;
      run_is = refl;
      named_right = λ t. refl;
      fitting = _;
      fitting_right = λ t. refl;
      measured = _;
      outputs_is = refl;
      response_is = refl;
      measured_right = λ t. refl;
      measured_part = λ name. refl;
      parameters = _;
      parameters_is = refl;
      parameters_part = λ name. refl;
      rows = _;
      rows_is = refl;
      row = _;
      row_is = refl;
      row_name_is = refl;
      row_inputs_is = refl;
      row_outputs_is = refl;
      told = _;
      row_error_is = refl;
      told_right = λ t. refl;
      tracked = _;
      row_tracked_is = refl;
      tracked_right = λ t. refl;
      tracked_part = λ name. refl;
      attempts = _;
      row_attempts_is = refl;
      attempts_right = λ ts. refl;
      attempt = _;
      attempt_is = refl;
      attempt_right = λ t. refl;
      trigger = _;
      trigger_is = refl;
      trigger_right = λ t. refl;
      trigger_closed = refl;
      trigger_names = head_of _ _;
      trigger_outputs = second_of _ _;
      trigger_member = λ name. refl;
    }) range well order

-- THE LAW
pub fits_back : (r : RecordTree) → IsOfForm r → IsInRange r → IsWellFormed r.trigger → IsInKeyOrder address_cmp address_of r.rows
    → IsFittingRecord r
fits_back r is range well order =
    back_at r (λ t same. subst (λ (u : ValueTree). record_places u ≡ []) (sym same) (least-none (record_places (record_value r)) is)) range
    well order

-- ---- the rows that are read are the record's

known_is : (t : ValueTree) (r : RecordTree) (o : Option ℤ) → if_known t o ≡ Ok r → record_of t ≡ r
known_is t r (Some n) is = absurd (cc (is))
known_is t r None is = placed_is (least (record_places t)) is
  where
    placed_is : (p : Option (List ℕ)) → if_of_form t p ≡ Ok r → record_of t ≡ r
    placed_is (Some pointer) is = absurd (cc (is))
    placed_is None is = cc (is)

pub in_order_back : (r : RecordTree) → of_val (record_value r) ≡ Ok r
    → IsInKeyOrder address_cmp address_of (map row_of (rows_in (record_value r))) → IsInKeyOrder address_cmp address_of r.rows
in_order_back r is order =
    subst (λ (q : RecordTree). IsInKeyOrder address_cmp address_of q.rows)
    (known_is (record_value r) r (other_form (get (codes "form") (record_value r))) is) order
