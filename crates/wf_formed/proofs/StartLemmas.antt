-- A run that starts of a definition has a name, a trigger and parameters as a record of the form has them.
use Rattle.std.proofs.Common.{◌≡◌, ℕ, zero, suc, ◌+◌, ◌%◌, ◌<◌, ◌≤◌, ◌^◌, Bool, true, false, not, ◌&&◌, ◌||◌, cond, nat_le, nat_lt}
use Rattle.std.proofs.Common.{List, [], ◌∷◌, ◌++◌, length, Option, Some, None, Result, Ok, Err, inl, inr, refl, ap, ◌∙◌}
use Rattle.std.proofs.Common.{subst, arith}
use Rattle.std.proofs.Common.{option_map, length-append, true≢false}
use Rattle.std.proofs.lemmas.Bool.{le-leb, leb-true, ltb-false}
use Rattle.std.proofs.lemmas.Fmt.{decimal_by_steps, length-decimal-le}
use Rattle.std.proofs.lemmas.Str.{chars-append, chars-IsAscii}
use Rattle.std.specs.List.{AllByRecursion, list_all}
use Rattle.std.specs.Ordering.{is_eq}
use Rattle.std.specs.Prelude.{codes, decimal, if◌then◌else◌, slice_index, IsUtf8}
use Rattle.std.specs.Str.{chars, IsAscii}
use Rattle.wf_asked.specs.Asked.{is_name, is_printable}
use Rattle.wf_layers.specs.Listed.{Among}
use Rattle.wf_val.specs.Arguments.{Answer}
use Rattle.wf_val.specs.Get.{name_of, value_of}
use Rattle.wf_val.specs.NameOrder.{bytes_cmp, find_named}
use Rattle.wf_val.specs.ValueTree.{ValueTree, null, boolean, number, text, list, object, items, MemberTrees, no_members, member_then}
use Rattle.wf_val.specs.ValueTree.{members}
use Rattle.wf_val.specs.ValueTree.{pairs, Member, Fits, fits}
use Rattle.wf_template.specs.TemplateTree.{TemplateTree}
use Rattle.wf_def.specs.DefTree.{DefTree, ParamTree, TriggerTree}
use Rattle.wf_def.specs.Sorts.{has_sort}
use Rattle.wf_def.specs.declared.sort.Sort.{Sort}
use Rattle.wf_answers.specs.Inputs.{InputsTree}
use Rattle.wf_trigger.specs.Choosing.{chosen, name_value}
use Rattle.wf_trigger.specs.Parameters.{first_of, given_value, parameters_of, unless, values_of, values_onto, with_value}
use Rattle.wf_trigger.specs.Runs.{runs_of, then_do, value_in}
use Rattle.wf_trigger.specs.Splitting.{all_hold, conditions_in, items_in, items_of_split, some_items, split_in, split_items}
use Rattle.wf_trigger.specs.Starts.{Shared, StartTree, numbered, start_whole, starts_from, starts_of, trigger_value}
use Rattle.wf_trigger.specs.Starts.{with_body}
use Rattle.wf_trigger.specs.declared.fault.TriggerFault.{TriggerFault}
use Rattle.wf_breaks.specs.Rules.{is_misdeclared, is_misfit_if, is_too_big_if, has_misfit, parameter_breaks}
use Rattle.wf_breaks.specs.declared.rule.Rule.{Rule}
use Rattle.wf_pinned.specs.Broken.{offences, parameter_pointer, told}
use Rattle.wf_reading.proofs.RunAfterLemmas.{append-first, append-second}
use Rattle.wf_record_form.specs.Fitting.{AllFit, IsMeasured, IsTextOrNull, IsTriggerValue}
use Rattle.wf_formed.specs.Known.{TemplatesFit}
use Rattle.wf_formed.proofs.AnswerLemmas.{AreFormedInputs}
use Rattle.wf_formed.proofs.FitLemmas.{AllItemsFit, and_parts, items_fit, measured, members_fit, passes, put_fits}

-- ---- the name of one of many

abbrev IsDigit : ℕ → Type 0
IsDigit b = (48 ≤ b) × (b ≤ 57)

one_digit : (ds : List ℕ) (b : ℕ) → AllByRecursion IsDigit ds → IsDigit b → AllByRecursion IsDigit (ds ++ b ∷ [])
one_digit [] b all is = (is, tt)
one_digit (d ∷ ds) b all is = (all.0, one_digit ds b all.1 is)

digits : (n : ℕ) → n < 2 ^ 64 → AllByRecursion IsDigit (decimal n)
digits = decimal_by_steps (λ n ds. AllByRecursion IsDigit ds) (λ n lt. ((omega arith, omega (arith, lt)), tt))
    (λ n ds le all. one_digit ds (48 + n % 10) all (omega arith, omega arith))

ascii_each : (ds : List ℕ) → AllByRecursion IsDigit ds → (i : ℕ) → slice_index ds i < 128
ascii_each [] all i = omega arith
ascii_each (d ∷ ds) all zero = omega (arith, all.0.1)
ascii_each (d ∷ ds) all (suc i) = ascii_each ds all.1 i

ascii_behind : (ds : List ℕ) → AllByRecursion IsDigit ds → IsAscii (45 ∷ ds)
ascii_behind ds all zero = omega arith
ascii_behind ds all (suc i) = ascii_each ds all i

printable : (b : ℕ) → IsDigit b → is_printable b ≡ true
printable b is = grind (arith, is.0, is.1)

all_printable : (ds : List ℕ) → AllByRecursion IsDigit ds → list_all is_printable ds ≡ true
all_printable [] all = refl
all_printable (d ∷ ds) all = ap (λ (c : Bool). c && list_all is_printable ds) (printable d all.0) ∙ all_printable ds all.1

both_printable : (xs ys : List ℕ) → list_all is_printable xs ≡ true → list_all is_printable ys ≡ true
    → list_all is_printable (xs ++ ys) ≡ true
both_printable [] ys one other = other
both_printable (x ∷ xs) ys one other =
    let both = and_parts (is_printable x) (list_all is_printable xs) one in
    ap (λ (c : Bool). c && list_all is_printable (xs ++ ys)) both.0 ∙ both_printable xs ys both.1 other

named : (n : ℕ) (s : List ℕ) → 1 ≤ length (chars s) → length (chars s) ≤ n → list_all is_printable s ≡ true → is_name n (text s) ≡ true
named n s some few fine =
    ap (λ (b : Bool). b && nat_le (length (chars s)) n && list_all is_printable s) (le-leb 1 (length (chars s)) some)
    ∙ (ap (λ (b : Bool). b && list_all is_printable s) (le-leb (length (chars s)) n few) ∙ fine)

pub wider_name : (s : List ℕ) → is_name 64 (text s) ≡ true → is_name 80 (text s) ≡ true
wider_name s is =
    let first = and_parts (nat_le 1 (length (chars s)) && nat_le (length (chars s)) 64) (list_all is_printable s) is in
    let both = and_parts (nat_le 1 (length (chars s))) (nat_le (length (chars s)) 64) first.0 in
    named 80 s (leb-true 1 (length (chars s)) both.0) (omega (arith, leb-true (length (chars s)) 64 both.1)) first.1

numbered_name : (s : List ℕ) (k : ℕ) → is_name 64 (text s) ≡ true → IsUtf8 s → k < 100000 → is_name 80 (text (numbered s k)) ≡ true
numbered_name s k is spelled few =
    let first = and_parts (nat_le 1 (length (chars s)) && nat_le (length (chars s)) 64) (list_all is_printable s) is in
    let both = and_parts (nat_le 1 (length (chars s))) (nat_le (length (chars s)) 64) first.0 in
    let some = leb-true 1 (length (chars s)) both.0 in
    let most = leb-true (length (chars s)) 64 both.1 in
    let all = digits k (omega (arith, few)) in
    let short : length (decimal k) ≤ 5 = length-decimal-le 5 k (omega arith) (omega (arith, few)) (omega (arith, few)) in
    let counted : length (chars (numbered s k)) ≡ length (chars s) + suc (length (decimal k)) =
    ap length (chars-append s (45 ∷ decimal k) spelled) ∙ length-append (chars s) (chars (45 ∷ decimal k))
    ∙ ap (λ (ds : List ℕ). length (chars s) + length ds) (chars-IsAscii (45 ∷ decimal k) (ascii_behind (decimal k) all)) in
    named 80 (numbered s k) (omega (arith, counted, some)) (omega (arith, counted, most, short))
    (both_printable s (45 ∷ decimal k) first.1 (all_printable (decimal k) all))

-- ---- parameters

abbrev FitsIf : Option ValueTree → Type 0
FitsIf None = Unit {0}
FitsIf (Some v) = fits v ≡ true

not_false : (b : Bool) → not b ≡ false → b ≡ true
not_false true is = refl
not_false false is = absurd (true≢false is)

none_either : (b c : Bool) → (b || c) ≡ false → (b ≡ false) × (c ≡ false)
none_either true c is = absurd (true≢false is)
none_either false c is = (refl, is)

default_fits : (sort : Sort) (o : Option ValueTree) → is_misfit_if sort o ≡ false → FitsIf o
default_fits sort None is = tt
default_fits sort (Some v) is = (and_parts (fits v) (has_sort sort v) (not_false (fits v && has_sort sort v) is)).0

small_fits : (o : Option ValueTree) → is_too_big_if o ≡ false → FitsIf o
small_fits None is = tt
small_fits (Some v) is = not_false (fits v) is

abbrev IsFittingParam : List Member → ParamTree → Type 0
IsFittingParam given p = FitsIf p.default × FitsIf (value_of p.name given)

declared_fits : (given : List Member) (p : ParamTree) → is_misdeclared given p ≡ false → IsFittingParam given p
declared_fits given p is =
    let first = none_either (is_misfit_if p.sort p.default) (has_misfit p.sort p.allowed || is_too_big_if (value_of p.name given)) is in
    let second = none_either (has_misfit p.sort p.allowed) (is_too_big_if (value_of p.name given)) first.1 in
    (default_fits p.sort p.default first.0, small_fits (value_of p.name given) second.1)

none_told : (b : Bool) (p : List ℕ) → cond b (p ∷ []) [] ≡ [] → b ≡ false
none_told true p is = absurd (cc)
none_told false p is = refl

none_broken : {X : Type 0} (broken : X → Bool) (pointer : X → List ℕ) (xs : List X) → told broken pointer xs ≡ []
    → AllByRecursion (λ x. broken x ≡ false) xs
none_broken broken pointer [] is = tt
none_broken broken pointer (x ∷ xs) is =
    let here : List (List ℕ) = cond (broken x) (pointer x ∷ []) [] in (
      none_told (broken x) (pointer x) (append-first here (told broken pointer xs) is),
      none_broken broken pointer xs (append-second here (told broken pointer xs) is),
    )

all_declared : (given : List Member) (ps : List ParamTree) → AllByRecursion (λ p. is_misdeclared given p ≡ false) ps
    → AllByRecursion (IsFittingParam given) ps
all_declared given [] all = tt
all_declared given (p ∷ ps) all = (declared_fits given p all.0, all_declared given ps all.1)

value_fits : (k : List ℕ) (ms : List Member) → AllFit (members ms) → FitsIf (value_of k ms)
value_fits k [] all = tt
value_fits k (m ∷ ms) all = by (is_eq (bytes_cmp k m.0)) (value_fits k ms all.1)
  where
    by : (b : Bool) → FitsIf (value_of k ms)
        → FitsIf (option_map (λ (q : Member). q.1) (if b then Some m else find_named name_of k ms))
    by true later = all.0
    by false later = later

first_fits : (o p : Option ValueTree) → FitsIf o → FitsIf p → FitsIf (first_of o p)
first_fits None p one other = other
first_fits (Some v) p one other = one

with_fits : (p : ParamTree) (o : Option ValueTree) (values : List Member) → FitsIf o → AllFit (members values)
    → AllFit (members (with_value p o values))
with_fits p None values fit all = all
with_fits p (Some v) values fit all = put_fits p.name v values fit all

onto_fits : (handed given : List Member) → AllFit (members handed) → (ps : List ParamTree) → AllByRecursion (IsFittingParam given) ps
    → (values : List Member) → AllFit (members values) → AllFit (members (values_onto handed given values ps))
onto_fits handed given fit [] all values sofar = sofar
onto_fits handed given fit (p ∷ ps) all values sofar =
    onto_fits handed given fit ps all.1 (with_value p (given_value handed given p) values)
    (with_fits p (given_value handed given p) values
    (first_fits (value_of p.name handed) (first_of (value_of p.name given) p.default) (value_fits p.name handed fit)
    (first_fits (value_of p.name given) p.default all.0.1 all.0.0)) sofar)

unless_ok : (fault : List ℕ → TriggerFault) (o : Option (List ℕ)) (rest : Result (List Member) TriggerFault) (ms : List Member)
    → unless fault o rest ≡ Ok ms → rest ≡ Ok ms
unless_ok fault (Some name) rest ms is = absurd (cc)
unless_ok fault None rest ms is = is

three_pass : (f g h : List ℕ → TriggerFault) (a b c : Option (List ℕ)) (ns ms : List Member)
    → unless f a (unless g b (unless h c (Ok ns))) ≡ Ok ms → ns ≡ ms
three_pass f g h a b c ns ms is =
    let second = unless_ok f a (unless g b (unless h c (Ok ns))) ms is in
    let last : Ok ns ≡ Ok ms = unless_ok h c (Ok ns) ms (unless_ok g b (unless h c (Ok ns)) ms second) in
    cc (last)

parameters_are : (handed given : List Member) (ps : List ParamTree) (ms : List Member) → parameters_of handed given ps ≡ Ok ms
    → values_of handed given ps ≡ ms
parameters_are handed given ps ms is = search (three_pass)

-- ---- the trigger

name_told : (o : Option TriggerTree) → IsTextOrNull (name_value o)
name_told None = tt
name_told (Some t) = tt

pairs_fit : (ms : MemberTrees) → AllFit ms → AllFit (members (pairs ms))
pairs_fit no_members all = tt
pairs_fit (member_then k t ms) all = (all.0, pairs_fit ms all.1)

body_measured : (t item : ValueTree) → fits t ≡ true → fits item ≡ true → IsMeasured (with_body t item)
body_measured (object ms) item fit one = put_fits (codes "body") item (pairs ms) one (pairs_fit ms (members_fit ms fit))
body_measured null item fit one = (one, tt)
body_measured (boolean b) item fit one = (one, tt)
body_measured (number n) item fit one = (one, tt)
body_measured (text s) item fit one = (one, tt)
body_measured (list ts) item fit one = (one, tt)

trigger_formed : (name outputs : ValueTree) → IsTextOrNull name → IsMeasured outputs → IsTriggerValue (trigger_value name outputs)
trigger_formed name outputs named' measured' =
    record { name = name; outputs = outputs; is = refl; named = named'; measured = measured' }

-- ---- the runs

pub record IsFormedStart (s : StartTree) : Type 0 where
  pub run : is_name 80 (text s.run) ≡ true
  pub trigger : IsTriggerValue s.trigger
  pub parameters : AllFit (members s.parameters)

abbrev shared_by : Option TriggerTree → InputsTree → List Member → Shared
shared_by trigger i values = record { run = i.run; seed = i.seed; name = name_value trigger; outputs = i.outputs; parameters = values }

module _ (i : InputsTree) (formed : AreFormedInputs i) (trigger : Option TriggerTree) (values : List Member)
    (fit : AllFit (members values)) where
  abbrev shared : Shared
  shared = shared_by trigger i values

  whole_formed : IsFormedStart (start_whole shared)
  whole_formed = record {
    run = wider_name i.run formed.run;
    trigger = trigger_formed (name_value trigger) i.outputs (name_told trigger) (measured i.outputs formed.outputs);
    parameters = fit;
  }

  items_formed : (ts : List ValueTree) (k : ℕ) → AllItemsFit ts → k + length ts ≤ 100000
      → AllByRecursion IsFormedStart (starts_from shared k ts)
  items_formed [] k all few = tt
  items_formed (t ∷ ts) k all few = (
    record {
      run = numbered_name i.run k formed.run formed.spelled (omega (arith, few));
      trigger = trigger_formed (name_value trigger) (with_body i.outputs t) (name_told trigger)
          (body_measured i.outputs t formed.outputs all.0);
      parameters = fit;
    },
    items_formed ts (suc k) all.1 (omega (arith, few)),
  )

  abbrev FewItems : Option (List ValueTree) → Type 0
  FewItems None = Unit {0}
  FewItems (Some ts) = AllItemsFit ts × (length ts ≤ 100000)

  all_formed : (split : Option (List ValueTree)) (holds : Bool) → FewItems split
      → AllByRecursion IsFormedStart (starts_of shared split holds)
  all_formed split false few = tt
  all_formed None true few = (whole_formed, tt)
  all_formed (Some ts) true few = items_formed ts 0 few.0 (omega (arith, few.1))

  -- ---- the split

  abbrev FewIfItems : Result (List ValueTree) TriggerFault → Type 0
  FewIfItems (Ok ts) = AllItemsFit ts × (length ts ≤ 100000)
  FewIfItems (Err f) = Unit {0}

  items_few : (t : ValueTree) → fits t ≡ true → FewIfItems (items_in t)
  items_few (list ts) is = by (nat_lt 100000 (length (items ts))) refl
    where
      by : (b : Bool) → nat_lt 100000 (length (items ts)) ≡ b
          → FewIfItems (if b then Err (TriggerFault.SplitTooLong (length (items ts))) else Ok (items ts))
      by true lt = tt
      by false lt = (items_fit ts is, omega (arith, ltb-false 100000 (length (items ts)) lt))
  items_few null is = tt
  items_few (boolean b) is = tt
  items_few (number n) is = tt
  items_few (text s) is = tt
  items_few (object ms) is = tt

  some_few : (r : Result (List ValueTree) TriggerFault) (split : Option (List ValueTree)) → FewIfItems r → some_items r ≡ Ok split
      → FewItems split
  some_few (Ok ts) split few is = let same : Some ts ≡ split = cc (is) in subst FewItems same few
  some_few (Err f) split few is = absurd (cc (is))

  answer_few : (a : Answer) (split : Option (List ValueTree)) → ((t : ValueTree) → a ≡ Ok t → Fits t) → items_of_split a ≡ Ok split
      → FewItems split
  answer_few (Err f) split fine is = absurd (cc (is))
  answer_few (Ok t) split fine is = some_few (items_in t) split (items_few t (passes t (fine t refl))) is

  split_few : (value : TemplateTree → Answer) → ((x : TemplateTree) (t : ValueTree) → value x ≡ Ok t → Fits t) → (o : Option TemplateTree)
      (split : Option (List ValueTree)) → split_items value o ≡ Ok split → FewItems split
  split_few value fine None split is = let same : None ≡ split = cc (is) in subst FewItems same tt
  split_few value fine (Some x) split is = answer_few (value x) split (fine x) is

-- ---- all

first_done : {X Y : Type 0} (r : Result X TriggerFault) (next : X → Result Y TriggerFault) (y : Y) → then_do r next ≡ Ok y
    → (x : X) × (r ≡ Ok x) × (next x ≡ Ok y)
first_done (Ok x) next y is = (x, refl, is)
first_done (Err f) next y is = absurd (cc)

all_among : {X : Type 0} (P : X → Type 0) (xs : List X) (x : X) → AllByRecursion P xs → Among xs x → P x
all_among P [] x all i = absurd i
all_among P (z ∷ xs) x all (inl e) = subst P e all.0
all_among P (z ∷ xs) x all (inr i) = all_among P xs x all.1 i

abbrev ok_starts : List StartTree → Result (List StartTree) TriggerFault
ok_starts starts = Ok starts

among_starts : (xs starts : List StartTree) → ok_starts xs ≡ ok_starts starts → AllByRecursion IsFormedStart xs → (s : StartTree)
    → Among starts s → IsFormedStart s
among_starts xs starts is all s among =
    let same : xs ≡ starts = cc (is) in all_among IsFormedStart starts s (subst (AllByRecursion IsFormedStart) same all) among

-- THE LAW
pub start_formed : TemplatesFit → (d : DefTree) → offences d Rule.Parameters ≡ [] → (i : InputsTree) → AreFormedInputs i
    → (starts : List StartTree) → runs_of d.parameters d.given d.triggers i ≡ Ok starts → (s : StartTree) → Among starts s → IsFormedStart s
start_formed fine d none i formed starts are s among =
    let broken : AllByRecursion (λ p. is_misdeclared d.given p ≡ false) d.parameters =
    none_broken (parameter_breaks d.given Rule.Parameters) parameter_pointer d.parameters
    (append-first _ _ (append-second _ _ (append-second _ _ none))) in
    let (trigger, chosen_is, rest) = first_done (chosen i.trigger d.triggers) _ starts are in
    let (values, values_are, begun) = first_done (parameters_of i.parameters d.given d.parameters) _ starts rest in
    let (split, split_is, further) = first_done (split_items (value_in trigger i values) (split_in trigger)) _ starts begun in
    let (holds, hold, last) = first_done (all_hold (value_in trigger i values) (conditions_in trigger)) _ starts further in
    let fit : AllFit (members values) =
    subst (λ (ms : List Member). AllFit (members ms)) (parameters_are i.parameters d.given d.parameters values values_are)
    (onto_fits i.parameters d.given formed.parameters d.parameters (all_declared d.given d.parameters broken) [] tt) in
    among_starts (starts_of (shared_by trigger i values) split holds) starts last
    (all_formed i formed trigger values fit split holds
    (split_few i formed trigger values fit (value_in trigger i values) (λ x t is. fine _ x 0 t is) (split_in trigger) split split_is))
    s among
