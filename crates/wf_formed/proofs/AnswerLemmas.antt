-- Inputs that were read have a name, and fit; and so do their answers, whose status codes are those of HTTP.
use Rattle.std.proofs.Common.{◌≡◌, ℕ, suc, pos, negsuc, ◌≤◌, Bool, true, false, ◌&&◌, cond, List, [], ◌∷◌}
use Rattle.std.proofs.Common.{map, slice_get, option_map, nat_le, Option, Some, None, Ok, refl, sym, ap, ap₂, ◌∙◌, subst}
use Rattle.std.proofs.Common.{arith}
use Rattle.std.proofs.Common.{Ordering, Less, Equal, Greater}
use Rattle.std.proofs.lemmas.Bool.{leb-true}
use Rattle.std.proofs.lemmas.List.Elements.{Contains-append_right}
use Rattle.std.proofs.lemmas.Map.Lookups.{exact_bytes}
use Rattle.std.proofs.lemmas.Option.{none-some}
use Rattle.std.specs.BTreeSet.{insert_key}
use Rattle.std.specs.List.{AllByRecursion, Contains, list_any}
use Rattle.std.specs.Ordering.{is_eq, match_ordering}
use Rattle.std.specs.Prelude.{codes, bytes_eq, if◌then◌else◌, IsUtf8}
use Rattle.wf_fn_time.specs.Reading.{read_time}
use Rattle.wf_json.specs.Pointer.{least}
use Rattle.wf_json.proofs.PointerLemmas.{least-none}
use Rattle.wf_places.specs.Amiss.{IsAmiss, wrong, missing, in_member, in_item}
use Rattle.wf_places.specs.Form.{Form, places}
use Rattle.wf_places.proofs.AmissLemmas.{amiss_listed}
use Rattle.wf_retry.specs.declared.policy.Outcome.{Outcome}
use Rattle.wf_val.specs.Cut.{cut_u32}
use Rattle.wf_val.specs.Get.{get, is_object, name_of, value_of}
use Rattle.wf_val.specs.NameOrder.{bytes_cmp, find_named}
use Rattle.wf_val.specs.ValueTree.{ValueTree, null, boolean, number, text, list, object, items, MemberTrees, no_members}
use Rattle.wf_val.specs.ValueTree.{member_then, members, pairs, Member, fits}
use Rattle.wf_val.specs.WellFormed.{IsWellFormed, AllMembersWellFormed}
use Rattle.wf_answers.specs.Asked as asked
use Rattle.wf_answers.specs.AnswerTree.{AnswerTree, answer_cmp}
use Rattle.wf_answers.specs.Gathered.{Gathered, gathered, gathered_onto, lesser_twice, nothing_gathered, with_answer}
use Rattle.wf_answers.specs.InputsForm.{inputs_form}
use Rattle.wf_answers.specs.Inputs.{InputsTree, inputs_at, inputs_of, of_form, with_answers, with_moment}
use Rattle.wf_answers.specs.Members.{answer_of, items_or_none, members_or_none, outcome_of, text_or_empty, value_or}
use Rattle.wf_record_form.specs.Fitting.{AllFit}
use Rattle.wf_formed.proofs.FitLemmas.{and_parts, null_fits, passes}

-- ---- what is known of inputs

-- a status code of HTTP, where it is one
abbrev pub IsOutcome : Outcome → Type 0
IsOutcome (Outcome.Code n) = (100 ≤ n) × (n ≤ 599)
IsOutcome o = Unit {0}

pub record IsFormedAnswer (a : AnswerTree) : Type 0 where
  pub headers : fits a.headers ≡ true
  pub body : fits a.body ≡ true
  pub outcome : IsOutcome a.outcome

abbrev pub AreFormedAnswers : List AnswerTree → Type 0
AreFormedAnswers answers = AllByRecursion IsFormedAnswer answers

pub record AreFormedInputs (i : InputsTree) : Type 0 where
  pub run : asked.is_name 64 (text i.run) ≡ true
  pub spelled : IsUtf8 i.run
  pub outputs : fits i.outputs ≡ true
  pub parameters : AllFit (members i.parameters)
  pub answers : AreFormedAnswers i.answers

-- ---- the form of inputs, by its roles

-- what is asked in each of the roles, whatever they are called
record IsInputsForm {R : Type 0} (form : Form R) (whole : R) : Type 0 where
  run : R
  run_is : form.member whole (codes "run") ≡ Some run
  run_needed : Contains (form.needed whole) (codes "run")
  run_right : (t : ValueTree) → form.is_right run t ≡ asked.is_name 64 t
  outputs : R
  outputs_is : form.member whole (codes "outputs") ≡ Some outputs
  outputs_right : (t : ValueTree) → form.is_right outputs t ≡ fits t
  parameters : R
  parameters_is : form.member whole (codes "parameters") ≡ Some parameters
  parameter : R
  parameter_is : (name : List ℕ) → form.member parameters name ≡ Some parameter
  parameter_right : (t : ValueTree) → form.is_right parameter t ≡ fits t
  answers : R
  answers_is : form.member whole (codes "answers") ≡ Some answers
  answer : R
  answer_is : form.item answers ≡ Some answer
  headers : R
  headers_is : form.member answer (codes "headers") ≡ Some headers
  headers_right : (t : ValueTree) → form.is_right headers t ≡ (is_object t && fits t)
  body : R
  body_is : form.member answer (codes "body") ≡ Some body
  body_right : (t : ValueTree) → form.is_right body t ≡ fits t
  status : R
  status_is : form.member answer (codes "status") ≡ Some status
  status_right : (t : ValueTree) → form.is_right status t ≡ asked.is_status t

-- ---- a value in which nothing is amiss

pub first_of : {X : Type 0} (x : X) (xs : List X) → Contains (x ∷ xs) x
first_of x xs = (0, omega arith, refl)

pub second_of : {X : Type 0} (x y : X) → Contains (x ∷ y ∷ []) y
second_of x y = (1, omega arith, refl)

none_in : {X : Type 0} (xs : List X) (x : X) → xs ≡ [] → Contains xs x → ⊥
none_in xs x is c = let d = subst (λ ys. Contains ys x) is c in let within = d.1 in omega arith

sure : (b : Bool) → (b ≡ false → ⊥) → b ≡ true
sure true never = refl
sure false never = absurd (never refl)

abbrev pair : List ℕ → ValueTree → Member
pair a b = (a, b)

listed : (name : List ℕ) (ms : List Member) (u : ValueTree) → value_of name ms ≡ Some u → Contains ms (name, u)
listed name [] u is = absurd (none-some u is)
listed name (m ∷ ms) u is = at_first (bytes_cmp name m.0) refl is (listed name ms u)
  where
    same : name ≡ m.0 → m.1 ≡ u → m ≡ (name, u)
    same k v = ap₂ pair (sym k) v

    at_first : (o : Ordering) → bytes_cmp name m.0 ≡ o
        → option_map (λ (q : Member). q.1) (cond (is_eq o) (Some m) (find_named (λ (q : Member). q.0) name ms)) ≡ Some u
        → (value_of name ms ≡ Some u → Contains ms (name, u)) → Contains (m ∷ ms) (name, u)
    at_first Equal tie is later = let k = exact_bytes name m.0 tie in let v : m.1 ≡ u = cc in (0, omega arith, same k v)
    at_first Less tie is later = Contains-append_right (m ∷ []) ms (name, u) (later is)
    at_first Greater tie is later = Contains-append_right (m ∷ []) ms (name, u) (later is)

module _ {R : Type 0} (form : Form R) where
  abbrev pub IsFine : R → ValueTree → Type 0
  IsFine role t = (p : List ℕ) → IsAmiss form role t p → ⊥

  pub is_fine : (role : R) (t : ValueTree) → places form role t ≡ [] → IsFine role t
  is_fine role t is p amiss = none_in (places form role t) p is (amiss_listed form amiss)

  pub right : (role : R) (t : ValueTree) (b : Bool) → IsFine role t → form.is_right role t ≡ b → b ≡ true
  right role t b fine is = sure b (λ no. fine [] (wrong (is ∙ no)))

  -- the member of a name, in whatever value
  pub member_fine : (role sub : R) (name : List ℕ) (t u : ValueTree) → IsFine role t → form.member role name ≡ Some sub
      → get name t ≡ Some u → IsFine sub u
  member_fine role sub name (object ms) u fine stands is = λ p amiss. fine _ (in_member (listed name (pairs ms) u is) stands amiss)
  member_fine role sub name null u fine stands is = absurd (none-some u is)
  member_fine role sub name (boolean b) u fine stands is = absurd (none-some u is)
  member_fine role sub name (number n) u fine stands is = absurd (none-some u is)
  member_fine role sub name (text s) u fine stands is = absurd (none-some u is)
  member_fine role sub name (list ts) u fine stands is = absurd (none-some u is)

-- ---- what fits

empty_fits : fits (object no_members) ≡ true
empty_fits = passes (object no_members) (omega arith, omega arith)

fitting_of : (o : Option ValueTree) (default : ValueTree) → fits default ≡ true → ((u : ValueTree) → o ≡ Some u → fits u ≡ true)
    → fits (value_or default o) ≡ true
fitting_of None default fit all = fit
fitting_of (Some u) default fit all = all u refl

each_fits : (ms : MemberTrees) → ((k : List ℕ) (u : ValueTree) → Contains (pairs ms) (k, u) → fits u ≡ true) → AllFit (members (pairs ms))
each_fits no_members all = tt
each_fits (member_then k t ms) all = (
  all k t (first_of (k, t) (pairs ms)),
  each_fits ms (λ n u c. all n u (Contains-append_right ((k, t) ∷ []) (pairs ms) (n, u) c)),
)

module _ {R : Type 0} (form : Form R) (whole : R) (roles : IsInputsForm form whole) where
  parameters_fit : (o : Option ValueTree) → ((u : ValueTree) → o ≡ Some u → IsFine form roles.parameters u)
      → AllFit (members (members_or_none o))
  parameters_fit None fine = tt
  parameters_fit (Some null) fine = tt
  parameters_fit (Some (boolean b)) fine = tt
  parameters_fit (Some (number n)) fine = tt
  parameters_fit (Some (text s)) fine = tt
  parameters_fit (Some (list ts)) fine = tt
  parameters_fit (Some (object ms)) fine =
      each_fits ms
      (λ k u c. right form roles.parameter u (fits u) (λ p amiss. fine (object ms) refl _ (in_member c (roles.parameter_is k) amiss))
      (roles.parameter_right u))

-- ---- answers

code_within : (n : ℕ) → (nat_le 100 n && nat_le n 599) ≡ true → IsOutcome (Outcome.Code (cut_u32 n))
code_within n is =
    let both = and_parts (nat_le 100 n) (nat_le n 599) is in
    let least = leb-true 100 n both.0 in
    let most = leb-true n 599 both.1 in
    (omega (arith, least, most), omega (arith, least, most))

word_outcome : (b : Bool) → IsOutcome (if b then Outcome.TimedOut else Outcome.NoConnection)
word_outcome true = tt
word_outcome false = tt

module _ {R : Type 0} (form : Form R) (whole : R) (roles : IsInputsForm form whole) where
  outcome_fine : (o : Option ValueTree) → ((u : ValueTree) → o ≡ Some u → IsFine form roles.status u) → IsOutcome (outcome_of o)
  outcome_fine None fine = tt
  outcome_fine (Some null) fine = tt
  outcome_fine (Some (boolean b)) fine = tt
  outcome_fine (Some (number (pos n))) fine =
      code_within n (right form roles.status (number (pos n)) (nat_le 100 n && nat_le n 599) (fine (number (pos n)) refl)
      (roles.status_right (number (pos n))))
  outcome_fine (Some (number (negsuc n))) fine = tt
  outcome_fine (Some (text s)) fine = word_outcome (bytes_eq s (codes "timedOut"))
  outcome_fine (Some (list ts)) fine = tt
  outcome_fine (Some (object ms)) fine = tt

  answer_formed : (t : ValueTree) → IsFine form roles.answer t → IsFormedAnswer (answer_of t)
  answer_formed t fine = record {
    headers = fitting_of (get (codes "headers") t) (object no_members) empty_fits
        (λ u is. (and_parts (is_object u) (fits u)
        (right form roles.headers u (is_object u && fits u)
        (member_fine form roles.answer roles.headers (codes "headers") t u fine roles.headers_is is) (roles.headers_right u))).1);
    body = fitting_of (get (codes "body") t) null null_fits
        (λ u is. right form roles.body u (fits u)
        (member_fine form roles.answer roles.body (codes "body") t u fine roles.body_is is) (roles.body_right u));
    outcome = outcome_fine (get (codes "status") t)
        (λ u is. member_fine form roles.answer roles.status (codes "status") t u fine roles.status_is is);
  }

  all_formed : (ts : List ValueTree) → ((i : ℕ) (u : ValueTree) → slice_get ts i ≡ Some u → IsFine form roles.answer u)
      → AreFormedAnswers (map answer_of ts)
  all_formed [] fine = tt
  all_formed (t ∷ ts) fine = (answer_formed t (fine 0 t refl), all_formed ts (λ i u is. fine (suc i) u is))

  answers_formed : (o : Option ValueTree) → ((u : ValueTree) → o ≡ Some u → IsFine form roles.answers u)
      → AreFormedAnswers (map answer_of (items_or_none o))
  answers_formed None fine = tt
  answers_formed (Some null) fine = tt
  answers_formed (Some (boolean b)) fine = tt
  answers_formed (Some (number n)) fine = tt
  answers_formed (Some (text s)) fine = tt
  answers_formed (Some (list ts)) fine =
      all_formed (items ts) (λ i u is p amiss. fine (list ts) refl _ (in_item i is roles.answer_is amiss))
  answers_formed (Some (object ms)) fine = tt

inserted : (kept : List AnswerTree) (a : AnswerTree) → AreFormedAnswers kept → IsFormedAnswer a
    → AreFormedAnswers (insert_key answer_cmp kept a)
inserted [] a all formed = (formed, tt)
inserted (b ∷ kept) a all formed = by (answer_cmp a b) (inserted kept a all.1 formed)
  where
    by : (o : Ordering) → AreFormedAnswers (insert_key answer_cmp kept a)
        → AreFormedAnswers (match_ordering o (a ∷ b ∷ kept) (b ∷ kept) (b ∷ insert_key answer_cmp kept a))
    by Less rest = (formed, all)
    by Equal rest = all
    by Greater rest = (all.0, rest)

one_kept : (g : Gathered) (a : AnswerTree) → AreFormedAnswers g.kept → IsFormedAnswer a → AreFormedAnswers (with_answer g a).kept
one_kept g a all formed = by (list_any (λ b. is_eq (answer_cmp a b)) g.kept)
  where
    by : (b : Bool) → AreFormedAnswers (let r : Gathered = if b then record { kept = g.kept; twice = Some (lesser_twice g.twice a) }
        else record { kept = insert_key answer_cmp g.kept a; twice = g.twice } in r.kept)
    by true = all
    by false = inserted g.kept a all formed

all_kept : (answers : List AnswerTree) (g : Gathered) → AreFormedAnswers answers → AreFormedAnswers g.kept
    → AreFormedAnswers (gathered_onto g answers).kept
all_kept [] g all sofar = sofar
all_kept (a ∷ answers) g all sofar = all_kept answers (with_answer g a) all.1 (one_kept g a sofar all.0)

-- ---- the run's name

text_of : (t : ValueTree) → asked.is_name 64 t ≡ true → text (text_or_empty (Some t)) ≡ t
text_of (text s) is = refl
text_of null is = absurd (cc)
text_of (boolean b) is = absurd (cc)
text_of (number n) is = absurd (cc)
text_of (list ts) is = absurd (cc)
text_of (object ms) is = absurd (cc)

named_by : (o : Option ValueTree) → (o ≡ None → ⊥) → ((u : ValueTree) → o ≡ Some u → asked.is_name 64 u ≡ true)
    → asked.is_name 64 (text (text_or_empty o)) ≡ true
named_by None there all = absurd (there refl)
named_by (Some u) there all = ap (asked.is_name 64) (text_of u (all u refl)) ∙ all u refl

member_well : (name : List ℕ) (ms : MemberTrees) (u : ValueTree) → AllMembersWellFormed ms → value_of name (pairs ms) ≡ Some u
    → IsWellFormed u
member_well name no_members u all is = absurd (none-some u is)
member_well name (member_then k t ms) u all is = by (is_eq (bytes_cmp name k)) is (member_well name ms u all.1)
  where
    by : (b : Bool) → option_map (λ (q : Member). q.1) (if b then Some (k, t) else find_named name_of name (pairs ms)) ≡ Some u
        → (value_of name (pairs ms) ≡ Some u → IsWellFormed u) → IsWellFormed u
    by true here later = let same : t ≡ u = cc in subst IsWellFormed same all.0.1
    by false there later = later there

spelled_by : (o : Option ValueTree) → ((u : ValueTree) → o ≡ Some u → IsWellFormed u) → IsUtf8 [] → IsUtf8 (text_or_empty o)
spelled_by None all none = none
spelled_by (Some null) all none = none
spelled_by (Some (boolean b)) all none = none
spelled_by (Some (number n)) all none = none
spelled_by (Some (text s)) all none = all (text s) refl
spelled_by (Some (list ts)) all none = none
spelled_by (Some (object ms)) all none = none

got_well : (name : List ℕ) (t u : ValueTree) → IsWellFormed t → get name t ≡ Some u → IsWellFormed u
got_well name (object ms) u well is = member_well name ms u well.1 is
got_well name null u well is = absurd (none-some u is)
got_well name (boolean b) u well is = absurd (none-some u is)
got_well name (number n) u well is = absurd (none-some u is)
got_well name (text s) u well is = absurd (none-some u is)
got_well name (list ts) u well is = absurd (none-some u is)

-- ---- all

module _ {R : Type 0} (form : Form R) (whole : R) (roles : IsInputsForm form whole) (t : ValueTree) where
  abbrev g : Gathered
  g = gathered (map answer_of (items_or_none (get (codes "answers") t)))

  at_moment : IsWellFormed t → IsUtf8 [] → IsFine form whole t → (moment : ℕ) → AreFormedInputs (inputs_at t moment g.kept)
  at_moment well none fine moment = record {
    run = named_by (get (codes "run") t) (λ is. fine _ (missing roles.run_needed is))
        (λ u is. right form roles.run u (asked.is_name 64 u) (member_fine form whole roles.run (codes "run") t u fine roles.run_is is)
        (roles.run_right u));
    spelled = spelled_by (get (codes "run") t) (λ u is. got_well (codes "run") t u well is) none;
    outputs = fitting_of (get (codes "outputs") t) null null_fits
        (λ u is. right form roles.outputs u (fits u)
        (member_fine form whole roles.outputs (codes "outputs") t u fine roles.outputs_is is) (roles.outputs_right u));
    parameters = parameters_fit form whole roles (get (codes "parameters") t)
        (λ u is. member_fine form whole roles.parameters (codes "parameters") t u fine roles.parameters_is is);
    answers = all_kept (map answer_of (items_or_none (get (codes "answers") t))) nothing_gathered
        (answers_formed form whole roles (get (codes "answers") t)
        (λ u is. member_fine form whole roles.answers (codes "answers") t u fine roles.answers_is is)) tt;
  }

  module _ (well : IsWellFormed t) (none : IsUtf8 []) (i : InputsTree) where
    timed : places form whole t ≡ [] → (o : Option ℕ) → with_moment t g.kept o ≡ Ok i → AreFormedInputs i
    timed fine None e = absurd (cc)
    timed fine (Some moment) e =
        let same : inputs_at t moment g.kept ≡ i = cc in
        subst AreFormedInputs same (at_moment well none (is_fine form whole t fine) moment)

    once : places form whole t ≡ [] → (o : Option AnswerTree) → with_answers t g.kept o ≡ Ok i → AreFormedInputs i
    once fine (Some a) e = absurd (cc)
    once fine None e = timed fine (read_time (text_or_empty (get (codes "moment") t))) e

    by_form : (o : Option (List ℕ)) → least (places form whole t) ≡ o → of_form t o ≡ Ok i → AreFormedInputs i
    by_form (Some pointer) at e = absurd (cc)
    by_form None at e = once (least-none (places form whole t) at) g.twice e

read_by : {R : Type 0} {form : Form R} {whole : R} → (t : ValueTree) (i : InputsTree) → of_form t (least (places form whole t)) ≡ Ok i
    → IsInputsForm form whole → IsWellFormed t → IsUtf8 [] → AreFormedInputs i
read_by {form = form} {whole = whole} t i is roles well none =
    by_form form whole roles t well none i (least (places form whole t)) refl is

-- THE LAW
pub inputs_formed : (t : ValueTree) (i : InputsTree) → IsWellFormed t → IsUtf8 [] → inputs_of t ≡ Ok i → AreFormedInputs i
inputs_formed t i well none is =
    read_by {form = inputs_form} t i is (record {
      run = _;
      run_is = refl;
      run_needed = second_of _ _;
      run_right = λ u. refl;
      outputs = _;
      outputs_is = refl;
      outputs_right = λ u. refl;
      parameters = _;
      parameters_is = refl;
      parameter = _;
      parameter_is = λ name. refl;
      parameter_right = λ u. refl;
      answers = _;
      answers_is = refl;
      answer = _;
      answer_is = refl;
      headers = _;
      headers_is = refl;
      headers_right = λ u. refl;
      body = _;
      body_is = refl;
      body_right = λ u. refl;
      status = _;
      status_is = refl;
      status_right = λ u. refl;
    }) well none
