-- Of a definition that breaks no rule: the names of its actions stand once, and there are at most 500.
use Rattle.std.proofs.Common.{◌≡◌, ℕ, suc, ◌≤◌, Bool, true, false, List, [], ◌∷◌, ◌++◌, Option, Some, None, length, map, bytes_eq, refl, arith}
use Rattle.std.specs.Prelude.{◌||◌, not, nat_lt, codes, if◌then◌else◌}
use Rattle.std.specs.List.{AllByRecursion, list_any}
use Rattle.std.proofs.lemmas.Bool.{ltb-false}
use Rattle.std.proofs.lemmas.List.{length-map}
use Rattle.std.proofs.lemmas.Slice.Eq.{bytes_eq-Decides}
use Rattle.wf_val.specs.Get.{name_of}
use Rattle.wf_val.specs.ValueTree.{ValueTree, null, boolean, number, text, list, object, MemberTrees, no_members, member_then, Member}
use Rattle.wf_form.specs.Pointer.{flagged, here, member_step}
use Rattle.wf_form.specs.Actions.{actions_among, actions_in, actions_of, in_part, own_action}
use Rattle.wf_form.specs.Fault.{offences}
use Rattle.wf_form.specs.Limits.{limits}
use Rattle.wf_form.specs.Naming.{is_name, naming}
use Rattle.wf_form.specs.Places.{in_members, places}
use Rattle.wf_form.specs.Role.{child, holder_of}
use Rattle.wf_form.specs.Whole.{count_named, Whole, whole_of}
use Rattle.wf_form.specs.declared.role.Role.{Role}
use Rattle.wf_form.specs.declared.role.Holder.{Holder}
use Rattle.wf_form.specs.declared.rule.Rule.{Rule}
use Rattle.wf_reading.specs.Facts.{AreOnce}
use Rattle.wf_reading.proofs.RunAfterLemmas.{append-first, append-second, map-none}

bytes_eq-same : (k : List ℕ) → bytes_eq k k ≡ true
bytes_eq-same k = (bytes_eq-Decides k k).1 refl

or-first : (b c : Bool) → (b || c) ≡ false → b ≡ false
or-first true c is = is
or-first false c is = refl

or-second : (b c : Bool) → (b || c) ≡ false → c ≡ false
or-second true c is = absurd (cc)
or-second false c is = is

here-none : (b : Bool) → here b ≡ [] → b ≡ false
here-none true is = absurd (cc)
here-none false is = refl

flagged-none : (b : Bool) (key : List ℕ) → flagged b key ≡ [] → b ≡ false
flagged-none true key is = absurd (cc)
flagged-none false key is = refl

all-append : {X : Type 0} (P : X → Type 0) (xs ys : List X) → AllByRecursion P xs → AllByRecursion P ys → AllByRecursion P (xs ++ ys)
all-append P [] ys all more = more
all-append P (x ∷ xs) ys all more = (all.0, all-append P xs ys all.1 more)

module _ (whole : Whole) where
  abbrev IsAlone : Member → Type 0
  IsAlone m = whole.repeats m.0 ≡ false

  own-fine : (role : Role) (key : List ℕ) (t : ValueTree) → naming whole role key ≡ [] → AllByRecursion IsAlone (own_action role key t)
  unfolding naming
  own-fine (Role.Action l) key t is = (or-second (not (is_name key)) (whole.repeats key) (here-none (not (is_name key) || whole.repeats key) is), tt)
  own-fine Role.Definition key t is = tt
  own-fine Role.Parameters key t is = tt
  own-fine Role.Triggers key t is = tt
  own-fine Role.Outputs key t is = tt
  own-fine Role.Parameter key t is = tt
  own-fine Role.Trigger key t is = tt
  own-fine Role.Output key t is = tt
  own-fine (Role.Graph l) key t is = tt
  own-fine (Role.Branch l) key t is = tt
  own-fine (Role.Cases l) key t is = tt
  own-fine (Role.Case l) key t is = tt

  mutual
    -- where no name offends, no action's does
    fine : (role : Role) (key : List ℕ) (t : ValueTree) → places Rule.Names whole role key t ≡ [] → AllByRecursion IsAlone (actions_in role key t)
    fine role key null is = own-fine role key null is
    fine role key (boolean b) is = own-fine role key (boolean b) is
    fine role key (number n) is = own-fine role key (number n) is
    fine role key (text s) is = own-fine role key (text s) is
    fine role key (list ts) is = own-fine role key (list ts) is
    fine role key (object ms) is =
        all-append IsAlone (own_action role key (object ms)) (actions_among role (holder_of (object ms)) ms)
        (own-fine role key (object ms) (append-first (naming whole role key) (in_members Rule.Names whole role (holder_of (object ms)) ms) is))
        (fine_members role (holder_of (object ms)) ms (append-second (naming whole role key) (in_members Rule.Names whole role (holder_of (object ms)) ms) is))

    fine_members : (role : Role) (h : Holder) (ms : MemberTrees) → in_members Rule.Names whole role h ms ≡ [] → AllByRecursion IsAlone (actions_among role h ms)
    fine_members role h no_members is = tt
    fine_members role h (member_then k t ms) is =
        let own : List (List ℕ) = in_part (child role h k) (λ r. places Rule.Names whole r k t) in
        let none : own ≡ [] = map-none (λ (p : List ℕ). member_step k ++ p) own (append-first (map (λ (p : List ℕ). member_step k ++ p) own) (in_members Rule.Names whole role h ms) is) in
        all-append IsAlone (in_part (child role h k) (λ r. actions_in r k t)) (actions_among role h ms)
        ((elim (child role h k) as (λ (o : Option Role). in_part o (λ r. places Rule.Names whole r k t) ≡ [] → AllByRecursion IsAlone (in_part o (λ r. actions_in r k t))) [
          | None ↦ λ e. tt
          | Some part ↦ λ e. fine part k t e
        ]) none)
        (fine_members role h ms (append-second (map (λ (p : List ℕ). member_step k ++ p) own) (in_members Rule.Names whole role h ms) is))

count-step : (k : List ℕ) (m : Member) (ms : List Member) → count_named k ms ≤ count_named k (m ∷ ms)
count-step k m ms = elim (bytes_eq k m.0) as (λ (b : Bool). count_named k ms ≤ (if b then suc (count_named k ms) else count_named k ms)) [
  | true ↦ omega arith
  | false ↦ omega arith
]

any-counted : (k : List ℕ) (ms : List Member) → list_any (bytes_eq k) (map name_of ms) ≡ true → 1 ≤ count_named k ms
any-counted k [] is = absurd (cc)
any-counted k (m ∷ ms) is = elim (bytes_eq k m.0) as (λ b. bytes_eq k m.0 ≡ b → 1 ≤ count_named k (m ∷ ms)) [
  | true ↦ λ same. rw same (omega arith)
  | false ↦ λ other. let later : list_any (bytes_eq k) (map name_of ms) ≡ true = rw other at is in rw other (any-counted k ms later)
] refl

once-among : (all ms : List Member) → ((k : List ℕ) → count_named k ms ≤ count_named k all) → AllByRecursion (λ m. nat_lt 1 (count_named m.0 all) ≡ false) ms → AreOnce (map name_of ms)
once-among all [] within alone = tt
once-among all (m ∷ ms) within alone = (
  elim (list_any (bytes_eq m.0) (map name_of ms)) as (λ b. list_any (bytes_eq m.0) (map name_of ms) ≡ b → list_any (bytes_eq m.0) (map name_of ms) ≡ false) [
    | true ↦ λ is.
        let two : count_named m.0 (m ∷ ms) ≡ suc (count_named m.0 ms) = rw (bytes_eq-same m.0) refl in
        absurd (omega (arith, any-counted m.0 ms is, two, within m.0, ltb-false 1 (count_named m.0 all) alone.0))
    | false ↦ λ is. is
  ] refl,
  once-among all ms (λ k. omega (arith, count-step k m ms, within k)) alone.1,
)

pub names-once : (t : ValueTree) → offences t Rule.Names ≡ [] → AreOnce (map name_of (actions_of t))
names-once t is = once-among (actions_of t) (actions_of t) (λ k. omega arith) (fine (whole_of t) Role.Definition [] t is)

limit-fine : (whole : Whole) (t : ValueTree) → limits whole Role.Definition t ≡ [] → whole.actions ≤ 500
unfolding limits
limit-fine whole t is =
    let too_many = nat_lt 500 whole.actions || whole.has_too_many_variables in
    ltb-false 500 whole.actions (or-first (nat_lt 500 whole.actions) whole.has_too_many_variables
    (flagged-none too_many (codes "actions") (append-first (flagged too_many (codes "actions")) _ is)))

own-limits : (whole : Whole) (t : ValueTree) → places Rule.Limits whole Role.Definition [] t ≡ [] → limits whole Role.Definition t ≡ []
own-limits whole null is = is
own-limits whole (boolean b) is = is
own-limits whole (number n) is = is
own-limits whole (text s) is = is
own-limits whole (list ts) is = is
own-limits whole (object ms) is = append-first (limits whole Role.Definition (object ms)) (in_members Rule.Limits whole Role.Definition (holder_of (object ms)) ms) is

pub actions-few : (t : ValueTree) → offences t Rule.Limits ≡ [] → length (map name_of (actions_of t)) ≤ 500
actions-few t is = omega (arith, length-map (actions_of t) name_of, limit-fine (whole_of t) t (own-limits (whole_of t) t is))
