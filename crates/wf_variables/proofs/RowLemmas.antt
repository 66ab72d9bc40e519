-- What actions on variables give out.
use Rattle.std.proofs.Common.{◌≡◌, ℕ, Bool, true, false, List, [], ◌∷◌, ◌++◌, Option, Some, None, Result, Ok, Err}
use Rattle.std.proofs.Common.{refl, sym, ap, ◌∙◌, subst, true≢false}
use Rattle.std.specs.Prelude.{ℤ, ◌+ℤ◌, ◌-ℤ◌, codes, if◌then◌else◌}
use Rattle.std.proofs.lemmas.List.{append-nil, append_assoc}
use Rattle.wf_val.specs.Arguments.{Answer, bounded, fits_i64, given, wrong_type}
use Rattle.wf_val.specs.Cut.{cut_u32, cut_u64}
use Rattle.wf_val.specs.ValueTree.{ValueTree, boolean, number, text, list, object, trees, items, depth, weight, fits}
use Rattle.wf_val.specs.declared.fault.EvalFault.{EvalFault}
use Rattle.wf_val.specs.declared.function.Fun.{Fun}
use Rattle.wf_data.specs.Json as json_text
use Rattle.wf_template.specs.DataTree.{DataTree}
use Rattle.wf_def.specs.ActionTree.{InitialTree}
use Rattle.wf_def.specs.declared.sort.Sort.{Sort}
use Rattle.wf_data.specs.Looked.{or_no_value}
use Rattle.wf_data.specs.Outcomes.{Outcome, turned}
use Rattle.wf_data.specs.Told.{Told}
use Rattle.wf_data.specs.TreeValue.{tree_value}
use Rattle.wf_data.specs.Made.{MadeTree, fitting, goes_on, one_member}
use Rattle.wf_variables.specs.Initials.{ItemsTree, body_of, given_item, initial_by, initial_value, initials_after, made_initialize}
use Rattle.wf_variables.specs.Initials.{made_of_items, pushed}
use Rattle.wf_variables.specs.Rows.{AreItems, GivesAll, GivesOne, KeepsType}
use Rattle.wf_variables.specs.Sorts.{are_alike, empty_of, of_sort}
use Rattle.wf_def.specs.Sorts.{has_sort}
use Rattle.wf_variables.specs.Writing as writing
use Rattle.wf_variables.specs.Writing.{Change, moved, written}

-- ---- what is kept is what was made

bounded-is : (t u : ValueTree) → bounded t ≡ Ok u → t ≡ u
bounded-is t u = go (fits t)
  where
    go : (b : Bool) → (if b then Ok t else Err (EvalFault.TooBig (cut_u32 (depth t)) (cut_u64 (weight t)))) ≡ Ok u → t ≡ u
    go true e = cc
    go false e = absurd cc

both-are : (o : ValueTree) (a b : Answer) (m : MadeTree) → ((u : ValueTree) → b ≡ Ok u → o ≡ u) →
    given a (λ x. given b (λ y. Ok (record { inputs = x; outputs = y }))) ≡ Ok m → m.outputs ≡ o
both-are o (Ok x) (Ok y) m is e =
    let made : MadeTree = record { inputs = x; outputs = y } in
    let same : made ≡ m = cc in
    ap (λ (q : MadeTree). q.outputs) (sym same) ∙ sym (is y refl)
both-are o (Ok x) (Err f) m is e = absurd cc
both-are o (Err f) b m is e = absurd cc

fitting-is : (i o : ValueTree) (m : MadeTree) → fitting i o ≡ Ok m → m.outputs ≡ o
fitting-is i o m e = both-are o (bounded i) (bounded o) m (bounded-is o) e

-- ---- variables that are made

of_sort-has : (s : Sort) (t v : ValueTree) → of_sort s t ≡ Ok v → has_sort s v ≡ true
of_sort-has s t v = go (has_sort s t) refl
  where
    go : (b : Bool) → has_sort s t ≡ b → (if b then Ok t else Err (wrong_type Fun.Variable 0)) ≡ Ok v → has_sort s v ≡ true
    go true has e = let same : t ≡ v = cc in subst (λ u. has_sort s u ≡ true) same has
    go false has e = absurd cc

empty-has : (s : Sort) → has_sort s (empty_of s) ≡ true
empty-has Sort.Bool = refl
empty-has Sort.Int = refl
empty-has Sort.Text = refl
empty-has Sort.List = refl
empty-has Sort.Obj = refl

turned-has : (s : Sort) (o : Outcome) (v : ValueTree) → (turned (of_sort s) o).0 ≡ Ok v → has_sort s v ≡ true
turned-has s (Ok t, n) v e = of_sort-has s t v e
turned-has s (Err f, n) v e = absurd cc

initial-has : (l : Told) (s : Sort) (t : Option DataTree) (n : ℕ) (v : ValueTree) → (initial_by l s t n).0 ≡ Ok v → has_sort s v ≡ true
initial-has l s None n v e = let same : empty_of s ≡ v = cc in subst (λ u. has_sort s u ≡ true) same (empty-has s)
initial-has l s (Some t) n v e = turned-has s (tree_value l t n) v e

-- behind those that are there, the items of these
abbrev Adds : List InitialTree → List ValueTree → List ValueTree → Type 0
Adds is before after = (ts : List ValueTree) × AreItems is ts × (after ≡ before ++ ts)

abbrev Made : Type 0
Made = Result ItemsTree EvalFault × ℕ

step : (l : Told) (i : InitialTree) (is : List InitialTree) (done r : ItemsTree) (o : Outcome) →
    ((v : ValueTree) → o.0 ≡ Ok v → has_sort i.sort v ≡ true) →
    ((v : ValueTree) (m : ℕ) → (initials_after l is (pushed i v done) m).0 ≡ Ok r → Adds is (pushed i v done).given r.given) →
    (goes_on o (λ v m. initials_after l is (pushed i v done) m)).0 ≡ Ok r → Adds (i ∷ is) done.given r.given
step l i is done r (Ok v, m) has rest e =
    let more = rest v m e in
    let item = given_item i.name v in
    (item ∷ more.0, ((v, refl, has v refl), more.1), more.2 ∙ append_assoc done.given (item ∷ []) more.0)
step l i is done r (Err f, m) has rest e = absurd cc

initials-add : (l : Told) (is : List InitialTree) (done : ItemsTree) (n : ℕ) (r : ItemsTree) → (initials_after l is done n).0 ≡ Ok r →
    Adds is done.given r.given
initials-add l [] done n r e =
    let same : done ≡ r = cc in ([], tt, ap (λ (q : ItemsTree). q.given) (sym same) ∙ sym (append-nil done.given))
initials-add l (i ∷ is) done n r e =
    step l i is done r (initial_value l i n) (initial-has l i.sort i.value n) (λ v m. initials-add l is (pushed i v done) m r) e

abbrev nothing : ItemsTree
nothing = record { kept = []; given = [] }

all_given : (is : List InitialTree) (o : Result ItemsTree EvalFault) (m : MadeTree) →
    ((r : ItemsTree) → o ≡ Ok r → Adds is [] r.given) → given o made_of_items ≡ Ok m → GivesAll is m.outputs
all_given is (Ok r) m adds e =
    let found = adds r refl in (
      found.0,
      found.1,
      fitting-is (one_member (codes "variables") (list (trees r.kept))) (one_member (codes "body") (body_of r.given)) m e
          ∙ ap (λ ts. one_member (codes "body") (body_of ts)) found.2,
    )
all_given is (Err f) m adds e = absurd cc

pub initialized : (l : Told) (is : List InitialTree) (n : ℕ) (m : MadeTree) → (made_initialize l is n).0 ≡ Ok m → GivesAll is m.outputs
initialized l is n m e = all_given is (initials_after l is nothing n).0 m (λ r. initials-add l is nothing n r) e

-- ---- a variable that is written

abbrev Keeps : Change → Type 0
Keeps change = (k : List ℕ) (s : Sort) (u v : ValueTree) (m : MadeTree) → has_sort s u ≡ true → change k u v ≡ Ok m → GivesOne k s m.outputs

written-gives : (k : List ℕ) (s : Sort) (v new : ValueTree) (m : MadeTree) → has_sort s new ≡ true → written k v new ≡ Ok m →
    GivesOne k s m.outputs
written-gives k s v new m has e =
    (given_item k new, (new, refl, has), fitting-is (given_item k v) (one_member (codes "body") (given_item k new)) m e)

alike-has : (s : Sort) (u v : ValueTree) → has_sort s u ≡ true → are_alike u v ≡ true → has_sort s v ≡ true
alike-has Sort.Bool (boolean a) v has same = same
alike-has Sort.Int (number a) v has same = same
alike-has Sort.Text (text a) v has same = same
alike-has Sort.List (list a) v has same = same
alike-has Sort.Obj (object a) v has same = same
alike-has s u v has same = absurd (true≢false (sym has))

set-keeps : Keeps writing.set_to
set-keeps k s u v m has = go (are_alike u v) refl
  where
    go : (b : Bool) → are_alike u v ≡ b → (if b then written k v v else Err (wrong_type Fun.Variable 0)) ≡ Ok m → GivesOne k s m.outputs
    go true same e = written-gives k s v v m (alike-has s u v has same) e
    go false same e = absurd cc

moved-gives : (k : List ℕ) (s : Sort) (a by new : ℤ) (m : MadeTree) → has_sort s (number a) ≡ true → moved k by new ≡ Ok m →
    GivesOne k s m.outputs
moved-gives k s a by new m has = go (fits_i64 new)
  where
    go : (b : Bool) → (if b then written k (number by) (number new) else Err (EvalFault.Range Fun.Variable)) ≡ Ok m → GivesOne k s m.outputs
    go true e = written-gives k s (number by) (number new) m (alike-has s (number a) (number new) has refl) e
    go false e = absurd cc

increment-keeps : Keeps writing.incremented
increment-keeps k s (number a) (number b) m has e = moved-gives k s a b (a +ℤ b) m has e
increment-keeps k s u v m has e = absurd cc

decrement-keeps : Keeps writing.decremented
decrement-keeps k s (number a) (number b) m has e = moved-gives k s a b (a -ℤ b) m has e
decrement-keeps k s u v m has e = absurd cc

item-keeps : Keeps writing.with_item
item-keeps k s (list ts) v m has e =
    written-gives k s v (list (trees (items ts ++ v ∷ []))) m (alike-has s (list ts) (list (trees (items ts ++ v ∷ []))) has refl) e
item-keeps k s u v m has e = absurd cc

text-keeps : Keeps writing.with_text
text-keeps k s (text t) v m has e =
    written-gives k s v (text (t ++ json_text.text v)) m (alike-has s (text t) (text (t ++ json_text.text v)) has refl) e
text-keeps k s u v m has e = absurd cc

given-keeps : (change : Change) → Keeps change →
    (k : List ℕ) (s : Sort) (x : Option ValueTree) (u : ValueTree) (a : Answer) (m : MadeTree) → x ≡ Some u →
    has_sort s u ≡ true → given a (λ v. given (or_no_value k x) (λ w. change k w v)) ≡ Ok m → GivesOne k s m.outputs
given-keeps change keeps k s (Some w) u (Ok v) m is has e =
    let same : u ≡ w = cc in keeps k s w v m (subst (λ y. has_sort s y ≡ true) same has) e
given-keeps change keeps k s None u (Ok v) m is has e = absurd cc
given-keeps change keeps k s x u (Err f) m is has e = absurd cc

keeps_type : (change : Change) → Keeps change → KeepsType change
keeps_type change keeps l k s u o m is has e = given-keeps change keeps k s (l.variable k) u o.0 m is has e

pub set-type : KeepsType writing.set_to
set-type = keeps_type writing.set_to set-keeps

pub increment-type : KeepsType writing.incremented
increment-type = keeps_type writing.incremented increment-keeps

pub decrement-type : KeepsType writing.decremented
decrement-type = keeps_type writing.decremented decrement-keeps

pub item-type : KeepsType writing.with_item
item-type = keeps_type writing.with_item item-keeps

pub text-type : KeepsType writing.with_text
text-type = keeps_type writing.with_text text-keeps
