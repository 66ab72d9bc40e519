-- An action that writes variables and Succeeded gives each of them a value.
use Rattle.std.proofs.Common.{◌≡◌, ℕ, Bool, true, false, List, [], ◌∷◌, ◌++◌, Option, Some, None, Result, Ok, Err, inl, inr, refl, sym, ap}
use Rattle.std.proofs.Common.{◌∙◌, subst, true≢false}
use Rattle.std.specs.Prelude.{ℤ, ◌+ℤ◌, ◌-ℤ◌, bytes_eq, codes, if◌then◌else◌, map}
use Rattle.std.specs.List.{list_any}
use Rattle.std.proofs.lemmas.Slice.Eq.{bytes_eq-Decides}
use Rattle.wf_val.specs.Arguments.{Answer, bounded, fits_i64, given, wrong_type}
use Rattle.wf_val.specs.Cut.{cut_u32, cut_u64}
use Rattle.wf_val.specs.ValueTree.{ValueTree, depth, fits, items, list, number, text, trees, weight}
use Rattle.wf_val.specs.declared.address.Address as named
use Rattle.wf_val.specs.declared.fault.EvalFault.{EvalFault}
use Rattle.wf_val.specs.declared.function.Fun.{Fun}
use Rattle.wf_val.proofs.ValueTreeLemmas.{items-trees}
use Rattle.wf_json.specs.Json as json_text
use Rattle.wf_instance.specs.AnswerTree.{AnswerTree}
use Rattle.wf_layers.specs.Address.{Address, Table}
use Rattle.wf_layers.proofs.Basics.{either}
use Rattle.wf_instance.specs.Looked.{or_no_value}
use Rattle.wf_instance.specs.Told.{Told}
use Rattle.wf_seen_laws.specs.ActionTree.{ActionTree, InitialTree, KindTree, action_kind, action_name}
use Rattle.wf_seen_laws.specs.ActionTree.{append_array, append_string, decrement}
use Rattle.wf_seen_laws.specs.ActionTree.{increment, initialize, set_to}
use Rattle.wf_seen_laws.specs.DefTree.{DefTree}
use Rattle.wf_instance.specs.Sites.{writes_of}
use Rattle.wf_instance.specs.Made.{MadeTree, fitting, one_member}
use Rattle.wf_instance.specs.Given.{gives, item_value, items_value, or_else}
use Rattle.wf_instance.specs.Initials.{body_of, given_item, made_initialize}
use Rattle.wf_instance.specs.VariablesRows.{AreItems, GivesAll}
use Rattle.wf_instance.specs.Sorts.{are_alike}
use Rattle.wf_instance.specs.Writing as writing
use Rattle.wf_instance.specs.Writing.{Change}
use Rattle.wf_instance.specs.Done.{DoneTree, faulted, succeeded}
use Rattle.wf_instance.specs.Leaf.{begun_from, done_of, ended, made_by}
use Rattle.wf_record.specs.Record.{Row}
use Rattle.wf_record.specs.declared.status.Status.{Status}
use Rattle.wf_instance.specs.Environment.{Environment, facts_of}
use Rattle.wf_instance.specs.Look.{instance, told_at}
use Rattle.wf_instance.specs.Source.{begun, finished}
use Rattle.wf_instance.specs.MeantVariables.{given_as, given_by}
use Rattle.wf_meant_laws.specs.Writers.{writes_if}

same_name : (k n : List ℕ) → bytes_eq k n ≡ true → k ≡ n
same_name k n e = (bytes_eq-Decides k n).0 e

-- ---- what an action keeps is what it made

bounded_is : (t u : ValueTree) → bounded t ≡ Ok u → t ≡ u
bounded_is t u = go (fits t)
  where
    go : (b : Bool) → (if b then Ok t else Err (EvalFault.TooBig (cut_u32 (depth t)) (cut_u64 (weight t)))) ≡ Ok u → t ≡ u
    go true e = cc
    go false e = absurd cc

both_are : (o : ValueTree) (a b : Answer) (m : MadeTree) → ((u : ValueTree) → b ≡ Ok u → o ≡ u)
    → given a (λ x. given b (λ y. Ok (record { inputs = x; outputs = y }))) ≡ Ok m → m.outputs ≡ o
both_are o (Ok x) (Ok y) m is e =
    let made : MadeTree = record { inputs = x; outputs = y } in
    let same : made ≡ m = cc in
    ap (λ (q : MadeTree). q.outputs) (sym same) ∙ sym (is y refl)
both_are o (Ok x) (Err f) m is e = absurd cc
both_are o (Err f) b m is e = absurd cc

fitting_is : (i o : ValueTree) (m : MadeTree) → fitting i o ≡ Ok m → m.outputs ≡ o
fitting_is i o m e = both_are o (bounded i) (bounded o) m (bounded_is o) e

-- ---- a change gives a value

abbrev Gives : List ℕ → ValueTree → Type 0
Gives k outputs = (v : ValueTree) × (gives k outputs ≡ Some v)

abbrev GivesNew : Change → Type 0
GivesNew change =
    (k : List ℕ) (u v : ValueTree) (m : MadeTree) → change k u v ≡ Ok m
    → (new : ValueTree) × (m.outputs ≡ one_member (codes "body") (given_item k new))

written_new : (k : List ℕ) (v new : ValueTree) (m : MadeTree) → writing.written k v new ≡ Ok m
    → (new : ValueTree) × (m.outputs ≡ one_member (codes "body") (given_item k new))
written_new k v new m e = (new, fitting_is (given_item k v) (one_member (codes "body") (given_item k new)) m e)

set_gives : GivesNew writing.set_to
set_gives k u v m = go (are_alike u v)
  where
    go : (b : Bool) → (if b then writing.written k v v else Err (wrong_type Fun.Variable 0)) ≡ Ok m
        → (new : ValueTree) × (m.outputs ≡ one_member (codes "body") (given_item k new))
    go true e = written_new k v v m e
    go false e = absurd cc

moved_gives : (k : List ℕ) (by new : ℤ) (m : MadeTree) → writing.moved k by new ≡ Ok m
    → (new : ValueTree) × (m.outputs ≡ one_member (codes "body") (given_item k new))
moved_gives k by new m = go (fits_i64 new)
  where
    go : (b : Bool) → (if b then writing.written k (number by) (number new) else Err (EvalFault.Range Fun.Variable)) ≡ Ok m
        → (new : ValueTree) × (m.outputs ≡ one_member (codes "body") (given_item k new))
    go true e = written_new k (number by) (number new) m e
    go false e = absurd cc

incremented_gives : GivesNew writing.incremented
incremented_gives k (number a) (number b) m e = moved_gives k b (a +ℤ b) m e
incremented_gives k u v m e = absurd cc

decremented_gives : GivesNew writing.decremented
decremented_gives k (number a) (number b) m e = moved_gives k b (a -ℤ b) m e
decremented_gives k u v m e = absurd cc

item_gives : GivesNew writing.with_item
item_gives k (list ts) v m e = written_new k v (list (trees (items ts ++ v ∷ []))) m e
item_gives k u v m e = absurd cc

text_gives : GivesNew writing.with_text
text_gives k (text t) v m e = written_new k v (text (t ++ json_text.text v)) m e
text_gives k u v m e = absurd cc

-- ---- what begins with several gives each

or_some : (o p : Option ValueTree) (v : ValueTree) → p ≡ Some v → (u : ValueTree) × (or_else o p ≡ Some u)
or_some None p v e = (v, e)
or_some (Some u) p v e = (u, refl)

-- of variables that are made, and of one that is changed
pub record Known : Type 0 where
  pub all : (l : Told) (is : List InitialTree) (n : ℕ) (m : MadeTree) → (made_initialize l is n).0 ≡ Ok m → GivesAll is m.outputs
  pub found : (k : List ℕ) (v : ValueTree) → gives k (one_member (codes "body") (given_item k v)) ≡ Some v

module _ (known : Known) where
  item_found : (k n : List ℕ) (t v : ValueTree) → bytes_eq k n ≡ true → t ≡ given_item n v → item_value k t ≡ Some v
  item_found k n t v is same =
      ap (item_value k) (same ∙ ap (λ (q : List ℕ). given_item q v) (sym (same_name k n is))) ∙ known.found k v

  items_give : (is : List InitialTree) (ts : List ValueTree) (k : List ℕ) → AreItems is ts
      → list_any (bytes_eq k) (map (λ i. i.name) is) ≡ true → (v : ValueTree) × (items_value k ts ≡ Some v)
  items_give [] [] k are among = absurd (true≢false (sym among))
  items_give [] (t ∷ ts) k are among = absurd are
  items_give (i ∷ is) [] k are among = absurd are
  items_give (i ∷ is) (t ∷ ts) k are among = elim (either (bytes_eq k i.name) (list_any (bytes_eq k) (map (λ j. j.name) is)) among) [
    | inl h ↦
        (are.0.0, ap (λ (o : Option ValueTree). or_else o (items_value k ts)) (item_found k i.name t are.0.0 h are.0.1))
    | inr later ↦
        let r = items_give is ts k are.1 later in or_some (item_value k t) (items_value k ts) r.0 r.1
  ]

  body_gives : (is : List InitialTree) (ts : List ValueTree) (k : List ℕ) → AreItems is ts
      → list_any (bytes_eq k) (map (λ i. i.name) is) ≡ true → Gives k (one_member (codes "body") (body_of ts))
  body_gives [] [] k are among = absurd (true≢false (sym among))
  body_gives [] (t ∷ ts) k are among = absurd are
  body_gives (i ∷ is) [] k are among = absurd are
  body_gives (i ∷ []) (t ∷ []) k are among = elim (either (bytes_eq k i.name) false among) [
    | inl h ↦ (
      are.0.0,
      ap (λ (q : ValueTree). gives k (one_member (codes "body") q))
          (are.0.1 ∙ ap (λ (q : List ℕ). given_item q are.0.0) (sym (same_name k i.name h))) ∙ known.found k are.0.0,
    )
    | inr f ↦ absurd (true≢false (sym f))
  ]
  body_gives (i ∷ j ∷ is) (t ∷ []) k are among = absurd are.1
  body_gives (i ∷ is) (t ∷ u ∷ ts) k are among =
      let r = items_give (i ∷ is) (t ∷ u ∷ ts) k are among in
      (r.0, ap (items_value k) (items-trees (t ∷ u ∷ ts)) ∙ r.1)

  initials_give : (is : List InitialTree) (outputs : ValueTree) (k : List ℕ) → GivesAll is outputs
      → list_any (bytes_eq k) (map (λ i. i.name) is) ≡ true → Gives k outputs
  initials_give is outputs k all among = subst (Gives k) (sym all.2) (body_gives is all.0 k all.1 among)

  new_gives : (k n : List ℕ) (outputs new : ValueTree) → list_any (bytes_eq k) (n ∷ []) ≡ true
      → outputs ≡ one_member (codes "body") (given_item n new) → Gives k outputs
  new_gives k n outputs new among same = elim (either (bytes_eq k n) false among) [
    | inl h ↦ (
      new,
      ap (gives k) (same ∙ ap (λ (q : List ℕ). one_member (codes "body") (given_item q new)) (sym (same_name k n h)))
          ∙ known.found k new,
    )
    | inr f ↦ absurd (true≢false (sym f))
  ]

  changed_gives : (change : Change) → GivesNew change → (k n : List ℕ) → list_any (bytes_eq k) (n ∷ []) ≡ true → (a b : Answer)
      (m : MadeTree) → given a (λ v. given b (λ u. change n u v)) ≡ Ok m → Gives k m.outputs
  changed_gives change new k n among (Ok v) (Ok u) m e =
      let r = new n u v m e in new_gives k n m.outputs r.0 among r.1
  changed_gives change new k n among (Ok v) (Err f) m e = absurd cc
  changed_gives change new k n among (Err f) b m e = absurd cc

  -- ---- what a leaf comes to

  abbrev GivesIf : List ℕ → DoneTree → Type 0
  GivesIf k d = d.status ≡ Status.Succeeded → (v : ValueTree) × (given_as k d.status d.outputs ≡ Some v)

  done_gives : (kind : KindTree) (k : List ℕ) → ((m : MadeTree) → done_of kind (Ok m) ≡ succeeded m)
      → ((f : EvalFault) → done_of kind (Err f) ≡ faulted f) → (r : Result MadeTree EvalFault)
      → ((m : MadeTree) → r ≡ Ok m → Gives k m.outputs) → GivesIf k (done_of kind r)
  done_gives kind k fine faulty (Ok m) made = subst (GivesIf k) (sym (fine m)) (λ is. made m refl)
  done_gives kind k fine faulty (Err f) made = subst (GivesIf k) (sym (faulty f)) (λ is. absurd (cc))

  made_gives : (l : Told) (kind : KindTree) (k : List ℕ) → list_any (bytes_eq k) (writes_of kind) ≡ true → (answers : List AnswerTree)
      (x : named.Address) → GivesIf k (ended answers x (begun_from l kind 0))
  made_gives l (initialize is) k wr answers x =
      done_gives (initialize is) k (λ m. refl) (λ f. refl) (made_by l (initialize is) 0).0
      (λ m e. initials_give is m.outputs k (known.all l is 0 m e) wr)
  made_gives l (set_to n t) k wr answers x =
      done_gives (set_to n t) k (λ m. refl) (λ f. refl) (made_by l (set_to n t) 0).0
      (λ m e. changed_gives writing.set_to set_gives k n wr _ (or_no_value n (l.variable n)) m e)
  made_gives l (increment n t) k wr answers x =
      done_gives (increment n t) k (λ m. refl) (λ f. refl) (made_by l (increment n t) 0).0
      (λ m e. changed_gives writing.incremented incremented_gives k n wr _ (or_no_value n (l.variable n)) m e)
  made_gives l (decrement n t) k wr answers x =
      done_gives (decrement n t) k (λ m. refl) (λ f. refl) (made_by l (decrement n t) 0).0
      (λ m e. changed_gives writing.decremented decremented_gives k n wr _ (or_no_value n (l.variable n)) m e)
  made_gives l (append_array n t) k wr answers x =
      done_gives (append_array n t) k (λ m. refl) (λ f. refl) (made_by l (append_array n t) 0).0
      (λ m e. changed_gives writing.with_item item_gives k n wr _ (or_no_value n (l.variable n)) m e)
  made_gives l (append_string n t) k wr answers x =
      done_gives (append_string n t) k (λ m. refl) (λ f. refl) (made_by l (append_string n t) 0).0
      (λ m e. changed_gives writing.with_text text_gives k n wr _ (or_no_value n (l.variable n)) m e)
  made_gives l kind k wr answers x = absurd (true≢false (sym wr))

  -- ---- and its row

  abbrev pub RowGives : List ℕ → Row → Type 0
  RowGives k r = r.status ≡ Status.Succeeded → (v : ValueTree) × (given_by k r ≡ Some v)

  pub ended_gives : (d : DefTree) (e : Environment) (o : Option ActionTree) (y : Address) (f : Table Row) (k : List ℕ)
      → writes_if k o ≡ true → RowGives k (finished d e o y (begun d e o y f) f)
  ended_gives d e None y f k wr = absurd (true≢false (sym wr))
  ended_gives d e (Some a) y f k wr =
      made_gives (told_at d e y f) (action_kind a) k wr (facts_of e (action_name a)).answers (instance d y)
