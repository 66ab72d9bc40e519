-- The number of a variable tells it from all others, and an action writes the variables whose numbers are told of it.
use Rattle.std.proofs.Common.{◌≡◌, ℕ, suc, ◌≤◌, Bool, true, false, ◌||◌, List, [], ◌∷◌, ◌++◌, Option, Some, None, ◌⊎◌, inl, inr, refl}
use Rattle.std.proofs.Common.{sym, ap, ◌∙◌, subst, arith, nat_eq, eqb-true, true≢false}
use Rattle.std.specs.Prelude.{bytes_eq, flat_map}
use Rattle.std.specs.List.{list_any}
use Rattle.std.proofs.lemmas.Option.{none-some}
use Rattle.std.proofs.lemmas.Slice.Eq.{bytes_eq-Decides}
use Rattle.wf_layers.specs.Listed.{Among}
use Rattle.wf_layers.proofs.Basics.{either, or_first, or_second, same_self, two, unless, when}
use Rattle.wf_asks.specs.Known.{is_among}
use Rattle.wf_def.specs.ActionTree.{ActionTree, action_kind}
use Rattle.wf_def.specs.AllActions.{all_actions, has_number, numbered}
use Rattle.wf_def.specs.DefTree.{DefTree}
use Rattle.wf_meant_laws.specs.Sites.{writes_of}
use Rattle.wf_meant_laws.specs.Writers.{is_writer, writes_if}
use Rattle.wf_meant_laws.proofs.WriterLemmas.{find_is, some_is}
use Rattle.wf_sight.specs.CatalogVariables.{first_place, listed, numbers_by, numbers_of, variable_number, written, written_names}

-- ---- truth values and names

pub same_truth : (b c : Bool) → (b ≡ true → c ≡ true) → (c ≡ true → b ≡ true) → b ≡ c
same_truth true c to from = sym (to refl)
same_truth false true to from = from refl
same_truth false false to from = refl

pub same_name : (k n : List ℕ) → bytes_eq k n ≡ true → k ≡ n
same_name k n e = (bytes_eq-Decides k n).0 e

pub own_name : (k : List ℕ) → bytes_eq k k ≡ true
own_name k = (bytes_eq-Decides k k).1 refl

pub any_front : (k : List ℕ) (xs ys : List (List ℕ)) → list_any (bytes_eq k) xs ≡ true → list_any (bytes_eq k) (xs ++ ys) ≡ true
any_front k [] ys is = absurd (true≢false (sym is))
any_front k (x ∷ xs) ys is = elim (either (bytes_eq k x) (list_any (bytes_eq k) xs) is) [
  | inl t ↦ or_first (bytes_eq k x) (list_any (bytes_eq k) (xs ++ ys)) t
  | inr r ↦ or_second (bytes_eq k x) (list_any (bytes_eq k) (xs ++ ys)) (any_front k xs ys r)
]

pub any_back : (k : List ℕ) (xs ys : List (List ℕ)) → list_any (bytes_eq k) ys ≡ true → list_any (bytes_eq k) (xs ++ ys) ≡ true
any_back k [] ys is = is
any_back k (x ∷ xs) ys is = or_second (bytes_eq k x) (list_any (bytes_eq k) (xs ++ ys)) (any_back k xs ys is)

any_named : (k : List ℕ) (f : ActionTree → List (List ℕ)) (as' : List ActionTree) (a : ActionTree) → Among as' a
    → list_any (bytes_eq k) (f a) ≡ true → list_any (bytes_eq k) (flat_map f as') ≡ true
any_named k f [] a among is = absurd among
any_named k f (b ∷ as') a (inl same) is =
    any_front k (f b) (flat_map f as') (subst (λ (c : ActionTree). list_any (bytes_eq k) (f c) ≡ true) (sym same) is)
any_named k f (b ∷ as') a (inr later) is = any_back k (f b) (flat_map f as') (any_named k f as' a later is)

-- ---- where a name stands first

place_from : (i : ℕ) (ns : List (List ℕ)) (k : List ℕ) (v : ℕ) → first_place i ns k ≡ Some v → i ≤ v
place_from i [] k v e = absurd (none-some v e)
place_from i (n ∷ ns) k v e = elim (two (bytes_eq k n)) [
  | inl t ↦
      let same : i ≡ v = some_is (sym (when (bytes_eq k n) (Some i) (first_place (suc i) ns k) t) ∙ e) in
      omega (arith, same)
  | inr f ↦
      let later = place_from (suc i) ns k v (sym (unless (bytes_eq k n) (Some i) (first_place (suc i) ns k) f) ∙ e) in
      omega (arith, later)
]

one_place : (i : ℕ) (ns : List (List ℕ)) (k m : List ℕ) (v : ℕ) → first_place i ns k ≡ Some v → first_place i ns m ≡ Some v → k ≡ m
one_place i [] k m v e g = absurd (none-some v e)
one_place i (n ∷ ns) k m v e g = elim (two (bytes_eq k n)) [
  | inl t ↦ elim (two (bytes_eq m n)) [
    | inl u ↦ same_name k n t ∙ sym (same_name m n u)
    | inr f ↦ apart v (some_is (sym (when (bytes_eq k n) (Some i) (first_place (suc i) ns k) t) ∙ e))
        (place_from (suc i) ns m v (sym (unless (bytes_eq m n) (Some i) (first_place (suc i) ns m) f) ∙ g))
  ]
  | inr f ↦ elim (two (bytes_eq m n)) [
    | inl u ↦ apart v (some_is (sym (when (bytes_eq m n) (Some i) (first_place (suc i) ns m) u) ∙ g))
        (place_from (suc i) ns k v (sym (unless (bytes_eq k n) (Some i) (first_place (suc i) ns k) f) ∙ e))
    | inr h ↦ one_place (suc i) ns k m v (sym (unless (bytes_eq k n) (Some i) (first_place (suc i) ns k) f) ∙ e)
        (sym (unless (bytes_eq m n) (Some i) (first_place (suc i) ns m) h) ∙ g)
  ]
]
  where
    apart : (v : ℕ) → i ≡ v → suc i ≤ v → k ≡ m
    apart v same later = absurd (omega (arith, same, later))

has_place : (i : ℕ) (ns : List (List ℕ)) (k : List ℕ) → list_any (bytes_eq k) ns ≡ true → (v : ℕ) × (first_place i ns k ≡ Some v)
has_place i [] k is = absurd (true≢false (sym is))
has_place i (n ∷ ns) k is = elim (two (bytes_eq k n)) [
  | inl t ↦ (i, when (bytes_eq k n) (Some i) (first_place (suc i) ns k) t)
  | inr f ↦
      let later = has_place (suc i) ns k (sym (ap (λ (b : Bool). b || list_any (bytes_eq k) ns) f) ∙ is) in
      (later.0, unless (bytes_eq k n) (Some i) (first_place (suc i) ns k) f ∙ later.1)
]

-- ---- the numbers of several names

among_joined : (v : ℕ) (o : Option ℕ) (rest : List ℕ) → is_among v (listed o ++ rest) ≡ true → (o ≡ Some v) ⊎ (is_among v rest ≡ true)
among_joined v None rest is = inr is
among_joined v (Some m) rest is = elim (either (nat_eq m v) (is_among v rest) is) [
  | inl t ↦ inl (ap (λ (n : ℕ). Some n) (eqb-true m v t))
  | inr r ↦ inr r
]

among_here : (v : ℕ) (o : Option ℕ) (rest : List ℕ) → o ≡ Some v → is_among v (listed o ++ rest) ≡ true
among_here v None rest e = absurd (none-some v e)
among_here v (Some m) rest e =
    or_first (nat_eq m v) (is_among v rest) (subst (λ (n : ℕ). nat_eq n v ≡ true) (sym (some_is e)) (same_self v))

among_there : (v : ℕ) (o : Option ℕ) (rest : List ℕ) → is_among v rest ≡ true → is_among v (listed o ++ rest) ≡ true
among_there v None rest is = is
among_there v (Some m) rest is = or_second (nat_eq m v) (is_among v rest) is

module _ (number : List ℕ → Option ℕ) (v : ℕ) where
  pub record Numbered (ks : List (List ℕ)) : Type 0 where
    pub name : List ℕ
    pub among : list_any (bytes_eq name) ks ≡ true
    pub is : number name ≡ Some v

  numbered_name : (ks : List (List ℕ)) → is_among v (numbers_by number ks) ≡ true → Numbered ks
  numbered_name [] is = absurd (true≢false (sym is))
  numbered_name (k ∷ ks) is = elim (among_joined v (number k) (numbers_by number ks) is) [
    | inl e ↦ record { name = k; among = or_first (bytes_eq k k) (list_any (bytes_eq k) ks) (own_name k); is = e }
    | inr r ↦
        let h = numbered_name ks r in
        record { name = h.name; among = or_second (bytes_eq h.name k) (list_any (bytes_eq h.name) ks) h.among; is = h.is }
  ]

  name_numbered : (ks : List (List ℕ)) (k : List ℕ) → list_any (bytes_eq k) ks ≡ true → number k ≡ Some v
      → is_among v (numbers_by number ks) ≡ true
  name_numbered [] k is e = absurd (true≢false (sym is))
  name_numbered (n ∷ ks) k is e = elim (either (bytes_eq k n) (list_any (bytes_eq k) ks) is) [
    | inl t ↦ among_here v (number n) (numbers_by number ks)
        (subst (λ (m : List ℕ). number m ≡ Some v) (same_name k n t) e)
    | inr r ↦ among_there v (number n) (numbers_by number ks) (name_numbered ks k r e)
  ]

-- ---- writers, by names and by numbers

module _ (d : DefTree) where
  pub one_number : (k m : List ℕ) (v : ℕ) → variable_number d k ≡ Some v → variable_number d m ≡ Some v → k ≡ m
  one_number k m v e g = one_place 0 (written_names (all_actions d.top)) k m v e g

  -- the action of the number n writes the variable of the number v
  pub record Writer (v n : ℕ) : Type 0 where
    pub name : List ℕ
    pub number : variable_number d name ≡ Some v
    pub is : is_writer d name n ≡ true

  named_writer : (v : ℕ) (o : Option ActionTree) → is_among v (numbers_of d o) ≡ true
      → (k : List ℕ) × (variable_number d k ≡ Some v) × (writes_if k o ≡ true)
  named_writer v None is = absurd (true≢false (sym is))
  named_writer v (Some a) is =
      let h = numbered_name (variable_number d) v (writes_of (action_kind a)) is in (h.name, h.is, h.among)

  pub writer_of : (v n : ℕ) → is_among v (written d n) ≡ true → Writer v n
  writer_of v n is = let h = named_writer v (numbered n d.top) is in record { name = h.0; number = h.1; is = h.2 }

  numbered_writer : (v : ℕ) (k : List ℕ) (o : Option ActionTree) → variable_number d k ≡ Some v → writes_if k o ≡ true
      → is_among v (numbers_of d o) ≡ true
  numbered_writer v k None number is = absurd (true≢false (sym is))
  numbered_writer v k (Some a) number is = name_numbered (variable_number d) v (writes_of (action_kind a)) k is number

  pub writer_same : (k : List ℕ) (v n : ℕ) → variable_number d k ≡ Some v → is_among v (written d n) ≡ is_writer d k n
  writer_same k v n number =
      same_truth (is_among v (written d n)) (is_writer d k n)
      (λ t. let w = writer_of v n t in
      subst (λ (m : List ℕ). is_writer d m n ≡ true) (one_number w.name k v w.number number) w.is)
      (λ t. numbered_writer v k (numbered n d.top) number t)

  has_number_by : (k : List ℕ) (n : ℕ) (o : Option ActionTree) → numbered n d.top ≡ o → writes_if k o ≡ true
      → (v : ℕ) × (variable_number d k ≡ Some v)
  has_number_by k n None is wr = absurd (true≢false (sym wr))
  has_number_by k n (Some a) is wr =
      has_place 0 (written_names (all_actions d.top)) k
      (any_named k (λ (b : ActionTree). writes_of (action_kind b)) (all_actions d.top) a
      (find_is (has_number n) (all_actions d.top) a is).among wr)

  -- what is written has a number
  pub written_has_number : (k : List ℕ) (n : ℕ) → is_writer d k n ≡ true → (v : ℕ) × (variable_number d k ≡ Some v)
  written_has_number k n wr = has_number_by k n (numbered n d.top) refl wr
