-- The way to what stands in a container goes over the container.
use Rattle.std.proofs.Common.{◌≡◌, ℕ, zero, suc, ◌+◌, Bool, true, false, ◌||◌, cond, [], ◌∷◌, ◌++◌, Some, ◌⊎◌, inl, inr, refl, sym, ap, ◌∙◌, subst, nat_eq, arith, eqb-true, true≢false}
use Rattle.std.proofs.lemmas.Option.{none-some}
use Rattle.wf_layers.specs.Definition.{Kind, Leaf, Scope, Choice, Foreach, Until, Branches, no_branch, branch, Graph, done, add, holds, has, has_any, has_own, kind_of, kind_in, kind_any}
use Rattle.wf_layers.specs.Seen.{Once, OnceIn, OnceAny}
use Rattle.wf_layers.proofs.Basics.{either, not_true, or_first, or_second, same_self, two, unless, when}
use Rattle.wf_ways.specs.CalledBy.{IsBehind}
use Rattle.wf_ways.specs.Way.{Into, whole, branch_of, item, round, step, enters, enters_branch, way, way_any, way_in}

clash : (b : Bool) → b ≡ true → b ≡ false → ⊥
clash b yes' no' = true≢false (sym yes' ∙ no')

-- the rest of a disjunction whose first part isn't so
second : (p q : Bool) → p ≡ false → (p || q) ≡ true → q ≡ true
second p q out is = ap (λ c. c || q) (sym out) ∙ is

some_same : (p q : Kind) → Some p ≡ Some q → p ≡ q
some_same p q is = cc

-- ---- what stands where

pub own_stands : (g : Graph) (x : ℕ) → has_own g x ≡ true → has g x ≡ true
own_stands done x is = absurd (cc)
own_stands (add n after kind g) x is = elim (either (nat_eq n x) (has_own g x) is) [
  | inl same ↦ or_first (nat_eq n x || holds kind x) (has g x) (or_first (nat_eq n x) (holds kind x) same)
  | inr later ↦ or_second (nat_eq n x || holds kind x) (has g x) (own_stands g x later)
]

branch_stands : (bs : Branches) (k x : ℕ) → enters_branch bs k x ≡ true → has_any bs x ≡ true
branch_stands no_branch k x is = absurd (cc)
branch_stands (branch b bs) zero x is = or_second (has b x) (has_any bs x) (branch_stands bs zero x is)
branch_stands (branch b bs) (suc zero) x is = or_first (has b x) (has_any bs x) (own_stands b x is)
branch_stands (branch b bs) (suc (suc k)) x is = or_second (has b x) (has_any bs x) (branch_stands bs (suc k) x is)

pub stands_inside : (kind : Kind) (into : Into) (x : ℕ) → enters kind into x ≡ true → holds kind x ≡ true
stands_inside (Scope g) whole x is = own_stands g x is
stands_inside (Choice bs) (branch_of k) x is = branch_stands bs k x is
stands_inside (Foreach pace g) item x is = own_stands g x is
stands_inside (Until most g) round x is = own_stands g x is
stands_inside kind into x is = absurd (cc)

-- what stands in an action of a container stands in the container
mutual
  within_in : (kind : Kind) (c x : ℕ) (k : Kind) → kind_in kind c ≡ Some k → holds k x ≡ true → holds kind x ≡ true
  within_in Leaf c x k is h = absurd (none-some k is)
  within_in (Scope g) c x k is h = within g c x k is h
  within_in (Choice bs) c x k is h = within_any bs c x k is h
  within_in (Foreach pace g) c x k is h = within g c x k is h
  within_in (Until most g) c x k is h = within g c x k is h

  within_any : (bs : Branches) (c x : ℕ) (k : Kind) → kind_any bs c ≡ Some k → holds k x ≡ true → has_any bs x ≡ true
  within_any no_branch c x k is h = absurd (none-some k is)
  within_any (branch b bs) c x k is h = elim (two (has b c)) [
    | inl one ↦ or_first (has b x) (has_any bs x) (within b c x k (sym (when (has b c) (kind_of b c) (kind_any bs c) one) ∙ is) h)
    | inr out ↦ or_second (has b x) (has_any bs x) (within_any bs c x k (sym (unless (has b c) (kind_of b c) (kind_any bs c) out) ∙ is) h)
  ]

  pub within : (g : Graph) (c x : ℕ) (k : Kind) → kind_of g c ≡ Some k → holds k x ≡ true → has g x ≡ true
  within done c x k is h = absurd (none-some k is)
  within (add n after kind g) c x k is h = elim (two (nat_eq n c)) [
    | inl own ↦
        let same = some_same kind k (sym (when (nat_eq n c) (Some kind) _ own) ∙ is) in
        or_first (nat_eq n x || holds kind x) (has g x)
        (or_second (nat_eq n x) (holds kind x) (subst (λ (z : Kind). holds z x ≡ true) (sym same) h))
    | inr other ↦
        let deeper = sym (unless (nat_eq n c) (Some kind) (cond (holds kind c) (kind_in kind c) (kind_of g c)) other) ∙ is in
        elim (two (holds kind c)) [
          | inl held ↦
              or_first (nat_eq n x || holds kind x) (has g x)
              (or_second (nat_eq n x) (holds kind x)
              (within_in kind c x k (sym (when (holds kind c) (kind_in kind c) (kind_of g c) held) ∙ deeper) h))
          | inr out ↦
              or_second (nat_eq n x || holds kind x) (has g x)
              (within g c x k (sym (unless (holds kind c) (kind_in kind c) (kind_of g c) out) ∙ deeper) h)
        ]
  ]

-- what has a kind is there
mutual
  kinded_in : (kind : Kind) (c : ℕ) (k : Kind) → kind_in kind c ≡ Some k → holds kind c ≡ true
  kinded_in Leaf c k is = absurd (none-some k is)
  kinded_in (Scope g) c k is = kinded g c k is
  kinded_in (Choice bs) c k is = kinded_any bs c k is
  kinded_in (Foreach pace g) c k is = kinded g c k is
  kinded_in (Until most g) c k is = kinded g c k is

  kinded_any : (bs : Branches) (c : ℕ) (k : Kind) → kind_any bs c ≡ Some k → has_any bs c ≡ true
  kinded_any no_branch c k is = absurd (none-some k is)
  kinded_any (branch b bs) c k is = elim (two (has b c)) [
    | inl one ↦ or_first (has b c) (has_any bs c) one
    | inr out ↦
        or_second (has b c) (has_any bs c) (kinded_any bs c k (sym (unless (has b c) (kind_of b c) (kind_any bs c) out) ∙ is))
  ]

  pub kinded : (g : Graph) (c : ℕ) (k : Kind) → kind_of g c ≡ Some k → has g c ≡ true
  kinded done c k is = absurd (none-some k is)
  kinded (add n after kind g) c k is = elim (two (nat_eq n c)) [
    | inl own ↦ or_first (nat_eq n c || holds kind c) (has g c) (or_first (nat_eq n c) (holds kind c) own)
    | inr other ↦ elim (two (holds kind c)) [
      | inl held ↦ or_first (nat_eq n c || holds kind c) (has g c) (or_second (nat_eq n c) (holds kind c) held)
      | inr out ↦
          or_second (nat_eq n c || holds kind c) (has g c)
          (kinded g c k (sym (unless (holds kind c) (kind_in kind c) (kind_of g c) out)
          ∙ sym (unless (nat_eq n c) (Some kind) (cond (holds kind c) (kind_in kind c) (kind_of g c)) other) ∙ is))
    ]
  ]

-- ---- names stand once

-- what stands behind an action isn't the action, and doesn't stand in it
apart : (n : ℕ) (kind : Kind) (g : Graph) (x : ℕ) → ((m : ℕ) → (nat_eq n m || holds kind m) ≡ true → has g m ≡ false) → has g x ≡ true
    → (nat_eq n x ≡ false) × (holds kind x ≡ false)
apart n kind g x once h = (
  not_true (nat_eq n x) (λ own. clash (has g x) h (once x (or_first (nat_eq n x) (holds kind x) own))),
  not_true (holds kind x) (λ held. clash (has g x) h (once x (or_second (nat_eq n x) (holds kind x) held))),
)

-- what stands in an action isn't the action
inner : (n : ℕ) (kind : Kind) (x : ℕ) → holds kind n ≡ false → holds kind x ≡ true → nat_eq n x ≡ false
inner n kind x free h = not_true (nat_eq n x) (λ own. clash (holds kind x) h (ap (holds kind) (sym (eqb-true n x own)) ∙ free))

other_branch : (b : Graph) (bs : Branches) (x : ℕ) → ((m : ℕ) → has b m ≡ true → has_any bs m ≡ false) → has_any bs x ≡ true
    → has b x ≡ false
other_branch b bs x once h = not_true (has b x) (λ one. clash (has_any bs x) h (once x one))

-- ---- ways

pub own_way : (g : Graph) (x : ℕ) → Once g → has_own g x ≡ true → way g x ≡ []
own_way done x once is = absurd (cc)
own_way (add n after kind g) x once is = elim (two (nat_eq n x)) [
  | inl own ↦ when (nat_eq n x) [] (cond (holds kind x) (way_in kind n x) (way g x)) own
  | inr other ↦
      let later = second (nat_eq n x) (has_own g x) other is in
      let free = apart n kind g x once.1 (own_stands g x later) in
      unless (nat_eq n x) [] (cond (holds kind x) (way_in kind n x) (way g x)) other
      ∙ unless (holds kind x) (way_in kind n x) (way g x) free.1 ∙ own_way g x once.3 later
]

-- none is entered as branch 0
none_entered : (bs : Branches) (x : ℕ) → enters_branch bs zero x ≡ false
none_entered no_branch x = refl
none_entered (branch b bs) x = none_entered bs x

entered_any : (bs : Branches) (n j m x : ℕ) → OnceAny bs → enters_branch bs (suc m) x ≡ true
    → way_any bs n (suc j) x ≡ step n (branch_of (suc (j + m))) ∷ []
entered_any no_branch n j m x once is = absurd (cc)
entered_any (branch b bs) n j zero x once is =
    when (has b x) (step n (branch_of (suc j)) ∷ way b x) (way_any bs n (suc (suc j)) x) (own_stands b x is)
    ∙ ap (λ w. step n (branch_of (suc j)) ∷ w) (own_way b x once.1 is)
    ∙ ap (λ k. step n (branch_of k) ∷ []) (let e : suc j ≡ suc (j + 0) = omega arith in e)
entered_any (branch b bs) n j (suc m) x once is =
    unless (has b x) (step n (branch_of (suc j)) ∷ way b x) (way_any bs n (suc (suc j)) x)
    (other_branch b bs x once.0 (branch_stands bs (suc m) x is))
    ∙ entered_any bs n (suc j) m x once.2 is
    ∙ ap (λ k. step n (branch_of k) ∷ []) (let e : suc (suc j + m) ≡ suc (j + suc m) = omega arith in e)

-- one step leads into what is held directly
entered : (kind : Kind) (n x : ℕ) (into : Into) → OnceIn kind → enters kind into x ≡ true → way_in kind n x ≡ step n into ∷ []
entered (Scope g) n x whole once is = ap (λ w. step n whole ∷ w) (own_way g x once is)
entered (Choice bs) n x (branch_of zero) once is = absurd (clash (enters_branch bs zero x) is (none_entered bs x))
entered (Choice bs) n x (branch_of (suc m)) once is =
    entered_any bs n 0 m x once is ∙ ap (λ k. step n (branch_of k) ∷ []) (let e : suc (0 + m) ≡ suc m = omega arith in e)
entered (Foreach pace g) n x item once is = ap (λ w. step n item ∷ w) (own_way g x once is)
entered (Until most g) n x round once is = ap (λ w. step n round ∷ w) (own_way g x once is)
entered kind n x into once is = absurd (cc)

mutual
  behind_in : (kind : Kind) (n c x : ℕ) (k : Kind) (into : Into) → OnceIn kind → kind_in kind c ≡ Some k → enters k into x ≡ true
      → way_in kind n x ≡ way_in kind n c ++ step c into ∷ []
  behind_in Leaf n c x k into once is e = absurd (none-some k is)
  behind_in (Scope g) n c x k into once is e = ap (λ w. step n whole ∷ w) (behind g c x k into once is e)
  behind_in (Choice bs) n c x k into once is e = behind_any bs n 1 c x k into once is e
  behind_in (Foreach pace g) n c x k into once is e = ap (λ w. step n item ∷ w) (behind g c x k into once is e)
  behind_in (Until most g) n c x k into once is e = ap (λ w. step n round ∷ w) (behind g c x k into once is e)

  behind_any : (bs : Branches) (n j c x : ℕ) (k : Kind) (into : Into) → OnceAny bs → kind_any bs c ≡ Some k → enters k into x ≡ true
      → way_any bs n j x ≡ way_any bs n j c ++ step c into ∷ []
  behind_any no_branch n j c x k into once is e = absurd (none-some k is)
  behind_any (branch b bs) n j c x k into once is e = elim (two (has b c)) [
    | inl one ↦
        let of_kind = sym (when (has b c) (kind_of b c) (kind_any bs c) one) ∙ is in
        when (has b x) (step n (branch_of j) ∷ way b x) (way_any bs n (suc j) x) (within b c x k of_kind (stands_inside k into x e))
        ∙ ap (λ w. step n (branch_of j) ∷ w) (behind b c x k into once.1 of_kind e)
        ∙ ap (λ w. w ++ step c into ∷ []) (sym (when (has b c) (step n (branch_of j) ∷ way b c) (way_any bs n (suc j) c) one))
    | inr out ↦
        let of_kind = sym (unless (has b c) (kind_of b c) (kind_any bs c) out) ∙ is in
        unless (has b x) (step n (branch_of j) ∷ way b x) (way_any bs n (suc j) x)
        (other_branch b bs x once.0 (within_any bs c x k of_kind (stands_inside k into x e)))
        ∙ behind_any bs n (suc j) c x k into once.2 of_kind e
        ∙ ap (λ w. w ++ step c into ∷ []) (sym (unless (has b c) (step n (branch_of j) ∷ way b c) (way_any bs n (suc j) c) out))
  ]

  pub behind : (g : Graph) (c x : ℕ) (k : Kind) (into : Into) → Once g → kind_of g c ≡ Some k → enters k into x ≡ true
      → way g x ≡ way g c ++ step c into ∷ []
  behind done c x k into once is e = absurd (none-some k is)
  behind (add n after kind g) c x k into once is e = elim (two (nat_eq n c)) [
    | inl own ↦
        let same = some_same kind k (sym (when (nat_eq n c) (Some kind) _ own) ∙ is) in
        let e' = subst (λ (z : Kind). enters z into x ≡ true) (sym same) e in
        let held = stands_inside kind into x e' in
        unless (nat_eq n x) [] (cond (holds kind x) (way_in kind n x) (way g x)) (inner n kind x once.0 held)
        ∙ when (holds kind x) (way_in kind n x) (way g x) held ∙ entered kind n x into once.2 e'
        ∙ ap (λ m. step m into ∷ []) (eqb-true n c own)
        ∙ ap (λ w. w ++ step c into ∷ []) (sym (when (nat_eq n c) [] (cond (holds kind c) (way_in kind n c) (way g c)) own))
    | inr other ↦
        let deeper = sym (unless (nat_eq n c) (Some kind) (cond (holds kind c) (kind_in kind c) (kind_of g c)) other) ∙ is in
        elim (two (holds kind c)) [
          | inl held ↦
              let of_kind = sym (when (holds kind c) (kind_in kind c) (kind_of g c) held) ∙ deeper in
              let held_x = within_in kind c x k of_kind (stands_inside k into x e) in
              unless (nat_eq n x) [] (cond (holds kind x) (way_in kind n x) (way g x)) (inner n kind x once.0 held_x)
              ∙ when (holds kind x) (way_in kind n x) (way g x) held_x ∙ behind_in kind n c x k into once.2 of_kind e
              ∙ ap (λ w. w ++ step c into ∷ [])
              (sym (unless (nat_eq n c) [] (cond (holds kind c) (way_in kind n c) (way g c)) other
              ∙ when (holds kind c) (way_in kind n c) (way g c) held))
          | inr out ↦
              let of_kind = sym (unless (holds kind c) (kind_in kind c) (kind_of g c) out) ∙ deeper in
              let free = apart n kind g x once.1 (within g c x k of_kind (stands_inside k into x e)) in
              unless (nat_eq n x) [] (cond (holds kind x) (way_in kind n x) (way g x)) free.0
              ∙ unless (holds kind x) (way_in kind n x) (way g x) free.1 ∙ behind g c x k into once.3 of_kind e
              ∙ ap (λ w. w ++ step c into ∷ [])
              (sym (unless (nat_eq n c) [] (cond (holds kind c) (way_in kind n c) (way g c)) other
              ∙ unless (holds kind c) (way_in kind n c) (way g c) out))
        ]
  ]

pub is_behind : (d : Graph) → IsBehind d
is_behind d once c x kind into of_kind e = behind d c x kind into once of_kind e

-- ---- every action stands in the graph itself, or in a container

pub record Held (g : Graph) (x : ℕ) : Type 0 where
  pub c : ℕ
  pub kind : Kind
  pub into : Into
  pub of_kind : kind_of g c ≡ Some kind
  pub stands_in : enters kind into x ≡ true

record HeldIn (kind : Kind) (x : ℕ) : Type 0 where
  c : ℕ
  k : Kind
  into : Into
  of_kind : kind_in kind c ≡ Some k
  stands_in : enters k into x ≡ true

record HeldAny (bs : Branches) (x : ℕ) : Type 0 where
  c : ℕ
  k : Kind
  into : Into
  of_kind : kind_any bs c ≡ Some k
  stands_in : enters k into x ≡ true

mutual
  held_in : (kind : Kind) (x : ℕ) → OnceIn kind → holds kind x ≡ true → ((into : Into) × (enters kind into x ≡ true)) ⊎ HeldIn kind x
  held_in Leaf x once h = absurd (cc)
  held_in (Scope g) x once h = elim (held_by g x once h) [
    | inl own ↦ inl (whole, own)
    | inr h' ↦ inr (record { c = h'.c; k = h'.kind; into = h'.into; of_kind = h'.of_kind; stands_in = h'.stands_in })
  ]
  held_in (Choice bs) x once h = elim (held_any bs x once h) [
    | inl own ↦ inl (branch_of (suc own.0), own.1)
    | inr h' ↦ inr (record { c = h'.c; k = h'.k; into = h'.into; of_kind = h'.of_kind; stands_in = h'.stands_in })
  ]
  held_in (Foreach pace g) x once h = elim (held_by g x once h) [
    | inl own ↦ inl (item, own)
    | inr h' ↦ inr (record { c = h'.c; k = h'.kind; into = h'.into; of_kind = h'.of_kind; stands_in = h'.stands_in })
  ]
  held_in (Until most g) x once h = elim (held_by g x once h) [
    | inl own ↦ inl (round, own)
    | inr h' ↦ inr (record { c = h'.c; k = h'.kind; into = h'.into; of_kind = h'.of_kind; stands_in = h'.stands_in })
  ]

  held_any : (bs : Branches) (x : ℕ) → OnceAny bs → has_any bs x ≡ true → ((m : ℕ) × (enters_branch bs (suc m) x ≡ true)) ⊎ HeldAny bs x
  held_any no_branch x once h = absurd (cc)
  held_any (branch b bs) x once h = elim (two (has b x)) [
    | inl one ↦ elim (held_by b x once.1 one) [
      | inl own ↦ inl (0, own)
      | inr h' ↦ inr (record {
        c = h'.c;
        k = h'.kind;
        into = h'.into;
        of_kind = when (has b h'.c) (kind_of b h'.c) (kind_any bs h'.c) (kinded b h'.c h'.kind h'.of_kind) ∙ h'.of_kind;
        stands_in = h'.stands_in;
      })
    ]
    | inr out ↦ elim (held_any bs x once.2 (second (has b x) (has_any bs x) out h)) [
      | inl own ↦ inl (suc own.0, own.1)
      | inr h' ↦ inr (record {
        c = h'.c;
        k = h'.k;
        into = h'.into;
        of_kind =
            unless (has b h'.c) (kind_of b h'.c) (kind_any bs h'.c)
            (other_branch b bs h'.c once.0 (kinded_any bs h'.c h'.k h'.of_kind)) ∙ h'.of_kind;
        stands_in = h'.stands_in;
      })
    ]
  ]

  pub held_by : (g : Graph) (x : ℕ) → Once g → has g x ≡ true → (has_own g x ≡ true) ⊎ Held g x
  held_by done x once h = absurd (cc)
  held_by (add n after kind g) x once h = elim (two (nat_eq n x)) [
    | inl own ↦ inl (or_first (nat_eq n x) (has_own g x) own)
    | inr other ↦ elim (two (holds kind x)) [
      | inl held ↦ elim (held_in kind x once.2 held) [
        | inl direct ↦ inr (record {
          c = n;
          kind = kind;
          into = direct.0;
          of_kind = when (nat_eq n n) (Some kind) (cond (holds kind n) (kind_in kind n) (kind_of g n)) (same_self n);
          stands_in = direct.1;
        })
        | inr h' ↦
            let held_c = kinded_in kind h'.c h'.k h'.of_kind in
            inr (record {
              c = h'.c;
              kind = h'.k;
              into = h'.into;
              of_kind =
                  unless (nat_eq n h'.c) (Some kind) (cond (holds kind h'.c) (kind_in kind h'.c) (kind_of g h'.c))
                  (inner n kind h'.c once.0 held_c)
                  ∙ when (holds kind h'.c) (kind_in kind h'.c) (kind_of g h'.c) held_c ∙ h'.of_kind;
              stands_in = h'.stands_in;
            })
      ]
      | inr out ↦
          elim (held_by g x once.3 (second (holds kind x) (has g x) out (second (nat_eq n x) (holds kind x || has g x) other (joined
          (nat_eq n x) (holds kind x) (has g x) h)))) [
            | inl own ↦ inl (or_second (nat_eq n x) (has_own g x) own)
            | inr h' ↦
                let free = apart n kind g h'.c once.1 (kinded g h'.c h'.kind h'.of_kind) in
                inr (record {
                  c = h'.c;
                  kind = h'.kind;
                  into = h'.into;
                  of_kind =
                      unless (nat_eq n h'.c) (Some kind) (cond (holds kind h'.c) (kind_in kind h'.c) (kind_of g h'.c)) free.0
                      ∙ unless (holds kind h'.c) (kind_in kind h'.c) (kind_of g h'.c) free.1 ∙ h'.of_kind;
                  stands_in = h'.stands_in;
                })
          ]
    ]
  ]
    where
      joined : (p q r : Bool) → (p || q || r) ≡ true → (p || (q || r)) ≡ true
      joined true q r is = refl
      joined false q r is = is
