-- Before, inside and exclusive among one another, where names stand once.
use Rattle.std.proofs.Common.{◌≡◌, ℕ, ◌<◌, Bool, true, false, ◌||◌, cond, List, [], ◌∷◌, ◌++◌, ◌⊎◌, inl, inr, refl, sym, ap, subst, ◌∙◌, arith, nat_eq, true≢false}
use Rattle.std.proofs.lemmas.Bool.{eq-eqb, eqb-true}
use Rattle.wf_def.specs.Definition.{Need, Names, Kind, Leaf, Scope, Choice, Foreach, Until, Branches, no_branch, branch, Graph, done, add, holds, has, has_any, has_own, needs_in, needs_any, needs_of, IsBefore, next, more, IsDepth, Closed, ClosedIn, ClosedAny}
use Rattle.wf_def.specs.Seen.{Once, OnceIn, OnceAny}
use Rattle.wf_paths.proofs.PathLemmas.{or_left, or_right, or_split}
use Rattle.wf_order.specs.Order.{Among, Before, Contains, Exclusive, around, around_in, around_any, up}
use Rattle.wf_order.proofs.RelationLemmas.{among-append, around_has, branch_has, kind_has, own_has}

pub two : (b : Bool) → (b ≡ true) ⊎ (b ≡ false)
two true = inl refl
two false = inr refl

pub clash : (b : Bool) → b ≡ true → b ≡ false → ⊥
clash b yes' no' = true≢false (sym yes' ∙ no')

-- what stands in a container isn't the container, and what stands behind is neither
pub not_first : (n y : ℕ) (kind : Kind) → holds kind n ≡ false → holds kind y ≡ true → nat_eq n y ≡ false
not_first n y kind alone held = elim (two (nat_eq n y)) [
  | inl same ↦ absurd (clash (holds kind n) (subst (λ (k : ℕ). holds kind k ≡ true) (sym (eqb-true n y same)) held) alone)
  | inr other ↦ other
]

pub first_passed : (n y : ℕ) (kind : Kind) (rest : Graph) → ((m : ℕ) → (nat_eq n m || holds kind m) ≡ true → has rest m ≡ false) →
    has rest y ≡ true
    → nat_eq n y ≡ false
first_passed n y kind rest once there = elim (two (nat_eq n y)) [
  | inl same ↦ absurd (clash (has rest y) there (once y (or_left (nat_eq n y) (holds kind y) same)))
  | inr other ↦ other
]

pub kind_passed : (n y : ℕ) (kind : Kind) (rest : Graph) → ((m : ℕ) → (nat_eq n m || holds kind m) ≡ true → has rest m ≡ false) →
    has rest y ≡ true
    → holds kind y ≡ false
kind_passed n y kind rest once there = elim (two (holds kind y)) [
  | inl held ↦ absurd (clash (has rest y) there (once y (or_right (nat_eq n y) (holds kind y) held)))
  | inr other ↦ other
]

pub branch_passed : (b : Graph) (rest : Branches) (y : ℕ) → ((m : ℕ) → has b m ≡ true → has_any rest m ≡ false) → has_any rest y ≡ true →
    has b y ≡ false
branch_passed b rest y once there = elim (two (has b y)) [
  | inl held ↦ absurd (clash (has_any rest y) there (once y held))
  | inr other ↦ other
]

-- the containers round an action, by where it stands

pub around-head : (n : ℕ) (after : List Need) (kind : Kind) (rest : Graph) (y : ℕ) → nat_eq n y ≡ true
    → around (add n after kind rest) y ≡ []
around-head n after kind rest y is = ap (λ (b : Bool). cond b [] (cond (holds kind y) (n ∷ around_in kind y) (around rest y))) is

pub around-inner : (n : ℕ) (after : List Need) (kind : Kind) (rest : Graph) (y : ℕ) → nat_eq n y ≡ false → holds kind y ≡ true
    → around (add n after kind rest) y ≡ n ∷ around_in kind y
around-inner n after kind rest y other held =
    ap (λ (b : Bool). cond b [] (cond (holds kind y) (n ∷ around_in kind y) (around rest y))) other
    ∙ ap (λ (b : Bool). cond b (n ∷ around_in kind y) (around rest y)) held

pub around-rest : (n : ℕ) (after : List Need) (kind : Kind) (rest : Graph) (y : ℕ) → nat_eq n y ≡ false → holds kind y ≡ false
    → around (add n after kind rest) y ≡ around rest y
around-rest n after kind rest y other out =
    ap (λ (b : Bool). cond b [] (cond (holds kind y) (n ∷ around_in kind y) (around rest y))) other
    ∙ ap (λ (b : Bool). cond b (n ∷ around_in kind y) (around rest y)) out

pub around-branch : (b : Graph) (rest : Branches) (y : ℕ) → has b y ≡ true → around_any (branch b rest) y ≡ around b y
around-branch b rest y held = ap (λ (h : Bool). cond h (around b y) (around_any rest y)) held

pub around-branches : (b : Graph) (rest : Branches) (y : ℕ) → has b y ≡ false → around_any (branch b rest) y ≡ around_any rest y
around-branches b rest y out = ap (λ (h : Bool). cond h (around b y) (around_any rest y)) out

-- where an action of a graph stands
pub data Stands (n : ℕ) (kind : Kind) (rest : Graph) (z : ℕ) : Type 0 where
  at_first : nat_eq n z ≡ true → Stands n kind rest z
  in_first : nat_eq n z ≡ false → holds kind z ≡ true → Stands n kind rest z
  behind_first : nat_eq n z ≡ false → holds kind z ≡ false → Stands n kind rest z

pub stands : (n : ℕ) (kind : Kind) (rest : Graph) (z : ℕ) → Stands n kind rest z
stands n kind rest z = elim (two (nat_eq n z)) [
  | inl same ↦ at_first same
  | inr other ↦ elim (two (holds kind z)) [ inl held ↦ in_first other held | inr out ↦ behind_first other out ]
]

pub moved : (xs ys : List ℕ) (c : ℕ) → xs ≡ ys → Among xs c → Among ys c
moved xs ys c same among = subst (λ (zs : List ℕ). Among zs c) same among

pub append-left : (xs ys : List ℕ) (c : ℕ) → Among xs c → Among (xs ++ ys) c
append-left [] ys c among = elim among [ ]
append-left (x ∷ xs) ys c (inl is) = inl is
append-left (x ∷ xs) ys c (inr rest) = inr (append-left xs ys c rest)

pub append-right : (xs ys : List ℕ) (c : ℕ) → Among ys c → Among (xs ++ ys) c
append-right [] ys c among = among
append-right (x ∷ xs) ys c among = inr (append-right xs ys c among)

-- ---- the containers of a container

mutual
  graph_inner : (g : Graph) → Once g → (z y c : ℕ) → Among (around g z) y → Among (around g y) c → Among (around g z) c
  graph_inner done once z y c in_z in_y = elim in_z [ ]
  graph_inner (add n after kind rest) once z y c in_z in_y = elim (stands n kind rest z) [
    | at_first is ↦ elim (moved (around (add n after kind rest) z) [] y (around-head n after kind rest z is) in_z) [ ]
    | in_first other held ↦
        let list = around-inner n after kind rest z other held in
        elim (moved (around (add n after kind rest) z) (n ∷ around_in kind z) y list in_z) [
          | inl is_n ↦ elim (moved (around (add n after kind rest) y) [] c (around-head n after kind rest y (eq-eqb n y is_n)) in_y) [ ]
          | inr in_kind ↦
              let held_y = kind_has kind z y in_kind in
              let other_y = not_first n y kind once.0 held_y in
              moved (n ∷ around_in kind z) (around (add n after kind rest) z) c (sym list)
              (elim (moved (around (add n after kind rest) y) (n ∷ around_in kind y) c
              (around-inner n after kind rest y other_y held_y) in_y) [
                | inl is_n ↦ inl is_n
                | inr further ↦ inr (kind_inner kind once.2 z y c in_kind further)
              ])
        ]
    | behind_first other out ↦
        let list = around-rest n after kind rest z other out in
        let in_rest = moved (around (add n after kind rest) z) (around rest z) y list in_z in
        let there = around_has rest z y in_rest in
        let list_y = around-rest n after kind rest y (first_passed n y kind rest once.1 there) (kind_passed n y kind rest once.1 there) in
        moved (around rest z) (around (add n after kind rest) z) c (sym list)
        (graph_inner rest once.3 z y c in_rest (moved (around (add n after kind rest) y) (around rest y) c list_y in_y))
  ]

  kind_inner : (kind : Kind) → OnceIn kind → (z y c : ℕ) → Among (around_in kind z) y → Among (around_in kind y) c →
      Among (around_in kind z) c
  kind_inner Leaf once z y c in_z in_y = elim in_z [ ]
  kind_inner (Scope g) once z y c in_z in_y = graph_inner g once z y c in_z in_y
  kind_inner (Choice bs) once z y c in_z in_y = branch_inner bs once z y c in_z in_y
  kind_inner (Foreach pace g) once z y c in_z in_y = graph_inner g once z y c in_z in_y
  kind_inner (Until most g) once z y c in_z in_y = graph_inner g once z y c in_z in_y

  branch_inner : (bs : Branches) → OnceAny bs → (z y c : ℕ) → Among (around_any bs z) y → Among (around_any bs y) c →
      Among (around_any bs z) c
  branch_inner no_branch once z y c in_z in_y = elim in_z [ ]
  branch_inner (branch b rest) once z y c in_z in_y = elim (two (has b z)) [
    | inl held ↦
        let list = around-branch b rest z held in
        let in_b = moved (around_any (branch b rest) z) (around b z) y list in_z in
        let list_y = around-branch b rest y (around_has b z y in_b) in
        moved (around b z) (around_any (branch b rest) z) c (sym list)
        (graph_inner b once.1 z y c in_b (moved (around_any (branch b rest) y) (around b y) c list_y in_y))
    | inr out ↦
        let list = around-branches b rest z out in
        let in_rest = moved (around_any (branch b rest) z) (around_any rest z) y list in_z in
        let list_y = around-branches b rest y (branch_passed b rest y once.0 (branch_has rest z y in_rest)) in
        moved (around_any rest z) (around_any (branch b rest) z) c (sym list)
        (branch_inner rest once.2 z y c in_rest (moved (around_any (branch b rest) y) (around_any rest y) c list_y in_y))
  ]

pub up_inner : (g : Graph) → Once g → (z y c : ℕ) → Among (up g z) y → Among (up g y) c → Among (up g z) c
up_inner g once z y c in_z in_y = elim (among-append (around g z) (z ∷ []) y in_z) [
  | inl container ↦ append-left (around g z) (z ∷ []) c (elim (among-append (around g y) (y ∷ []) c in_y) [
    | inl further ↦ graph_inner g once z y c container further
    | inr last ↦ elim last [ inl is_y ↦ subst (λ (k : ℕ). Among (around g z) k) is_y container | inr none ↦ elim none [ ] ]
  ])
  | inr last ↦ elim last [ inl is_z ↦ subst (λ (k : ℕ). Among (up g k) c) (sym is_z) in_y | inr none ↦ elim none [ ] ]
]

contained_up : (g : Graph) (y z : ℕ) → Contains g y z → Among (up g z) y
contained_up g y z inside' = append-left (around g z) (z ∷ []) y inside'

-- what stands inside goes along

pub inner_contains : (g : Graph) → Once g → (x y z : ℕ) → Contains g x y → Contains g y z → Contains g x z
inner_contains g once x y z one other = graph_inner g once z y x other one

pub inner_after : (g : Graph) → Once g → (x y z : ℕ) → Before g x y → Contains g y z → Before g x z
inner_after g once x y z b inside' = record {
  one = b.one;
  other = b.other;
  one_up = b.one_up;
  other_up = up_inner g once z y b.other (contained_up g y z inside') b.other_up;
  ancestor = b.ancestor;
}

pub inner_before : (g : Graph) → Once g → (x y z : ℕ) → Before g x y → Contains g x z → Before g z y
inner_before g once x y z b inside' = record {
  one = b.one;
  other = b.other;
  one_up = up_inner g once z x b.one (contained_up g x z inside') b.one_up;
  other_up = b.other_up;
  ancestor = b.ancestor;
}

pub inner_exclusive : (g : Graph) → Once g → (x y z : ℕ) → Exclusive g x y → Contains g y z → Exclusive g x z
inner_exclusive g once x y z e inside' = record {
  one = e.one;
  other = e.other;
  one_up = e.one_up;
  other_up = up_inner g once z y e.other (contained_up g y z inside') e.other_up;
  container = e.container;
  left = e.left;
  right = e.right;
  one_stands = e.one_stands;
  other_stands = e.other_stands;
  apart = e.apart;
}

-- ---- no action contains itself

mutual
  graph_alone : (g : Graph) → Once g → (c : ℕ) → Among (around g c) c → ⊥
  graph_alone done once c among = elim among [ ]
  graph_alone (add n after kind rest) once c among = elim (stands n kind rest c) [
    | at_first is ↦ elim (moved (around (add n after kind rest) c) [] c (around-head n after kind rest c is) among) [ ]
    | in_first other held ↦ elim (moved (around (add n after kind rest) c) (n ∷ around_in kind c) c
        (around-inner n after kind rest c other held) among) [
          | inl is_n ↦ clash (nat_eq n c) (eq-eqb n c is_n) other
          | inr further ↦ kind_alone kind once.2 c further
        ]
    | behind_first other out ↦ graph_alone rest once.3 c
        (moved (around (add n after kind rest) c) (around rest c) c (around-rest n after kind rest c other out) among)
  ]

  kind_alone : (kind : Kind) → OnceIn kind → (c : ℕ) → Among (around_in kind c) c → ⊥
  kind_alone Leaf once c among = elim among [ ]
  kind_alone (Scope g) once c among = graph_alone g once c among
  kind_alone (Choice bs) once c among = branch_alone bs once c among
  kind_alone (Foreach pace g) once c among = graph_alone g once c among
  kind_alone (Until most g) once c among = graph_alone g once c among

  branch_alone : (bs : Branches) → OnceAny bs → (c : ℕ) → Among (around_any bs c) c → ⊥
  branch_alone no_branch once c among = elim among [ ]
  branch_alone (branch b rest) once c among = elim (two (has b c)) [
    | inl held ↦ graph_alone b once.1 c (moved (around_any (branch b rest) c) (around b c) c (around-branch b rest c held) among)
    | inr out ↦ branch_alone rest once.2 c (moved (around_any (branch b rest) c) (around_any rest c) c (around-branches b rest c out) among)
  ]

-- ---- two containers of one action: they are one, or one contains the other

data Compared (of_c of_d : List ℕ) (c d : ℕ) : Type 0 where
  one_only : c ≡ d → Compared of_c of_d c d
  is_outer : Among of_d c → Compared of_c of_d c d
  is_inside : Among of_c d → Compared of_c of_d c d

compared_in : (of_c of_d all_c all_d : List ℕ) (c d : ℕ) → all_c ≡ of_c → all_d ≡ of_d → Compared of_c of_d c d → Compared all_c all_d c d
compared_in of_c of_d all_c all_d c d is_c is_d (one_only is) = one_only is
compared_in of_c of_d all_c all_d c d is_c is_d (is_outer is) = is_outer (moved of_d all_d c (sym is_d) is)
compared_in of_c of_d all_c all_d c d is_c is_d (is_inside is) = is_inside (moved of_c all_c d (sym is_c) is)

compared_more : (n : ℕ) (of_c of_d : List ℕ) (c d : ℕ) → Compared of_c of_d c d → Compared (n ∷ of_c) (n ∷ of_d) c d
compared_more n of_c of_d c d (one_only is) = one_only is
compared_more n of_c of_d c d (is_outer is) = is_outer (inr is)
compared_more n of_c of_d c d (is_inside is) = is_inside (inr is)

mutual
  graph_compared : (g : Graph) → Once g → (x c d : ℕ) → Among (around g x) c → Among (around g x) d → Compared (around g c) (around g d) c d
  graph_compared done once x c d in_c in_d = elim in_c [ ]
  graph_compared (add n after kind rest) once x c d in_c in_d = elim (stands n kind rest x) [
    | at_first is ↦ elim (moved (around (add n after kind rest) x) [] c (around-head n after kind rest x is) in_c) [ ]
    | in_first other held ↦
        let list = around-inner n after kind rest x other held in
        let inner_list : (y : ℕ) → Among (around_in kind x) y → around (add n after kind rest) y ≡ n ∷ around_in kind y =
        λ y among. around-inner n after kind rest y (not_first n y kind once.0 (kind_has kind x y among)) (kind_has kind x y among) in
        elim (moved (around (add n after kind rest) x) (n ∷ around_in kind x) c list in_c) [
          | inl c_is ↦ elim (moved (around (add n after kind rest) x) (n ∷ around_in kind x) d list in_d) [
            | inl d_is ↦ one_only (sym c_is ∙ d_is)
            | inr d_in ↦ is_outer (moved (n ∷ around_in kind d) (around (add n after kind rest) d) c (sym (inner_list d d_in)) (inl c_is))
          ]
          | inr c_in ↦ elim (moved (around (add n after kind rest) x) (n ∷ around_in kind x) d list in_d) [
            | inl d_is ↦ is_inside (moved (n ∷ around_in kind c) (around (add n after kind rest) c) d (sym (inner_list c c_in)) (inl d_is))
            | inr d_in ↦ compared_in (n ∷ around_in kind c) (n ∷ around_in kind d) (around (add n after kind rest) c)
                (around (add n after kind rest) d)
                c d (inner_list c c_in) (inner_list d d_in)
                (compared_more n (around_in kind c) (around_in kind d) c d (kind_compared kind once.2 x c d c_in d_in))
          ]
        ]
    | behind_first other out ↦
        let list = around-rest n after kind rest x other out in
        let c_in = moved (around (add n after kind rest) x) (around rest x) c list in_c in
        let d_in = moved (around (add n after kind rest) x) (around rest x) d list in_d in
        let rest_list : (y : ℕ) → Among (around rest x) y → around (add n after kind rest) y ≡ around rest y =
        λ y among. around-rest n after kind rest y (first_passed n y kind rest once.1 (around_has rest x y among))
        (kind_passed n y kind rest once.1 (around_has rest x y among)) in
        compared_in (around rest c) (around rest d) (around (add n after kind rest) c) (around (add n after kind rest) d)
        c d (rest_list c c_in) (rest_list d d_in) (graph_compared rest once.3 x c d c_in d_in)
  ]

  kind_compared : (kind : Kind) → OnceIn kind → (x c d : ℕ) → Among (around_in kind x) c → Among (around_in kind x) d
      → Compared (around_in kind c) (around_in kind d) c d
  kind_compared Leaf once x c d in_c in_d = elim in_c [ ]
  kind_compared (Scope g) once x c d in_c in_d = graph_compared g once x c d in_c in_d
  kind_compared (Choice bs) once x c d in_c in_d = branch_compared bs once x c d in_c in_d
  kind_compared (Foreach pace g) once x c d in_c in_d = graph_compared g once x c d in_c in_d
  kind_compared (Until most g) once x c d in_c in_d = graph_compared g once x c d in_c in_d

  branch_compared : (bs : Branches) → OnceAny bs → (x c d : ℕ) → Among (around_any bs x) c → Among (around_any bs x) d
      → Compared (around_any bs c) (around_any bs d) c d
  branch_compared no_branch once x c d in_c in_d = elim in_c [ ]
  branch_compared (branch b rest) once x c d in_c in_d = elim (two (has b x)) [
    | inl held ↦
        let list = around-branch b rest x held in
        let c_in = moved (around_any (branch b rest) x) (around b x) c list in_c in
        let d_in = moved (around_any (branch b rest) x) (around b x) d list in_d in
        compared_in (around b c) (around b d) (around_any (branch b rest) c) (around_any (branch b rest) d) c d
        (around-branch b rest c (around_has b x c c_in)) (around-branch b rest d (around_has b x d d_in))
        (graph_compared b once.1 x c d c_in d_in)
    | inr out ↦
        let list = around-branches b rest x out in
        let c_in = moved (around_any (branch b rest) x) (around_any rest x) c list in_c in
        let d_in = moved (around_any (branch b rest) x) (around_any rest x) d list in_d in
        compared_in (around_any rest c) (around_any rest d) (around_any (branch b rest) c) (around_any (branch b rest) d) c d
        (around-branches b rest c (branch_passed b rest c once.0 (branch_has rest x c c_in)))
        (around-branches b rest d (branch_passed b rest d once.0 (branch_has rest x d d_in)))
        (branch_compared rest once.2 x c d c_in d_in)
  ]

up_compared : (g : Graph) → Once g → (x c d : ℕ) → Among (up g x) c → Among (up g x) d → Compared (around g c) (around g d) c d
up_compared g once x c d in_c in_d = elim (among-append (around g x) (x ∷ []) c in_c) [
  | inl c_in ↦ elim (among-append (around g x) (x ∷ []) d in_d) [
    | inl d_in ↦ graph_compared g once x c d c_in d_in
    | inr last ↦ elim last [ inl is ↦ is_outer (subst (λ (k : ℕ). Among (around g k) c) is c_in) | inr none ↦ elim none [ ] ]
  ]
  | inr last ↦ elim last [
    | inl c_is ↦ elim (among-append (around g x) (x ∷ []) d in_d) [
      | inl d_in ↦ is_inside (subst (λ (k : ℕ). Among (around g k) d) c_is d_in)
      | inr last_d ↦ elim last_d [ inl d_is ↦ one_only (sym c_is ∙ d_is) | inr none ↦ elim none [ ] ]
    ]
    | inr none ↦ elim none [ ]
  ]
]

-- ---- what is waited for stands beside what waits

pub own_around : (g : Graph) → Once g → (p : ℕ) → has_own g p ≡ true → around g p ≡ []
own_around done once p own = refl
own_around (add n after kind rest) once p own = elim (or_split (nat_eq n p) (has_own rest p) own) [
  | inl is ↦ around-head n after kind rest p is
  | inr further ↦
      let there = own_has rest p further in
      around-rest n after kind rest p (first_passed n p kind rest once.1 there) (kind_passed n p kind rest once.1 there)
      ∙ own_around rest once.3 p further
]

abbrev Beside : Graph → Graph → ℕ → ℕ → Type 0
Beside g w a p = ((has_own w p ≡ true) × (around g a ≡ [])) ⊎ ((has g p ≡ true) × (around g p ≡ around g a))

abbrev BesideIn : Kind → ℕ → ℕ → Type 0
BesideIn kind a p = (holds kind p ≡ true) × (around_in kind p ≡ around_in kind a)

abbrev BesideAny : Branches → ℕ → ℕ → Type 0
BesideAny bs a p = (has_any bs p ≡ true) × (around_any bs p ≡ around_any bs a)

pub settled : (g : Graph) → Once g → (a p : ℕ) → Beside g g a p → (has g p ≡ true) × (around g p ≡ around g a)
settled g once a p (inl own) = (own_has g p own.0, own_around g once p own.0 ∙ sym own.1)
settled g once a p (inr is) = is

pub renamed : (xs ys : List Need) (p : ℕ) → xs ≡ ys → Names xs p → Names ys p
renamed xs ys p is named = subst (λ (zs : List Need). Names zs p) is named

mutual
  beside : (g w : Graph) → Once g → Closed g w → (a p : ℕ) → Names (needs_of g a) p → Beside g w a p
  beside done w once closed a p named = elim named [ ]
  beside (add n after kind rest) w once closed a p named =
      let g = add n after kind rest in
      elim (stands n kind rest a) [
        | at_first is ↦ inl (
          closed.0 p (renamed (needs_of g a) after p (ap
              (λ (b : Bool). cond b after (cond (holds kind a) (needs_in kind a) (needs_of rest a))) is) named),
          around-head n after kind rest a is,
        )
        | in_first other held ↦
            let inner_needs = ap (λ (b : Bool). cond b after (cond (holds kind a) (needs_in kind a) (needs_of rest a))) other
            ∙ ap (λ (b : Bool). cond b (needs_in kind a) (needs_of rest a)) held in
            let both = beside_in kind once.2 closed.1 a p (renamed (needs_of g a) (needs_in kind a) p inner_needs named) in
            inr (
              or_left (nat_eq n p || holds kind p) (has rest p) (or_right (nat_eq n p) (holds kind p) both.0),
              around-inner n after kind rest p (not_first n p kind once.0 both.0) both.0 ∙ ap (λ (xs : List ℕ). n ∷ xs) both.1
                  ∙ sym (around-inner n after kind rest a other held),
            )
        | behind_first other out ↦
            let later = ap (λ (b : Bool). cond b after (cond (holds kind a) (needs_in kind a) (needs_of rest a))) other
            ∙ ap (λ (b : Bool). cond b (needs_in kind a) (needs_of rest a)) out in
            let list = around-rest n after kind rest a other out in
            elim (beside rest w once.3 closed.2 a p (renamed (needs_of g a) (needs_of rest a) p later named)) [
              | inl own ↦ inl (own.0, list ∙ own.1)
              | inr there ↦ inr (
                or_right (nat_eq n p || holds kind p) (has rest p) there.0,
                around-rest n after kind rest p (first_passed n p kind rest once.1 there.0) (kind_passed n p kind rest once.1 there.0)
                    ∙ there.1 ∙ sym list,
              )
            ]
      ]

  beside_in : (kind : Kind) → OnceIn kind → ClosedIn kind → (a p : ℕ) → Names (needs_in kind a) p → BesideIn kind a p
  beside_in Leaf once closed a p named = elim named [ ]
  beside_in (Scope g) once closed a p named = settled g once a p (beside g g once closed a p named)
  beside_in (Choice bs) once closed a p named = beside_any bs once closed a p named
  beside_in (Foreach pace g) once closed a p named = settled g once a p (beside g g once closed a p named)
  beside_in (Until most g) once closed a p named = settled g once a p (beside g g once closed a p named)

  beside_any : (bs : Branches) → OnceAny bs → ClosedAny bs → (a p : ℕ) → Names (needs_any bs a) p → BesideAny bs a p
  beside_any no_branch once closed a p named = elim named [ ]
  beside_any (branch b rest) once closed a p named = elim (two (has b a)) [
    | inl held ↦
        let here = ap (λ (h : Bool). cond h (needs_of b a) (needs_any rest a)) held in
        let both = settled b once.1 a p (beside b b once.1 closed.0 a p
        (renamed (needs_any (branch b rest) a) (needs_of b a) p here named)) in (
          or_left (has b p) (has_any rest p) both.0,
          around-branch b rest p both.0 ∙ both.1 ∙ sym (around-branch b rest a held),
        )
    | inr out ↦
        let later = ap (λ (h : Bool). cond h (needs_of b a) (needs_any rest a)) out in
        let both = beside_any rest once.2 closed.1 a p (renamed (needs_any (branch b rest) a) (needs_any rest a) p later named) in (
          or_right (has b p) (has_any rest p) both.0,
          around-branches b rest p (branch_passed b rest p once.0 both.0) ∙ both.1 ∙ sym (around-branches b rest a out),
        )
  ]

-- both ends of a path of entries stand in one graph
pub same_graph : (g : Graph) → Once g → Closed g g → (p a : ℕ) → IsBefore g p a → around g p ≡ around g a
same_graph g once closed p a (next h) = (settled g once a p (beside g g once closed a p h)).1
same_graph g once closed p a (more {q = q} f h) =
    same_graph g once closed p q f ∙ (settled g once a q (beside g g once closed a q h)).1

joined : (g : Graph) (p q a : ℕ) → IsBefore g p q → IsBefore g q a → IsBefore g p a
joined g p q a f (next h) = more f h
joined g p q a f (more {q = r} s h) = more (joined g p q r f s) h

deeper : (g : Graph) (depth : ℕ → ℕ) → IsDepth g depth → (p a : ℕ) → IsBefore g p a → depth p < depth a
deeper g depth depths p a (next h) = depths p a h
deeper g depth depths p a (more {q = q} f h) =
    let first' = deeper g depth depths p q f in
    let last = depths q a h in
    omega (arith, first', last)

pub last_up : (g : Graph) (x : ℕ) → Among (up g x) x
last_up g x = append-right (around g x) (x ∷ []) x (inl refl)

pub transitive : (g : Graph) → Once g → Closed g g → (x y z : ℕ) → Before g x y → Before g y z → Before g x z
transitive g once closed x y z b s = elim (up_compared g once y b.other s.one b.other_up s.one_up) [
  | one_only is ↦ record {
    one = b.one;
    other = s.other;
    one_up = b.one_up;
    other_up = s.other_up;
    ancestor = joined g b.one b.other s.other b.ancestor (subst (λ (k : ℕ). IsBefore g k s.other) (sym is) s.ancestor);
  }
  | is_outer is ↦ record {
    one = b.one;
    other = b.other;
    one_up = b.one_up;
    other_up = up_inner g once z s.other b.other s.other_up
        (append-left (around g s.other) (s.other ∷ []) b.other
        (moved (around g s.one) (around g s.other) b.other (same_graph g once closed s.one s.other s.ancestor) is));
    ancestor = b.ancestor;
  }
  | is_inside is ↦ record {
    one = s.one;
    other = s.other;
    one_up = up_inner g once x b.one s.one b.one_up
        (append-left (around g b.one) (b.one ∷ []) s.one
        (moved (around g b.other) (around g b.one) s.one (sym (same_graph g once closed b.one b.other b.ancestor)) is));
    other_up = s.other_up;
    ancestor = s.ancestor;
  }
]

pub never_itself : (g : Graph) (depth : ℕ → ℕ) → Once g → Closed g g → IsDepth g depth → (x : ℕ) → Before g x x → ⊥
never_itself g depth once closed depths x b =
    let beside' = same_graph g once closed b.one b.other b.ancestor in
    elim (up_compared g once x b.one b.other b.one_up b.other_up) [
      | one_only is ↦
          let less = deeper g depth depths b.one b.other b.ancestor in
          let equal : depth b.one ≡ depth b.other = ap depth is in
          absurd (omega (arith, less, equal))
      | is_outer is ↦ graph_alone g once b.one (moved (around g b.other) (around g b.one) b.one (sym beside') is)
      | is_inside is ↦ graph_alone g once b.other (moved (around g b.one) (around g b.other) b.other beside' is)
    ]
