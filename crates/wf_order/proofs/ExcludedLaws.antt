-- Instances in different branches, with the same indexes in the loops round both, exclude each other.
use Rattle.std.proofs.Common.{◌≡◌, ◌≢◌, ℕ, suc, Bool, true, false, ◌&&◌, ◌||◌, cond, List, [], ◌∷◌, ◌++◌, length, Option, Some, None, ◌⊎◌}
use Rattle.std.proofs.Common.{inl, inr, refl, sym, ap, subst, ◌∙◌, arith, nat_eq}
use Rattle.std.proofs.lemmas.Bool.{eq-eqb, eqb-true}
use Rattle.wf_def.specs.Definition.{Need, Kind, Leaf, Scope, Choice, Foreach, Until, Branches, no_branch, branch, Graph, done, add}
use Rattle.wf_def.specs.Definition.{holds, has, has_any}
use Rattle.wf_def.specs.Address.{Address, starts, is_in, is_within, is_among}
use Rattle.wf_def.specs.Seen.{Once, OnceIn, OnceAny}
use Rattle.wf_def.specs.Variables.{exclusive, exclusive_any, exclusive_in}
use Rattle.wf_def.proofs.Basics.{and_of}
use Rattle.wf_paths.proofs.PathLemmas.{or_left, or_right}
use Rattle.wf_order.specs.Indexes.{HaveSameIndexes, loops_any, loops_in, loops_round}
use Rattle.wf_order.specs.Order.{Among, Exclusive, around_any, stand, stand_any, stand_in, up}
use Rattle.wf_order.proofs.OrderLaws.{around-branch, around-branches, at_first, behind_first, branch_passed, clash, first_passed, in_first}
use Rattle.wf_order.proofs.OrderLaws.{kind_passed, stands, two}
use Rattle.wf_order.proofs.SeenLaws.{branch_up, branches_up, in_held, inner_up, last_or, loops-branch, loops-branches, loops-inner}
use Rattle.wf_order.proofs.SeenLaws.{loops-rest, not_in, rest_up, starts_front, starts_more, up_any, up_in, within}

abbrev Stand : Type 0
Stand = Option (ℕ × ℕ)

none_first : (b c : Bool) → (b || c) ≡ false → b ≡ false
none_first true c is = is
none_first false c is = refl

none_second : (b c : Bool) → (b || c) ≡ false → c ≡ false
none_second true c is = absurd (cc)
none_second false c is = is

-- ---- where an action of a graph stands

stand-first : (own : Stand) (n : ℕ) (after : List Need) (kind : Kind) (rest : Graph) (m : ℕ) → nat_eq n m ≡ true
    → stand own (add n after kind rest) m ≡ own
stand-first own n after kind rest m is = ap (λ (b : Bool). cond b own (cond (holds kind m) (stand_in n kind m) (stand own rest m))) is

stand-inner : (own : Stand) (n : ℕ) (after : List Need) (kind : Kind) (rest : Graph) (m : ℕ) → nat_eq n m ≡ false → holds kind m ≡ true
    → stand own (add n after kind rest) m ≡ stand_in n kind m
stand-inner own n after kind rest m other held =
    ap (λ (b : Bool). cond b own (cond (holds kind m) (stand_in n kind m) (stand own rest m))) other
    ∙ ap (λ (b : Bool). cond b (stand_in n kind m) (stand own rest m)) held

stand-rest : (own : Stand) (n : ℕ) (after : List Need) (kind : Kind) (rest : Graph) (m : ℕ) → nat_eq n m ≡ false → holds kind m ≡ false
    → stand own (add n after kind rest) m ≡ stand own rest m
stand-rest own n after kind rest m other out =
    ap (λ (b : Bool). cond b own (cond (holds kind m) (stand_in n kind m) (stand own rest m))) other
    ∙ ap (λ (b : Bool). cond b (stand_in n kind m) (stand own rest m)) out

stand-branch : (n j : ℕ) (b : Graph) (rest : Branches) (m : ℕ) → has b m ≡ true
    → stand_any n j (branch b rest) m ≡ stand (Some (n, j)) b m
stand-branch n j b rest m is = ap (λ (c : Bool). cond c (stand (Some (n, j)) b m) (stand_any n (suc j) rest m)) is

stand-branches : (n j : ℕ) (b : Graph) (rest : Branches) (m : ℕ) → has b m ≡ false
    → stand_any n j (branch b rest) m ≡ stand_any n (suc j) rest m
stand-branches n j b rest m is = ap (λ (c : Bool). cond c (stand (Some (n, j)) b m) (stand_any n (suc j) rest m)) is

-- an action that stands somewhere is there
stand_has : (own : Stand) (g : Graph) (m : ℕ) (p : ℕ × ℕ) → stand own g m ≡ Some p → has g m ≡ true
stand_has own done m p is = absurd (cc)
stand_has own (add n after kind rest) m p is = elim (stands n kind rest m) [
  | at_first same ↦ or_left (nat_eq n m || holds kind m) (has rest m) (or_left (nat_eq n m) (holds kind m) same)
  | in_first other held ↦ or_left (nat_eq n m || holds kind m) (has rest m) (or_right (nat_eq n m) (holds kind m) held)
  | behind_first other out ↦ or_right (nat_eq n m || holds kind m) (has rest m)
      (stand_has own rest m p (sym (stand-rest own n after kind rest m other out) ∙ is))
]

any_has : (n j : ℕ) (bs : Branches) (m : ℕ) (p : ℕ × ℕ) → stand_any n j bs m ≡ Some p → has_any bs m ≡ true
any_has n j no_branch m p is = absurd (cc)
any_has n j (branch b rest) m p is = elim (two (has b m)) [
  | inl here ↦ or_left (has b m) (has_any rest m) here
  | inr out ↦ or_right (has b m) (has_any rest m) (any_has n (suc j) rest m p (sym (stand-branches n j b rest m out) ∙ is))
]

first_of : (a b : ℕ × ℕ) → Some a ≡ Some b → a.0 ≡ b.0
first_of a b is = ap (λ (p : ℕ × ℕ). p.0) (inside a b is)
  where
    inside : (a b : ℕ × ℕ) → Some a ≡ Some b → a ≡ b
    inside a b is = cc

-- the container that it stands in is inside, or the one round the graph
mutual
  stand_where : (own : Stand) (g : Graph) (m c l : ℕ) → stand own g m ≡ Some (c, l) → (has g c ≡ true) ⊎ (own ≡ Some (c, l))
  stand_where own done m c l is = absurd (cc)
  stand_where own (add n after kind rest) m c l is = elim (stands n kind rest m) [
    | at_first same ↦ inr (sym (stand-first own n after kind rest m same) ∙ is)
    | in_first other held ↦
        elim (kind_where n kind m c l (sym (stand-inner own n after kind rest m other held) ∙ is)) [
          | inl n_is ↦ inl (or_left (nat_eq n c || holds kind c) (has rest c) (or_left (nat_eq n c) (holds kind c) (eq-eqb n c n_is)))
          | inr deeper ↦ inl (or_left (nat_eq n c || holds kind c) (has rest c) (or_right (nat_eq n c) (holds kind c) deeper))
        ]
    | behind_first other out ↦
        elim (stand_where own rest m c l (sym (stand-rest own n after kind rest m other out) ∙ is)) [
          | inl there ↦ inl (or_right (nat_eq n c || holds kind c) (has rest c) there)
          | inr outer ↦ inr outer
        ]
  ]

  kind_where : (n : ℕ) (kind : Kind) (m c l : ℕ) → stand_in n kind m ≡ Some (c, l) → (n ≡ c) ⊎ (holds kind c ≡ true)
  kind_where n Leaf m c l is = absurd (cc)
  kind_where n (Scope g) m c l is = elim (stand_where None g m c l is) [ inl there ↦ inr there | inr none ↦ absurd (cc) ]
  kind_where n (Choice bs) m c l is = any_where n 1 bs m c l is
  kind_where n (Foreach pace g) m c l is = elim (stand_where None g m c l is) [ inl there ↦ inr there | inr none ↦ absurd (cc) ]
  kind_where n (Until most g) m c l is = elim (stand_where None g m c l is) [ inl there ↦ inr there | inr none ↦ absurd (cc) ]

  any_where : (n j : ℕ) (bs : Branches) (m c l : ℕ) → stand_any n j bs m ≡ Some (c, l) → (n ≡ c) ⊎ (has_any bs c ≡ true)
  any_where n j no_branch m c l is = absurd (cc)
  any_where n j (branch b rest) m c l is = elim (two (has b m)) [
    | inl here ↦ elim (stand_where (Some (n, j)) b m c l (sym (stand-branch n j b rest m here) ∙ is)) [
      | inl there ↦ inr (or_left (has b c) (has_any rest c) there)
      | inr outer ↦ inl (first_of (n, j) (c, l) outer)
    ]
    | inr out ↦ elim (any_where n (suc j) rest m c l (sym (stand-branches n j b rest m out) ∙ is)) [
      | inl n_is ↦ inl n_is
      | inr there ↦ inr (or_right (has b c) (has_any rest c) there)
    ]
  ]

second_of : (a b : ℕ × ℕ) → Some a ≡ Some b → a.1 ≡ b.1
second_of a b is = ap (λ (p : ℕ × ℕ). p.1) (inside a b is)
  where
    inside : (a b : ℕ × ℕ) → Some a ≡ Some b → a ≡ b
    inside a b is = cc

-- an action round which there is one of the branches stands in one of them
round_any : (bs : Branches) (m c : ℕ) → Among (around_any bs m) c → has_any bs m ≡ true
round_any no_branch m c among = elim among [ ]
round_any (branch b rest) m c among = elim (two (has b m)) [
  | inl here ↦ or_left (has b m) (has_any rest m) here
  | inr out ↦ or_right (has b m) (has_any rest m)
      (round_any rest m c (subst (λ (xs : List ℕ). Among xs c) (around-branches b rest m out) among))
]

up_there : (bs : Branches) (m c : ℕ) → Among (up_any bs m) c → has_any bs c ≡ true → has_any bs m ≡ true
up_there bs m c among there = elim (last_or (around_any bs m) m c among) [
  | inl round ↦ round_any bs m c round
  | inr is ↦ subst (λ (k : ℕ). has_any bs k ≡ true) (sym is) there
]

-- ---- the walk

module _ (x y : Address) (one other c l r : ℕ) (apart : l ≢ r) where
  record Begins (i k : List ℕ) : Type 0 where
    of_one : starts (i ++ k) x.at ≡ true
    of_other : starts (i ++ k) y.at ≡ true

  stepped : (i k : List ℕ) (j : ℕ) → Begins i (j ∷ k) → Begins (i ++ j ∷ []) k
  stepped i k j begins = record {
    of_one = starts_more i (j ∷ []) k x.at begins.of_one;
    of_other = starts_more i (j ∷ []) k y.at begins.of_other;
  }

  not_outer : (own : Stand) (g : Graph) → ((q : ℕ × ℕ) → own ≡ Some q → has g q.0 ≡ false) → (m : ℕ) → own ≡ Some (c, m)
      → has g c ≡ true → ⊥
  not_outer own g fresh m is there = clash (has g c) there (fresh (c, m) is)

  both_outer : (own : Stand) → own ≡ Some (c, l) → own ≡ Some (c, r) → ⊥
  both_outer own is_l is_r = apart (second_of (c, l) (c, r) (sym is_l ∙ is_r))

  turn : (g : Graph) (i k : List ℕ) → has g x.name ≡ true → has g y.name ≡ true → length k ≡ suc (loops_round g x.name y.name) → Begins i k
      → ((j : ℕ) (k' : List ℕ) → length k' ≡ loops_round g x.name y.name → Begins (i ++ j ∷ []) k' → exclusive g (i ++ j ∷ []) x y)
      → (j : ℕ) × (is_within g (i ++ j ∷ []) x ≡ true) × (is_within g (i ++ j ∷ []) y ≡ true) × exclusive g (i ++ j ∷ []) x y
  turn g i [] in_x in_y count begins deeper = absurd (omega (arith, count))
  turn g i (j ∷ k) in_x in_y count begins deeper =
      let inner = stepped i k j begins in (
        j,
        within g (i ++ j ∷ []) x in_x (starts_front (i ++ j ∷ []) k x.at inner.of_one),
        within g (i ++ j ∷ []) y in_y (starts_front (i ++ j ∷ []) k y.at inner.of_other),
        deeper j k (omega (arith, count)) inner,
      )

  mutual
    graph_excludes : (own : Stand) (g : Graph) → Once g → ((q : ℕ × ℕ) → own ≡ Some q → has g q.0 ≡ false) → (i k : List ℕ)
        → Among (up g x.name) one → Among (up g y.name) other → stand own g one ≡ Some (c, l) → stand own g other ≡ Some (c, r)
        → length k ≡ loops_round g x.name y.name → Begins i k → exclusive g i x y
    graph_excludes own done once fresh i k one_up other_up one_at other_at count begins = absurd (cc)
    graph_excludes own (add n after kind rest) once fresh i k one_up other_up one_at other_at count begins =
        let g = add n after kind rest in
        elim (stands n kind rest one) [
          | at_first one_is ↦
              let outer_l = sym (stand-first own n after kind rest one one_is) ∙ one_at in
              elim (stand_where own g other c r other_at) [
                | inl there ↦ absurd (not_outer own g fresh l outer_l there)
                | inr outer_r ↦ absurd (both_outer own outer_l outer_r)
              ]
          | in_first one_other one_in ↦
              let inner_l = sym (stand-inner own n after kind rest one one_other one_in) ∙ one_at in
              elim (stands n kind rest other) [
                | at_first other_is ↦
                    let outer_r = sym (stand-first own n after kind rest other other_is) ∙ other_at in
                    elim (stand_where own g one c l one_at) [
                      | inl there ↦ absurd (not_outer own g fresh r outer_r there)
                      | inr outer_l ↦ absurd (both_outer own outer_l outer_r)
                    ]
                | in_first other_other other_in ↦
                    let inner_r = sym (stand-inner own n after kind rest other other_other other_in) ∙ other_at in
                    let of_x = inner_up n after kind rest once x.name one one_up one_in in
                    let of_y = inner_up n after kind rest once y.name other other_up other_in in
                    inl (
                      in_held n kind i x of_x.0 (starts_front i k x.at begins.of_one),
                      in_held n kind i y of_y.0 (starts_front i k y.at begins.of_other),
                      kind_excludes n kind once.2 once.0 i k of_x.0 of_y.0 of_x.1 of_y.1 inner_l inner_r
                          (count ∙ loops-inner n after kind rest x.name y.name of_x.0 of_y.0) begins,
                    )
                | behind_first other_other other_out ↦
                    let later_r = sym (stand-rest own n after kind rest other other_other other_out) ∙ other_at in
                    let first : (nat_eq n c || holds kind c) ≡ true = elim (kind_where n kind one c l inner_l) [
                      | inl n_is ↦ or_left (nat_eq n c) (holds kind c) (eq-eqb n c n_is)
                      | inr deeper ↦ or_right (nat_eq n c) (holds kind c) deeper
                    ] in
                    elim (stand_where own rest other c r later_r) [
                      | inl there ↦ absurd (clash (has rest c) there (once.1 c first))
                      | inr outer ↦ absurd (not_outer own g fresh r outer (or_left (nat_eq n c || holds kind c) (has rest c) first))
                    ]
              ]
          | behind_first one_other one_out ↦
              let later_l = sym (stand-rest own n after kind rest one one_other one_out) ∙ one_at in
              elim (stands n kind rest other) [
                | at_first other_is ↦
                    let outer_r = sym (stand-first own n after kind rest other other_is) ∙ other_at in
                    elim (stand_where own g one c l one_at) [
                      | inl there ↦ absurd (not_outer own g fresh r outer_r there)
                      | inr outer_l ↦ absurd (both_outer own outer_l outer_r)
                    ]
                | in_first other_other other_in ↦
                    let inner_r = sym (stand-inner own n after kind rest other other_other other_in) ∙ other_at in
                    let first : (nat_eq n c || holds kind c) ≡ true = elim (kind_where n kind other c r inner_r) [
                      | inl n_is ↦ or_left (nat_eq n c) (holds kind c) (eq-eqb n c n_is)
                      | inr deeper ↦ or_right (nat_eq n c) (holds kind c) deeper
                    ] in
                    elim (stand_where own rest one c l later_l) [
                      | inl there ↦ absurd (clash (has rest c) there (once.1 c first))
                      | inr outer ↦ absurd (not_outer own g fresh l outer (or_left (nat_eq n c || holds kind c) (has rest c) first))
                    ]
                | behind_first other_other other_out ↦
                    let later_r = sym (stand-rest own n after kind rest other other_other other_out) ∙ other_at in
                    let of_x = rest_up n after kind rest once x.name one one_up (stand_has own rest one (c, l) later_l) in
                    let of_y = rest_up n after kind rest once y.name other other_up (stand_has own rest other (c, r) later_r) in
                    inr (
                      not_in n kind i x of_x.other of_x.out,
                      graph_excludes own rest once.3
                          (λ q is. none_second (nat_eq n q.0 || holds kind q.0) (has rest q.0) (fresh q is)) i k of_x.among of_y.among
                          later_l
                          later_r (count ∙ loops-rest n after kind rest x.name y.name of_x.out) begins,
                    )
              ]
        ]

    kind_excludes : (n : ℕ) (kind : Kind) → OnceIn kind → holds kind n ≡ false → (i k : List ℕ) → holds kind x.name ≡ true
        → holds kind y.name ≡ true → Among (up_in kind x.name) one → Among (up_in kind y.name) other
        → stand_in n kind one ≡ Some (c, l) → stand_in n kind other ≡ Some (c, r) → length k ≡ loops_in kind x.name y.name → Begins i k
        → exclusive_in kind i x y
    kind_excludes n Leaf once out i k in_x in_y one_up other_up one_at other_at count begins = absurd (cc)
    kind_excludes n (Scope g) once out i k in_x in_y one_up other_up one_at other_at count begins = (
      within g i x in_x (starts_front i k x.at begins.of_one),
      within g i y in_y (starts_front i k y.at begins.of_other),
      graph_excludes None g once (λ q is. absurd (cc)) i k one_up other_up one_at other_at count begins,
    )
    kind_excludes n (Choice bs) once out i k in_x in_y one_up other_up one_at other_at count begins =
        any_excludes n 1 bs once out i k one_up other_up one_at other_at count begins
    kind_excludes n (Foreach pace g) once out i k in_x in_y one_up other_up one_at other_at count begins =
        turn g i k in_x in_y count begins
        (λ j k' same inner. graph_excludes None g once (λ q is. absurd (cc)) (i ++ j ∷ []) k' one_up other_up one_at other_at same inner)
    kind_excludes n (Until most g) once out i k in_x in_y one_up other_up one_at other_at count begins =
        turn g i k in_x in_y count begins
        (λ j k' same inner. graph_excludes None g once (λ q is. absurd (cc)) (i ++ j ∷ []) k' one_up other_up one_at other_at same inner)

    any_excludes : (n j : ℕ) (bs : Branches) → OnceAny bs → has_any bs n ≡ false → (i k : List ℕ) → Among (up_any bs x.name) one
        → Among (up_any bs y.name) other → stand_any n j bs one ≡ Some (c, l) → stand_any n j bs other ≡ Some (c, r)
        → length k ≡ loops_any bs x.name y.name → Begins i k → exclusive_any bs i x y
    any_excludes n j no_branch once out i k one_up other_up one_at other_at count begins = absurd (cc)
    any_excludes n j (branch b rest) once out i k one_up other_up one_at other_at count begins = elim (two (has b one)) [
      | inl one_in ↦ elim (two (has b other)) [
        | inl other_in ↦
            let of_x = branch_up b rest once x.name one one_up one_in in
            let of_y = branch_up b rest once y.name other other_up other_in in
            inr (inl (
              within b i x of_x.0 (starts_front i k x.at begins.of_one),
              within b i y of_y.0 (starts_front i k y.at begins.of_other),
              graph_excludes (Some (n, j)) b once.1
                  (λ q is. subst (λ (m : ℕ). has b m ≡ false) (first_of (n, j) q is) (none_first (has b n) (has_any rest n) out)) i k of_x.1
                  of_y.1 (sym (stand-branch n j b rest one one_in) ∙ one_at) (sym (stand-branch n j b rest other other_in) ∙ other_at)
                  (count ∙ loops-branch b rest x.name y.name of_x.0 of_y.0) begins,
            ))
        | inr other_out ↦
            let of_x = branch_up b rest once x.name one one_up one_in in
            let there = any_has n (suc j) rest other (c, r) (sym (stand-branches n j b rest other other_out) ∙ other_at) in
            let of_y = branches_up b rest once y.name other other_up there in
            inl (inl (
              within b i x of_x.0 (starts_front i k x.at begins.of_one),
              and_of (has_any rest y.name) (starts i y.at) (up_there rest y.name other of_y.1 there)
                  (starts_front i k y.at begins.of_other),
            ))
      ]
      | inr one_out ↦
          let later_l = sym (stand-branches n j b rest one one_out) ∙ one_at in
          let one_there = any_has n (suc j) rest one (c, l) later_l in
          let of_x = branches_up b rest once x.name one one_up one_there in
          elim (two (has b other)) [
            | inl other_in ↦
                let of_y = branch_up b rest once y.name other other_up other_in in
                inl (inr (
                  and_of (has_any rest x.name) (starts i x.at) (up_there rest x.name one of_x.1 one_there)
                      (starts_front i k x.at begins.of_one),
                  within b i y of_y.0 (starts_front i k y.at begins.of_other),
                ))
            | inr other_out ↦
                let later_r = sym (stand-branches n j b rest other other_out) ∙ other_at in
                let of_y = branches_up b rest once y.name other other_up (any_has n (suc j) rest other (c, r) later_r) in
                inr (inr (any_excludes n (suc j) rest once.2 (none_second (has b n) (has_any rest n) out) i k of_x.1 of_y.1 later_l later_r
                (count ∙ loops-branches b rest x.name y.name of_x.0) begins))
          ]
    ]

pub exclusive_instances : (g : Graph) → Once g → (x y : Address) → Exclusive g x.name y.name → HaveSameIndexes g x y → exclusive g [] x y
exclusive_instances g once x y e same =
    graph_excludes x y e.one e.other e.container e.left e.right e.apart None g once (λ q is. absurd (cc)) [] same.indexes
    e.one_up e.other_up
    e.one_stands e.other_stands same.each_loop
    (record { of_one = same.of_one; of_other = same.of_other })
