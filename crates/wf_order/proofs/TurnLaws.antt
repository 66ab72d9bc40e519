-- Of two instances whose loops go one after the other, the first index in which they differ decides.
use Rattle.std.proofs.Common.{◌≡◌, ◌<◌, ◌≤◌, ◌+◌, ℕ, zero, suc, Bool, true, false, ◌&&◌, ◌||◌, cond, List, [], ◌∷◌, ◌++◌, length, ◌⊎◌, inl}
use Rattle.std.proofs.Common.{inr, refl, sym, ap, subst, ◌∙◌, append_assoc, arith, nat_eq}
use Rattle.std.proofs.lemmas.Bool.{eq-eqb, eqb-true}
use Rattle.wf_def.specs.Definition.{Need, InTurn, Kind, Leaf, Scope, Choice, Foreach, Until, Branches, no_branch, branch, Graph, done}
use Rattle.wf_def.specs.Definition.{add, holds, has, has_any, IsBefore}
use Rattle.wf_def.specs.Address.{Address, starts, is_in, is_within, earlier_in, earlier_any, together, SeenIn}
use Rattle.wf_def.specs.Seen.{Once, OnceIn, OnceAny}
use Rattle.wf_def.proofs.Basics.{and_in, and_of}
use Rattle.wf_paths.proofs.PathLemmas.{or_left, or_right, or_split}
use Rattle.wf_order.specs.Indexes.{HaveSameIndexes, loops_any, loops_in, loops_round}
use Rattle.wf_order.specs.Turns.{EachLoopAny, EachLoopIn, GoesInTurn, IsInstance, IsInTurn}
use Rattle.wf_order.proofs.OrderLaws.{at_first, behind_first, clash, in_first, stands, two, kind_passed, first_passed, branch_passed}
use Rattle.wf_order.proofs.OrderLaws.{not_first}
use Rattle.wf_order.proofs.SeenLaws.{in_held, not_in, within, loops-inner, loops-rest, loops-branch, loops-branches, starts_front}

-- ---- lists of indexes

-- one index more
next_index : (i at : List ℕ) → starts i at ≡ true → length i < length at → (j : ℕ) × (starts (i ++ j ∷ []) at ≡ true)
next_index [] [] begins longer = absurd (omega (arith, longer))
next_index [] (a ∷ at) begins longer = (a, and_of (nat_eq a a) true (eq-eqb a a refl) refl)
next_index (b ∷ i) [] begins longer = absurd (omega (arith, longer))
next_index (b ∷ i) (a ∷ at) begins longer =
    let h = and_in (nat_eq b a) (starts i at) begins in
    let more = next_index i at h.1 (omega (arith, longer)) in
    (more.0, and_of (nat_eq b a) (starts (i ++ more.0 ∷ []) at) h.0 more.1)

length-one : (i : List ℕ) (j : ℕ) → length (i ++ j ∷ []) ≡ suc (length i)
length-one [] j = refl
length-one (a ∷ i) j = ap suc (length-one i j)

data Compared (j m : ℕ) : Type 0 where
  below : j < m → Compared j m
  above : m < j → Compared j m
  equal : j ≡ m → Compared j m

compared : (j m : ℕ) → Compared j m
compared zero zero = equal refl
compared zero (suc m) = below (omega arith)
compared (suc j) zero = above (omega arith)
compared (suc j) (suc m) = elim (compared j m) [
  | below less ↦ below (omega (arith, less))
  | above more ↦ above (omega (arith, more))
  | equal same ↦ equal (ap suc same)
]

-- ---- no loop is round an action that isn't there

pub loops_out : (n : ℕ) (after : List Need) (kind : Kind) (rest : Graph) (x y : ℕ) → (holds kind x && holds kind y) ≡ false
    → loops_round (add n after kind rest) x y ≡ loops_round rest x y
loops_out n after kind rest x y out = ap (λ (b : Bool). cond b (loops_in kind x y) (loops_round rest x y)) out

pub apart_of_one : (b c : Bool) → b ≡ false → (b && c) ≡ false
apart_of_one b c is = ap (λ (a : Bool). a && c) is

pub apart_of_other : (b c : Bool) → c ≡ false → (b && c) ≡ false
apart_of_other true c is = is
apart_of_other false c is = refl

none_first : (b c : Bool) → (b || c) ≡ false → b ≡ false
none_first true c is = is
none_first false c is = refl

none_second : (b c : Bool) → (b || c) ≡ false → c ≡ false
none_second true c is = absurd (cc)
none_second false c is = is

pub no_loops : (g : Graph) (x y : ℕ) → has g x ≡ false → loops_round g x y ≡ 0
no_loops done x y out = refl
no_loops (add n after kind rest) x y out =
    loops_out n after kind rest x y
    (apart_of_one (holds kind x) (holds kind y)
    (none_second (nat_eq n x) (holds kind x) (none_first (nat_eq n x || holds kind x) (has rest x) out)))
    ∙ no_loops rest x y (none_second (nat_eq n x || holds kind x) (has rest x) out)

no_loops_other : (g : Graph) (x y : ℕ) → has g y ≡ false → loops_round g x y ≡ 0
no_loops_other done x y out = refl
no_loops_other (add n after kind rest) x y out =
    loops_out n after kind rest x y
    (apart_of_other (holds kind x) (holds kind y)
    (none_second (nat_eq n y) (holds kind y) (none_first (nat_eq n y || holds kind y) (has rest y) out)))
    ∙ no_loops_other rest x y (none_second (nat_eq n y || holds kind y) (has rest y) out)

pub loops_none : (b : Graph) (rest : Branches) (x y : ℕ) → (has b x && has b y) ≡ false → loops_any (branch b rest) x y ≡ loops_any rest x y
loops_none b rest x y out = ap (λ (c : Bool). cond c (loops_round b x y) (loops_any rest x y)) out

no_loops_any : (bs : Branches) (x y : ℕ) → has_any bs x ≡ false → loops_any bs x y ≡ 0
no_loops_any no_branch x y out = refl
no_loops_any (branch b rest) x y out =
    loops_none b rest x y (apart_of_one (has b x) (has b y) (none_first (has b x) (has_any rest x) out))
    ∙ no_loops_any rest x y (none_second (has b x) (has_any rest x) out)

no_loops_any_other : (bs : Branches) (x y : ℕ) → has_any bs y ≡ false → loops_any bs x y ≡ 0
no_loops_any_other no_branch x y out = refl
no_loops_any_other (branch b rest) x y out =
    loops_none b rest x y (apart_of_other (has b x) (has b y) (none_first (has b y) (has_any rest y) out))
    ∙ no_loops_any_other rest x y (none_second (has b y) (has_any rest y) out)

at_end : (i at : List ℕ) → starts i at ≡ true → starts (i ++ []) at ≡ true
at_end [] at is = refl
at_end (a ∷ i) [] is = is
at_end (a ∷ i) (b ∷ at) is =
    let h = and_in (nat_eq a b) (starts i at) is in and_of (nat_eq a b) (starts (i ++ []) at) h.0 (at_end i at h.1)

-- ---- the walk

module _ (low : ℕ → ℕ → Type 0) (x y : Address) where
  -- so many indexes behind the first ones are those of both
  record Alike (i : List ℕ) (loops : ℕ) : Type 0 where
    indexes : List ℕ
    each : length indexes ≡ loops
    of_one : starts (i ++ indexes) x.at ≡ true
    of_other : starts (i ++ indexes) y.at ≡ true

  alike_none : (i : List ℕ) (loops : ℕ) → loops ≡ 0 → starts i x.at ≡ true → starts i y.at ≡ true → Alike i loops
  alike_none i loops none begins_x begins_y =
      record { indexes = []; each = sym none; of_one = at_end i x.at begins_x; of_other = at_end i y.at begins_y }

  alike_as : (i : List ℕ) (a b : ℕ) → a ≡ b → Alike i a → Alike i b
  alike_as i a b same h = subst (λ (l : ℕ). Alike i l) same h

  alike_more : (i : List ℕ) (j loops : ℕ) → Alike (i ++ j ∷ []) loops → Alike i (suc loops)
  alike_more i j loops h = record {
    indexes = j ∷ h.indexes;
    each = ap suc h.each;
    of_one = subst (λ (xs : List ℕ). starts xs x.at ≡ true) (append_assoc i (j ∷ []) h.indexes) h.of_one;
    of_other = subst (λ (xs : List ℕ). starts xs y.at ≡ true) (append_assoc i (j ∷ []) h.indexes) h.of_other;
  }

  -- the indexes so far, and that there is one for each loop behind them
  record Goes (i : List ℕ) (loops_x loops_y : ℕ) : Type 0 where
    of_one : starts i x.at ≡ true
    of_other : starts i y.at ≡ true
    enough_one : length i + loops_x ≤ length x.at
    enough_other : length i + loops_y ≤ length y.at

  goes_as : (i : List ℕ) (a b a' b' : ℕ) → a ≡ a' → b ≡ b' → Goes i a b → Goes i a' b'
  goes_as i a b a' b' same other h = subst (λ (l : ℕ). Goes i l b') same (subst (λ (l : ℕ). Goes i a l) other h)

  abbrev Decided : Graph → List ℕ → Type 0
  Decided g i = Alike i (loops_round g x.name y.name) ⊎ (together low g i x y ⊎ together low g i y x)

  abbrev DecidedIn : Kind → List ℕ → Type 0
  DecidedIn kind i = Alike i (loops_in kind x.name y.name) ⊎ (earlier_in low kind i x y ⊎ earlier_in low kind i y x)

  abbrev DecidedAny : Branches → List ℕ → Type 0
  DecidedAny bs i = Alike i (loops_any bs x.name y.name) ⊎ (earlier_any low bs i x y ⊎ earlier_any low bs i y x)

  -- one iteration, or two of them
  module _ (g : Graph) (i : List ℕ) (in_x : has g x.name ≡ true) (in_y : has g y.name ≡ true)
      (goes : Goes i (suc (loops_round g x.name x.name)) (suc (loops_round g y.name y.name)))
      (deeper : (j : ℕ) → Goes (i ++ j ∷ []) (loops_round g x.name x.name) (loops_round g y.name y.name) → Decided g (i ++ j ∷ [])) where
    abbrev OneTurn : Address → Address → Type 0
    OneTurn a b = (j : ℕ) × (is_within g (i ++ j ∷ []) a ≡ true) × (is_within g (i ++ j ∷ []) b ≡ true) × together low g (i ++ j ∷ []) a b

    abbrev TwoTurns : Address → Address → Type 0
    TwoTurns a b = (j : ℕ) × (m : ℕ) × (j < m) × (is_within g (i ++ j ∷ []) a ≡ true) × (is_within g (i ++ m ∷ []) b ≡ true)

    data Turned : Type 0 where
      alike : Alike i (suc (loops_round g x.name y.name)) → Turned
      one_first : OneTurn x y → Turned
      one_last : OneTurn y x → Turned
      two_first : TwoTurns x y → Turned
      two_last : TwoTurns y x → Turned

    same_turn : (j : ℕ) → starts (i ++ j ∷ []) x.at ≡ true → starts (i ++ j ∷ []) y.at ≡ true → Turned
    same_turn j begins_x begins_y =
        let inner : Goes (i ++ j ∷ []) (loops_round g x.name x.name) (loops_round g y.name y.name) = record {
          of_one = begins_x;
          of_other = begins_y;
          enough_one = omega (arith, length-one i j, goes.enough_one);
          enough_other = omega (arith, length-one i j, goes.enough_other);
        } in
        elim (deeper j inner) [
          | inl h ↦ alike (alike_more i j (loops_round g x.name y.name) h)
          | inr decided ↦ elim decided [
            | inl h ↦ one_first (j, within g (i ++ j ∷ []) x in_x begins_x, within g (i ++ j ∷ []) y in_y begins_y, h)
            | inr h ↦ one_last (j, within g (i ++ j ∷ []) y in_y begins_y, within g (i ++ j ∷ []) x in_x begins_x, h)
          ]
        ]

    turned : Turned
    turned =
        let of_x = next_index i x.at goes.of_one (omega (arith, goes.enough_one)) in
        let of_y = next_index i y.at goes.of_other (omega (arith, goes.enough_other)) in
        elim (compared of_x.0 of_y.0) [
          | below less ↦
              two_first (of_x.0, of_y.0, less, within g (i ++ of_x.0 ∷ []) x in_x of_x.1, within g (i ++ of_y.0 ∷ []) y in_y of_y.1)
          | above more ↦
              two_last (of_y.0, of_x.0, more, within g (i ++ of_y.0 ∷ []) y in_y of_y.1, within g (i ++ of_x.0 ∷ []) x in_x of_x.1)
          | equal same ↦
              same_turn of_x.0 of_x.1 (subst (λ (m : ℕ). starts (i ++ m ∷ []) y.at ≡ true) (sym same) of_y.1)
        ]

  mutual
    graph_decided : (g : Graph) → Once g → (i : List ℕ) → has g x.name ≡ true → has g y.name ≡ true → IsInTurn g x.name
        → Goes i (loops_round g x.name x.name) (loops_round g y.name y.name) → Decided g i
    graph_decided done once i in_x in_y in_turn goes = inl (alike_none i 0 refl goes.of_one goes.of_other)
    graph_decided (add n after kind rest) once i in_x in_y in_turn goes = elim (two (holds kind x.name && holds kind y.name)) [
      | inl both ↦
          let h = and_in (holds kind x.name) (holds kind y.name) both in
          elim (kind_decided kind once.2 i h.0 h.1 (in_turn.0 h.0)
          (goes_as i _ _ _ _ (loops-inner n after kind rest x.name x.name h.0 h.0)
          (loops-inner n after kind rest y.name y.name h.1 h.1) goes)) [
            | inl same ↦ inl (alike_as i _ _ (sym (loops-inner n after kind rest x.name y.name h.0 h.1)) same)
            | inr decided ↦ elim decided [
              | inl e ↦ inr (inl (inl (in_held n kind i y h.1 goes.of_other, in_held n kind i x h.0 goes.of_one, e)))
              | inr e ↦ inr (inr (inl (in_held n kind i x h.0 goes.of_one, in_held n kind i y h.1 goes.of_other, e)))
            ]
          ]
      | inr out ↦ elim (two (has rest x.name)) [
        | inr no_x ↦ inl (alike_none i _ (loops_out n after kind rest x.name y.name out ∙ no_loops rest x.name y.name no_x)
            goes.of_one goes.of_other)
        | inl there_x ↦ elim (two (has rest y.name)) [
          | inr no_y ↦ inl (alike_none i _ (loops_out n after kind rest x.name y.name out ∙ no_loops_other rest x.name y.name no_y)
              goes.of_one goes.of_other)
          | inl there_y ↦
              let out_x = kind_passed n x.name kind rest once.1 there_x in
              let out_y = kind_passed n y.name kind rest once.1 there_y in
              elim (graph_decided rest once.3 i there_x there_y in_turn.1
              (goes_as i _ _ _ _ (loops-rest n after kind rest x.name x.name out_x)
              (loops-rest n after kind rest y.name y.name out_y) goes)) [
                | inl same ↦ inl (alike_as i _ _ (sym (loops_out n after kind rest x.name y.name out)) same)
                | inr decided ↦ elim decided [
                  | inl e ↦ inr (inl (inr (not_in n kind i y (first_passed n y.name kind rest once.1 there_y) out_y, e)))
                  | inr e ↦ inr (inr (inr (not_in n kind i x (first_passed n x.name kind rest once.1 there_x) out_x, e)))
                ]
              ]
        ]
      ]
    ]

    kind_decided : (kind : Kind) → OnceIn kind → (i : List ℕ) → holds kind x.name ≡ true → holds kind y.name ≡ true
        → EachLoopIn GoesInTurn kind x.name → Goes i (loops_in kind x.name x.name) (loops_in kind y.name y.name) → DecidedIn kind i
    kind_decided Leaf once i in_x in_y in_turn goes = inl (alike_none i 0 refl goes.of_one goes.of_other)
    kind_decided (Scope g) once i in_x in_y in_turn goes = elim (graph_decided g once i in_x in_y in_turn goes) [
      | inl same ↦ inl same
      | inr decided ↦ elim decided [
        | inl e ↦ inr (inl (within g i x in_x goes.of_one, within g i y in_y goes.of_other, inr e))
        | inr e ↦ inr (inr (within g i y in_y goes.of_other, within g i x in_x goes.of_one, inr e))
      ]
    ]
    kind_decided (Choice bs) once i in_x in_y in_turn goes = any_decided bs once i in_x in_y in_turn goes
    kind_decided (Foreach pace g) once i in_x in_y in_turn goes =
        elim (turned g i in_x in_y goes (λ j inner. graph_decided g once (i ++ j ∷ []) in_x in_y in_turn.1 inner)) [
          | alike h ↦ inl h
          | one_first h ↦ inr (inl (inl (h.0, h.1, h.2, inr h.3)))
          | one_last h ↦ inr (inr (inl (h.0, h.1, h.2, inr h.3)))
          | two_first h ↦ inr (inl (inr (h.0, h.1, in_turn.0, h.2, h.3, h.4)))
          | two_last h ↦ inr (inr (inr (h.0, h.1, in_turn.0, h.2, h.3, h.4)))
        ]
    kind_decided (Until most g) once i in_x in_y in_turn goes =
        elim (turned g i in_x in_y goes (λ j inner. graph_decided g once (i ++ j ∷ []) in_x in_y in_turn.1 inner)) [
          | alike h ↦ inl h
          | one_first h ↦ inr (inl (inl (h.0, h.1, h.2, inr h.3)))
          | one_last h ↦ inr (inr (inl (h.0, h.1, h.2, inr h.3)))
          | two_first h ↦ inr (inl (inr (h.0, h.1, h.2, h.3, h.4)))
          | two_last h ↦ inr (inr (inr (h.0, h.1, h.2, h.3, h.4)))
        ]

    any_decided : (bs : Branches) → OnceAny bs → (i : List ℕ) → has_any bs x.name ≡ true → has_any bs y.name ≡ true
        → EachLoopAny GoesInTurn bs x.name → Goes i (loops_any bs x.name x.name) (loops_any bs y.name y.name) → DecidedAny bs i
    any_decided no_branch once i in_x in_y in_turn goes = absurd (cc)
    any_decided (branch b rest) once i in_x in_y in_turn goes = elim (two (has b x.name && has b y.name)) [
      | inl both ↦
          let h = and_in (has b x.name) (has b y.name) both in
          elim (graph_decided b once.1 i h.0 h.1 (in_turn.0 h.0)
          (goes_as i _ _ _ _ (loops-branch b rest x.name x.name h.0 h.0) (loops-branch b rest y.name y.name h.1 h.1) goes)) [
            | inl same ↦ inl (alike_as i _ _ (sym (loops-branch b rest x.name y.name h.0 h.1)) same)
            | inr decided ↦ elim decided [
              | inl e ↦ inr (inl (inl (within b i x h.0 goes.of_one, within b i y h.1 goes.of_other, inr e)))
              | inr e ↦ inr (inr (inl (within b i y h.1 goes.of_other, within b i x h.0 goes.of_one, inr e)))
            ]
          ]
      | inr out ↦ elim (two (has_any rest x.name)) [
        | inr no_x ↦ inl (alike_none i _ (loops_none b rest x.name y.name out ∙ no_loops_any rest x.name y.name no_x)
            goes.of_one goes.of_other)
        | inl there_x ↦ elim (two (has_any rest y.name)) [
          | inr no_y ↦ inl (alike_none i _ (loops_none b rest x.name y.name out ∙ no_loops_any_other rest x.name y.name no_y)
              goes.of_one goes.of_other)
          | inl there_y ↦
              elim (any_decided rest once.2 i there_x there_y in_turn.1
              (goes_as i _ _ _ _ (loops-branches b rest x.name x.name (branch_passed b rest x.name once.0 there_x))
              (loops-branches b rest y.name y.name (branch_passed b rest y.name once.0 there_y)) goes)) [
                | inl same ↦ inl (alike_as i _ _ (sym (loops_none b rest x.name y.name out)) same)
                | inr decided ↦ elim decided [
                  | inl e ↦ inr (inl (inr e))
                  | inr e ↦ inr (inr (inr e))
                ]
              ]
        ]
      ]
    ]

pub turns_decide : (g : Graph) → Once g → (x y : Address) → IsInstance g x → IsInstance g y → IsInTurn g x.name
    → HaveSameIndexes g x y ⊎ (SeenIn g y x ⊎ SeenIn g x y)
turns_decide g once x y of_x of_y in_turn =
    let goes : Goes (IsBefore g) x y [] (loops_round g x.name x.name) (loops_round g y.name y.name) =
    record { of_one = refl; of_other = refl; enough_one = omega (arith, of_x.1); enough_other = omega (arith, of_y.1) } in
    elim (graph_decided (IsBefore g) x y g once [] of_x.0 of_y.0 in_turn goes) [
      | inl same ↦ inl (record { indexes = same.indexes; each_loop = same.each; of_one = same.of_one; of_other = same.of_other })
      | inr decided ↦ elim decided [
        | inl e ↦ inr (inl (within g [] x of_x.0 refl, inr e))
        | inr e ↦ inr (inr (within g [] y of_y.0 refl, inr e))
      ]
    ]
