-- What an instance sees, and what the test of an Until sees, is what their points see; and so are the loops round it.
use Rattle.std.proofs.Common.{◌≡◌, ℕ, suc, ◌<◌, ◌≤◌, Bool, true, false, ◌&&◌, ◌||◌, cond, List, [], ◌∷◌, ◌++◌, length, Option, Some, ◌⊎◌}
use Rattle.std.proofs.Common.{inl, inr, refl, sym, ap, ◌∙◌, arith, subst, nat_eq, eqb-true, true≢false, append_assoc, length-append}
use Rattle.std.specs.Prelude.{nat_lt}
use Rattle.std.specs.List.{AllByRecursion}
use Rattle.std.proofs.lemmas.Bool.{eqb-false, lt-ltb, ltb-true}
use Rattle.wf_layers.specs.Address.{Address, SeenIn, address, starts}
use Rattle.wf_layers.specs.Definition.{Graph, InTurn, Kind, Pace, Until, has, kind_of}
use Rattle.wf_layers.specs.Seen.{Once}
use Rattle.wf_layers.specs.Variables.{SeenByTest}
use Rattle.wf_layers.proofs.Basics.{two, and_in, and_of, or_second, same_self, when, unless}
use Rattle.wf_seen_laws.specs.ActionTree.{action_number}
use Rattle.wf_seen_laws.specs.AllActions.{all_actions, numbered}
use Rattle.wf_seen_laws.specs.DefTree.{DefTree}
use Rattle.wf_seen_laws.specs.Order.{Contains}
use Rattle.wf_seen_laws.specs.Loops.{is_earlier, is_in_turn, loops_of, paces_round}
use Rattle.wf_seen_laws.proofs.FewLemmas.{few_of}
use Rattle.wf_seen_laws.proofs.HeldLemmas.{told_of}
use Rattle.wf_seen_laws.proofs.PrefixLemmas.{starts_front}
use Rattle.wf_seen_laws.proofs.LoopsRoundLemmas.{split_of}
use Rattle.wf_seen_laws.specs.Laws.{IsInTurnFrom, IsInTurnOf}
use Rattle.wf_seen_laws.proofs.InnerLemmas.{loops_inside}
use Rattle.wf_seen_laws.proofs.RoundLemmas.{loop_has, none_split, rest_of}
use Rattle.wf_instance.specs.Points.{Point, graph_of, held_by, is_before, is_inside, point_of, point_of_test, sees}
use Rattle.wf_meant_laws.proofs.PointLemmas.{Seeing, StandsFrom}

-- what is known of a definition
pub record Known (d : DefTree) : Type 0 where
  pub once : Once (graph_of d)
  pub told : (x z : Address) → SeenIn (graph_of d) z x → sees (point_of d z) x ≡ true
  pub only : (x z : Address) → sees (point_of d z) x ≡ true → SeenIn (graph_of d) z x
  pub never_both : (x z : Address) → SeenIn (graph_of d) x z → SeenIn (graph_of d) z x → ⊥
  pub round : (z x : Address) (l : ℕ) (outer at : List ℕ) (turn : ℕ) → IsInTurnOf (graph_of d) x l outer at turn → SeenIn (graph_of d) z x
      → SeenIn (graph_of d) z (address l at) ⊎ IsInTurnFrom (graph_of d) z l outer at turn
  pub apart : (z : Address) (l : ℕ) (outer at : List ℕ) (turn : ℕ) → IsInTurnOf (graph_of d) z l outer at turn
      → SeenIn (graph_of d) z (address l at) → ⊥
  pub outside : (n x : ℕ) → Contains (graph_of d) n x → is_before d x n ≡ true → ⊥
  pub found : AllByRecursion (λ a. numbered (action_number a) d.top ≡ Some a) (all_actions d.top)

-- ---- at an instance

pub at_instance : (d : DefTree) → Known d → (z : Address) → Seeing d (point_of d z) (SeenIn (graph_of d) z)
at_instance d known z = record {
  told = λ x s. known.told x z s;
  only = λ x s. known.only x z s;
  round = λ x l outer at turn of seen. elim (known.round z x l outer at turn of seen) [
    | inl s ↦ inl s
    | inr t ↦ inr (record {
      own = t.own;
      inner = t.stands.inner;
      loops = t.stands.loops;
      behind = t.stands.behind;
      indexes = t.stands.indexes;
      each_loop = t.stands.each_loop;
      from = t.from;
    })
  ];
  apart = λ l outer at turn st s. known.apart z l outer at st.own (record {
    inner = st.inner;
    loops = st.loops;
    behind = st.behind;
    indexes = st.indexes;
    each_loop = st.each_loop;
  }) s;
}

-- ---- the order of instances, with the index of an iteration behind the indexes of the Until

decided_on : (ps qs : List Pace) (is js more : List ℕ) (c : Bool) → is_earlier ps is js false ≡ true
    → is_earlier (ps ++ qs) is (js ++ more) c ≡ true
decided_on [] qs is js more c e = absurd (true≢false (sym e))
decided_on (p ∷ ps) qs [] js more c e = absurd (true≢false (sym e))
decided_on (p ∷ ps) qs (i ∷ is) [] more c e = absurd (true≢false (sym e))
decided_on (p ∷ ps) qs (i ∷ is) (j ∷ js) more c e = elim (two (nat_eq i j)) [
  | inl t ↦ when (nat_eq i j) (is_earlier (ps ++ qs) is (js ++ more) c) (is_in_turn p && nat_lt i j) t
      ∙ decided_on ps qs is js more c (sym (when (nat_eq i j) (is_earlier ps is js false) (is_in_turn p && nat_lt i j) t) ∙ e)
  | inr f ↦ unless (nat_eq i j) (is_earlier (ps ++ qs) is (js ++ more) c) (is_in_turn p && nat_lt i j) f
      ∙ (sym (unless (nat_eq i j) (is_earlier ps is js false) (is_in_turn p && nat_lt i j) f) ∙ e)
]

longer_on : (ps : List Pace) (is js more : List ℕ) (b : Bool) → is_earlier ps is js b ≡ true
    → is_earlier (ps ++ []) is (js ++ more) (b || false) ≡ true
longer_on [] is js more b e = ap (λ (c : Bool). c || false) e
longer_on (p ∷ ps) [] js more b e = absurd (true≢false (sym e))
longer_on (p ∷ ps) (i ∷ is) [] more b e = absurd (true≢false (sym e))
longer_on (p ∷ ps) (i ∷ is) (j ∷ js) more b e = elim (two (nat_eq i j)) [
  | inl t ↦ when (nat_eq i j) (is_earlier (ps ++ []) is (js ++ more) (b || false)) (is_in_turn p && nat_lt i j) t
      ∙ longer_on ps is js more b (sym (when (nat_eq i j) (is_earlier ps is js b) (is_in_turn p && nat_lt i j) t) ∙ e)
  | inr f ↦ unless (nat_eq i j) (is_earlier (ps ++ []) is (js ++ more) (b || false)) (is_in_turn p && nat_lt i j) f
      ∙ (sym (unless (nat_eq i j) (is_earlier ps is js b) (is_in_turn p && nat_lt i j) f) ∙ e)
]

turn_on : (ps : List Pace) (is : List ℕ) (q k : ℕ) (rest : List ℕ) (b : Bool) → length ps ≡ length is → q < suc k
    → is_earlier (ps ++ InTurn ∷ []) (is ++ q ∷ rest) (is ++ k ∷ []) (b || true) ≡ true
turn_on [] [] q k rest b long lt = elim (two (nat_eq q k)) [
  | inl t ↦ when (nat_eq q k) (b || true) (nat_lt q k) t ∙ or_second b true refl
  | inr f ↦ unless (nat_eq q k) (b || true) (nat_lt q k) f ∙ lt-ltb q k (omega (arith, lt, eqb-false q k f))
]
turn_on [] (i ∷ is) q k rest b long lt = absurd (omega (arith, long))
turn_on (p ∷ ps) [] q k rest b long lt = absurd (omega (arith, long))
turn_on (p ∷ ps) (i ∷ is) q k rest b long lt =
    when (nat_eq i i) (is_earlier (ps ++ InTurn ∷ []) (is ++ q ∷ rest) (is ++ k ∷ []) (b || true)) (is_in_turn p && nat_lt i i)
    (same_self i)
    ∙ turn_on ps is q k rest b (omega (arith, long)) lt

last_turn : (ps : List Pace) (xs is : List ℕ) (j : ℕ) (b c : Bool) → length ps ≡ length is
    → is_earlier (ps ++ InTurn ∷ []) xs (is ++ j ∷ []) b ≡ true
    → (is_earlier ps xs is c ≡ true) ⊎ ((q : ℕ) × (q < suc j) × (starts (is ++ q ∷ []) xs ≡ true))
last_turn [] [] [] j b c long e = absurd (true≢false (sym e))
last_turn [] (x ∷ xs) [] j b c long e = elim (two (nat_eq x j)) [
  | inl t ↦ inr (x, omega (arith, eqb-true x j t), and_of (nat_eq x x) true (same_self x) refl)
  | inr f ↦ inr (
    x,
    omega (arith, ltb-true x j (sym (unless (nat_eq x j) b (nat_lt x j) f) ∙ e)),
    and_of (nat_eq x x) true (same_self x) refl,
  )
]
last_turn [] xs (k ∷ is) j b c long e = absurd (omega (arith, long))
last_turn (p ∷ ps) [] is j b c long e = absurd (true≢false (sym e))
last_turn (p ∷ ps) (x ∷ xs) [] j b c long e = absurd (omega (arith, long))
last_turn (p ∷ ps) (x ∷ xs) (k ∷ is) j b c long e = elim (two (nat_eq x k)) [
  | inl t ↦ elim (last_turn ps xs is j b c (omega (arith, long))
      (sym (when (nat_eq x k) (is_earlier (ps ++ InTurn ∷ []) xs (is ++ j ∷ []) b) (is_in_turn p && nat_lt x k) t) ∙ e)) [
        | inl h ↦ inl (when (nat_eq x k) (is_earlier ps xs is c) (is_in_turn p && nat_lt x k) t ∙ h)
        | inr h ↦ inr (
          h.0,
          h.1,
          and_of (nat_eq k x) (starts (is ++ h.0 ∷ []) xs) (subst (λ (m : ℕ). nat_eq m x ≡ true) (eqb-true x k t) (same_self x)) h.2,
        )
      ]
  | inr f ↦ inl (unless (nat_eq x k) (is_earlier ps xs is c) (is_in_turn p && nat_lt x k) f
      ∙ (sym (unless (nat_eq x k) (is_earlier (ps ++ InTurn ∷ []) xs (is ++ j ∷ []) b) (is_in_turn p && nat_lt x k) f) ∙ e))
]

shorter_on : (ps : List Pace) (xs is : List ℕ) (j : ℕ) (b : Bool) → length ps ≤ length is
    → is_earlier (ps ++ []) xs (is ++ j ∷ []) (b || false) ≡ true → is_earlier ps xs is b ≡ true
shorter_on [] xs is j true le e = refl
shorter_on [] xs is j false le e = e
shorter_on (p ∷ ps) [] is j b le e = absurd (true≢false (sym e))
shorter_on (p ∷ ps) (x ∷ xs) [] j b le e = absurd (omega (arith, le))
shorter_on (p ∷ ps) (x ∷ xs) (k ∷ is) j b le e = elim (two (nat_eq x k)) [
  | inl t ↦ when (nat_eq x k) (is_earlier ps xs is b) (is_in_turn p && nat_lt x k) t
      ∙ shorter_on ps xs is j b (omega (arith, le)) (sym (when (nat_eq x k) (is_earlier (ps ++ []) xs (is ++ j ∷ []) (b || false))
      (is_in_turn p && nat_lt x k) t) ∙ e)
  | inr f ↦ unless (nat_eq x k) (is_earlier ps xs is b) (is_in_turn p && nat_lt x k) f
      ∙ (sym (unless (nat_eq x k) (is_earlier (ps ++ []) xs (is ++ j ∷ []) (b || false)) (is_in_turn p && nat_lt x k) f) ∙ e)
]

-- ---- where a loop stands in a list of loops, of which one is known

head_is : {n l : ℕ} {ns ls : List ℕ} → n ∷ ns ≡ l ∷ ls → n ≡ l
head_is e = cc

tail_is : {n l : ℕ} {ns ls : List ℕ} → n ∷ ns ≡ l ∷ ls → ns ≡ ls
tail_is e = cc

-- l with the loops `outer` round it, at the indexes `at` and in the iteration t, beside m with `os` round it, at `is` and in q
data Beside (l : ℕ) (inner : List ℕ) (t : ℕ) (behind : List ℕ) (m : ℕ) (ms : List ℕ) (q : ℕ) (outer at os is : List ℕ) : Type 0 where
  outer_loop : (more js : List ℕ) → os ≡ outer ++ l ∷ more → is ≡ at ++ t ∷ js → Beside l inner t behind m ms q outer at os is
  same_loop : outer ≡ os → l ≡ m → inner ≡ ms → at ≡ is → t ≡ q → Beside l inner t behind m ms q outer at os is
  inner_loop : (more js : List ℕ) → ms ≡ more ++ l ∷ inner → at ≡ is ++ q ∷ js → Beside l inner t behind m ms q outer at os is

beside : (l : ℕ) (inner : List ℕ) (t : ℕ) (behind : List ℕ) (m : ℕ) (ms : List ℕ) (q : ℕ) (rs outer at os is : List ℕ)
    → outer ++ l ∷ inner ≡ os ++ m ∷ ms → at ++ t ∷ behind ≡ is ++ q ∷ rs → length at ≡ length outer → length is ≡ length os
    → Beside l inner t behind m ms q outer at os is
beside l inner t behind m ms q rs [] [] [] [] e f long full = same_loop refl (head_is e) (tail_is e) refl (head_is f)
beside l inner t behind m ms q rs [] [] [] (i ∷ is) e f long full = absurd (omega (arith, full))
beside l inner t behind m ms q rs [] [] (o ∷ os) [] e f long full = absurd (omega (arith, full))
beside l inner t behind m ms q rs [] [] (o ∷ os) (i ∷ is) e f long full =
    outer_loop os is (ap (λ (k : ℕ). k ∷ os) (sym (head_is e))) (ap (λ (k : ℕ). k ∷ is) (sym (head_is f)))
beside l inner t behind m ms q rs [] (a ∷ at) os is e f long full = absurd (omega (arith, long))
beside l inner t behind m ms q rs (o ∷ outer) [] os is e f long full = absurd (omega (arith, long))
beside l inner t behind m ms q rs (o ∷ outer) (a ∷ at) [] [] e f long full =
    inner_loop outer at (sym (tail_is e)) (ap (λ (k : ℕ). k ∷ at) (head_is f))
beside l inner t behind m ms q rs (o ∷ outer) (a ∷ at) [] (i ∷ is) e f long full = absurd (omega (arith, full))
beside l inner t behind m ms q rs (o ∷ outer) (a ∷ at) (p ∷ os) [] e f long full = absurd (omega (arith, full))
beside l inner t behind m ms q rs (o ∷ outer) (a ∷ at) (p ∷ os) (i ∷ is) e f long full =
    elim (beside l inner t behind m ms q rs outer at os is (tail_is e) (tail_is f) (omega (arith, long)) (omega (arith, full))) [
      | outer_loop more js loops indexes ↦ outer_loop more js (ap (λ (ks : List ℕ). p ∷ ks) loops ∙ ap
          (λ (k : ℕ). k ∷ (outer ++ l ∷ more)) (sym (head_is e)))
          (ap (λ (ks : List ℕ). i ∷ ks) indexes ∙ ap (λ (k : ℕ). k ∷ (at ++ t ∷ js)) (sym (head_is f)))
      | same_loop loops this inside indexes turn ↦ same_loop
          (ap (λ (ks : List ℕ). o ∷ ks) loops ∙ ap (λ (k : ℕ). k ∷ os) (head_is e)) this inside
          (ap (λ (ks : List ℕ). a ∷ ks) indexes ∙ ap (λ (k : ℕ). k ∷ is) (head_is f)) turn
      | inner_loop more js loops indexes ↦ inner_loop more js loops
          (ap (λ (ks : List ℕ). a ∷ ks) indexes ∙ ap (λ (k : ℕ). k ∷ (is ++ q ∷ js)) (head_is f))
    ]

-- ---- at the test of an Until

module _ (d : DefTree) (known : Known d) (n : ℕ) (i : List ℕ) (most : ℕ) (h : Graph) (k : ℕ)
    (is : kind_of (graph_of d) n ≡ Some (Until most h)) (full : length i ≡ length (loops_of (graph_of d) n)) where
  abbrev g : Graph
  g = graph_of d

  abbrev u : Address
  u = address n i

  abbrev p : Point
  p = point_of_test d (address n i) k

  abbrev here : List ℕ
  here = i ++ k ∷ []

  abbrev SeesIt : Address → Type 0
  SeesIt x = SeenByTest (graph_of d) n i h k x

  inside_is : (x : ℕ) → is_inside d x n ≡ has h x
  inside_is x = ap (λ (o : Option Kind). held_by o x) is

  loops_are : (x : ℕ) → has h x ≡ true → loops_of g x ≡ loops_of g n ++ n ∷ loops_of h x
  loops_are x hx = loops_inside n x (Until most h) hx g known.once is

  many : (x : ℕ) → has h x ≡ true → length (paces_round g x n) ≡ length i
  many x hx = (told_of n x (Until most h) hx g known.once is).many ∙ sym full

  contains : (x : ℕ) → has h x ≡ true → Contains g n x
  contains x hx = (split_of g known.once x (loops_of g n) n (loops_of h x) (loops_are x hx)).contains

  sees_by : (x : Address) (c : Bool) → has h x.name ≡ c
      → sees p x ≡ is_earlier (paces_round g x.name n ++ cond c (InTurn ∷ []) []) x.at here (is_before d x.name n || c)
  sees_by x c e =
      ap (λ (b : Bool). is_earlier (paces_round g x.name n ++ cond b (InTurn ∷ []) []) x.at here (is_before d x.name n || b))
      (inside_is x.name ∙ e)

  not_before : (x : ℕ) → has h x ≡ true → is_before d x n ≡ false
  not_before x hx = elim (two (is_before d x n)) [ inl t ↦ absurd (known.outside n x (contains x hx) t) | inr f ↦ f ]

  told_here : (x : Address) → SeesIt x → sees p x ≡ true
  told_here x (inl seen) = elim (two (has h x.name)) [
    | inl on ↦ sees_by x true on
        ∙ decided_on (paces_round g x.name n) (InTurn ∷ []) x.at i (k ∷ []) (is_before d x.name n || true)
        (subst (λ (b : Bool). is_earlier (paces_round g x.name n) x.at i b ≡ true) (not_before x.name on) (known.told x u seen))
    | inr off ↦ sees_by x false off ∙ longer_on (paces_round g x.name n) x.at i (k ∷ []) (is_before d x.name n) (known.told x u seen)
  ]
  told_here x (inr turn) =
      let w = and_in (has h x.name) (starts (i ++ turn.0 ∷ []) x.at) turn.2 in
      let rest = rest_of (i ++ turn.0 ∷ []) x.at w.1 in
      let at : x.at ≡ i ++ turn.0 ∷ rest.0 = rest.1 ∙ append_assoc i (turn.0 ∷ []) rest.0 in
      sees_by x true w.0
      ∙ (ap (λ (xs : List ℕ). is_earlier (paces_round g x.name n ++ InTurn ∷ []) xs here (is_before d x.name n || true)) at
      ∙ turn_on (paces_round g x.name n) i turn.0 k rest.0 (is_before d x.name n) (many x.name w.0) turn.1)

  only_here : (x : Address) → sees p x ≡ true → SeesIt x
  only_here x s = elim (two (has h x.name)) [
    | inl on ↦ elim (last_turn (paces_round g x.name n) x.at i k (is_before d x.name n || true) (is_before d x.name n) (many x.name on)
        (sym (sees_by x true on) ∙ s)) [
          | inl before ↦ inl (known.only x u before)
          | inr turn ↦ inr (turn.0, turn.1, and_of (has h x.name) (starts (i ++ turn.0 ∷ []) x.at) on turn.2)
        ]
    | inr off ↦ inl (known.only x u (shorter_on (paces_round g x.name n) x.at i k (is_before d x.name n)
        (omega (arith, full, few_of g known.once x.name n)) (sym (sees_by x false off) ∙ s)))
  ]

  stands_in : (l : ℕ) (outer at : List ℕ) (turn own : ℕ) (more js : List ℕ) → loops_of g n ≡ outer ++ l ∷ more → i ≡ at ++ own ∷ js
      → length at ≡ length outer → turn ≤ own → StandsFrom p l outer at turn
  stands_in l outer at turn own more js of_loops of_at long le = record {
    own = own;
    inner = more ++ n ∷ [];
    loops = ap (λ (ls : List ℕ). ls ++ n ∷ []) of_loops ∙ append_assoc outer (l ∷ more) (n ∷ []);
    behind = js ++ k ∷ [];
    indexes = ap (λ (ks : List ℕ). ks ++ k ∷ []) of_at ∙ append_assoc at (own ∷ js) (k ∷ []);
    each_loop = long;
    from = le;
  }

  round_here : (x : Address) (l : ℕ) (outer at : List ℕ) (turn : ℕ) → IsInTurnOf g x l outer at turn → SeesIt x
      → SeesIt (address l at) ⊎ StandsFrom p l outer at turn
  round_here x l outer at turn of (inl seen) = elim (known.round u x l outer at turn of seen) [
    | inl s ↦ inl (inl s)
    | inr t ↦ inr (stands_in l outer at turn t.own t.stands.inner t.stands.behind t.stands.loops t.stands.indexes of.each_loop t.from)
  ]
  round_here x l outer at turn of (inr one) =
      let w = and_in (has h x.name) (starts (i ++ one.0 ∷ []) x.at) one.2 in
      let rest = rest_of (i ++ one.0 ∷ []) x.at w.1 in
      elim (beside l of.inner turn of.behind n (loops_of h x.name) one.0 rest.0 outer at (loops_of g n) i
      (sym of.loops ∙ loops_are x.name w.0)
      (sym of.indexes ∙ (rest.1 ∙ append_assoc i (one.0 ∷ []) rest.0)) of.each_loop full) [
        | outer_loop more js loops indexes ↦ inr (stands_in l outer at turn turn more js loops indexes of.each_loop (omega arith))
        | same_loop loops this inside indexes same_turn ↦ inr (record {
          own = k;
          inner = [];
          loops = ap (λ (ls : List ℕ). ls ++ n ∷ []) (sym loops) ∙ ap (λ (q : ℕ). outer ++ q ∷ []) (sym this);
          behind = [];
          indexes = ap (λ (ks : List ℕ). ks ++ k ∷ []) (sym indexes);
          each_loop = of.each_loop;
          from = omega (arith, same_turn, one.1);
        })
        | inner_loop more js loops indexes ↦ inl (inr (
          one.0,
          one.1,
          and_of (has h l) (starts (i ++ one.0 ∷ []) at) (loop_has h x.name l more of.inner loops)
              (subst (λ (ks : List ℕ). starts (i ++ one.0 ∷ []) ks ≡ true) (append_assoc i (one.0 ∷ []) js ∙ sym indexes)
              (starts_front (i ++ one.0 ∷ []) js)),
        ))
      ]

  -- an iteration's indexes are more than the Until's
  too_long : (q : ℕ) (at : List ℕ) → starts (i ++ q ∷ []) at ≡ true → length at ≤ length i → ⊥
  too_long q at s le =
      let rest = rest_of (i ++ q ∷ []) at s in
      omega (arith, le, ap length rest.1, length-append (i ++ q ∷ []) rest.0, length-append i (q ∷ []))

  apart_here : (l : ℕ) (outer at : List ℕ) (turn : ℕ) → StandsFrom p l outer at turn → SeesIt (address l at) → ⊥
  apart_here l outer at turn st s = elim
      (beside l st.inner st.own st.behind n [] k [] outer at (loops_of g n) i (sym st.loops) (sym st.indexes) st.each_loop full) [
        | outer_loop more js loops indexes ↦ elim s [
          | inl seen ↦ known.apart u l outer at st.own (record {
            inner = more;
            loops = loops;
            behind = js;
            indexes = indexes;
            each_loop = st.each_loop;
          }) seen
          | inr one ↦ too_long one.0 at (and_in (has h l) (starts (i ++ one.0 ∷ []) at) one.2).1
              (omega (arith, ap length indexes, length-append at (st.own ∷ js)))
        ]
        | same_loop loops this inside indexes same_turn ↦ elim s [
          | inl seen ↦
              let itself : SeenIn g u u = subst (λ (ks : List ℕ). SeenIn g u (address n ks)) indexes
              (subst (λ (q : ℕ). SeenIn g u (address q at)) this seen) in
              known.never_both u u itself itself
          | inr one ↦ too_long one.0 at (and_in (has h l) (starts (i ++ one.0 ∷ []) at) one.2).1 (omega (arith, ap length indexes))
        ]
        | inner_loop more js loops indexes ↦ none_split more l st.inner loops
      ]

  pub at_test : Seeing d p SeesIt
  at_test = record { told = told_here; only = only_here; round = round_here; apart = apart_here }
