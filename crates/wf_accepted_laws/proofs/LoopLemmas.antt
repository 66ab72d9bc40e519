-- Where the rules on loops hold, what is asked of a loop is asked inside it, and references leave few loops.
use Rattle.std.proofs.Common.{◌≡◌, ℕ, ◌≤◌, Bool, true, false, not, cond, List, [], ◌∷◌, map, Some, ◌⊎◌, inl, inr, nat_eq, bytes_eq}
use Rattle.std.proofs.Common.{count_by, refl, sym, ap, subst, ◌∙◌, true≢false, arith}
use Rattle.std.specs.Prelude.{◌||◌, ◌&&◌, nat_lt}
use Rattle.std.specs.List.{AllByRecursion, find, list_any}
use Rattle.std.proofs.lemmas.Bool.{eqb-true, ltb-false}
use Rattle.std.proofs.lemmas.List.Sums.{sum_by-cons}
use Rattle.wf_layers.specs.Definition.{Graph}
use Rattle.wf_known_laws.specs.ActionTree.{ActionTree, KindTree, action_kind, action_name, action_number}
use Rattle.wf_known_laws.specs.DefTree.{DefTree}
use Rattle.wf_known_laws.specs.Layered.{layered}
use Rattle.wf_known_laws.specs.Order.{Among, around}
use Rattle.wf_paths.proofs.PathLemmas.{and_both}
use Rattle.wf_known_laws.proofs.PartLemmas.{equal_keys}
use Rattle.wf_known_laws.proofs.RunAfterLemmas.{append-first}
use Rattle.wf_rules.specs.Sites.{uses_of}
use Rattle.wf_rules.specs.UsesTree.{UsesTree}
use Rattle.wf_rules.specs.Site.{Site}
use Rattle.wf_rules.specs.Broken.{offences, told}
use Rattle.wf_rules.specs.Kinds.{is_foreach, is_loop, is_until}
use Rattle.wf_rules.specs.Inside.{has_item, is_inside, is_items, is_left, is_test}
use Rattle.wf_rules.specs.Rules.{action_breaks, breaks_if, breaks_with, leaves_loops}
use Rattle.wf_rules.specs.Inside.{loops_left}
use Rattle.wf_rules.specs.Rules.{leaves_two, leaves_two_for, names_outer}
use Rattle.wf_rules.specs.Standing.{StandingTree, kind_at, number_at, pointer_at, standings_of}
use Rattle.wf_rules.specs.Whole.{has_name, whole_of}
use Rattle.wf_rules.specs.Rule.{Rule}
use Rattle.wf_accepted_laws.proofs.RoundLemmas.{all-weaker}
use Rattle.wf_accepted_laws.proofs.SeenLemmas.{at-site, both, either, none-first, none-of, none-second, none-told, two}
use Rattle.wf_accepted_laws.specs.Loops.{AllAskLoopsRound, AllLeaveFew, AsksLoopsRound, IsInLoop, IsInLoopNamed, IsOneOf, IsRound}
use Rattle.wf_accepted_laws.specs.Loops.{LeavesFew}
use Rattle.wf_accepted_laws.specs.Loops.{LeavesNone, LeavesOne}
use Rattle.wf_accepted_laws.specs.Seen.{IsSiteOf}

-- ---- truth values and lists

not_false : (b : Bool) → not b ≡ false → b ≡ true
not_false true is = refl
not_false false is = absurd (true≢false is)

all-both : {X : Type 0} (P Q : X → Type 0) (xs : List X) → AllByRecursion P xs → AllByRecursion Q xs → AllByRecursion (λ x. P x × Q x) xs
all-both P Q [] one other = tt
all-both P Q (x ∷ xs) one other = ((one.0, other.0), all-both P Q xs one.1 other.1)

-- one of these passes the test
record Passes (test : ActionTree → Bool) (cs : List ActionTree) : Type 0 where
  one : ActionTree
  there : IsOneOf cs one
  number : Among (map action_number cs) (action_number one)
  is : test one ≡ true

passing : (test : ActionTree → Bool) (cs : List ActionTree) → list_any test cs ≡ true → Passes test cs
passing test [] is = absurd (true≢false (sym is))
passing test (c ∷ cs) is = elim (either (test c) (list_any test cs) is) [
  | inl here ↦ record { one = c; there = inl refl; number = inl refl; is = here }
  | inr later ↦
      let found = passing test cs later in
      record { one = found.one; there = inr found.there; number = inr found.number; is = found.is }
]

module _ (p : ActionTree → Bool) where
  abbrev one_if : Bool → ℕ
  one_if b = cond b 1 0

  abbrev size : ActionTree → ℕ
  size c = one_if (p c)

  counts : (b : Bool) → b ≡ true → one_if b ≡ 1
  counts true is = refl
  counts false is = absurd (true≢false (sym is))

  first-counts : (d c : ActionTree) → d ≡ c → p c ≡ true → size d ≡ 1
  first-counts d c same is = counts (p d) (subst (λ (x : ActionTree). p x ≡ true) (sym same) is)

  counted : (cs : List ActionTree) (c : ActionTree) → IsOneOf cs c → p c ≡ true → 1 ≤ count_by p cs
  counted [] c there is = elim there [ ]
  counted (d ∷ cs) c (inl same) is = omega (arith, sum_by-cons size d cs, first-counts d c same is)
  counted (d ∷ cs) c (inr later) is = omega (arith, sum_by-cons size d cs, counted cs c later is)

  at-most-one : (cs : List ActionTree) → count_by p cs ≤ 1 → (b c : ActionTree) → IsOneOf cs b → IsOneOf cs c → p b ≡ true → p c ≡ true
      → b ≡ c
  at-most-one [] few b c one other of_b of_c = elim one [ ]
  at-most-one (d ∷ cs) few b c (inl here) (inl there) of_b of_c = sym here ∙ there
  at-most-one (d ∷ cs) few b c (inl here) (inr later) of_b of_c =
      absurd (omega (arith, few, sum_by-cons size d cs, first-counts d b here of_b, counted cs c later of_c))
  at-most-one (d ∷ cs) few b c (inr later) (inl here) of_b of_c =
      absurd (omega (arith, few, sum_by-cons size d cs, first-counts d c here of_c, counted cs b later of_b))
  at-most-one (d ∷ cs) few b c (inr one) (inr other) of_b of_c =
      at-most-one cs (omega (arith, few, sum_by-cons size d cs)) b c one other of_b of_c

-- ---- rules at sites

-- a rule holds at all sites of an action
abbrev HoldsAt : DefTree → Rule → StandingTree → Type 0
HoldsAt d rule s = (site : Site) → IsSiteOf s site → (u : UsesTree) → uses_of d site ≡ Some u
    → breaks_with (whole_of d) rule site (Some s) u ≡ false

holds-at : (d : DefTree) (rule : Rule) (s : StandingTree) → action_breaks (whole_of d) rule s ≡ false → HoldsAt d rule s
holds-at d rule s none = λ site of u there.
    sym (ap (breaks_if (whole_of d) rule site (Some s)) there) ∙ at-site (whole_of d) rule s site of none

all-hold : (d : DefTree) (rule : Rule) → offences d rule ≡ [] → AllByRecursion (HoldsAt d rule) (standings_of d.top)
all-hold d rule none =
    all-weaker (λ s. action_breaks (whole_of d) rule s ≡ false) (HoldsAt d rule) (standings_of d.top) (holds-at d rule)
    (none-told (action_breaks (whole_of d) rule) pointer_at (standings_of d.top)
    (append-first (told (action_breaks (whole_of d) rule) pointer_at (standings_of d.top)) _ none))

abbrev Known : Graph → StandingTree → Type 0
Known g s = map action_number s.round ≡ around g (number_at s)

-- ---- what is round a site

module _ (g : Graph) (s : StandingTree) (site : Site) (known : Known g s) where
  record Inside (test : ActionTree → Bool) : Type 0 where
    one : ActionTree
    there : IsOneOf (s.action ∷ s.round) one
    round : IsRound g s site (action_number one)
    is : test one ≡ true

  inside : (test : ActionTree → Bool) → is_inside site (Some s) test ≡ true → Inside test
  inside test is = elim (either (list_any test s.round) (is_test site && test s.action) is) [
    | inl some ↦
        let found = passing test s.round some in
        record {
          one = found.one;
          there = inr found.there;
          round = inl (subst (λ (l : List ℕ). Among l (action_number found.one)) known found.number);
          is = found.is;
        }
    | inr own ↦
        let parts = both (is_test site) (test s.action) own in
        record { one = s.action; there = inl refl; round = inr (parts.0, refl); is = parts.1 }
  ]

  numbered-round : (n : ℕ) → is_inside site (Some s) (λ r. nat_eq (action_number r) n) ≡ true → IsRound g s site n
  numbered-round n is =
      let found = inside (λ r. nat_eq (action_number r) n) is in
      subst (λ (m : ℕ). IsRound g s site m) (eqb-true (action_number found.one) n found.is) found.round

  -- ---- `items`, `iterationIndexes` and `item`

  abbrev is_named : (KindTree → Bool) → List ℕ → ActionTree → Bool
  is_named kind k c = kind (action_kind c) && bytes_eq k (action_name c)

  abbrev is_out : (KindTree → Bool) → List ℕ → Bool
  is_out kind k = not (is_inside site (Some s) (is_named kind k))

  in-loop : (kind : KindTree → Bool) (k : List ℕ) → is_out kind k ≡ false → IsInLoopNamed g s site kind k
  in-loop kind k fine =
      let found = inside (is_named kind k) (not_false (is_inside site (Some s) (is_named kind k)) fine) in
      let parts = both (kind (action_kind found.one)) (bytes_eq k (action_name found.one)) found.is in
      record {
        inside = record { loop = found.one; there = found.there; round = found.round; is = parts.0 };
        named = equal_keys k (action_name found.one) parts.1;
      }

  in-foreach : has_item site (Some s) ≡ true → (is_items site ≡ true) ⊎ IsInLoop g s site is_foreach
  in-foreach is = elim (either (is_items site) (is_inside site (Some s) (λ c. is_foreach (action_kind c))) is) [
    | inl of_items ↦ inl of_items
    | inr round ↦
        let found = inside (λ c. is_foreach (action_kind c)) round in
        inr (record { loop = found.one; there = found.there; round = found.round; is = found.is })
  ]

  asks : (u : UsesTree) → names_outer site (Some s) u ≡ false → AsksLoopsRound g s site u
  asks u none =
      let rest = none-second (list_any (is_out is_foreach) u.items)
      (list_any (is_out is_until) u.indexes || (u.item && not (has_item site (Some s)))) none in
      record {
        items = λ k among. in-loop is_foreach k
            (none-of (is_out is_foreach) k u.items
            (none-first (list_any (is_out is_foreach) u.items)
            (list_any (is_out is_until) u.indexes || (u.item && not (has_item site (Some s)))) none) among);
        indexes = λ k among. in-loop is_until k
            (none-of (is_out is_until) k u.indexes
            (none-first (list_any (is_out is_until) u.indexes) (u.item && not (has_item site (Some s))) rest) among);
        item = λ is. in-foreach (not_false (has_item site (Some s))
            (sym (ap (λ (b : Bool). b && not (has_item site (Some s))) is)
            ∙ none-second (list_any (is_out is_until) u.indexes) (u.item && not (has_item site (Some s))) rest));
      }

pub all-ask : (d : DefTree) → AllByRecursion (Known (layered d.top)) (standings_of d.top) → offences d Rule.Items ≡ [] → AllAskLoopsRound d
all-ask d known none =
    all-weaker (λ s. Known (layered d.top) s × HoldsAt d Rule.Items s)
    (λ s. (site : Site) → IsSiteOf s site → (u : UsesTree) → uses_of d site ≡ Some u → AsksLoopsRound (layered d.top) s site u)
    (standings_of d.top) (λ s h site of u there. asks (layered d.top) s site h.0 u (h.1 site of u there))
    (all-both (Known (layered d.top)) (HoldsAt d Rule.Items) (standings_of d.top) known (all-hold d Rule.Items none))

-- ---- loops that a reference leaves

module _ (d : DefTree) (s : StandingTree) (site : Site) (known : Known (layered d.top) s) where
  abbrev is_inner : ActionTree → Bool
  is_inner c = is_inside site (Some s) (λ r. nat_eq (action_number r) (action_number c))

  is-round : (c : ActionTree) → is_inner c ≡ true → IsRound (layered d.top) s site (action_number c)
  is-round c is = numbered-round (layered d.top) s site known (action_number c) is

  left : (c : ActionTree) → is_loop (action_kind c) ≡ true → is_inner c ≡ false → is_left site (Some s) c ≡ true
  left c loop out = and_both (is_loop (action_kind c)) (not (is_inner c)) loop (ap not out)

  leaves-one : (x : StandingTree) → nat_lt 1 (loops_left site (Some s) x) ≡ false → LeavesOne (layered d.top) s site x
  leaves-one x few = λ b c one other loop_b loop_c. elim (two (is_inner b)) [
    | inl in_b ↦ inl (is-round b in_b)
    | inr out_b ↦ elim (two (is_inner c)) [
      | inl in_c ↦ inr (inl (is-round c in_c))
      | inr out_c ↦
          inr (inr (at-most-one (is_left site (Some s)) x.round (ltb-false 1 (loops_left site (Some s) x) few) b c one other
          (left b loop_b out_b) (left c loop_c out_c)))
    ]
  ]

  leaves-none : (x : StandingTree) → nat_lt 0 (loops_left site (Some s) x) ≡ false → LeavesNone (layered d.top) s site x
  leaves-none x none = λ c one loop. elim (two (is_inner c)) [
    | inl in_c ↦ is-round c in_c
    | inr out_c ↦
        let few = ltb-false 0 (loops_left site (Some s) x) none in
        let some = counted (is_left site (Some s)) x.round c one (left c loop out_c) in
        absurd (omega (arith, few, some))
  ]

  module _ (u : UsesTree) (fine : leaves_loops (whole_of d) site (Some s) u ≡ false) where
    abbrev leaves : List ℕ → Bool
    leaves k = leaves_two site (Some s) ((whole_of d).named k)

    abbrev leaves_for : List ℕ → Bool
    leaves_for k = leaves_two_for site (Some s) ((whole_of d).named k)

    by-name : (k : List ℕ) (x : StandingTree) → list_any (bytes_eq k) u.names ≡ true → find (has_name k) (standings_of d.top) ≡ Some x
        → nat_lt 1 (loops_left site (Some s) x) ≡ false
    by-name k x among named =
        sym (ap (leaves_two site (Some s)) named)
        ∙ none-of leaves k u.names (none-first (list_any leaves u.names) (list_any leaves_for u.results) fine) among

    by-result : (k : List ℕ) (x : StandingTree) → list_any (bytes_eq k) u.results ≡ true
        → find (has_name k) (standings_of d.top) ≡ Some x
        → (nat_lt 1 (loops_left site (Some s) x) || (is_loop (kind_at x) && nat_lt 0 (loops_left site (Some s) x))) ≡ false
    by-result k x among named =
        sym (ap (leaves_two_for site (Some s)) named)
        ∙ none-of leaves_for k u.results (none-second (list_any leaves u.names) (list_any leaves_for u.results) fine) among

    names-few : (k : List ℕ) (x : StandingTree) → (list_any (bytes_eq k) u.names ≡ true) ⊎ (list_any (bytes_eq k) u.results ≡ true)
        → find (has_name k) (standings_of d.top) ≡ Some x → LeavesOne (layered d.top) s site x
    names-few k x (inl among) named = leaves-one x (by-name k x among named)
    names-few k x (inr among) named =
        leaves-one x
        (none-first (nat_lt 1 (loops_left site (Some s) x)) (is_loop (kind_at x) && nat_lt 0 (loops_left site (Some s) x))
        (by-result k x among named))

    leaves-few : LeavesFew d s site u
    leaves-few = record {
      names = λ k among x named.
          names-few k x (either (list_any (bytes_eq k) u.names) (list_any (bytes_eq k) u.results) among) named;
      results = λ k among x named loop. leaves-none x
          (sym (ap (λ (b : Bool). b && nat_lt 0 (loops_left site (Some s) x)) loop)
          ∙ none-second (nat_lt 1 (loops_left site (Some s) x)) (is_loop (kind_at x) && nat_lt 0 (loops_left site (Some s) x))
          (by-result k x among named));
    }

pub all-leave-few : (d : DefTree) → AllByRecursion (Known (layered d.top)) (standings_of d.top) → offences d Rule.LoopsLeft ≡ []
    → AllLeaveFew d
all-leave-few d known none =
    all-weaker (λ s. Known (layered d.top) s × HoldsAt d Rule.LoopsLeft s)
    (λ s. (site : Site) → IsSiteOf s site → (u : UsesTree) → uses_of d site ≡ Some u → LeavesFew d s site u) (standings_of d.top)
    (λ s h site of u there. leaves-few d s site h.0 u (h.1 site of u there))
    (all-both (Known (layered d.top)) (HoldsAt d Rule.LoopsLeft) (standings_of d.top) known (all-hold d Rule.LoopsLeft none))
