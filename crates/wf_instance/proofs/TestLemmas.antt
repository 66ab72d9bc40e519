-- THE TEST OF AN UNTIL after its iteration j is told by what the Until sees, and by its iterations up to j.
use Rattle.std.proofs.Common.{◌≡◌, ℕ, zero, suc, ◌<◌, ◌≤◌, Bool, true, false, ◌&&◌, ◌||◌, cond, List, [], ◌∷◌, ◌++◌, length, take, drop}
use Rattle.std.proofs.Common.{Option, Some, None, ◌⊎◌, inl, inr, refl, sym, ap, ◌∙◌, subst, arith, true≢false, nat_eq, eqb-true}
use Rattle.std.proofs.Common.{length-append, append_assoc}
use Rattle.std.specs.Prelude.{nat_lt}
use Rattle.std.proofs.lemmas.Bool.{ltb-true}
use Rattle.std.proofs.Math.Seq.{take-length}
use Rattle.wf_val.specs.Address.{address_text}
use Rattle.wf_val.specs.declared.function.Fun.{Fun}
use Rattle.wf_layers.specs.Definition.{Pace, InTurn, Kind, Until, Graph, holds, has, kind_of}
use Rattle.wf_layers.specs.Address.{Address, Table, address, starts, SeenIn}
use Rattle.wf_layers.specs.Source.{Agrees, AgreesIn}
use Rattle.wf_layers.proofs.Basics.{two, and_of, when, unless, starts_self, same_self}
use Rattle.wf_layers.proofs.Tables.{has_in}
use Rattle.wf_meant.specs.Told.{Told}
use Rattle.wf_meant.specs.Uses.{Use, names, asks, asks_moment, asks_words, Agree, AgreeAt}
use Rattle.wf_meant.specs.ActionTree.{ActionTree, action_kind, action_number, KindTree, foreach, until}
use Rattle.wf_meant.specs.AllActions.{numbered}
use Rattle.wf_meant.specs.DefTree.{DefTree}
use Rattle.wf_meant.specs.Layered.{layered, layered_kind}
use Rattle.wf_meant.specs.ActionTree.{ActionTrees}
use Rattle.wf_layers.specs.Source.{TestLocal}
use Rattle.wf_accepted_laws.specs.Order.{Contains}
use Rattle.wf_template.specs.CondTree.{CondTree}
use Rattle.wf_meant.specs.Verdicts.{VerdictTree, tested_from}
use Rattle.wf_meant.specs.EvalUses.{cond_uses}
use Rattle.wf_meant.specs.Sites.{test_uses}
use Rattle.wf_meant.specs.Containers.{tested}
use Rattle.wf_meant.specs.Source.{source, test_of}
use Rattle.wf_instance.proofs.OpenedLemmas.{opened_loops}
use Rattle.wf_accepted_laws.specs.Instances.{Sees}
use Rattle.wf_meant.specs.Environment.{Environment, facts_of}
use Rattle.wf_meant.specs.Loops.{is_earlier, is_in_turn, left_round, loops_of, paces_round}
use Rattle.wf_meant.proofs.LeftLemmas.{first_is, loops_has, nothing_first}
use Rattle.wf_meant.specs.Look.{Item, instance, items_at, name_of, told_by, told_in_test}
use Rattle.wf_meant.specs.Points.{Point, action_named, graph_of, held_by, is_before, is_inside, point_of, point_of_test, sees}
use Rattle.wf_meant.specs.References.{first_level, loop_itself, own_loop, result_by, shared, view_by}
use Rattle.wf_record.specs.Record.{Row}
use Rattle.wf_instance.proofs.AnswerLemmas.{Laws, Rules}
use Rattle.wf_meant.proofs.HeldLemmas as inner
use Rattle.wf_instance.proofs.ItemLemmas.{Alike, Opened, items_same}
use Rattle.wf_instance.proofs.LookLemmas.{InIf, all_more, all_put, inner_held, inner_rows, loop_there, rows_there}
use Rattle.wf_instance.proofs.NamedLemmas.{AllNamed, Named}
use Rattle.wf_instance.proofs.VariableLemmas.{variable_same}
use Rattle.wf_instance.proofs.ViewLemmas.{AllSame, SameLoop, SameRows, result_same, view_same}

-- ---- the order of instances, with the index of the iteration behind the Until's own

last_turn : (ps : List Pace) (xs is : List ℕ) (j : ℕ) (b : Bool) → length ps ≡ length is
    → is_earlier (ps ++ InTurn ∷ []) xs (is ++ j ∷ []) b ≡ true
    → (is_earlier ps xs is false ≡ true) ⊎ ((q : ℕ) × (q < suc j) × (starts (is ++ q ∷ []) xs ≡ true))
last_turn [] [] [] j b long e = absurd (true≢false (sym e))
last_turn [] (x ∷ xs) [] j b long e = elim (two (nat_eq x j)) [
  | inl t ↦ inr (x, omega (arith, eqb-true x j t), and_of (nat_eq x x) true (same_self x) refl)
  | inr f ↦ inr (
    x,
    omega (arith, ltb-true x j (sym (unless (nat_eq x j) b (nat_lt x j) f) ∙ e)),
    and_of (nat_eq x x) true
        (same_self x) refl,
  )
]
last_turn [] xs (k ∷ is) j b long e = absurd (omega (arith, long))
last_turn (p ∷ ps) [] is j b long e = absurd (true≢false (sym e))
last_turn (p ∷ ps) (x ∷ xs) [] j b long e = absurd (omega (arith, long))
last_turn (p ∷ ps) (x ∷ xs) (k ∷ is) j b long e = elim (two (nat_eq x k)) [
  | inl t ↦ elim (last_turn ps xs is j b (omega (arith, long))
      (sym (when (nat_eq x k) (is_earlier (ps ++ InTurn ∷ []) xs (is ++ j ∷ []) b) (is_in_turn p && nat_lt x k) t) ∙ e)) [
        | inl h ↦ inl (when (nat_eq x k) (is_earlier ps xs is false) (is_in_turn p && nat_lt x k) t ∙ h)
        | inr h ↦ inr (
          h.0,
          h.1,
          and_of (nat_eq k x) (starts (is ++ h.0 ∷ []) xs)
              (subst (λ (m : ℕ). nat_eq m x ≡ true) (eqb-true x k t) (same_self x)) h.2,
        )
      ]
  | inr f ↦ inl (unless (nat_eq x k) (is_earlier ps xs is false) (is_in_turn p && nat_lt x k) f
      ∙ (sym (unless (nat_eq x k) (is_earlier (ps ++ InTurn ∷ []) xs (is ++ j ∷ []) b) (is_in_turn p && nat_lt x k) f) ∙ e))
]

decides_more : (ps : List Pace) (xs is : List ℕ) (b : Bool) → is_earlier ps xs is false ≡ true → is_earlier ps xs is b ≡ true
decides_more [] xs is b e = absurd (true≢false (sym e))
decides_more (p ∷ ps) [] is b e = absurd (true≢false (sym e))
decides_more (p ∷ ps) (x ∷ xs) [] b e = absurd (true≢false (sym e))
decides_more (p ∷ ps) (x ∷ xs) (k ∷ is) b e = elim (two (nat_eq x k)) [
  | inl t ↦ when (nat_eq x k) (is_earlier ps xs is b) (is_in_turn p && nat_lt x k) t
      ∙ decides_more ps xs is b (sym (when (nat_eq x k) (is_earlier ps xs is false) (is_in_turn p && nat_lt x k) t) ∙ e)
  | inr f ↦ unless (nat_eq x k) (is_earlier ps xs is b) (is_in_turn p && nat_lt x k) f
      ∙ (sym (unless (nat_eq x k) (is_earlier ps xs is false) (is_in_turn p && nat_lt x k) f) ∙ e)
]

short_of : (ps : List Pace) (xs is : List ℕ) (j : ℕ) (b : Bool) → length ps ≤ length is → is_earlier (ps ++ []) xs (is ++ j ∷ []) b ≡ true
    → is_earlier ps xs is b ≡ true
short_of [] xs is j b le e = e
short_of (p ∷ ps) [] is j b le e = absurd (true≢false (sym e))
short_of (p ∷ ps) (x ∷ xs) [] j b le e = absurd (omega (arith, le))
short_of (p ∷ ps) (x ∷ xs) (k ∷ is) j b le e = elim (two (nat_eq x k)) [
  | inl t ↦ when (nat_eq x k) (is_earlier ps xs is b) (is_in_turn p && nat_lt x k) t
      ∙ short_of ps xs is j b (omega (arith, le)) (sym (when (nat_eq x k) (is_earlier (ps ++ []) xs (is ++ j ∷ []) b)
      (is_in_turn p && nat_lt x k) t) ∙ e)
  | inr f ↦ unless (nat_eq x k) (is_earlier ps xs is b) (is_in_turn p && nat_lt x k) f
      ∙ (sym (unless (nat_eq x k) (is_earlier (ps ++ []) xs (is ++ j ∷ []) b) (is_in_turn p && nat_lt x k) f) ∙ e)
]

take_front : (k : ℕ) (is : List ℕ) (j : ℕ) → k ≤ length is → take k (is ++ j ∷ []) ≡ take k is
take_front zero is j le = refl
take_front (suc k) [] j le = absurd (omega (arith, le))
take_front (suc k) (i ∷ is) j le = ap (λ (xs : List ℕ). i ∷ xs) (take_front k is j (omega (arith, le)))

or_off : (b : Bool) → (b || false) ≡ b
or_off true = refl
or_off false = refl

append_none : (xs : List ℕ) → xs ++ [] ≡ xs
append_none [] = refl
append_none (x ∷ xs) = ap (λ (ys : List ℕ). x ∷ ys) (append_none xs)

more_long : (ps : List Pace) (is : List ℕ) (j : ℕ) → length ps ≡ length is → length (ps ++ InTurn ∷ []) ≡ length (is ++ j ∷ [])
more_long ps is j long = omega (arith, long, length-append ps (InTurn ∷ []), length-append is (j ∷ []))

none_more : (ps : List Pace) → length (ps ++ []) ≡ length ps
none_more ps = omega (arith, length-append ps [])

own_loop_same : (t u : Table Row) (s : List ℕ) (a : ActionTree) (ls : List ℕ) → SameRows t u s (action_number a) → SameLoop t u s ls
    → SameLoop t u s (ls ++ own_loop a)
own_loop_same t u s a [] rows loop l more is = itself (action_kind a) is
  where
    itself : (kind : KindTree) → loop_itself (action_number a) kind ≡ l ∷ more → t (address l s) ≡ u (address l s)
    itself (foreach items repetitions graph) e = subst (λ (k : ℕ). t (address k s) ≡ u (address k s)) (first_is e) (rows s (starts_self s))
    itself (until test count fails graph) e = subst (λ (k : ℕ). t (address k s) ≡ u (address k s)) (first_is e) (rows s (starts_self s))
    itself kind e = absurd (nothing_first e)
own_loop_same t u s a (m ∷ ms) rows loop l more is = loop l ms (cc)

-- ---- what a test's expression names: premises from the rules

module _ (d : DefTree) (n : ℕ) where
  abbrev pub SeenAtTest : ℕ → Type 0
  SeenAtTest x = (is_inside d x n ≡ true) ⊎ Sees (graph_of d) n x

  abbrev pub ReadsRow : Option ActionTree → Type 0
  ReadsRow None = Unit {0}
  ReadsRow (Some a) = SeenAtTest (action_number a)

  abbrev pub ReadsResult : Option ActionTree → Type 0
  ReadsResult None = Unit {0}
  ReadsResult (Some a) = SeenAtTest (action_number a) × (kind_of (graph_of d) (action_number a) ≡ Some (layered_kind (action_kind a)))

  abbrev pub AllRead : List Use → Type 0
  AllRead us = AllNamed d ReadsRow ReadsResult us

module _ (d : DefTree) (e : Environment) (rules : Rules d) (laws : Laws) (t u : Table Row) (n : ℕ) (i : List ℕ) (j most : ℕ) (h : Graph)
    (is_until : kind_of (graph_of d) n ≡ Some (Until most h)) (full : length i ≡ length (loops_of (graph_of d) n))
    (agree : Agrees (SeenIn (graph_of d)) (address n i) t u)
    (rounds : (m : ℕ) → m < suc j → AgreesIn h (i ++ m ∷ []) t u) where
  abbrev g : Graph
  g = graph_of d

  abbrev y : Address
  y = address n i

  abbrev p : Point
  p = point_of_test d y j

  abbrev here : List ℕ
  here = i ++ j ∷ []

  inside_is : (x : ℕ) → is_inside d x n ≡ has h x
  inside_is x = ap (λ (o : Option Kind). held_by o x) is_until

  kept_deep : (x : ℕ) → length (paces_round g x n) ≤ length i
  kept_deep x = rules.kept.deep y full x

  earlier_seen : (x : Address) → sees (point_of d y) x ≡ true → SeenIn g y x
  earlier_seen x s = rules.kept.earlier x y s

  -- the rows that are asked for where x is named
  record Same (x : ℕ) : Type 0 where
    pub rows : SameRows t u (shared p x) x
    pub loop : SameLoop t u (shared p x) (p.left x)
    pub inner : (k : Kind) → kind_of g x ≡ Some k → (b : ℕ) → holds k b ≡ true → SameRows t u (shared p x) b

  -- inside the Until
  in_round : (x : ℕ) → has h x ≡ true → SameRows t u here x
  in_round x hx at s = rounds j (omega arith) (address x at) (and_of (has h x) (starts here at) hx s)

  same_inside : (x : ℕ) → has h x ≡ true → Same x
  same_inside x hx =
      let known = inner.told_of n x (Until most h) hx g rules.kept.once is_until in
      let on = inside_is x ∙ hx in
      let front : shared p x ≡ here =
      ap (λ (c : Bool). take (length (paces_round g x n ++ cond c (InTurn ∷ []) [])) here) on
      ∙ (ap (λ (k : ℕ). take k here) (more_long (paces_round g x n) i j (known.many ∙ sym full)) ∙ take-length here) in
      let left : p.left x ≡ loops_of h x =
      ap (λ (c : Bool). cond c (drop 1 (left_round g x n)) (left_round g x n)) on ∙ ap (λ (ls : List ℕ). drop 1 ls) known.leaves in
      record {
        rows = subst (λ (s : List ℕ). SameRows t u s x) (sym front) (in_round x hx);
        loop = subst (λ (s : List ℕ). SameLoop t u s (p.left x)) (sym front)
            (λ l more is. in_round l (loops_has h x l more (sym left ∙ is)) here (starts_self here));
        inner = λ k kind b held. subst (λ (s : List ℕ). SameRows t u s b) (sym front)
            (in_round b (has_in h x b k (sym known.kind ∙ kind) held));
      }

  -- outside of it
  same_outside : (x : ℕ) → has h x ≡ false → Sees g n x → Same x
  same_outside x off seen =
      let out = inside_is x ∙ off in
      let front : shared p x ≡ shared (point_of d y) x =
      ap (λ (c : Bool). take (length (paces_round g x n ++ cond c (InTurn ∷ []) [])) here) out
      ∙ (ap (λ (k : ℕ). take k here) (none_more (paces_round g x n)) ∙ take_front (length (paces_round g x n)) i j (kept_deep x)) in
      let left : p.left x ≡ left_round g x n = ap (λ (c : Bool). cond c (drop 1 (left_round g x n)) (left_round g x n)) out in
      record {
        rows = subst (λ (s : List ℕ). SameRows t u s x) (sym front)
            (rows_there d rules.kept.once y t u agree kept_deep earlier_seen x seen);
        loop = subst (λ (s : List ℕ). SameLoop t u s (p.left x)) (sym front)
            (λ l more is. loop_there d rules.kept.once y t u agree kept_deep earlier_seen x seen l more (sym left ∙ is));
        inner = λ k kind b held. subst (λ (s : List ℕ). SameRows t u s b) (sym front)
            (inner_rows d rules.kept.once y t u agree kept_deep earlier_seen x k kind seen b held);
      }

  same_at : (x : ℕ) → SeenAtTest d n x → Same x
  same_at x seen = elim (two (has h x)) [
    | inl on ↦ same_inside x on
    | inr off ↦ elim seen [
      | inl inside ↦ absurd (true≢false (sym inside ∙ (inside_is x ∙ off)))
      | inr before ↦ same_outside x off before
    ]
  ]

  row_read : (found : Option ActionTree) → ReadsRow d n found → view_by d p t found ≡ view_by d p u found
  row_read None reads = refl
  row_read (Some a) reads = let s = same_at (action_number a) reads in view_same t u d p a s.rows s.loop

  inner_all : (a : ActionTree) (k : Kind) → kind_of g (action_number a) ≡ Some k → Same (action_number a) → (o : Option (List ActionTree))
      → InIf (holds k) o → AllSame t u (shared p (action_number a)) o
  inner_all a k kind same None held = tt
  inner_all a k kind same (Some as') held =
      all_put (λ b. SameRows t u (shared p (action_number a)) (action_number b)) as'
      (all_more (λ b. holds k (action_number b) ≡ true) (λ b. SameRows t u (shared p (action_number a)) (action_number b)) as'
      (λ b s. same.inner k kind (action_number b) s) held)

  result_read : (found : Option ActionTree) → ReadsResult d n found → result_by d p t found ≡ result_by d p u found
  result_read None reads = refl
  result_read (Some a) reads =
      let s = same_at (action_number a) reads.0 in
      result_same t u d p a
      (inner_all a (layered_kind (action_kind a)) reads.1 s (first_level (action_kind a)) (inner_held (action_kind a)))
      (own_loop_same t u (shared p (action_number a)) a (p.left (action_number a)) s.rows s.loop)

  -- a writer that the test sees
  seen_same : (x : Address) → sees p x ≡ true → t x ≡ u x
  seen_same x s = elim (two (has h x.name)) [
    | inl on ↦
        let known = inner.told_of n x.name (Until most h) on g rules.kept.once is_until in
        let s' = sym (ap (λ (c : Bool). is_earlier (paces_round g x.name n ++ cond c (InTurn ∷ []) []) x.at here
        (is_before d x.name n || is_inside d x.name n))
        (inside_is x.name ∙ on)) ∙ s in
        elim (last_turn (paces_round g x.name n) x.at i j (is_before d x.name n || is_inside d x.name n) (known.many ∙ sym full) s') [
          | inl before ↦ agree x (earlier_seen x (decides_more (paces_round g x.name n) x.at i (is_before d x.name n) before))
          | inr turn ↦ rounds turn.0 turn.1 x (and_of (has h x.name) (starts (i ++ turn.0 ∷ []) x.at) on turn.2)
        ]
    | inr off ↦
        let s' = sym (ap (λ (c : Bool). is_earlier (paces_round g x.name n ++ cond c (InTurn ∷ []) []) x.at here
        (is_before d x.name n || c))
        (inside_is x.name ∙ off)) ∙ s in
        agree x (earlier_seen x (short_of (paces_round g x.name n) x.at i j (is_before d x.name n) (kept_deep x.name)
        (sym (ap (λ (b : Bool). is_earlier (paces_round g x.name n ++ []) x.at here b) (or_off (is_before d x.name n))) ∙ s')))
  ]

  module _ (facts_place : List ℕ) (held : List Item) where
    abbrev told : Table Row → Told
    told rows = told_by d e.start (facts_of e (name_of d n)) facts_place p held None rows

    agree_one : (asked : Use) → Named d (ReadsRow d n) (ReadsResult d n) asked → Agree (told t) (told u) asked
    agree_one (names Fun.Actions k) r = row_read (action_named d k) r
    agree_one (names Fun.Outputs k) r = row_read (action_named d k) r
    agree_one (names Fun.Body k) r = row_read (action_named d k) r
    agree_one (names Fun.Result k) r = result_read (action_named d k) r
    agree_one (names Fun.Items k) r = refl
    agree_one (names Fun.IterationIndexes k) r = refl
    agree_one (names Fun.Parameters k) r = refl
    agree_one (names Fun.Variables k) r = variable_same d p t u seen_same k
    agree_one (names f k) r = tt
    agree_one (asks Fun.Action) r = refl
    agree_one (asks Fun.Item) r = refl
    agree_one (asks Fun.Trigger) r = refl
    agree_one (asks Fun.TriggerOutputs) r = refl
    agree_one (asks Fun.TriggerBody) r = refl
    agree_one (asks Fun.Workflow) r = refl
    agree_one (asks f) r = tt
    agree_one asks_moment r = refl
    agree_one asks_words r = (refl, refl)

    pub agree_all : (us : List Use) → AllRead d n us → AgreeAt (told t) (told u) us
    agree_all [] r = tt
    agree_all (asked ∷ us) r = (agree_one asked r.0, agree_all us r.1)

  -- the loops round the test are those round the Until, and the Until
  opened_more : (ls is at : List ℕ) → Opened d e rules.kept laws.decides t u ls is at → length is ≡ length ls
      → ((k : List ℕ) → k ≡ at ++ is → Alike d e rules.kept laws.decides t u (address n k))
      → Opened d e rules.kept laws.decides t u (ls ++ n ∷ []) (is ++ j ∷ []) at
  opened_more [] [] at opened long alike = (alike at (sym (append_none at)), tt)
  opened_more [] (k ∷ is) at opened long alike = absurd (omega (arith, long))
  opened_more (l ∷ ls) [] at opened long alike = absurd (omega (arith, long))
  opened_more (l ∷ ls) (k ∷ is) at opened long alike = (
    opened.0,
    opened_more ls is (at ++ k ∷ []) opened.1 (omega (arith, long)) (λ q of. alike q (of ∙ append_assoc at (k ∷ []) is)),
  )

  pub test_agrees : Opened d e rules.kept laws.decides t u (loops_of g n) i [] → (us : List Use) → AllRead d n us
      → AgreeAt (told_in_test d e y j t) (told_in_test d e y j u) us
  test_agrees opened us reads =
      let place = address_text (instance d (address n here)) in
      subst (λ (held : List Item). AgreeAt (told_in_test d e y j t) (told place held u) us)
      (items_same d e rules.kept laws.decides t u (loops_of g n ++ n ∷ []) here [] []
      (opened_more (loops_of g n) i [] opened full (λ k of. record {
        full = ap length of ∙ full;
        agree = subst (λ (q : List ℕ). Agrees (SeenIn g) (address n q) t u) (sym of) agree;
      })))
      (agree_all place (items_at d e p t) us reads)

-- ---- THE LAW

pub record Tests (d : DefTree) : Type 0 where
  pub reads : (n : ℕ) (a : ActionTree) (us : List Use) → numbered n d.top ≡ Some a → test_uses (action_kind a) ≡ Some us → AllRead d n us

module _ (d : DefTree) (e : Environment) (rules : Rules d) (laws : Laws) (tests : Tests d)
    (seen_inside : (c x z : Address) → Contains (graph_of d) c.name x.name → starts c.at x.at ≡ true → SeenIn (graph_of d) c z
    → SeenIn (graph_of d) x z) where
  pub tested_same : (a : ActionTree) (n l : ℕ) (test : CondTree) (count : ℕ) (fails : Bool) (graph : ActionTrees)
      → numbered n d.top ≡ Some a → action_kind a ≡ until test count fails graph → kind_of (graph_of d) n ≡ Some
      (layered_kind (action_kind a))
      → length (loops_of (graph_of d) n) ≡ l → TestLocal (source d e) (SeenIn (graph_of d)) (layered graph) n l
  tested_same a n l test count fails graph is kind known long i of t u j agree rounds =
      let y = address n i in
      let is_until : kind_of (graph_of d) n ≡ Some (Until count (layered graph)) = known ∙ ap
      (λ (k : KindTree). Some (layered_kind k)) kind in
      let full : length i ≡ length (loops_of (graph_of d) n) = of ∙ sym long in
      let reads : AllRead d n (cond_uses test) = tests.reads n a (cond_uses test) is (ap test_uses kind) in
      let agreeing = test_agrees d e rules laws t u n i j count (layered graph) is_until full agree rounds
      (opened_loops d e rules.kept laws.decides t u y agree seen_inside) (cond_uses test) reads in
      let value : tested_from (told_in_test d e y j t) test ≡ tested_from (told_in_test d e y j u) test =
      laws.tests (told_in_test d e y j t) (told_in_test d e y j u) test agreeing in
      subst (λ (found : Option ActionTree). test_of d e found y j t ≡ test_of d e found y j u) (sym is)
      (subst (λ (k : KindTree). tested (told_in_test d e y j t) k ≡ tested (told_in_test d e y j u) k) (sym kind)
      (ap (λ (r : ℕ → VerdictTree). r 0) value))
