-- In a table of the right shape whose rows fit no address fails.
use Rattle.std.proofs.Common.{◌≡◌, ℕ, ◌<◌, Bool, true, false, not, ◌&&◌, ◌||◌, cond, List, [], ◌∷◌, ◌++◌, Option, Some, None, inl, inr, nat_eq, nat_lt, refl, sym, ap, ◌∙◌, subst, arith, append_assoc, append-nil, eqb-true}
use Rattle.std.proofs.lemmas.Bool.Decides.{nat_tests}
use Rattle.wf_layers.specs.Definition.{Skipped, Need, Kind, Leaf, Scope, Choice, Foreach, Until, Branches, no_branch, branch, Graph, done, add, is_one, less_one, holds, has, has_any, shows, plain, plain_any}
use Rattle.wf_layers.specs.Address.{Address, address, Table, same_at, starts, is_in, is_within}
use Rattle.wf_layers.specs.Laws.{IsFresh}
use Rattle.wf_layers.specs.Meaning.{skip, skip_all}
use Rattle.wf_layers.specs.Seen.{Once, OnceIn, OnceAny}
use Rattle.wf_layers.specs.Shape.{Reading, SkippedAs, ShapeIn, ShapeAny, Shape, HasShape}
use Rattle.wf_layers.specs.Source.{Source, same_status}
use Rattle.wf_layers.proofs.Basics.{two, and_in, and_of, or_first, or_second, not_true, same_self, index_once, when, unless}
use Rattle.wf_shape.specs.Law.{Fitting, Idle, IdleIn, IdleAny, NoneFails, is_skipped_in}
use Rattle.wf_shape.specs.Standing.{Standing, called, unsaid, uncalled, own, at_turn, if_fits, stand, stand_in, stand_any, fails_as, fails}
use Rattle.wf_shape.proofs.RightShape.{as_skipped, neither, false_or, or_false, opposed, is_nil, same_front, starts_turn, shown_held, plain_had_any, plain_had}

starts_front : (i rest : List ℕ) → starts i (i ++ rest) ≡ true
starts_front [] rest = refl
starts_front (a ∷ i) rest = rw (same_self a) (starts_front i rest)

and_false : (b : Bool) → (b && false) ≡ false
and_false true = refl
and_false false = refl

too_short : (i : List ℕ) (j : ℕ) → starts (i ++ j ∷ []) (i ++ []) ≡ false
too_short [] j = refl
too_short (a ∷ i) j = rw (same_self a) (too_short i j)

module _ {Row Begun Decision Verdict : Type 0} (d : Graph) (m : Source Row Begun Decision Verdict) (read : Reading Row)
    (fits : ℕ → Bool → Row → Bool) (r : Table Row) (fresh : IsFresh m) (fitting : Fitting d m read fits r) where
  abbrev sk : Row → Bool
  sk row = is_skipped_in m row

  abbrev in_graph : Graph → ℕ → Bool → List ℕ → List ℕ → Standing
  in_graph = stand read (is_skipped_in m) fits r

  abbrev in_branches : Branches → ℕ → ℕ → Bool → List ℕ → List ℕ → Standing
  in_branches = stand_any read (is_skipped_in m) fits r

  abbrev in_kind : Kind → ℕ → ℕ → Row → List ℕ → List ℕ → Standing
  in_kind = stand_in read (is_skipped_in m) fits r

  -- the address of x at these indexes doesn't fail, standing so
  abbrev Passes : ℕ → List ℕ → Standing → Type 0
  Passes x a s = fails_as read (is_skipped_in m) fits r x s (r (address x a)) ≡ false

  none_passes : (x : ℕ) (a : List ℕ) (s : Standing) → s ≡ uncalled → r (address x a) ≡ None → Passes x a s
  none_passes x a s is none =
      subst (λ (z : Standing). Passes x a z) (sym is)
      (subst (λ (o : Option Row). fails_as read (is_skipped_in m) fits r x uncalled o ≡ false) (sym none) refl)

  row_passes : (x : ℕ) (a : List ℕ) (skipped : Bool) (row : Row) → r (address x a) ≡ Some row → (skipped ≡ true → sk row ≡ true)
      → Passes x a (called skipped)
  row_passes x a skipped row e s =
      subst (λ (o : Option Row). fails_as read (is_skipped_in m) fits r x (called skipped) o ≡ false) (sym e)
      (ap not (fitting (address x a) row skipped e s))

  to : (x : ℕ) (a : List ℕ) (s z : Standing) → s ≡ z → Passes x a z → Passes x a s
  to x a s z is p = subst (λ (w : Standing). Passes x a w) (sym is) p

  skipped_is : (row : Row) → m.status row ≡ Skipped → sk row ≡ true
  skipped_is row s = ap (λ z. same_status z Skipped) s

  -- ---- where all has to be Skipped

  abbrev expected : Bool → List ℕ → Option Row
  expected shown [] = cond shown (Some m.skipped) None
  expected shown (j ∷ rest) = None

  abbrev Skips : Bool → ℕ → List ℕ → List ℕ → Type 0
  Skips shown x i rest = SkippedAs m (expected shown rest) (r (address x (i ++ rest)))

  none_of : (x : ℕ) (i rest : List ℕ) → Skips false x i rest → r (address x (i ++ rest)) ≡ None
  none_of x i [] s = s
  none_of x i (j ∷ rest) s = s

  turn_none : (count : ℕ) (rest : List ℕ) (inside : ℕ → List ℕ → Standing) → count ≡ 0 → at_turn count rest inside ≡ uncalled
  turn_none count [] inside is = refl
  turn_none count (j ∷ rest) inside is = unless (nat_lt j count) (inside j rest) uncalled (grind (arith, nat_tests, is))

  -- an action whose own rows are as they should be
  own_passes : (n : ℕ) (i rest : List ℕ) → Skips true n i rest → Passes n (i ++ rest) (own true rest)
  own_passes n i [] s = row_passes n (i ++ []) true s.0 s.1 (λ t. skipped_is s.0 s.2)
  own_passes n i (j ∷ rest) s = none_passes n (i ++ j ∷ rest) uncalled refl s

  -- inside a container with a Skipped row
  abbrev row_at : (n : ℕ) (i : List ℕ) → Skips true n i [] → (row : Row) × (r (address n i) ≡ Some row) × (m.status row ≡ Skipped)
  row_at n i s = (s.0, subst (λ (a : List ℕ). r (address n a) ≡ Some s.0) (append-nil i) s.1, s.2)

  enter : (n : ℕ) (skipped : Bool) (i : List ℕ) (row : Row) (inside : Row → Standing) → r (address n i) ≡ Some row
      → (skipped ≡ true → sk row ≡ true) → if_fits (fits n skipped) (r (address n i)) inside ≡ inside row
  enter n skipped i row inside e s =
      ap (λ (o : Option Row). if_fits (fits n skipped) o inside) e
      ∙ when (fits n skipped row) (inside row) unsaid (fitting (address n i) row skipped e s)

  -- what is said of a graph is said of its first action, of what is inside that, and of the others
  abbrev AllSkip : Graph → List ℕ → Type 0
  AllSkip g i = (x : ℕ) (rest : List ℕ) → has g x ≡ true → Skips (plain g x) x i rest

  own_skips : (n : ℕ) (after : List Need) (kind : Kind) (g : Graph) (i : List ℕ) → AllSkip (add n after kind g) i
      → (rest : List ℕ) → Skips true n i rest
  own_skips n after kind g i all rest =
      subst (λ (t : Bool). Skips t n i rest)
      (or_first (nat_eq n n || shows kind n) (plain g n) (or_first (nat_eq n n) (shows kind n) (same_self n)))
      (all n rest (or_first (nat_eq n n || holds kind n) (has g n) (or_first (nat_eq n n) (holds kind n) (same_self n))))

  apart_name : (n : ℕ) (kind : Kind) (x : ℕ) → holds kind n ≡ false → holds kind x ≡ true → nat_eq n x ≡ false
  apart_name n kind x free h = not_true (nat_eq n x) (λ same. opposed (holds kind x) h (ap (holds kind) (sym (eqb-true n x same)) ∙ free))

  inner_skips : (n : ℕ) (after : List Need) (kind : Kind) (g : Graph) (i : List ℕ) → Once (add n after kind g)
      → AllSkip (add n after kind g) i
      → (x : ℕ) (rest : List ℕ) → holds kind x ≡ true → Skips (shows kind x) x i rest
  inner_skips n after kind g i once all x rest h =
      let here = or_second (nat_eq n x) (holds kind x) h in
      subst (λ (t : Bool). Skips t x i rest)
      (or_false (nat_eq n x || shows kind x) (plain g x) (plain_had g x (once.1 x here))
      ∙ false_or (nat_eq n x) (shows kind x) (apart_name n kind x once.0 h))
      (all x rest (or_first (nat_eq n x || holds kind x) (has g x) here))

  later_skips : (n : ℕ) (after : List Need) (kind : Kind) (g : Graph) (i : List ℕ) → Once (add n after kind g)
      → AllSkip (add n after kind g) i
      → AllSkip g i
  later_skips n after kind g i once all x rest h =
      let other = not_true (nat_eq n x || holds kind x) (λ e. opposed (has g x) h (once.1 x e)) in
      subst (λ (t : Bool). Skips t x i rest)
      (false_or (nat_eq n x || shows kind x) (plain g x) (not_shown n kind x other))
      (all x rest (or_second (nat_eq n x || holds kind x) (has g x) h))
    where
      not_shown : (n : ℕ) (kind : Kind) (x : ℕ) → (nat_eq n x || holds kind x) ≡ false → (nat_eq n x || shows kind x) ≡ false
      not_shown n kind x is =
          let each = neither (nat_eq n x) (holds kind x) is in
          false_or (nat_eq n x) (shows kind x) each.0 ∙ shown_held kind x each.1

  mutual
    skips_in : (kind : Kind) (n : ℕ) (skipped : Bool) (row : Row) (i : List ℕ) → OnceIn kind → IdleIn read (is_skipped_in m) fits kind n
        → fits n skipped row ≡ true → sk row ≡ true → ((x : ℕ) (rest : List ℕ) → holds kind x ≡ true → Skips (shows kind x) x i rest)
        → (x : ℕ) (rest : List ℕ) → holds kind x ≡ true → Passes x (i ++ rest) (in_kind kind n x row i rest)
    skips_in Leaf n skipped row i once idle f s all x rest h = absurd (cc)
    skips_in (Scope g) n skipped row i once idle f s all x rest h =
        to x (i ++ rest) _ (in_graph g x true i rest) (ap (λ b. in_graph g x b i rest) s) (skips g i once idle all x rest h)
    skips_in (Choice bs) n skipped row i once idle f s all x rest h =
        to x (i ++ rest) _ (in_branches bs (read.taken n row) x true i rest) (ap (λ b. in_branches bs (read.taken n row) x b i rest) s)
        (skips_any bs (read.taken n row) i once idle all x rest h)
    skips_in (Foreach pace g) n skipped row i once idle f s all x rest h =
        none_passes x (i ++ rest) _ (turn_none (read.items row) rest _ (idle.0 skipped row f s)) (none_of x i rest (all x rest h))
    skips_in (Until most g) n skipped row i once idle f s all x rest h =
        none_passes x (i ++ rest) _ (turn_none (read.rounds row) rest _ (idle.0 skipped row f s)) (none_of x i rest (all x rest h))

    skips_any : (bs : Branches) (c : ℕ) (i : List ℕ) → OnceAny bs → IdleAny read (is_skipped_in m) fits bs
        → ((x : ℕ) (rest : List ℕ) → has_any bs x ≡ true → Skips (plain_any bs x) x i rest)
        → (x : ℕ) (rest : List ℕ) → has_any bs x ≡ true → Passes x (i ++ rest) (in_branches bs c x true i rest)
    skips_any no_branch c i once idle all x rest h = absurd (cc)
    skips_any (branch b bs) c i once idle all x rest h = elim (two (has b x)) [
      | inl is ↦ to x (i ++ rest) _ (in_graph b x true i rest) (when (has b x) (in_graph b x true i rest) _ is)
          (skips b i once.1 idle.0 (λ z more k. subst (λ (t : Bool). Skips t z i more)
          (or_false (plain b z) (plain_any bs z) (plain_had_any bs z (once.0 z k))) (all z more (or_first (has b z) (has_any bs z) k)))
          x rest is)
      | inr is ↦ to x (i ++ rest) _ (in_branches bs (less_one c) x true i rest)
          (unless (has b x) _ (in_branches bs (less_one c) x true i rest) is)
          (skips_any bs (less_one c) i once.2 idle.1 (λ z more k. subst (λ (t : Bool). Skips t z i more)
          (false_or (plain b z) (plain_any bs z) (plain_had b z (not_true (has b z) (λ e. opposed (has_any bs z) k (once.0 z e)))))
          (all z more (or_second (has b z) (has_any bs z) k)))
          x rest (sym (false_or (has b x) (has_any bs x) is) ∙ h))
    ]

    skips : (g : Graph) (i : List ℕ) → Once g → Idle read (is_skipped_in m) fits g
        → ((x : ℕ) (rest : List ℕ) → has g x ≡ true → Skips (plain g x) x i rest)
        → (x : ℕ) (rest : List ℕ) → has g x ≡ true → Passes x (i ++ rest) (in_graph g x true i rest)
    skips done i once idle all x rest h = absurd (cc)
    skips (add n after kind g) i once idle all x rest h = elim (two (nat_eq n x)) [
      | inl is ↦
          let same = eqb-true n x is in
          to x (i ++ rest) _ (own true rest) (when (nat_eq n x) (own true rest) _ is)
          (subst (λ (z : ℕ). Passes z (i ++ rest) (own true rest)) same (own_passes n i rest (own_skips n after kind g i all rest)))
      | inr other ↦ elim (two (holds kind x)) [
        | inl is ↦
            let row = row_at n i (own_skips n after kind g i all []) in
            let s = skipped_is row.0 row.2 in
            let f = fitting (address n i) row.0 true row.1 (λ t. s) in
            to x (i ++ rest) _ (in_kind kind n x row.0 i rest)
            (unless (nat_eq n x) (own true rest) _ other
            ∙ when (holds kind x) (if_fits (fits n true) (r (address n i)) (λ q. in_kind kind n x q i rest)) _ is
            ∙ enter n true i row.0 (λ q. in_kind kind n x q i rest) row.1 (λ t. s))
            (skips_in kind n true row.0 i once.2 idle.1 f s (inner_skips n after kind g i once all) x rest is)
        | inr is ↦
            to x (i ++ rest) _ (in_graph g x true i rest)
            (unless (nat_eq n x) (own true rest) _ other ∙ unless (holds kind x) _ (in_graph g x true i rest) is)
            (skips g i once.3 idle.2 (later_skips n after kind g i once all) x rest
            (sym (false_or (nat_eq n x || holds kind x) (has g x) (false_or (nat_eq n x) (holds kind x) other ∙ is)) ∙ h))
      ]
    ]

  -- ---- where the table has the shape

  expected_is : (i rest : List ℕ) (shown : Bool) → cond (shown && same_at i (i ++ rest)) (Some m.skipped) None ≡ expected shown rest
  expected_is i rest shown = ap (λ b. cond (shown && b) (Some m.skipped) None) (same_front i rest) ∙ by_rest rest shown
    where
      by_rest : (rest : List ℕ) (shown : Bool) → cond (shown && is_nil rest) (Some m.skipped) None ≡ expected shown rest
      by_rest [] true = refl
      by_rest [] false = refl
      by_rest (j ∷ rest) true = refl
      by_rest (j ∷ rest) false = refl

  -- from the laws' words to these, at each address
  graph_skips : (g : Graph) (i : List ℕ) → ((y : Address) → is_within g i y ≡ true → SkippedAs m (skip_all m g i y) (r y)) → AllSkip g i
  graph_skips g i all x rest h =
      subst (λ (o : Option Row). SkippedAs m o (r (address x (i ++ rest))))
      (unless (m.pinned x) (m.old (address x (i ++ rest))) _ (fresh x).0 ∙ expected_is i rest (plain g x))
      (all (address x (i ++ rest)) (and_of (has g x) (starts i (i ++ rest)) h (starts_front i rest)))

  action_skips : (n : ℕ) (kind : Kind) (i : List ℕ) → holds kind n ≡ false
      → ((y : Address) → is_in n kind i y ≡ true → SkippedAs m (skip m n kind i y) (r y))
      → (x : ℕ) (rest : List ℕ) → holds kind x ≡ true → Skips (shows kind x) x i rest
  action_skips n kind i free all x rest h =
      subst (λ (o : Option Row). SkippedAs m o (r (address x (i ++ rest))))
      (expected_is i rest (nat_eq n x || shows kind x)
      ∙ ap (λ b. expected b rest) (false_or (nat_eq n x) (shows kind x) (apart_name n kind x free h)))
      (all (address x (i ++ rest)) (and_of (nat_eq n x || holds kind x) (starts i (i ++ rest))
      (or_second (nat_eq n x) (holds kind x) h) (starts_front i rest)))

  -- the loops
  abbrev Turn : Graph → ℕ → List ℕ → Type 0
  Turn g count i =
      ((j : ℕ) → j < count → Shape m read r g (i ++ j ∷ []))
      × ((y : Address) → is_within g i y ≡ true → ((j : ℕ) → j < count → starts (i ++ j ∷ []) y.at ≡ false) → r y ≡ None)

  turn_passes : (g : Graph) (count : ℕ) (i : List ℕ) → Turn g count i
      → ((j : ℕ) → j < count → (x : ℕ) (rest : List ℕ) → has g x ≡ true
      → Passes x ((i ++ j ∷ []) ++ rest) (in_graph g x false (i ++ j ∷ []) rest))
      → (x : ℕ) (rest : List ℕ) → has g x ≡ true
      → Passes x (i ++ rest) (at_turn count rest (λ j more. in_graph g x false (i ++ j ∷ []) more))
  turn_passes g count i turn within x [] h =
      none_passes x (i ++ []) uncalled refl
      (turn.1 (address x (i ++ [])) (and_of (has g x) (starts i (i ++ [])) h (starts_front i [])) (λ j lt. too_short i j))
  turn_passes g count i turn within x (j ∷ rest) h = elim (two (nat_lt j count)) [
    | inl is ↦
        let lt : j < count = grind (arith, nat_tests, is) in
        to x (i ++ j ∷ rest) _ (in_graph g x false (i ++ j ∷ []) rest)
        (when (nat_lt j count) (in_graph g x false (i ++ j ∷ []) rest) uncalled is)
        (subst (λ (a : List ℕ). Passes x a (in_graph g x false (i ++ j ∷ []) rest)) (append_assoc i (j ∷ []) rest) (within j lt x rest h))
    | inr is ↦
        none_passes x (i ++ j ∷ rest) _ (unless (nat_lt j count) (in_graph g x false (i ++ j ∷ []) rest) uncalled is)
        (turn.1 (address x (i ++ j ∷ rest)) (and_of (has g x) (starts i (i ++ j ∷ rest)) h (starts_front i (j ∷ rest)))
        (λ k lt. not_true (starts (i ++ k ∷ []) (i ++ j ∷ rest)) (λ e.
        let same : k ≡ j = index_once i k j (i ++ j ∷ rest) e (starts_turn i j rest) in
        let less : nat_lt j count ≡ true = grind (arith, nat_tests, lt, same) in
        opposed (nat_lt j count) less is)))
  ]

  shape_own : (n : ℕ) (after : List Need) (kind : Kind) (g : Graph) (i : List ℕ) → Shape m read r (add n after kind g) i
      → (rest : List ℕ) → Passes n (i ++ rest) (own false rest)
  shape_own n after kind g i s [] =
      row_passes n (i ++ []) false s.0.0 (ap (λ (a : List ℕ). r (address n a)) (append-nil i) ∙ s.0.1) (λ t. absurd (cc))
  shape_own n after kind g i s (j ∷ rest) =
      none_passes n (i ++ j ∷ rest) uncalled refl
      (s.0.4 (address n (i ++ j ∷ rest))
      (and_of (nat_eq n n || holds kind n) (starts i (i ++ j ∷ rest)) (or_first (nat_eq n n) (holds kind n) (same_self n))
      (starts_front i (j ∷ rest)))
      (same_self n) (ap (λ b. nat_eq n n && b) (same_front i (j ∷ rest)) ∙ and_false (nat_eq n n)))

  mutual
    shape_in : (kind : Kind) (n : ℕ) (row : Row) (i : List ℕ) → OnceIn kind → IdleIn read (is_skipped_in m) fits kind n
        → sk row ≡ false → ShapeIn m read r kind n i row
        → (x : ℕ) (rest : List ℕ) → holds kind x ≡ true → Passes x (i ++ rest) (in_kind kind n x row i rest)
    shape_in Leaf n row i once idle ran s x rest h = absurd (cc)
    shape_in (Scope g) n row i once idle ran s x rest h =
        to x (i ++ rest) _ (in_graph g x false i rest) (ap (λ b. in_graph g x b i rest) ran) (shape g i once idle s x rest h)
    shape_in (Choice bs) n row i once idle ran s x rest h =
        to x (i ++ rest) _ (in_branches bs (read.taken n row) x false i rest) (ap (λ b. in_branches bs (read.taken n row) x b i rest) ran)
        (shape_any bs (read.taken n row) i once idle s x rest h)
    shape_in (Foreach pace g) n row i once idle ran s x rest h =
        turn_passes g (read.items row) i s (λ j lt. shape g (i ++ j ∷ []) once idle.1 (s.0 j lt)) x rest h
    shape_in (Until most g) n row i once idle ran s x rest h =
        turn_passes g (read.rounds row) i s (λ j lt. shape g (i ++ j ∷ []) once idle.1 (s.0 j lt)) x rest h

    shape_any : (bs : Branches) (c : ℕ) (i : List ℕ) → OnceAny bs → IdleAny read (is_skipped_in m) fits bs → ShapeAny m read r bs c i
        → (x : ℕ) (rest : List ℕ) → has_any bs x ≡ true → Passes x (i ++ rest) (in_branches bs c x false i rest)
    shape_any no_branch c i once idle s x rest h = absurd (cc)
    shape_any (branch b bs) c i once idle s x rest h = elim (two (has b x)) [
      | inl is ↦
          to x (i ++ rest) _ (in_graph b x (not (is_one c)) i rest) (when (has b x) (in_graph b x (not (is_one c)) i rest) _ is)
          (elim (two (is_one c)) [
            | inl taken ↦ to x (i ++ rest) _ (in_graph b x false i rest) (ap (λ t. in_graph b x (not t) i rest) taken)
                (shape b i once.1 idle.0 (s.0 taken) x rest is)
            | inr other ↦ to x (i ++ rest) _ (in_graph b x true i rest) (ap (λ t. in_graph b x (not t) i rest) other)
                (skips b i once.1 idle.0 (graph_skips b i (s.1 other)) x rest is)
          ])
      | inr is ↦
          to x (i ++ rest) _ (in_branches bs (less_one c) x false i rest)
          (unless (has b x) _ (in_branches bs (less_one c) x false i rest) is)
          (shape_any bs (less_one c) i once.2 idle.1 s.2 x rest (sym (false_or (has b x) (has_any bs x) is) ∙ h))
    ]

    shape : (g : Graph) (i : List ℕ) → Once g → Idle read (is_skipped_in m) fits g → Shape m read r g i
        → (x : ℕ) (rest : List ℕ) → has g x ≡ true → Passes x (i ++ rest) (in_graph g x false i rest)
    shape done i once idle s x rest h = absurd (cc)
    shape (add n after kind g) i once idle s x rest h = elim (two (nat_eq n x)) [
      | inl is ↦
          to x (i ++ rest) _ (own false rest) (when (nat_eq n x) (own false rest) _ is)
          (subst (λ (z : ℕ). Passes z (i ++ rest) (own false rest)) (eqb-true n x is) (shape_own n after kind g i s rest))
      | inr other ↦ elim (two (holds kind x)) [
        | inl is ↦
            to x (i ++ rest) _ (in_kind kind n x s.0.0 i rest)
            (unless (nat_eq n x) (own false rest) _ other
            ∙ when (holds kind x) (if_fits (fits n false) (r (address n i)) (λ q. in_kind kind n x q i rest)) _ is
            ∙ enter n false i s.0.0 (λ q. in_kind kind n x q i rest) s.0.1 (λ t. absurd (cc)))
            (elim (two (sk s.0.0)) [
              | inl skipped ↦
                  skips_in kind n false s.0.0 i once.2 idle.1 (fitting (address n i) s.0.0 false s.0.1 (λ t. absurd (cc))) skipped
                  (action_skips n kind i once.0 (s.0.2 (as_skipped (m.status s.0.0) skipped))) x rest is
              | inr ran ↦
                  shape_in kind n s.0.0 i once.2 idle.1 ran
                  (s.0.3 (λ e. opposed (sk s.0.0) (skipped_is s.0.0 e) ran)) x rest is
            ])
        | inr is ↦
            to x (i ++ rest) _ (in_graph g x false i rest)
            (unless (nat_eq n x) (own false rest) _ other ∙ unless (holds kind x) _ (in_graph g x false i rest) is)
            (shape g i once.3 idle.2 s.1 x rest
            (sym (false_or (nat_eq n x || holds kind x) (has g x) (false_or (nat_eq n x) (holds kind x) other ∙ is)) ∙ h))
      ]
    ]

  -- a name that the graph hasn't is called for nowhere
  out : (g : Graph) (x : ℕ) (skipped : Bool) (i rest : List ℕ) → has g x ≡ false → in_graph g x skipped i rest ≡ uncalled
  out done x skipped i rest absent = refl
  out (add n after kind g) x skipped i rest absent =
      let outer = neither (nat_eq n x || holds kind x) (has g x) absent in
      let inner = neither (nat_eq n x) (holds kind x) outer.0 in
      unless (nat_eq n x) (own skipped rest) _ inner.0 ∙ unless (holds kind x) _ (in_graph g x skipped i rest) inner.1
      ∙ out g x skipped i rest outer.1

  passes : Once d → Idle read (is_skipped_in m) fits d → HasShape d m read r
      → (y : Address) → fails read (is_skipped_in m) fits r d y ≡ false
  passes once idle s y = elim (two (has d y.name)) [
    | inl is ↦ shape d [] once idle s.within y.name y.at is
    | inr is ↦ none_passes y.name y.at _ (out d y.name false [] y.at is)
        (s.outside y (not_true (has d y.name && true) (λ e. opposed (has d y.name) (and_in (has d y.name) true e).0 is)))
  ]

pub none_fails : {Row Begun Decision Verdict : Type 0} (d : Graph) (m : Source Row Begun Decision Verdict) (read : Reading Row)
    (fits : ℕ → Bool → Row → Bool) (r : Table Row) → NoneFails d m read fits r
none_fails d m read fits r once fresh idle fitting s = passes d m read fits r fresh fitting once idle s
