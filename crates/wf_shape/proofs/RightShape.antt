-- A table in which not_so address fails has the right shape.
use Rattle.std.proofs.Common.{◌≡◌, ℕ, ◌<◌, Bool, true, false, not, ◌&&◌, ◌||◌, cond, List, [], ◌∷◌, ◌++◌, Option, Some, None, inl, inr, nat_eq, nat_lt, refl, sym, ap, ap₂, ◌∙◌, subst, arith, append_assoc, append-nil, eqb-true}
use Rattle.std.proofs.lemmas.Bool.Decides.{nat_tests}
use Rattle.wf_layers.specs.Definition.{Status, Succeeded, Failed, Skipped, TimedOut, Cancelled, Need, Kind, Leaf, Scope, Choice, Foreach, Until, Branches, no_branch, branch, Graph, done, add, is_one, less_one, holds, has, has_any, shows, plain, plain_any}
use Rattle.wf_layers.specs.Address.{Address, address, Table, same_at, starts, is_own, is_in, is_within}
use Rattle.wf_layers.specs.Laws.{IsFresh}
use Rattle.wf_layers.specs.Meaning.{skip, skip_all}
use Rattle.wf_layers.specs.Seen.{Once, OnceIn, OnceAny}
use Rattle.wf_layers.specs.Shape.{Reading, SkippedAs, ShapeIn, ShapeAny, Shape, HasShape}
use Rattle.wf_layers.specs.Source.{Source, same_status}
use Rattle.wf_layers.proofs.Basics.{two, and_in, and_of, or_first, or_second, not_true, same_self, when, unless}
use Rattle.wf_shape.specs.Law.{Idle, IdleIn, IdleAny, RightShape, is_skipped_in}
use Rattle.wf_shape.specs.Standing.{Standing, called, unsaid, uncalled, own, at_turn, if_fits, stand, stand_in, stand_any, standing, fails_as, fails}

-- ---- statuses, truth values and lists

pub as_skipped : (s : Status) → same_status s Skipped ≡ true → s ≡ Skipped
as_skipped Succeeded is = absurd (cc)
as_skipped Failed is = absurd (cc)
as_skipped Skipped is = refl
as_skipped TimedOut is = absurd (cc)
as_skipped Cancelled is = absurd (cc)

pub not_skipped : (s : Status) → (s ≡ Skipped → ⊥) → same_status s Skipped ≡ false
not_skipped Succeeded not_so = refl
not_skipped Failed not_so = refl
not_skipped Skipped not_so = absurd (not_so refl)
not_skipped TimedOut not_so = refl
not_skipped Cancelled not_so = refl

of_not : (b : Bool) → not b ≡ false → b ≡ true
of_not true is = refl
of_not false is = absurd (cc)

pub neither : (p q : Bool) → (p || q) ≡ false → (p ≡ false) × (q ≡ false)
neither true q is = absurd (cc)
neither false q is = (refl, is)

pub false_or : (p q : Bool) → p ≡ false → (p || q) ≡ q
false_or true q is = absurd (cc)
false_or false q is = refl

pub or_false : (p q : Bool) → q ≡ false → (p || q) ≡ p
or_false true q is = refl
or_false false q is = is

pub opposed : (b : Bool) → b ≡ true → b ≡ false → ⊥
opposed true t f = cc
opposed false t f = cc

abbrev pub is_nil : List ℕ → Bool
is_nil [] = true
is_nil (j ∷ rest) = false

pub same_front : (i rest : List ℕ) → same_at i (i ++ rest) ≡ is_nil rest
same_front [] [] = refl
same_front [] (j ∷ rest) = refl
same_front (a ∷ i) rest = rw (same_self a) (same_front i rest)

pub split_at : (i at' : List ℕ) → starts i at' ≡ true → (rest : List ℕ) × (at' ≡ i ++ rest)
split_at [] at' is = (at', refl)
split_at (a ∷ i) [] is = absurd (cc)
split_at (a ∷ i) (b ∷ at') is =
    let both = and_in (nat_eq a b) (starts i at') is in
    let later = split_at i at' both.1 in
    (later.0, ap₂ (λ (c : ℕ) (cs : List ℕ). c ∷ cs) (sym (eqb-true a b both.0)) later.1)

pub starts_turn : (i : List ℕ) (j : ℕ) (more : List ℕ) → starts (i ++ j ∷ []) (i ++ j ∷ more) ≡ true
starts_turn [] j more = rw (same_self j) refl
starts_turn (a ∷ i) j more = rw (same_self a) (starts_turn i j more)

-- what is plain in a graph is in it
mutual
  pub shown_held : (kind : Kind) (x : ℕ) → holds kind x ≡ false → shows kind x ≡ false
  shown_held Leaf x not_so = refl
  shown_held (Scope g) x not_so = plain_had g x not_so
  shown_held (Choice bs) x not_so = plain_had_any bs x not_so
  shown_held (Foreach pace g) x not_so = refl
  shown_held (Until most g) x not_so = refl

  pub plain_had_any : (bs : Branches) (x : ℕ) → has_any bs x ≡ false → plain_any bs x ≡ false
  plain_had_any no_branch x not_so = refl
  plain_had_any (branch b bs) x not_so =
      let each = neither (has b x) (has_any bs x) not_so in
      false_or (plain b x) (plain_any bs x) (plain_had b x each.0) ∙ plain_had_any bs x each.1

  pub plain_had : (g : Graph) (x : ℕ) → has g x ≡ false → plain g x ≡ false
  plain_had done x not_so = refl
  plain_had (add n after kind g) x not_so =
      let outer = neither (nat_eq n x || holds kind x) (has g x) not_so in
      let inner = neither (nat_eq n x) (holds kind x) outer.0 in
      false_or (nat_eq n x || shows kind x) (plain g x)
      (false_or (nat_eq n x) (shows kind x) inner.0 ∙ shown_held kind x inner.1) ∙ plain_had g x outer.1

module _ {Row Begun Decision Verdict : Type 0} (d : Graph) (m : Source Row Begun Decision Verdict) (read : Reading Row)
    (fits : ℕ → Bool → Row → Bool) (r : Table Row) (fresh : IsFresh m)
    (nothing : (y : Address) → fails read (is_skipped_in m) fits r d y ≡ false) where
  abbrev at_of : Address → Standing
  at_of y = standing read (is_skipped_in m) fits r d y

  abbrev in_graph : Graph → ℕ → Bool → List ℕ → List ℕ → Standing
  in_graph = stand read (is_skipped_in m) fits r

  abbrev in_branches : Branches → ℕ → ℕ → Bool → List ℕ → List ℕ → Standing
  in_branches = stand_any read (is_skipped_in m) fits r

  abbrev in_kind : Kind → ℕ → ℕ → Row → List ℕ → List ℕ → Standing
  in_kind = stand_in read (is_skipped_in m) fits r

  -- what an address that doesn't fail has
  at_row : (y : Address) (s : Standing) (o : Option Row) → at_of y ≡ s → r y ≡ o → fails_as read (is_skipped_in m) fits r y.name s o ≡ false
  at_row y s o is e = ap₂ (λ (z : Standing) (w : Option Row). fails_as read (is_skipped_in m) fits r y.name z w) (sym is) (sym e)
      ∙ nothing y

  called_row : (y : Address) (skipped : Bool) → at_of y ≡ called skipped → (row : Row) × (r y ≡ Some row) × (fits y.name skipped row ≡ true)
  called_row y skipped is = by_row (r y) refl
    where
      by_row : (o : Option Row) → r y ≡ o → (row : Row) × (r y ≡ Some row) × (fits y.name skipped row ≡ true)
      by_row None e = let f = at_row y (called skipped) None is e in absurd (cc)
      by_row (Some row) e = (row, e, of_not (fits y.name skipped row) (at_row y (called skipped) (Some row) is e))

  no_row : (y : Address) → at_of y ≡ uncalled → r y ≡ None
  no_row y is = by_row (r y) refl
    where
      by_row : (o : Option Row) → r y ≡ o → r y ≡ None
      by_row None e = e
      by_row (Some row) e = let f = at_row y uncalled (Some row) is e in absurd (cc)

  -- ---- places

  -- standings in a graph at these indexes, and inside a container with this row
  abbrev At : Graph → Bool → List ℕ → Type 0
  At g skipped i = (x : ℕ) (rest : List ℕ) → has g x ≡ true → at_of (address x (i ++ rest)) ≡ in_graph g x skipped i rest

  abbrev AtAny : Branches → ℕ → Bool → List ℕ → Type 0
  AtAny bs c skipped i = (x : ℕ) (rest : List ℕ) → has_any bs x ≡ true → at_of (address x (i ++ rest)) ≡ in_branches bs c x skipped i rest

  abbrev Inside : Kind → ℕ → Row → List ℕ → Type 0
  Inside kind n row i = (x : ℕ) (rest : List ℕ) → holds kind x ≡ true → at_of (address x (i ++ rest)) ≡ in_kind kind n x row i rest

  at_rest : (n : ℕ) (after : List Need) (kind : Kind) (g : Graph) (skipped : Bool) (i : List ℕ) → Once (add n after kind g)
      → At (add n after kind g) skipped i → At g skipped i
  at_rest n after kind g skipped i once here x rest h =
      let other = neither (nat_eq n x) (holds kind x)
      (not_true (nat_eq n x || holds kind x) (λ e. opposed (has g x) h (once.1 x e))) in
      here x rest (or_second (nat_eq n x || holds kind x) (has g x) h)
      ∙ unless (nat_eq n x) (own skipped rest) _ other.0
      ∙ unless (holds kind x) _ (in_graph g x skipped i rest) other.1

  at_own : (n : ℕ) (after : List Need) (kind : Kind) (g : Graph) (skipped : Bool) (i rest : List ℕ) → At (add n after kind g) skipped i
      → at_of (address n (i ++ rest)) ≡ own skipped rest
  at_own n after kind g skipped i rest here =
      here n rest (or_first (nat_eq n n || holds kind n) (has g n) (or_first (nat_eq n n) (holds kind n) (same_self n)))
      ∙ when (nat_eq n n) (own skipped rest) _ (same_self n)

  at_inside : (n : ℕ) (after : List Need) (kind : Kind) (g : Graph) (skipped : Bool) (i : List ℕ) (row : Row) → Once (add n after kind g)
      → At (add n after kind g) skipped i → r (address n i) ≡ Some row → fits n skipped row ≡ true → Inside kind n row i
  at_inside n after kind g skipped i row once here e f x rest h =
      let other : nat_eq n x ≡ false =
      not_true (nat_eq n x) (λ same. opposed (holds kind x) h (ap (holds kind) (sym (eqb-true n x same)) ∙ once.0)) in
      here x rest (or_first (nat_eq n x || holds kind x) (has g x) (or_second (nat_eq n x) (holds kind x) h))
      ∙ unless (nat_eq n x) (own skipped rest) _ other
      ∙ when (holds kind x) (if_fits (fits n skipped) (r (address n i)) (λ row. in_kind kind n x row i rest)) _ h
      ∙ ap (λ (o : Option Row). if_fits (fits n skipped) o (λ row. in_kind kind n x row i rest)) e
      ∙ when (fits n skipped row) (in_kind kind n x row i rest) unsaid f

  own_row : (n : ℕ) (after : List Need) (kind : Kind) (g : Graph) (skipped : Bool) (i : List ℕ) → At (add n after kind g) skipped i
      → (row : Row) × (r (address n i) ≡ Some row) × (fits n skipped row ≡ true)
  own_row n after kind g skipped i here =
      let found = called_row (address n (i ++ [])) skipped (at_own n after kind g skipped i [] here) in
      (found.0, subst (λ (a : List ℕ). r (address n a) ≡ Some found.0) (append-nil i) found.1, found.2)

  -- ---- what has to be Skipped

  -- what is called for of an action that is shown or not, at further indexes
  abbrev expected : Bool → List ℕ → Option Row
  expected shown [] = cond shown (Some m.skipped) None
  expected shown (j ∷ rest) = None

  expected_none : (rest : List ℕ) → expected false rest ≡ None
  expected_none [] = refl
  expected_none (j ∷ rest) = refl

  none_there : (x : ℕ) (i rest : List ℕ) (shown : Bool) → shown ≡ false → at_of (address x (i ++ rest)) ≡ uncalled
      → SkippedAs m (expected shown rest) (r (address x (i ++ rest)))
  none_there x i rest shown not_so is =
      subst (λ (o : Option Row). SkippedAs m o (r (address x (i ++ rest))))
      (sym (ap (λ b. expected b rest) not_so ∙ expected_none rest)) (no_row (address x (i ++ rest)) is)

  turn_none : (count : ℕ) (rest : List ℕ) (inside : ℕ → List ℕ → Standing) → count ≡ 0 → at_turn count rest inside ≡ uncalled
  turn_none count [] inside is = refl
  turn_none count (j ∷ rest) inside is = unless (nat_lt j count) (inside j rest) uncalled (grind (arith, nat_tests, is))

  -- the rows of an action whose row is Skipped, where those inside it are as they should be
  skips_own : (n : ℕ) (after : List Need) (kind : Kind) (g : Graph) (skipped : Bool) (i : List ℕ) (row : Row)
      → At (add n after kind g) skipped i → r (address n i) ≡ Some row → is_skipped_in m row ≡ true
      → ((x : ℕ) (rest : List ℕ) → holds kind x ≡ true → SkippedAs m (expected (shows kind x) rest) (r (address x (i ++ rest))))
      → (x : ℕ) (rest : List ℕ) → (nat_eq n x || holds kind x) ≡ true
      → SkippedAs m (expected (nat_eq n x || shows kind x) rest) (r (address x (i ++ rest)))
  skips_own n after kind g skipped i row here e sk inside x rest h = by_name (nat_eq n x) refl
    where
      named : (rest : List ℕ) → SkippedAs m (expected true rest) (r (address n (i ++ rest)))
      named [] = (row, ap (λ (a : List ℕ). r (address n a)) (append-nil i) ∙ e, as_skipped (m.status row) sk)
      named (j ∷ rest) = no_row (address n (i ++ j ∷ rest)) (at_own n after kind g skipped i (j ∷ rest) here)

      by_name : (b : Bool) → nat_eq n x ≡ b → SkippedAs m (expected (nat_eq n x || shows kind x) rest) (r (address x (i ++ rest)))
      by_name true is =
          subst (λ (z : ℕ). SkippedAs m (expected (nat_eq n x || shows kind x) rest) (r (address z (i ++ rest)))) (eqb-true n x is)
          (subst (λ (b : Bool). SkippedAs m (expected b rest) (r (address n (i ++ rest)))) (sym (or_first (nat_eq n x) (shows kind x) is))
          (named rest))
      by_name false is =
          subst (λ (b : Bool). SkippedAs m (expected b rest) (r (address x (i ++ rest)))) (sym (false_or (nat_eq n x) (shows kind x) is))
          (inside x rest (sym (false_or (nat_eq n x) (holds kind x) is) ∙ h))

  any_rest : (b : Graph) (bs : Branches) (c : ℕ) (skipped : Bool) (i : List ℕ) → OnceAny (branch b bs) → AtAny (branch b bs) c skipped i
      → AtAny bs (less_one c) skipped i
  any_rest b bs c skipped i once here x rest h =
      here x rest (or_second (has b x) (has_any bs x) h)
      ∙ unless (has b x) _ (in_branches bs (less_one c) x skipped i rest)
      (not_true (has b x) (λ e. opposed (has_any bs x) h (once.0 x e)))

  mutual
    skips_in : (kind : Kind) (n : ℕ) (skipped : Bool) (row : Row) (i : List ℕ) → OnceIn kind → IdleIn read (is_skipped_in m) fits kind n
        → fits n skipped row ≡ true → is_skipped_in m row ≡ true → Inside kind n row i
        → (x : ℕ) (rest : List ℕ) → holds kind x ≡ true → SkippedAs m (expected (shows kind x) rest) (r (address x (i ++ rest)))
    skips_in Leaf n skipped row i once idle f sk here x rest h = absurd (cc)
    skips_in (Scope g) n skipped row i once idle f sk here x rest h =
        skips g i once idle (λ z more k. here z more k ∙ ap (λ b. in_graph g z b i more) sk) x rest h
    skips_in (Choice bs) n skipped row i once idle f sk here x rest h =
        skips_any bs (read.taken n row) i once idle
        (λ z more k. here z more k ∙ ap (λ b. in_branches bs (read.taken n row) z b i more) sk) x rest h
    skips_in (Foreach pace g) n skipped row i once idle f sk here x rest h =
        none_there x i rest false refl (here x rest h ∙ turn_none (read.items row) rest _ (idle.0 skipped row f sk))
    skips_in (Until most g) n skipped row i once idle f sk here x rest h =
        none_there x i rest false refl (here x rest h ∙ turn_none (read.rounds row) rest _ (idle.0 skipped row f sk))

    skips_any : (bs : Branches) (c : ℕ) (i : List ℕ) → OnceAny bs → IdleAny read (is_skipped_in m) fits bs → AtAny bs c true i
        → (x : ℕ) (rest : List ℕ) → has_any bs x ≡ true → SkippedAs m (expected (plain_any bs x) rest) (r (address x (i ++ rest)))
    skips_any no_branch c i once idle here x rest h = absurd (cc)
    skips_any (branch b bs) c i once idle here x rest h = elim (two (has b x)) [
      | inl is ↦ subst (λ (t : Bool). SkippedAs m (expected t rest) (r (address x (i ++ rest))))
          (sym (or_false (plain b x) (plain_any bs x) (plain_had_any bs x (once.0 x is))))
          (skips b i once.1 idle.0
          (λ y more k. here y more (or_first (has b y) (has_any bs y) k) ∙ when (has b y) (in_graph b y true i more) _ k)
          x rest is)
      | inr is ↦ subst (λ (t : Bool). SkippedAs m (expected t rest) (r (address x (i ++ rest))))
          (sym (false_or (plain b x) (plain_any bs x) (plain_had b x is)))
          (skips_any bs (less_one c) i once.2 idle.1 (any_rest b bs c true i once here) x rest
          (sym (false_or (has b x) (has_any bs x) is) ∙ h))
    ]

    skips : (g : Graph) (i : List ℕ) → Once g → Idle read (is_skipped_in m) fits g → At g true i
        → (x : ℕ) (rest : List ℕ) → has g x ≡ true → SkippedAs m (expected (plain g x) rest) (r (address x (i ++ rest)))
    skips done i once idle here x rest h = absurd (cc)
    skips (add n after kind g) i once idle here x rest h = elim (two (nat_eq n x || holds kind x)) [
      | inl is ↦
          let found = own_row n after kind g true i here in
          let sk = idle.0 found.0 found.2 in
          subst (λ (t : Bool). SkippedAs m (expected t rest) (r (address x (i ++ rest))))
          (sym (or_false (nat_eq n x || shows kind x) (plain g x) (plain_had g x (once.1 x is))))
          (skips_own n after kind g true i found.0 here found.1 sk
          (skips_in kind n true found.0 i once.2 idle.1 found.2 sk
          (at_inside n after kind g true i found.0 once here found.1 found.2)) x rest is)
      | inr is ↦
          let each = neither (nat_eq n x) (holds kind x) is in
          subst (λ (t : Bool). SkippedAs m (expected t rest) (r (address x (i ++ rest))))
          (sym (false_or (nat_eq n x || shows kind x) (plain g x)
          (false_or (nat_eq n x) (shows kind x) each.0 ∙ shown_held kind x each.1)))
          (skips g i once.3 idle.2 (at_rest n after kind g true i once here) x rest
          (sym (false_or (nat_eq n x || holds kind x) (has g x) is) ∙ h))
    ]

  -- ---- the shape

  -- what is skipped of an action, as the laws say it
  expected_is : (i rest : List ℕ) (shown : Bool) → cond (shown && same_at i (i ++ rest)) (Some m.skipped) None ≡ expected shown rest
  expected_is i rest shown = ap (λ b. cond (shown && b) (Some m.skipped) None) (same_front i rest) ∙ by_rest rest shown
    where
      by_rest : (rest : List ℕ) (shown : Bool) → cond (shown && is_nil rest) (Some m.skipped) None ≡ expected shown rest
      by_rest [] true = refl
      by_rest [] false = refl
      by_rest (j ∷ rest) true = refl
      by_rest (j ∷ rest) false = refl

  -- at each address of a graph, from what is said at its indexes and further ones
  skip_graph : (g : Graph) (i : List ℕ)
      → ((x : ℕ) (rest : List ℕ) → has g x ≡ true → SkippedAs m (expected (plain g x) rest) (r (address x (i ++ rest))))
      → (y : Address) → is_within g i y ≡ true → SkippedAs m (skip_all m g i y) (r y)
  skip_graph g i all y h =
      let both = and_in (has g y.name) (starts i y.at) h in
      let cut = split_at i y.at both.1 in
      subst (λ (a : List ℕ). SkippedAs m (skip_all m g i (address y.name a)) (r (address y.name a))) (sym cut.1)
      (subst (λ (o : Option Row). SkippedAs m o (r (address y.name (i ++ cut.0))))
      (sym (unless (m.pinned y.name) (m.old (address y.name (i ++ cut.0))) _ (fresh y.name).0 ∙ expected_is i cut.0 (plain g y.name)))
      (all y.name cut.0 both.0))

  skip_action : (n : ℕ) (kind : Kind) (i : List ℕ)
      → ((x : ℕ) (rest : List ℕ) → (nat_eq n x || holds kind x) ≡ true
      → SkippedAs m (expected (nat_eq n x || shows kind x) rest) (r (address x (i ++ rest))))
      → (y : Address) → is_in n kind i y ≡ true → SkippedAs m (skip m n kind i y) (r y)
  skip_action n kind i all y h =
      let both = and_in (nat_eq n y.name || holds kind y.name) (starts i y.at) h in
      let cut = split_at i y.at both.1 in
      subst (λ (a : List ℕ). SkippedAs m (skip m n kind i (address y.name a)) (r (address y.name a))) (sym cut.1)
      (subst (λ (o : Option Row). SkippedAs m o (r (address y.name (i ++ cut.0))))
      (sym (expected_is i cut.0 (nat_eq n y.name || shows kind y.name))) (all y.name cut.0 both.0))

  -- not_so row stands at another index than one of a loop's
  no_turn : (g : Graph) (i : List ℕ) (count : ℕ)
      → ((x : ℕ) (rest : List ℕ) → has g x ≡ true
      → at_of (address x (i ++ rest)) ≡ at_turn count rest (λ j more. in_graph g x false (i ++ j ∷ []) more))
      → (y : Address) → is_within g i y ≡ true → ((j : ℕ) → j < count → starts (i ++ j ∷ []) y.at ≡ false) → r y ≡ None
  no_turn g i count here y h none =
      let both = and_in (has g y.name) (starts i y.at) h in
      let cut = split_at i y.at both.1 in
      subst (λ (a : List ℕ). r (address y.name a) ≡ None) (sym cut.1)
      (no_row (address y.name (i ++ cut.0)) (here y.name cut.0 both.0 ∙ out cut.0 cut.1))
    where
      out : (rest : List ℕ) → y.at ≡ i ++ rest
          → at_turn count rest (λ j more. in_graph g y.name false (i ++ j ∷ []) more) ≡ uncalled
      out [] is = refl
      out (j ∷ more) is =
          unless (nat_lt j count) (in_graph g y.name false (i ++ j ∷ []) more) uncalled
          (not_true (nat_lt j count) (λ lt. opposed (starts (i ++ j ∷ []) y.at)
          (ap (starts (i ++ j ∷ [])) is ∙ starts_turn i j more) (none j (grind (arith, nat_tests, lt)))))

  turn_at : (g : Graph) (i : List ℕ) (count j : ℕ) → j < count
      → ((x : ℕ) (rest : List ℕ) → has g x ≡ true
      → at_of (address x (i ++ rest)) ≡ at_turn count rest (λ j more. in_graph g x false (i ++ j ∷ []) more))
      → At g false (i ++ j ∷ [])
  turn_at g i count j lt here x rest h =
      ap (λ (a : List ℕ). at_of (address x a)) (append_assoc i (j ∷ []) rest) ∙ here x (j ∷ rest) h
      ∙ when (nat_lt j count) (in_graph g x false (i ++ j ∷ []) rest) uncalled (grind (arith, nat_tests, lt))

  -- not_so row of an action stands at further indexes
  no_further : (n : ℕ) (after : List Need) (kind : Kind) (g : Graph) (skipped : Bool) (i : List ℕ) → At (add n after kind g) skipped i
      → (y : Address) → is_in n kind i y ≡ true → nat_eq n y.name ≡ true → is_own n i y ≡ false → r y ≡ None
  no_further n after kind g skipped i here y h same not_own =
      let both = and_in (nat_eq n y.name || holds kind y.name) (starts i y.at) h in
      let cut = split_at i y.at both.1 in
      let name = eqb-true n y.name same in
      subst (λ (a : List ℕ). r (address y.name a) ≡ None) (sym cut.1)
      (subst (λ (z : ℕ). r (address z (i ++ cut.0)) ≡ None) name
      (no_row (address n (i ++ cut.0)) (at_own n after kind g skipped i cut.0 here ∙ further cut.0 (longer cut.0 cut.1))))
    where
      further : (rest : List ℕ) → is_nil rest ≡ false → own skipped rest ≡ uncalled
      further [] not_so = absurd (cc)
      further (j ∷ rest) not_so = refl

      longer : (rest : List ℕ) → y.at ≡ i ++ rest → is_nil rest ≡ false
      longer rest is =
          sym (same_front i rest) ∙ ap (same_at i) (sym is)
          ∙ not_true (same_at i y.at)
          (λ e. opposed (nat_eq n y.name && same_at i y.at) (and_of (nat_eq n y.name) (same_at i y.at) same e) not_own)

  is_skipped_by : (row : Row) → m.status row ≡ Skipped → is_skipped_in m row ≡ true
  is_skipped_by row s = ap (λ z. same_status z Skipped) s

  mutual
    shape_in : (kind : Kind) (n : ℕ) (row : Row) (i : List ℕ) → OnceIn kind → IdleIn read (is_skipped_in m) fits kind n
        → is_skipped_in m row ≡ false → Inside kind n row i → ShapeIn m read r kind n i row
    shape_in Leaf n row i once idle ran here = tt
    shape_in (Scope g) n row i once idle ran here =
        shape g i once idle (λ x rest h. here x rest h ∙ ap (λ b. in_graph g x b i rest) ran)
    shape_in (Choice bs) n row i once idle ran here =
        shape_any bs (read.taken n row) i once idle (λ x rest h. here x rest h ∙ ap (λ b. in_branches bs (read.taken n row) x b i rest) ran)
    shape_in (Foreach pace g) n row i once idle ran here =
        (λ j lt. shape g (i ++ j ∷ []) once idle.1 (turn_at g i (read.items row) j lt here), no_turn g i (read.items row) here)
    shape_in (Until most g) n row i once idle ran here =
        (λ j lt. shape g (i ++ j ∷ []) once idle.1 (turn_at g i (read.rounds row) j lt here), no_turn g i (read.rounds row) here)

    shape_any : (bs : Branches) (c : ℕ) (i : List ℕ) → OnceAny bs → IdleAny read (is_skipped_in m) fits bs → AtAny bs c false i
        → ShapeAny m read r bs c i
    shape_any no_branch c i once idle here = tt
    shape_any (branch b bs) c i once idle here = (
      λ taken. shape b i once.1 idle.0 (λ x rest h. at_branch x rest h ∙ ap (λ t. in_graph b x (not t) i rest) taken),
      λ other. skip_graph b i (skips b i once.1 idle.0 (λ x rest h. at_branch x rest h ∙ ap (λ t. in_graph b x (not t) i rest) other)),
      shape_any bs (less_one c) i once.2 idle.1 (any_rest b bs c false i once here),
    )
      where
        at_branch : (x : ℕ) (rest : List ℕ) → has b x ≡ true
            → at_of (address x (i ++ rest)) ≡ in_graph b x (not (is_one c)) i rest
        at_branch x rest h =
            here x rest (or_first (has b x) (has_any bs x) h) ∙ when (has b x) (in_graph b x (not (is_one c)) i rest) _ h

    shape : (g : Graph) (i : List ℕ) → Once g → Idle read (is_skipped_in m) fits g → At g false i → Shape m read r g i
    shape done i once idle here = tt
    shape (add n after kind g) i once idle here =
        let found = own_row n after kind g false i here in
        let inside : Inside kind n found.0 i = at_inside n after kind g false i found.0 once here found.1 found.2 in (
          (
            found.0,
            found.1,
            λ s. skip_action n kind i (skips_own n after kind g false i found.0 here found.1 (is_skipped_by found.0 s)
                (skips_in kind n false found.0 i once.2 idle.1 found.2 (is_skipped_by found.0 s) inside)),
            λ ran. shape_in kind n found.0 i once.2 idle.1 (not_skipped (m.status found.0) ran) inside,
            no_further n after kind g false i here,
          ),
          shape g i once.3 idle.2 (at_rest n after kind g false i once here),
        )

  -- a name that the graph hasn't is called for nowhere
  out : (g : Graph) (x : ℕ) (skipped : Bool) (i rest : List ℕ) → has g x ≡ false → in_graph g x skipped i rest ≡ uncalled
  out done x skipped i rest not_so = refl
  out (add n after kind g) x skipped i rest not_so =
      let outer = neither (nat_eq n x || holds kind x) (has g x) not_so in
      let inner = neither (nat_eq n x) (holds kind x) outer.0 in
      unless (nat_eq n x) (own skipped rest) _ inner.0 ∙ unless (holds kind x) _ (in_graph g x skipped i rest) inner.1
      ∙ out g x skipped i rest outer.1

  right : Once d → Idle read (is_skipped_in m) fits d → HasShape d m read r
  right once idle = record {
    within = shape d [] once idle (λ x rest h. refl);
    outside = λ y not_so. no_row y (out d y.name false [] y.at (has_not y not_so));
  }
    where
      has_not : (y : Address) → is_within d [] y ≡ false → has d y.name ≡ false
      has_not y not_so = not_true (has d y.name) (λ h. opposed (has d y.name && true) (and_of (has d y.name) true h refl) not_so)

pub has_right_shape : {Row Begun Decision Verdict : Type 0} (d : Graph) (m : Source Row Begun Decision Verdict) (read : Reading Row)
    (fits : ℕ → Bool → Row → Bool) (r : Table Row) → RightShape d m read fits r
has_right_shape d m read fits r once fresh idle nothing = right d m read fits r fresh nothing once idle
