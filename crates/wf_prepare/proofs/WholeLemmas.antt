-- Where no address fails, each row stands at an address with an index for each loop round its action, in an iteration that the loop's own
-- row tells of.
use Rattle.std.proofs.Common.{◌≡◌, ℕ, suc, ◌<◌, Bool, true, false, ◌||◌, not, cond, List, [], ◌∷◌, ◌++◌, length, Option, Some, None, inl}
use Rattle.std.proofs.Common.{inr, refl, sym, ap, ap₂, ◌∙◌, subst, nat_eq, nat_lt, eqb-true, append_assoc, append-nil, true≢false}
use Rattle.std.proofs.lemmas.Bool.{ltb-true}
use Rattle.wf_layers.specs.Definition.{Kind, Leaf, Scope, Choice, Foreach, Until, Branches, no_branch, branch, Graph, done, add, has}
use Rattle.wf_layers.specs.Definition.{has_any, holds, is_one, kind_any, kind_in, kind_of, less_one}
use Rattle.wf_layers.specs.Address.{Address, Table, address}
use Rattle.wf_layers.specs.Seen.{Once, OnceAny, OnceIn}
use Rattle.wf_layers.specs.Shape.{Reading}
use Rattle.wf_layers.proofs.Basics.{not_true, or_first, or_second, same_self, two, unless, when}
use Rattle.wf_loops.specs.Loops.{loops_any, loops_in, loops_of}
use Rattle.wf_shape.specs.Standing.{Standing, at_turn, called, fails, fails_as, if_fits, own, stand, stand_any, stand_in, standing}
use Rattle.wf_shape.specs.Standing.{uncalled, unsaid}

clash : (b : Bool) → b ≡ true → b ≡ false → ⊥
clash b yes' no' = true≢false (sym yes' ∙ no')

second : (p q : Bool) → p ≡ false → (p || q) ≡ true → q ≡ true
second p q out is = ap (λ c. c || q) (sym out) ∙ is

some_same : {X : Type 0} (x y : X) → Some x ≡ Some y → x ≡ y
some_same x y is = cc

-- ---- what isn't there has no loops round it

pub no_loops : (g : Graph) (x : ℕ) → has g x ≡ false → loops_of g x ≡ []
no_loops done x out = refl
no_loops (add n after kind g) x out =
    let held = not_true (holds kind x)
    (λ h. clash (has (add n after kind g) x)
    (or_first (nat_eq n x || holds kind x) (has g x) (or_second (nat_eq n x) (holds kind x) h)) out) in
    let later = not_true (has g x)
    (λ h. clash (has (add n after kind g) x) (or_second (nat_eq n x || holds kind x) (has g x) h) out) in
    unless (holds kind x) (loops_in n kind x) (loops_of g x) held ∙ no_loops g x later

-- how many iterations a row tells, by the kind of its action
abbrev pub counts : {Row : Type 0} → Reading Row → Kind → Row → ℕ
counts read Leaf row = 0
counts read (Scope g) row = 0
counts read (Choice bs) row = 0
counts read (Foreach pace g) row = read.items row
counts read (Until most g) row = read.rounds row

module _ {Row : Type 0} (read : Reading Row) (is_skipped : Row → Bool) (fits : ℕ → Bool → Row → Bool) (r : Table Row) (d : Graph)
    (none : (y : Address) → fails read is_skipped fits r d y ≡ false) where
  -- the loop has a row there that tells of the iteration
  pub record HasTurn (l : ℕ) (at : List ℕ) (turn : ℕ) : Type 0 where
    pub kind : Kind
    pub row : Row
    pub of_kind : kind_of d l ≡ Some kind
    pub there : r (address l at) ≡ Some row
    pub below : turn < counts read kind row

  -- the indexes `rest` behind i, of the action x inside these loops
  pub record AreWholeAt (x : ℕ) (loops : List ℕ) (i rest : List ℕ) : Type 0 where
    pub is_called : (s : Bool) × (standing read is_skipped fits r d (address x (i ++ rest)) ≡ called s)
    pub count : length rest ≡ length loops
    pub turns : (outer inner : List ℕ) (l : ℕ) (at behind : List ℕ) (turn : ℕ) → loops ≡ outer ++ l ∷ inner → rest ≡ at ++ turn ∷ behind
        → length at ≡ length outer → HasTurn l (i ++ at) turn

  no_more : (l : ℕ) (outer inner : List ℕ) → [] ≡ outer ++ l ∷ inner → ⊥
  no_more l [] inner is = cc
  no_more l (m ∷ outer) inner is = cc

  outside : (x : ℕ) (i : List ℕ) → ((s : Bool) × (standing read is_skipped fits r d (address x (i ++ [])) ≡ called s))
      → AreWholeAt x [] i []
  outside x i is_called = record {
    is_called = is_called;
    count = refl;
    turns = λ outer inner l at behind turn loops rest same. absurd (no_more l outer inner loops);
  }

  head_is : (n l : ℕ) (ns ls : List ℕ) → n ∷ ns ≡ l ∷ ls → n ≡ l
  head_is n l ns ls is = cc

  tail_is : (n l : ℕ) (ns ls : List ℕ) → n ∷ ns ≡ l ∷ ls → ns ≡ ls
  tail_is n l ns ls is = cc

  suc_is : (m n : ℕ) → suc m ≡ suc n → m ≡ n
  suc_is m n is = cc

  zero_suc : (n : ℕ) → suc n ≡ 0 → ⊥
  zero_suc n is = cc

  suc_zero : (n : ℕ) → 0 ≡ suc n → ⊥
  suc_zero n is = cc

  -- and inside one loop more
  one_more : (x n j : ℕ) (ls i rest : List ℕ) → HasTurn n i j → AreWholeAt x ls (i ++ j ∷ []) rest
      → AreWholeAt x (n ∷ ls) i (j ∷ rest)
  one_more x n j ls i rest turn inner = record {
    is_called = (
      inner.is_called.0,
      ap (λ (at : List ℕ). standing read is_skipped fits r d (address x at)) (sym (append_assoc i (j ∷ []) rest)) ∙ inner.is_called.1,
    );
    count = ap suc inner.count;
    turns = at_turns;
  }
    where
      at_turns : (outer ins : List ℕ) (l : ℕ) (at behind : List ℕ) (turn' : ℕ) → n ∷ ls ≡ outer ++ l ∷ ins
          → j ∷ rest ≡ at ++ turn' ∷ behind → length at ≡ length outer → HasTurn l (i ++ at) turn'
      at_turns [] ins l [] behind turn' loops indexes same =
          subst (λ (m : ℕ). HasTurn m (i ++ []) turn') (head_is n l ls ins loops)
          (subst (λ (k : ℕ). HasTurn n (i ++ []) k) (head_is j turn' rest behind indexes)
          (subst (λ (at' : List ℕ). HasTurn n at' j) (sym (append-nil i)) turn))
      at_turns [] ins l (k ∷ at) behind turn' loops indexes same = absurd (zero_suc (length at) same)
      at_turns (m ∷ outer) ins l [] behind turn' loops indexes same = absurd (suc_zero (length outer) same)
      at_turns (m ∷ outer) ins l (k ∷ at) behind turn' loops indexes same =
          let first : j ≡ k = head_is j k rest (at ++ turn' ∷ behind) indexes in
          subst (λ (at' : List ℕ). HasTurn l at' turn')
          (append_assoc i (j ∷ []) at ∙ ap (λ (b : ℕ). i ++ b ∷ at) first)
          (inner.turns outer ins l at behind turn' (tail_is n m ls (outer ++ l ∷ ins) loops)
          (tail_is j k rest (at ++ turn' ∷ behind) indexes) (suc_is (length at) (length outer) same))

  -- ---- what stands in a part of the definition stands there as in the whole

  record IsPart (there : ℕ → Bool) (kinds : ℕ → Option Kind) (stands : ℕ → List ℕ → Standing) (i : List ℕ) : Type 0 where
    kind_is : (c : ℕ) → there c ≡ true → kind_of d c ≡ kinds c
    stands_so : (c : ℕ) (rest : List ℕ) → there c ≡ true → standing read is_skipped fits r d (address c (i ++ rest)) ≡ stands c rest

  abbrev st : Graph → Bool → List ℕ → ℕ → List ℕ → Standing
  st g skipped i c rest = stand read is_skipped fits r g c skipped i rest

  abbrev st_in : Kind → ℕ → Row → List ℕ → ℕ → List ℕ → Standing
  st_in kind n row i c rest = stand_in read is_skipped fits r kind n c row i rest

  abbrev st_any : Branches → ℕ → Bool → List ℕ → ℕ → List ℕ → Standing
  st_any bs taken skipped i c rest = stand_any read is_skipped fits r bs taken c skipped i rest

  -- a row that stands nowhere is one too many
  not_uncalled : (x : ℕ) (i : List ℕ) (row : Row) → r (address x i) ≡ Some row
      → standing read is_skipped fits r d (address x i) ≡ uncalled → ⊥
  not_uncalled x i row there is =
      true≢false (sym (ap₂ (fails_as read is_skipped fits r x) is there) ∙ none (address x i))

  -- what is called for has a row that fits
  record Fitted (n : ℕ) (skipped : Bool) (i : List ℕ) : Type 0 where
    row : Row
    there : r (address n i) ≡ Some row
    row_fits : fits n skipped row ≡ true

  fitted : (n : ℕ) (skipped : Bool) (i : List ℕ) → standing read is_skipped fits r d (address n i) ≡ called skipped → Fitted n skipped i
  fitted n skipped i is = at (r (address n i)) refl
    where
      at : (o : Option Row) → r (address n i) ≡ o → Fitted n skipped i
      at None no_row = absurd (true≢false (sym (ap₂ (fails_as read is_skipped fits r n) is no_row) ∙ none (address n i)))
      at (Some row) there = record {
        row = row;
        there = there;
        row_fits = it_fits (fits n skipped row) (sym (ap₂ (fails_as read is_skipped fits r n) is there) ∙ none (address n i));
      }
        where
          it_fits : (b : Bool) → not b ≡ false → b ≡ true
          it_fits true e = refl
          it_fits false e = absurd (true≢false e)

  -- ---- the walk

  below_is : (j n : ℕ) → nat_lt j n ≡ true → j < n
  below_is j n is = ltb-true j n is

  module _ (x : ℕ) (row : Row) where
    -- in an iteration of a loop, where all is whole inside its graph
    in_turn : (g : Graph) (n count : ℕ) (i rest : List ℕ) → ((c : ℕ) → has g c ≡ true → kind_of d c ≡ kind_of g c)
        → ((c : ℕ) (more : List ℕ) → has g c ≡ true → standing read is_skipped fits r d (address c (i ++ more))
        ≡ at_turn count more (λ j later. st g false (i ++ j ∷ []) c later))
        → has g x ≡ true → r (address x (i ++ rest)) ≡ Some row → ((j : ℕ) → j < count → HasTurn n i j)
        → ((j : ℕ) (more : List ℕ) → IsPart (has g) (kind_of g) (st g false (i ++ j ∷ [])) (i ++ j ∷ [])
        → r (address x ((i ++ j ∷ []) ++ more)) ≡ Some row → AreWholeAt x (loops_of g x) (i ++ j ∷ []) more)
        → AreWholeAt x (n ∷ loops_of g x) i rest
    in_turn g n count i [] kind_is stands_so held there turn inside =
        absurd (not_uncalled x (i ++ []) row there (stands_so x [] held))
    in_turn g n count i (j ∷ rest) kind_is stands_so held there turn inside = elim (two (nat_lt j count)) [
      | inr past ↦
          absurd (not_uncalled x (i ++ j ∷ rest) row there
          (stands_so x (j ∷ rest) held ∙ unless (nat_lt j count) (st g false (i ++ j ∷ []) x rest) uncalled past))
      | inl lt ↦
          one_more x n j (loops_of g x) i rest (turn j (below_is j count lt))
          (inside j rest
          (record {
            kind_is = kind_is;
            stands_so = λ c more h.
                ap (λ (at : List ℕ). standing read is_skipped fits r d (address c at)) (append_assoc i (j ∷ []) more)
                ∙ (stands_so c (j ∷ more) h ∙ when (nat_lt j count) (st g false (i ++ j ∷ []) c more) uncalled lt);
          })
          (ap (λ (at : List ℕ). r (address x at)) (append_assoc i (j ∷ []) rest) ∙ there))
    ]

    mutual
      whole_in : (kind : Kind) (n : ℕ) (found : Row) (i rest : List ℕ) → kind_of d n ≡ Some kind → r (address n i) ≡ Some found
          → OnceIn kind → IsPart (holds kind) (kind_in kind) (st_in kind n found i) i → holds kind x ≡ true
          → r (address x (i ++ rest)) ≡ Some row → AreWholeAt x (loops_in n kind x) i rest
      whole_in Leaf n found i rest of_kind is once part held there = absurd (true≢false (sym held))
      whole_in (Scope g) n found i rest of_kind is once part held there =
          whole g (is_skipped found) i rest once (record { kind_is = part.kind_is; stands_so = part.stands_so }) held there
      whole_in (Choice bs) n found i rest of_kind is once part held there =
          whole_any bs (read.taken n found) (is_skipped found) i rest once
          (record { kind_is = part.kind_is; stands_so = part.stands_so }) held there
      whole_in (Foreach pace g) n found i rest of_kind is once part held there =
          in_turn g n (read.items found) i rest part.kind_is part.stands_so held there
          (λ j lt. record { kind = Foreach pace g; row = found; of_kind = of_kind; there = is; below = lt })
          (λ j more turned h. whole g false (i ++ j ∷ []) more once turned held h)
      whole_in (Until most g) n found i rest of_kind is once part held there =
          in_turn g n (read.rounds found) i rest part.kind_is part.stands_so held there
          (λ j lt. record { kind = Until most g; row = found; of_kind = of_kind; there = is; below = lt })
          (λ j more turned h. whole g false (i ++ j ∷ []) more once turned held h)

      whole_any : (bs : Branches) (taken : ℕ) (skipped : Bool) (i rest : List ℕ) → OnceAny bs
          → IsPart (has_any bs) (kind_any bs) (st_any bs taken skipped i) i → has_any bs x ≡ true
          → r (address x (i ++ rest)) ≡ Some row → AreWholeAt x (loops_any bs x) i rest
      whole_any no_branch taken skipped i rest once part held there = absurd (true≢false (sym held))
      whole_any (branch b bs) taken skipped i rest once part held there = elim (two (has b x)) [
        | inl one ↦
            subst (λ (ls : List ℕ). AreWholeAt x ls i rest) (sym (when (has b x) (loops_of b x) (loops_any bs x) one))
            (whole b (skipped || not (is_one taken)) i rest once.1
            (record {
              kind_is = λ c h.
                  part.kind_is c (or_first (has b c) (has_any bs c) h) ∙ when (has b c) (kind_of b c) (kind_any bs c) h;
              stands_so = λ c more h.
                  part.stands_so c more (or_first (has b c) (has_any bs c) h)
                  ∙ when (has b c) (st b (skipped || not (is_one taken)) i c more) (st_any bs (less_one taken) skipped i c more) h;
            })
            one there)
        | inr out ↦
            let apart : (c : ℕ) → has_any bs c ≡ true → has b c ≡ false =
            λ c h. not_true (has b c) (λ t. clash (has_any bs c) h (once.0 c t)) in
            subst (λ (ls : List ℕ). AreWholeAt x ls i rest) (sym (unless (has b x) (loops_of b x) (loops_any bs x) out))
            (whole_any bs (less_one taken) skipped i rest once.2
            (record {
              kind_is = λ c h.
                  part.kind_is c (or_second (has b c) (has_any bs c) h)
                  ∙ unless (has b c) (kind_of b c) (kind_any bs c) (apart c h);
              stands_so = λ c more h.
                  part.stands_so c more (or_second (has b c) (has_any bs c) h)
                  ∙ unless (has b c) (st b (skipped || not (is_one taken)) i c more) (st_any bs (less_one taken) skipped i c more)
                  (apart c h);
            })
            (second (has b x) (has_any bs x) out held) there)
      ]

      whole : (g : Graph) (skipped : Bool) (i rest : List ℕ) → Once g → IsPart (has g) (kind_of g) (st g skipped i) i → has g x ≡ true
          → r (address x (i ++ rest)) ≡ Some row → AreWholeAt x (loops_of g x) i rest
      whole done skipped i rest once part held there = absurd (true≢false (sym held))
      whole (add n after kind g) skipped i rest once part held there = elim (two (nat_eq n x)) [
        | inl same ↦ at_own rest same there
        | inr other ↦ elim (two (holds kind x)) [
          | inl inside ↦
              subst (λ (ls : List ℕ). AreWholeAt x ls i rest) (sym (when (holds kind x) (loops_in n kind x) (loops_of g x) inside))
              (whole_in kind n row_fits.row i rest kind_there row_fits.there once.2
              (record { kind_is = kinds_inside; stands_so = stands_inside }) inside there)
          | inr out ↦ subst (λ (ls : List ℕ). AreWholeAt x ls i rest) (sym (unless (holds kind x) (loops_in n kind x) (loops_of g x) out))
              (whole g skipped i rest once.3
              (record { kind_is = kinds_later; stands_so = stands_later })
              (second (nat_eq n x || holds kind x) (has g x) (ap₂ (λ (b c : Bool). b || c) other out) held) there)
        ]
      ]
        where
          here : (c : ℕ) → nat_eq n c ≡ true → has (add n after kind g) c ≡ true
          here c same = or_first (nat_eq n c || holds kind c) (has g c) (or_first (nat_eq n c) (holds kind c) same)

          held_there : (c : ℕ) → holds kind c ≡ true → has (add n after kind g) c ≡ true
          held_there c h = or_first (nat_eq n c || holds kind c) (has g c) (or_second (nat_eq n c) (holds kind c) h)

          later_there : (c : ℕ) → has g c ≡ true → has (add n after kind g) c ≡ true
          later_there c h = or_second (nat_eq n c || holds kind c) (has g c) h

          -- the action itself isn't among those that it holds, nor among the others
          not_held : (c : ℕ) → holds kind c ≡ true → nat_eq n c ≡ false
          not_held c h =
              not_true (nat_eq n c) (λ same. clash (holds kind n) (ap (holds kind) (eqb-true n c same) ∙ h) once.0)

          not_later : (c : ℕ) → has g c ≡ true → (nat_eq n c || holds kind c) ≡ false
          not_later c h = not_true (nat_eq n c || holds kind c) (λ t. clash (has g c) h (once.1 c t))

          not_later_own : (c : ℕ) → has g c ≡ true → nat_eq n c ≡ false
          not_later_own c h =
              not_true (nat_eq n c) (λ t. clash (nat_eq n c || holds kind c) (or_first (nat_eq n c) (holds kind c) t) (not_later c h))

          not_later_held : (c : ℕ) → has g c ≡ true → holds kind c ≡ false
          not_later_held c h =
              not_true (holds kind c) (λ t. clash (nat_eq n c || holds kind c) (or_second (nat_eq n c) (holds kind c) t) (not_later c h))

          own_standing : standing read is_skipped fits r d (address n i) ≡ called skipped
          own_standing =
              ap (λ (at : List ℕ). standing read is_skipped fits r d (address n at)) (sym (append-nil i))
              ∙ (part.stands_so n [] (here n (same_self n)) ∙ when (nat_eq n n) (own skipped []) _ (same_self n))

          row_fits : Fitted n skipped i
          row_fits = fitted n skipped i own_standing

          kind_there : kind_of d n ≡ Some kind
          kind_there = part.kind_is n (here n (same_self n)) ∙ when (nat_eq n n) (Some kind) _ (same_self n)

          kinds_inside : (c : ℕ) → holds kind c ≡ true → kind_of d c ≡ kind_in kind c
          kinds_inside c h =
              part.kind_is c (held_there c h)
              ∙ (unless (nat_eq n c) (Some kind) (cond (holds kind c) (kind_in kind c) (kind_of g c)) (not_held c h)
              ∙ when (holds kind c) (kind_in kind c) (kind_of g c) h)

          inner : ℕ → List ℕ → Standing
          inner c more = if_fits (fits n skipped) (r (address n i)) (λ q. st_in kind n q i c more)

          stands_inside : (c : ℕ) (more : List ℕ) → holds kind c ≡ true
              → standing read is_skipped fits r d (address c (i ++ more)) ≡ st_in kind n row_fits.row i c more
          stands_inside c more h =
              part.stands_so c more (held_there c h)
              ∙ (unless (nat_eq n c) (own skipped more) (cond (holds kind c) (inner c more) (st g skipped i c more)) (not_held c h)
              ∙ (when (holds kind c) (inner c more) (st g skipped i c more) h
              ∙ (ap (λ (o : Option Row). if_fits (fits n skipped) o (λ q. st_in kind n q i c more)) row_fits.there
              ∙ when (fits n skipped row_fits.row) (st_in kind n row_fits.row i c more) unsaid row_fits.row_fits)))

          kinds_later : (c : ℕ) → has g c ≡ true → kind_of d c ≡ kind_of g c
          kinds_later c h =
              part.kind_is c (later_there c h)
              ∙ (unless (nat_eq n c) (Some kind) (cond (holds kind c) (kind_in kind c) (kind_of g c)) (not_later_own c h)
              ∙ unless (holds kind c) (kind_in kind c) (kind_of g c) (not_later_held c h))

          stands_later : (c : ℕ) (more : List ℕ) → has g c ≡ true
              → standing read is_skipped fits r d (address c (i ++ more)) ≡ st g skipped i c more
          stands_later c more h =
              part.stands_so c more (later_there c h)
              ∙ (unless (nat_eq n c) (own skipped more) (cond (holds kind c) (inner c more) (st g skipped i c more)) (not_later_own c h)
              ∙ unless (holds kind c) (inner c more) (st g skipped i c more) (not_later_held c h))

          -- an action has as many indexes as its graph
          at_own : (more : List ℕ) → nat_eq n x ≡ true → r (address x (i ++ more)) ≡ Some row
              → AreWholeAt x (loops_of (add n after kind g) x) i more
          at_own [] same at_row =
              let apart : holds kind x ≡ false = ap (holds kind) (sym (eqb-true n x same)) ∙ once.0 in
              let gone : has g x ≡ false = once.1 x (or_first (nat_eq n x) (holds kind x) same) in
              subst (λ (ls : List ℕ). AreWholeAt x ls i [])
              (sym (unless (holds kind x) (loops_in n kind x) (loops_of g x) apart ∙ no_loops g x gone))
              (outside x i (
                skipped,
                part.stands_so x [] (here x same)
                    ∙ when (nat_eq n x) (own skipped []) (cond (holds kind x) (inner x []) (st g skipped i x [])) same,
              ))
          at_own (j ∷ more) same at_row =
              absurd (not_uncalled x (i ++ j ∷ more) row at_row
              (part.stands_so x (j ∷ more) (here x same)
              ∙ when (nat_eq n x) (own skipped (j ∷ more)) (cond (holds kind x) (inner x (j ∷ more)) (st g skipped i x (j ∷ more))) same))

  -- THE LEMMA
  pub whole_rows : Once d → (y : Address) (row : Row) → has d y.name ≡ true → r y ≡ Some row → AreWholeAt y.name (loops_of d y.name) [] y.at
  whole_rows once y row held there =
      whole y.name row d false [] y.at once (record { kind_is = λ c h. refl; stands_so = λ c rest h. refl }) held there

  -- and a row of what is no action is one too many
  pub rows_there : ((x : ℕ) (i rest : List ℕ) (skipped : Bool) → has d x ≡ false
      → stand read is_skipped fits r d x skipped i rest ≡ uncalled)
      → (y : Address) (row : Row) → r y ≡ Some row → has d y.name ≡ true
  rows_there nowhere y row there = elim (two (has d y.name)) [
    | inl h ↦ h
    | inr out ↦ absurd (not_uncalled y.name y.at row there (nowhere y.name [] y.at false out))
  ]
