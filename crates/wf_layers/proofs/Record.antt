-- The rows of a meaning stand at finitely many addresses, so there is one sorted list of them.
use Rattle.std.proofs.Common.{◌≡◌, ℕ, zero, suc, ◌<◌, Bool, true, false, ◌&&◌, ◌||◌, cond, List, [], ◌∷◌, ◌++◌, Option, Some, None, ◌⊎◌, inl, inr, ⊎_elim, refl, sym, ap, ap₂, ◌∙◌, subst, arith, nat_eq, eqb-true, true≢false}
use Rattle.std.proofs.lemmas.Option.{none-some}
use Rattle.std.proofs.lemmas.Bool.{eqb-false}
use Rattle.std.proofs.lemmas.Cmp.{nat_list_cmp_total}
use Rattle.std.specs.Cmp.Lexicographic.{slice_cmp}
use Rattle.std.specs.Ordering.{nat_cmp, is_eq, eq_by_cmp, ordering_reverse}
use Rattle.std.specs.declared.cmp.Ordering.{Ordering}
use Rattle.std.specs.declared.cmp.Ordering.TheVariants.{Less, Equal, Greater}
use Rattle.std.specs.FinMap.{get, insert, empty, get-empty, get-insert, same_map, slice_cmp-IsAntisymmetric, nat_cmp-IsAntisymmetric}
use Rattle.wf_layers.specs.Definition.{Kind, Leaf, Scope, Choice, Foreach, Until, Branches, no_branch, branch, Graph, done, add, is_one, less_one, shows, plain, plain_any, IsDepth}
use Rattle.wf_layers.specs.Address.{Address, Table, address, same_at, starts, is_own, is_in, is_within, is_among, SeenIn}
use Rattle.wf_layers.specs.Source.{Source, Sound, gate}
use Rattle.wf_layers.specs.Meaning.{only, sides, rounds, skip, skip_all, deepest, meaning}
use Rattle.wf_layers.specs.Rule.{look_in, look_any, look, Obeys}
use Rattle.wf_layers.specs.Laws.{IsFresh}
use Rattle.wf_layers.specs.Listed.{Among, Lists}
use Rattle.wf_layers.specs.Resubmission.{pin}
use Rattle.wf_layers.specs.Record.{key, Record, RecordsAreOne, HasRecord}
use Rattle.wf_layers.proofs.Basics.{two, and_in, when, unless, either}
use Rattle.wf_layers.proofs.Tables.{same_at_is, own_is, skip_in}
use Rattle.wf_layers.proofs.Worth.{among_front, among_back, spots, among_spots}
use Rattle.wf_layers.proofs.Layers.{out_layers}
use Rattle.wf_layers.proofs.Meaning.{meaning_solves}
use Rattle.wf_layers.proofs.Resubmission.{pin_sound}

-- ONE RECORD

key_once : (x y : Address) → key x ≡ key y → x ≡ y
key_once x y e = ap₂ (λ n i. address n i) (ap head e) (ap tail e)
  where
    head : List ℕ → ℕ
    head [] = 0
    head (a ∷ as') = a

    tail : List ℕ → List ℕ
    tail [] = []
    tail (a ∷ as') = as'

equal_of : (o : Ordering) → is_eq o ≡ true → o ≡ Equal
equal_of Less e = absurd (true≢false (sym e))
equal_of Equal e = refl
equal_of Greater e = absurd (true≢false (sym e))

less_not : Less ≡ Greater → ⊥
less_not e = cc

equal_self : (k : List ℕ) → eq_by_cmp (slice_cmp nat_cmp) k k ≡ true
equal_self k = self (slice_cmp nat_cmp k k) (nat_list_cmp_total.antisymm k k)
  where
    self : (o : Ordering) → o ≡ ordering_reverse o → is_eq o ≡ true
    self Less e = absurd (less_not e)
    self Equal e = refl
    self Greater e = absurd (less_not (sym e))

module _ {Row : Type 0} where
  pub records_are_one : RecordsAreOne Row
  records_are_one t m n im in' = same_map nat_list_cmp_total (slice_cmp-IsAntisymmetric nat_cmp-IsAntisymmetric) m n same
    where
      same : (q : List ℕ) → get m q ≡ get n q
      same [] = im.no_other ∙ sym in'.no_other
      same (a ∷ as') = im.has (address a as') ∙ sym (in'.has (address a as'))

  -- the rows of a table at the addresses of a list
  put : Option Row → Record Row → List ℕ → Record Row
  put None m k = m
  put (Some r) m k = insert m k r

  fill : Table Row → List Address → Record Row
  fill t [] = empty
  fill t (x ∷ xs) = put (t x) (fill t xs) (key x)

  -- one more row
  put_at : (t : Table Row) (rows : Record Row) (x y : Address) (o : Option Row) → t y ≡ o → ((y ≡ x → t x ≡ None) → get rows (key x) ≡ t x)
      → get (put o rows (key y)) (key x) ≡ t x
  unfolding put
  put_at t rows x y None e rest = rest (λ is. ap t (sym is) ∙ e)
  put_at t rows x y (Some r) e rest =
      get-insert nat_list_cmp_total rows (key y) r (key x)
      ∙ ⊎_elim
      (λ q. let is = key_once x y
      (slice_cmp-IsAntisymmetric nat_cmp-IsAntisymmetric (key x) (key y) (equal_of (slice_cmp nat_cmp (key x) (key y)) q)) in
      when (eq_by_cmp (slice_cmp nat_cmp) (key x) (key y)) (Some r) _ q ∙ sym (ap t is ∙ e))
      (λ q. unless (eq_by_cmp (slice_cmp nat_cmp) (key x) (key y)) (Some r) _ q
      ∙ rest (λ is. absurd
      (true≢false (sym (subst (λ (z : Address). eq_by_cmp (slice_cmp nat_cmp) (key x) (key z) ≡ true) (sym is) (equal_self (key x)))
      ∙ q))))
      (two (eq_by_cmp (slice_cmp nat_cmp) (key x) (key y)))

  filled : (t : Table Row) (xs : List Address) (x : Address) → Among xs x ⊎ (t x ≡ None) → get (fill t xs) (key x) ≡ t x
  unfolding fill
  filled t [] x h = ⊎_elim (λ a. absurd a) (λ e. get-empty (slice_cmp nat_cmp) (key x) ∙ sym e) h
  filled t (y ∷ ys) x (inl (inl is)) = put_at t (fill t ys) x y (t y) refl (λ same. filled t ys x (inr (same is)))
  filled t (y ∷ ys) x (inl (inr a)) = put_at t (fill t ys) x y (t y) refl (λ same. filled t ys x (inl a))
  filled t (y ∷ ys) x (inr e) = put_at t (fill t ys) x y (t y) refl (λ same. filled t ys x (inr e))

  put_none : (rows : Record Row) (y : Address) (o : Option Row) → get rows [] ≡ None → get (put o rows (key y)) [] ≡ None
  unfolding put
  put_none rows y None e = e
  put_none rows y (Some r) e = get-insert nat_list_cmp_total rows (key y) r [] ∙ e

  none_filled : (t : Table Row) (xs : List Address) → get (fill t xs) [] ≡ None
  unfolding fill
  none_filled t [] = get-empty (slice_cmp nat_cmp) []
  none_filled t (y ∷ ys) = put_none (fill t ys) y (t y) (none_filled t ys)

  -- a table whose rows stand at finitely many addresses has a record
  has_record : (t : Table Row) (xs : List Address) → ((x : Address) (r : Row) → t x ≡ Some r → Among xs x) → HasRecord t
  has_record t xs all = (fill t xs, record { has = λ x. filled t xs x (go x (t x) refl); no_other = none_filled t xs })
    where
      go : (x : Address) (o : Option Row) → t x ≡ o → Among xs x ⊎ (t x ≡ None)
      go x None e = inr e
      go x (Some r) e = inl (all x r e)

-- WHERE ROWS STAND

turns_of : ℕ → (ℕ → List Address) → List Address
turns_of zero h = []
turns_of (suc c) h = h c ++ turns_of c h

among_turn : (c : ℕ) (h : ℕ → List Address) (j : ℕ) (y : Address) → j < c → Among (h j) y → Among (turns_of c h) y
unfolding turns_of
among_turn zero h j y lt a = absurd (omega (arith, lt))
among_turn (suc c) h j y lt a =
    ⊎_elim
    (λ t. among_front (h c) (turns_of c h) y (subst (λ z. Among (h z) y) (eqb-true j c t) a))
    (λ u. let ne = eqb-false j c u in among_back (h c) (turns_of c h) y (among_turn c h j y (omega (arith, lt, ne)) a))
    (two (nat_eq j c))

module _ {Row Begun Decision Verdict : Type 0} (m : Source Row Begun Decision Verdict) (f : Table Row) (olds : List Address)
    (kept : (n : ℕ) → m.pinned n ≡ true → (y : Address) (r : Row) → m.old y ≡ Some r → Among olds y) where
  abbrev mutual
    at_in : Kind → ℕ → List ℕ → List Address
    at_in Leaf n i = []
    at_in (Scope g) n i = at_of g i
    at_in (Choice bs) n i = at_any bs i
    at_in (Foreach pace g) n i = turns_of (m.items (m.decide (address n i) f)) (λ j. at_of g (i ++ j ∷ []))
    at_in (Until most g) n i = turns_of (rounds most 0 (λ j. m.ends (m.test (address n i) j f))) (λ j. at_of g (i ++ j ∷ []))

    at_any : Branches → List ℕ → List Address
    at_any no_branch i = []
    at_any (branch b rest) i = at_of b i ++ at_any rest i

    at_of : Graph → List ℕ → List Address
    at_of done i = []
    at_of (add n after kind rest) i = address n i ∷ (at_in kind n i ++ at_of rest i)

  -- what is in no loop of it
  mutual
    shown_at : (kind : Kind) (n : ℕ) (i : List ℕ) (q : ℕ) → shows kind q ≡ true → Among (at_in kind n i) (address q i)
    shown_at Leaf n i q h = absurd (true≢false (sym h))
    shown_at (Scope g) n i q h = plain_at g i q h
    shown_at (Choice bs) n i q h = any_at bs i q h
    shown_at (Foreach pace g) n i q h = absurd (true≢false (sym h))
    shown_at (Until most g) n i q h = absurd (true≢false (sym h))

    any_at : (bs : Branches) (i : List ℕ) (q : ℕ) → plain_any bs q ≡ true → Among (at_any bs i) (address q i)
    any_at no_branch i q h = absurd (true≢false (sym h))
    any_at (branch b rest) i q h =
        ⊎_elim
        (λ t. among_front (at_of b i) (at_any rest i) (address q i) (plain_at b i q t))
        (λ t. among_back (at_of b i) (at_any rest i) (address q i) (any_at rest i q t))
        (either (plain b q) (plain_any rest q) h)

    plain_at : (g : Graph) (i : List ℕ) (q : ℕ) → plain g q ≡ true → Among (at_of g i) (address q i)
    plain_at done i q h = absurd (true≢false (sym h))
    plain_at (add n after kind rest) i q h =
        ⊎_elim
        (λ t. ⊎_elim
        (λ s. inl (ap (λ z. address z i) (eqb-true n q s)))
        (λ s. inr (among_front (at_in kind n i) (at_of rest i) (address q i) (shown_at kind n i q s)))
        (either (nat_eq n q) (shows kind q) t))
        (λ t. inr (among_back (at_in kind n i) (at_of rest i) (address q i) (plain_at rest i q t)))
        (either (nat_eq n q || shows kind q) (plain rest q) h)

  abbrev Found : List Address → Address → Type 0
  Found xs y = Among olds y ⊎ Among xs y

  front : (xs ys : List Address) (y : Address) → Found xs y → Found (xs ++ ys) y
  front xs ys y h = ⊎_elim (λ a. inl a) (λ a. inr (among_front xs ys y a)) h

  back : (xs ys : List Address) (y : Address) → Found ys y → Found (xs ++ ys) y
  back xs ys y h = ⊎_elim (λ a. inl a) (λ a. inr (among_back xs ys y a)) h

  only_some : (b : Bool) (o : Option Row) (r : Row) → only b o ≡ Some r → o ≡ Some r
  only_some true o r e = e
  only_some false o r e = absurd (none-some r e)

  at_own : (n : ℕ) (i : List ℕ) (xs : List Address) (y : Address) (o q : Option Row) (r : Row) → cond (is_own n i y) o q ≡ Some r
      → (q ≡ Some r → Found xs y) → Found (address n i ∷ xs) y
  at_own n i xs y o q r e rest =
      ⊎_elim
      (λ t. inr (inl (own_is n i y t)))
      (λ u. ⊎_elim (λ a. inl a) (λ a. inr (inr a)) (rest (sym (unless (is_own n i y) o q u) ∙ e)))
      (two (is_own n i y))

  sides_at' : (g : Graph) (i : List ℕ) (c : ℕ) (y : Address) (r : Row)
      → ((j : ℕ) → look m g (i ++ j ∷ []) f y ≡ Some r → Found (at_of g (i ++ j ∷ [])) y)
      → sides c i (λ j t. look m g (i ++ j ∷ []) f) (λ z. None) y ≡ Some r → Found (turns_of c (λ j. at_of g (i ++ j ∷ []))) y
  unfolding turns_of
  sides_at' g i zero y r each e = absurd (none-some r e)
  sides_at' g i (suc c) y r each e =
      ⊎_elim
      (λ t. front (at_of g (i ++ c ∷ [])) (turns_of c (λ j. at_of g (i ++ j ∷ []))) y
      (each c (sym (when (starts (i ++ c ∷ []) y.at) _ _ t) ∙ e)))
      (λ u. back (at_of g (i ++ c ∷ [])) (turns_of c (λ j. at_of g (i ++ j ∷ []))) y
      (sides_at' g i c y r each (sym (unless (starts (i ++ c ∷ []) y.at) _ _ u) ∙ e)))
      (two (starts (i ++ c ∷ []) y.at))

  same_spot : (i : List ℕ) (xs : List Address) (y : Address) → same_at i y.at ≡ true → Among xs (address y.name i) → Among xs y
  same_spot i xs y s a = subst (λ j. Among xs (address y.name j)) (same_at_is i y.at s) a

  skipped_at : (g : Graph) (i : List ℕ) (y : Address) (r : Row) → skip_all m g i y ≡ Some r → Found (at_of g i) y
  skipped_at g i y r e =
      ⊎_elim
      (λ p. inl (kept y.name p y r (sym (when (m.pinned y.name) (m.old y) _ p) ∙ e)))
      (λ p. let e' = sym (unless (m.pinned y.name) (m.old y) _ p) ∙ e in
      ⊎_elim
      (λ t. let h = and_in (plain g y.name) (same_at i y.at) t in inr (same_spot i (at_of g i) y h.1 (plain_at g i y.name h.0)))
      (λ t. absurd (none-some r (sym (unless (plain g y.name && same_at i y.at) (Some m.skipped) None t) ∙ e')))
      (two (plain g y.name && same_at i y.at)))
      (two (m.pinned y.name))

  block_at : (n : ℕ) (kind : Kind) (i : List ℕ) (y : Address) (r : Row) → skip m n kind i y ≡ Some r
      → Found (address n i ∷ at_in kind n i) y
  block_at n kind i y r e =
      let h = skip_in m n kind i y r e in
      inr (same_spot i (address n i ∷ at_in kind n i) y h.1
      (⊎_elim
      (λ t. inl (ap (λ z. address z i) (eqb-true n y.name t)))
      (λ t. inr (shown_at kind n i y.name t))
      (either (nat_eq n y.name) (shows kind y.name) h.0)))

  mutual
    found_in : (kind : Kind) (n : ℕ) (i : List ℕ) (y : Address) (r : Row) → look_in m kind n i f y ≡ Some r
        → Found (address n i ∷ at_in kind n i) y
    found_in Leaf n i y r e = at_own n i [] y _ None r e (λ z. absurd (none-some r z))
    found_in (Scope g) n i y r e = at_own n i (at_of g i) y _ _ r e (λ z. found_of g i y r (only_some (is_within g i y) _ r z))
    found_in (Choice bs) n i y r e =
        at_own n i (at_any bs i) y _ _ r e
        (λ z. found_any bs (m.taken (m.decide (address n i) f)) i y r (only_some (is_among bs i y) _ r z))
    found_in (Foreach pace g) n i y r e =
        at_own n i (turns_of (m.items (m.decide (address n i) f)) (λ j. at_of g (i ++ j ∷ []))) y _ _ r e
        (λ z. sides_at' g i (m.items (m.decide (address n i) f)) y r (λ j. found_of g (i ++ j ∷ []) y r)
        (only_some (is_within g i y) _ r z))
    found_in (Until most g) n i y r e =
        at_own n i (turns_of (rounds most 0 (λ j. m.ends (m.test (address n i) j f))) (λ j. at_of g (i ++ j ∷ []))) y _ _ r e
        (λ z. sides_at' g i (rounds most 0 (λ j. m.ends (m.test (address n i) j f))) y r (λ j. found_of g (i ++ j ∷ []) y r)
        (only_some (is_within g i y) _ r z))

    found_any : (bs : Branches) (c : ℕ) (i : List ℕ) (y : Address) (r : Row) → look_any m bs c i f y ≡ Some r → Found (at_any bs i) y
    found_any no_branch c i y r e = absurd (none-some r e)
    found_any (branch b rest) c i y r e =
        ⊎_elim
        (λ t. let e' = sym (when (is_within b i y) _ _ t) ∙ e in
        front (at_of b i) (at_any rest i) y
        (⊎_elim
        (λ o. found_of b i y r (sym (when (is_one c) (look m b i f y) _ o) ∙ e'))
        (λ o. skipped_at b i y r (sym (unless (is_one c) (look m b i f y) _ o) ∙ e'))
        (two (is_one c))))
        (λ u. back (at_of b i) (at_any rest i) y (found_any rest (less_one c) i y r (sym (unless (is_within b i y) _ _ u) ∙ e)))
        (two (is_within b i y))

    found_of : (g : Graph) (i : List ℕ) (y : Address) (r : Row) → look m g i f y ≡ Some r → Found (at_of g i) y
    found_of done i y r e = absurd (none-some r e)
    found_of (add n after kind rest) i y r e =
        ⊎_elim
        (λ t. let e' = sym (when (is_in n kind i y) _ (look m rest i f y) t) ∙ e in
        front (address n i ∷ at_in kind n i) (at_of rest i) y
        (⊎_elim
        (λ p. inl (kept n p y r (sym (when (m.pinned n) (m.old y) _ p) ∙ e')))
        (λ p. let z = sym (unless (m.pinned n) (m.old y) _ p) ∙ e' in
        ⊎_elim
        (λ g. found_in kind n i y r (sym (when (m.reclosed n || gate m after n i f) _ (skip m n kind i y) g) ∙ z))
        (λ g. block_at n kind i y r (sym (unless (m.reclosed n || gate m after n i f) (look_in m kind n i f y) _ g) ∙ z))
        (two (m.reclosed n || gate m after n i f)))
        (two (m.pinned n))))
        (λ u. back (address n i ∷ at_in kind n i) (at_of rest i) y
        (found_of rest i y r (sym (unless (is_in n kind i y) _ (look m rest i f y) u) ∙ e)))
        (two (is_in n kind i y))

  obeyed_has_record : (d : Graph) → Obeys m d f → ((x : Address) → is_within d [] x ≡ false → f x ≡ None) → HasRecord f
  obeyed_has_record d sol outside =
      has_record f (olds ++ at_of d []) (λ x r e.
      ⊎_elim
      (λ w. ⊎_elim (λ a. among_front olds (at_of d []) x a) (λ a. among_back olds (at_of d []) x a) (found_of d [] x r (sym (sol x w) ∙ e)))
      (λ w. absurd (none-some r (sym (outside x w) ∙ e)))
      (two (is_within d [] x)))

module _ {Row Begun Decision Verdict : Type 0} (d : Graph) (m : Source Row Begun Decision Verdict) (depth : ℕ → ℕ) (falls : IsDepth d depth)
    (so : Sound m (SeenIn d) d 0) where
  of_meaning : (olds : List Address) → ((n : ℕ) → m.pinned n ≡ true → (y : Address) (r : Row) → m.old y ≡ Some r → Among olds y)
      → HasRecord (meaning m depth d)
  of_meaning olds kept =
      obeyed_has_record m (meaning m depth d) olds kept d (meaning_solves m depth d falls so)
      (λ x w. out_layers m depth d [] (deepest depth d) (λ z. None) x w)

  pub a_meaning_has_a_record : IsFresh m → HasRecord (meaning m depth d)
  a_meaning_has_a_record own = of_meaning [] (λ n p y r e. absurd (true≢false (sym p ∙ (own n).0)))

module _ {Row Begun Decision Verdict Entry : Type 0} (d : Graph) (depth : ℕ → ℕ) (a b : Source Row Begun Decision Verdict)
    (redo again : ℕ → Bool) (r : Table Row) (recall : Address → Decision)
    (falls : IsDepth d depth) (sb : Sound b (SeenIn d) d 0) where
  pub a_resubmission_has_a_record : (at : Entry → Address) (row : Entry → Row) (rows : List Entry) → Lists at row r rows
      → HasRecord (meaning (pin a b redo again r recall) depth d)
  a_resubmission_has_a_record at row rows lists =
      of_meaning d (pin a b redo again r recall) depth falls (pin_sound a b redo (SeenIn d) again r recall d 0 sb) (spots at rows)
      (λ n p y q e. let z = lists.all y q e in subst (Among (spots at rows)) z.2 (among_spots at rows z.0 z.1))
