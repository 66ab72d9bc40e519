-- The order of variables: as an action is decided, the finished accesses are those that it sees.
use Rattle.std.proofs.Common.{◌≡◌, ℕ, zero, suc, true, false, ◌||◌, List, [], ◌∷◌, ◌++◌, Some, None, ◌⊎◌, inl, inr, ⊎_elim, refl, sym, ap, ◌∙◌, subst, nat_eq, true≢false, length}
use Rattle.std.proofs.lemmas.Option.{none-some}
use Rattle.wf_layers.specs.Definition.{Need, Kind, Leaf, Scope, Choice, Foreach, Until, Branches, no_branch, branch, Graph, is_one, less_one, branch_at, holds, has, has_any, IsBefore}
use Rattle.wf_layers.specs.Address.{Address, address, Table, starts, is_in, is_within, is_among, SeenIn}
use Rattle.wf_layers.specs.Source.{Source, SoundAny, Sound}
use Rattle.wf_layers.specs.Meaning.{meaning}
use Rattle.wf_layers.specs.Rule.{look_any, Obeys}
use Rattle.wf_layers.proofs.Basics.{two, and_in, fork, apart, not_true, index_once, when, unless, own_in, held_in, among_here, among_there}
use Rattle.wf_layers.specs.Machine.{Opening, State, In, here, there, IsOpen, top, scope, chosen, turn, round, in_others, skip_others}
use Rattle.wf_layers.proofs.Tables.{taken_within}
use Rattle.wf_layers.proofs.Places.{Stands, within_of, stands}
use Rattle.wf_layers.specs.Variables.{exclusive_in, exclusive_any, exclusive, IsIdle, IsOrdered, SeesFinished}
use Rattle.wf_layers.specs.Laws.{IsInstance, VariablesInOrder}
use Rattle.wf_layers.proofs.Others.{others_among, look_others, others_skipped}
use Rattle.wf_layers.proofs.Open.{Passes, OpenFacts, open_sub, placed_in, fact_of, obey_in, inner_rule, outer, follows}
use Rattle.wf_layers.proofs.Keeps.{Keeps, SpecialOut, decided_own}
use Rattle.wf_layers.specs.Facts.{OpenFact}
use Rattle.wf_layers.proofs.Events.{own_row}
use Rattle.wf_layers.proofs.Busy.{Busy}
use Rattle.wf_layers.proofs.Rooted.{Rooted, untouched}
use Rattle.wf_layers.proofs.Facts.{busy_state, rooted_state}
use Rattle.wf_layers.proofs.Progress.{nothing_special, closed_is, sol as sol_of, kept_state}

module _ {Row Begun Decision Verdict : Type 0} (m : Source Row Begun Decision Verdict) (d : Graph) (so : Sound m (SeenIn d) d 0)
    (f : Table Row) (sol : Obeys m d f) where
  -- no row, or one of what didn't run
  abbrev Idle : Address → Type 0
  Idle y = (r : Row) → f y ≡ Some r → IsIdle m r

  -- in the branches that aren't taken of what is closed again, kept rows say that nothing ran
  abbrev pub Lull : Type 0
  Lull =
      (o : Table (Opening Decision Verdict)) (g : Graph) (i : List ℕ) (n : ℕ) (after : List Need) (bs : Branches) → IsOpen m.taken d o g i
      → In g n after (Choice bs) → m.reclosed n ≡ true → (y : Address) → in_others bs (m.taken (m.decide (address n i) f)) i y ≡ true
      → m.pinned y.name ≡ true → Idle y

  -- what excludes an address of the branches is in one of them
  any_exclusive : (bs : Branches) (i : List ℕ) (x y : Address) → exclusive_any bs i x y → is_among bs i x ≡ true
  any_exclusive no_branch i x y e = absurd e
  any_exclusive (branch b rest) i x y e =
      ⊎_elim
      (λ u. ⊎_elim (λ v. among_here b rest i x v.0) (λ v. among_there b rest i x v.0) u)
      (λ u. ⊎_elim (λ v. among_here b rest i x v.0) (λ v. among_there b rest i x (any_exclusive rest i x y v)) u)
      e

  all_others : (bs : Branches) (i : List ℕ) (y : Address) → is_among bs i y ≡ true → in_others bs 0 i y ≡ true
  all_others no_branch i y w = w
  all_others (branch b rest) i y w =
      ⊎_elim
      (λ t. when (is_within b i y) _ _ t)
      (λ u. unless (is_within b i y) _ _ u ∙ all_others rest i y (fork (has b y.name) (has_any rest y.name) (starts i y.at) w u))
      (two (is_within b i y))

  -- what excludes an address of the taken branch is in another branch, or excludes it in that branch
  taken_exclusive : (bs : Branches) (l c : ℕ) (b : Graph) → SoundAny m (SeenIn d) bs l → branch_at bs c ≡ Some b
      → (i : List ℕ) (x y : Address) → is_within b i x ≡ true → exclusive_any bs i x y → (in_others bs c i y ≡ true) ⊎ exclusive b i x y
  taken_exclusive no_branch l c b so e i x y w ex = absurd ex
  taken_exclusive (branch a rest) l c b so e i x y w ex =
      ⊎_elim
      (λ one'.
      let same : Some a ≡ Some b = sym (when (is_one c) (Some a) _ one') ∙ e in let is : a ≡ b = cc in
      let wa = subst (λ g. is_within g i x ≡ true) (sym is) w in
      ⊎_elim
      (λ u. ⊎_elim
      (λ v. inl (unless (is_within a i y) _ _ (apart_of y v.1) ∙ ap (λ z. in_others rest z i y) (zero_of c one') ∙ all_others rest i y v.1))
      (λ v. absurd (true≢false (sym wa ∙ apart_of x v.0)))
      u)
      (λ u. ⊎_elim (λ v. inr (subst (λ g. exclusive g i x y) is v.2))
      (λ v. absurd (true≢false (sym wa ∙ apart_of x (any_exclusive rest i x y v)))) u)
      ex)
      (λ other.
      let e' = sym (unless (is_one c) (Some a) _ other) ∙ e in
      let na = apart_of x (taken_within b rest (less_one c) e' i x w) in
      ⊎_elim
      (λ u. ⊎_elim
      (λ v. absurd (true≢false (sym v.0 ∙ na)))
      (λ v. inl (when (is_within a i y) _ _ v.1 ∙ unless (is_one c) false true other))
      u)
      (λ u. ⊎_elim
      (λ v. absurd (true≢false (sym v.0 ∙ na)))
      (λ v. ⊎_elim (λ h. inl (unless (is_within a i y) _ _ (apart_of y (others_among rest (less_one c) i y h)) ∙ h)) (λ h. inr h)
      (taken_exclusive rest l (less_one c) b so.2 e' i x y w v))
      u)
      ex)
      (two (is_one c))
    where
      apart_of : (z : Address) → is_among rest i z ≡ true → is_within a i z ≡ false
      apart_of z v = apart (has a z.name) (has_any rest z.name) (starts i z.at) (so.0 z.name) v

      zero_of : (c : ℕ) → is_one c ≡ true → less_one c ≡ 0
      zero_of zero e = refl
      zero_of (suc zero) e = refl
      zero_of (suc (suc c)) e = absurd (true≢false (sym e))

  in_part : (l : ℕ) (g : Graph) (n : ℕ) (after : List Need) (kind : Kind) → Sound m (SeenIn d) g l → In g n after kind
      → (i : List ℕ) (x y : Address) → is_in n kind i x ≡ true → exclusive g i x y → (is_in n kind i y ≡ true) × exclusive_in kind i x y
  in_part l _ n after kind s here i x y inx e = ⊎_elim (λ h. (h.1, h.2)) (λ h. absurd (true≢false (sym inx ∙ h.0))) e
  in_part l _ n after kind s (there {m = q} {before = before} {other = other} {rest = rest} st) i x y inx e =
      ⊎_elim
      (λ h. absurd (true≢false (sym h.0 ∙ off)))
      (λ h. in_part l rest n after kind s.4 st i x y inx h.1)
      e
    where
      off : is_in q other i x ≡ false
      off =
          let w = and_in (has rest x.name) (starts i x.at)
          (within_of m (IsBefore d) (SeenIn d) l rest n after kind
          (stands m (IsBefore d) (SeenIn d) l rest n after kind s.4 st) i x inx) in
          not_true (is_in q other i x)
          (λ t. true≢false (sym w.0 ∙ s.2 x.name (and_in (nat_eq q x.name || holds other x.name) (starts i x.at) t).0))

  turn_of : (h : Graph) (i : List ℕ) (a b : ℕ) (z : Address) → is_within h (i ++ a ∷ []) z ≡ true → is_within h (i ++ b ∷ []) z ≡ true
      → a ≡ b
  turn_of h i a b z u v =
      index_once i a b z.at (and_in (has h z.name) (starts (i ++ a ∷ []) z.at) u).1 (and_in (has h z.name) (starts (i ++ b ∷ []) z.at) v).1

  idle_there : Lull → SpecialOut m d so f sol → (t : Table Row) (o : Table (Opening Decision Verdict)) (g : Graph) (i : List ℕ) (n : ℕ)
      (after : List Need) (bs : Branches) (w : Opening Decision Verdict) → IsOpen m.taken d o g i → In g n after (Choice bs)
      → Passes m d so f sol n after i × OpenFact m f t (Choice bs) n i w → (y : Address) → in_others bs (m.taken w.decision) i y ≡ true
      → f y ≡ skip_others m bs (m.taken w.decision) i y → Idle y
  idle_there lull out t o g i n after bs w og st fact y h e r q =
      ⊎_elim
      (λ p. ⊎_elim
      (λ rc. lull o g i n after bs og st rc y (subst (λ z. in_others bs (m.taken z) i y ≡ true) fact.1.0 h) p r q)
      (λ nr. absurd (true≢false
      (sym (out o g i n after (Choice bs) og st y.name
      (and_in (has_any bs y.name) (starts i y.at) (others_among bs (m.taken w.decision) i y h)).0 (ap (λ z. z || m.reclosed y.name) p))
      ∙ ap (λ z. z || m.reclosed n) fact.0.free ∙ nr)))
      (two (m.reclosed n)))
      (λ p. inl (others_skipped m bs (m.taken w.decision) i y r p (sym e ∙ q)))
      (two (m.pinned y.name))

  -- what excludes a point of an open graph is in the graph, or idle
  exclusive_open : Lull → SpecialOut m d so f sol → (t : Table Row) (o : Table (Opening Decision Verdict)) → OpenFacts m d so f sol t o
      → (g : Graph) (i : List ℕ) → IsOpen m.taken d o g i → (x y : Address) → is_within g i x ≡ true → is_within d [] y ≡ true
      → exclusive d [] x y → exclusive g i x y ⊎ Idle y
  exclusive_open lull out t o facts _ _ top = λ x y wx wy e. inl e
  exclusive_open lull out t o facts _ i (scope {g = g} {h = h} {n = n} {after = after} {w = w} og st e) = λ x y wx wy ex.
      let inx = held_in n (Scope h) i x wx in
      let sub = open_sub m d so f sol o g i og in let pl = placed_in m d so f sol (length i) g n after (Scope h) sub st in
      ⊎_elim (λ q. inl (in_part (length i) g n after (Scope h) sub.sound st i x y inx q).1.2) (λ q. inr q)
      (exclusive_open lull out t o facts g i og x y
      (within_of m (IsBefore d) (SeenIn d) (length i) g n after (Scope h) pl i x inx) wy ex)
  exclusive_open lull out t o facts _ i (chosen {g = g} {b = b} {n = n} {after = after} {bs = bs} {w = w} og st e is) = λ x y wx wy ex.
      let c = m.taken w.decision in
      let inx = held_in n (Choice bs) i x (taken_within b bs c is i x wx) in
      let sub = open_sub m d so f sol o g i og in let pl = placed_in m d so f sol (length i) g n after (Choice bs) sub st in
      let fact = fact_of m d so f sol t o facts g i n after (Choice bs) w og st e in
      ⊎_elim
      (λ q. let r = in_part (length i) g n after (Choice bs) sub.sound st i x y inx q in
      ⊎_elim
      (λ h. let part = others_among bs c i y h in
      inr (idle_there lull out t o g i n after bs w og st fact y h
      (obey_in m d so f sol g i n after (Choice bs) pl (follows m d so f sol t o facts g i og) fact.0 y r.0
      ∙ inner_rule m d so f sol (Choice bs) n i _ _ (is_among bs i y) y pl.apart_own part part
      ∙ ap (λ q. look_any m bs (m.taken q) i f y) (sym fact.1.0)
      ∙ look_others m bs c i f y h)))
      (λ h. inl h)
      (taken_exclusive bs (length i) c b pl.sound.2 is i x y wx r.1))
      (λ q. inr q)
      (exclusive_open lull out t o facts g i og x y (within_of m (IsBefore d) (SeenIn d) (length i) g n after (Choice bs) pl i x inx) wy ex)
  exclusive_open lull out t o facts _ _ (turn {g = g} {h = h} {i = i} {n = n} {after = after} {pace = k} {w = w} j og st e lt) =
      λ x y wx wy ex.
      let inx = held_in n (Foreach k h) i x (outer m d so f sol h i j x wx) in
      let sub = open_sub m d so f sol o g i og in let pl = placed_in m d so f sol (length i) g n after (Foreach k h) sub st in
      ⊎_elim
      (λ q. let r = (in_part (length i) g n after (Foreach k h) sub.sound st i x y inx q).1 in
      inl (subst (λ z. exclusive h (i ++ z ∷ []) x y) (turn_of h i r.0 j x r.1 wx) r.3))
      (λ q. inr q)
      (exclusive_open lull out t o facts g i og x y
      (within_of m (IsBefore d) (SeenIn d) (length i) g n after (Foreach k h) pl i x inx) wy ex)
  exclusive_open lull out t o facts _ _ (round {g = g} {h = h} {i = i} {n = n} {most = most} {after = after} {w = w} j og st e lt) =
      λ x y wx wy ex.
      let inx = held_in n (Until most h) i x (outer m d so f sol h i j x wx) in
      let sub = open_sub m d so f sol o g i og in let pl = placed_in m d so f sol (length i) g n after (Until most h) sub st in
      ⊎_elim
      (λ q. let r = (in_part (length i) g n after (Until most h) sub.sound st i x y inx q).1 in
      inl (subst (λ z. exclusive h (i ++ z ∷ []) x y) (turn_of h i r.0 j x r.1 wx) r.3))
      (λ q. inr q)
      (exclusive_open lull out t o facts g i og x y
      (within_of m (IsBefore d) (SeenIn d) (length i) g n after (Until most h) pl i x inx) wy ex)

  -- nothing excludes an action from itself
  not_own : (kind : Kind) (n : ℕ) (i : List ℕ) (y : Address) → holds kind n ≡ false → exclusive_in kind i (address n i) y → ⊥
  not_own Leaf n i y nh e = e
  not_own (Scope g) n i y nh e = true≢false (sym (and_in (has g n) (starts i i) e.0).0 ∙ nh)
  not_own (Choice bs) n i y nh e = true≢false (sym (and_in (has_any bs n) (starts i i) (any_exclusive bs i (address n i) y e)).0 ∙ nh)
  not_own (Foreach t g) n i y nh e = true≢false (sym (and_in (has g n) (starts (i ++ e.0 ∷ []) i) e.1).0 ∙ nh)
  not_own (Until most g) n i y nh e = true≢false (sym (and_in (has g n) (starts (i ++ e.0 ∷ []) i) e.1).0 ∙ nh)

  -- at an action of an open graph that has no row yet, a finished access that it is ordered with, or that excludes it, is one that it sees
  pub point_sees : Lull → SpecialOut m d so f sol → (s : State Row Begun Decision Verdict) → Keeps m d so f sol s
      → (g : Graph) (i : List ℕ) (n : ℕ) (after : List Need) (kind : Kind) → IsOpen m.taken d s.opens g i → In g n after kind
      → m.pinned n ≡ false → s.rows (address n i) ≡ None → (y : Address) (r : Row) → s.rows y ≡ Some r → (IsIdle m r → ⊥)
      → IsOrdered d (address n i) y → SeenIn d (address n i) y
  point_sees lull out s k g i n after kind og st plain_here none y r e ne ord =
      ⊎_elim
      (λ h. ⊎_elim (λ v. v)
      (λ v. absurd (own_row m d so f sol s.rows s.opens k.facts g i n after kind og st plain_here
      (sym (k.behind y r e (address n i) v) ∙ none))) h)
      (λ h.
      ⊎_elim
      (λ q. absurd (not_own kind n i y pl.apart_own
      (in_part (length i) g n after kind (open_sub m d so f sol s.opens g i og).sound st i (address n i) y own q).1))
      (λ q. absurd (ne (q r (k.placed.by y r e))))
      (exclusive_open lull out s.rows s.opens k.facts g i og (address n i) y
      (within_of m (IsBefore d) (SeenIn d) (length i) g n after kind pl i (address n i) own) h.0 h.1))
      ord
    where
      pl : Stands m (IsBefore d) (SeenIn d) (length i) g n after kind
      pl = placed_in m d so f sol (length i) g n after kind (open_sub m d so f sol s.opens g i og) st

      own : is_in n kind i (address n i) ≡ true
      own = own_in n kind i

  pub sees_finished : Lull → SpecialOut m d so f sol → (s : State Row Begun Decision Verdict) → Keeps m d so f sol s → Busy m d so f sol s
      → Rooted m d so f sol s → SeesFinished d m s
  sees_finished lull out s k b q n i after kind de y r e ne ord =
      ⊎_elim
      (λ h. absurd (none-some r (sym (untouched m d so f sol s b q n i after kind de y h) ∙ e)))
      (λ h. point_sees lull out s k de.is_there.graph i n after kind de.is_there.is_open de.is_there.is_in
      (not_true (m.pinned n)
      (λ t. k.special de.is_there.graph i n after kind de.is_there.is_open de.is_there.is_in
      (ap (λ z. z || m.reclosed n) t) de.no_row de.not_open)) de.no_row y r e ne h)
      ord

module _ {Row Begun Decision Verdict : Type 0} (d : Graph) (m : Source Row Begun Decision Verdict) (depth : ℕ → ℕ)
    (is : IsInstance d m depth) where
  -- nothing is closed again
  pub no_lull : Lull m d is.local (meaning m depth d) (sol_of d m depth is)
  no_lull o g i n after bs og st rc y h p r q = absurd (true≢false (sym rc ∙ (is.own n).1))

module _ {Row Begun Decision Verdict : Type 0} (d : Graph) (m : Source Row Begun Decision Verdict) (depth : ℕ → ℕ)
    (is : IsInstance d m depth) where
  pub variables_in_order : VariablesInOrder d m depth
  variables_in_order es s r =
      let k = kept_state d m depth is es s r in
      let f : Table Row = meaning m depth d in (
        sees_finished m d is.local f (sol_of d m depth is) (no_lull d m depth is) (nothing_special d m depth is) s k
            (busy_state d m depth is es s r) (rooted_state d m depth is es s r),
        λ n i after kind de y see. decided_own m d is.local f (sol_of d m depth is)
            (closed_is m d is.local f
            (sol_of d m depth is) is.closed) s k de.is_there.graph i n after kind de.is_there.is_open de.is_there.is_in de.ended y see,
      )
