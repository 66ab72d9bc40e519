-- What a set of actions redoes and closes again can be computed, for each set without actions of loops.
use Rattle.std.proofs.Common.{◌≡◌, ℕ, zero, suc, ◌≤◌, Bool, true, false, ◌&&◌, ◌||◌, not, List, [], ◌∷◌, Some, inl, inr, ⊎_elim, refl, sym, ap, ◌∙◌, subst, arith, nat_eq, eqb-true, true≢false}
use Rattle.wf_layers.specs.Definition.{Need, Names, Kind, Leaf, Scope, Choice, Foreach, Until, Branches, no_branch, branch, Graph, done, add, holds, has, has_any, has_own, needs_in, needs_of, needs_any, kind_in, kind_of, kind_any, IsBefore, next, more, IsDepth, ClosedIn, ClosedAny, Closed}
use Rattle.wf_layers.specs.Machine.{In, here, there}
use Rattle.wf_layers.specs.Source.{SoundIn, SoundAny, Sound}
use Rattle.wf_layers.specs.Seen.{Once}
use Rattle.wf_layers.specs.Redo.{HoldsChosen, Touched, IsHit, RedoIn, RedoAny, RedoOf, IsRedo, OutOfLoopsIn, OutOfLoopsAny, OutOfLoops, any_in, any_branch, any_of, any_kind, some_need, is_touched, is_behind, is_hit, redone_in, redone_any, redone_of, redone, closed_again}
use Rattle.wf_layers.proofs.Basics.{and_in, and_of, not_true, same_self, when, unless, either, or_first, or_second}
use Rattle.wf_layers.proofs.Places.{stands}
use Rattle.wf_layers.proofs.Seen.{nobody, Any, once_graph, own_there}

is_not : (b : Bool) → not b ≡ true → b ≡ false
is_not true e = absurd (true≢false (sym e))
is_not false e = refl

-- each action of a graph that is closed waits for its own
closed_whole : (g w : Graph) → Closed g w → (n : ℕ) (after : List Need) (kind : Kind) → In g n after kind → (p : ℕ) → Names after p
    → has_own w p ≡ true
closed_whole _ w c n after kind here p nm = c.0 p nm
closed_whole _ w c n after kind (there {rest = rest} st) p nm = closed_whole rest w c.2 n after kind st p nm

module _ (d : Graph) (depth : ℕ → ℕ) (chosen : ℕ → Bool) where
  -- A CHOSEN ACTION INSIDE

  mutual
    held_in : (kind : Kind) → any_in chosen kind ≡ true → HoldsChosen d chosen kind
    held_in Leaf e = absurd (true≢false (sym e))
    held_in (Scope g) e = held_of g e
    held_in (Choice bs) e = held_any bs e
    held_in (Foreach pace g) e = held_of g e
    held_in (Until most g) e = held_of g e

    held_any : (bs : Branches) → any_branch chosen bs ≡ true → (a : ℕ) × (has_any bs a ≡ true) × (chosen a ≡ true)
    held_any no_branch e = absurd (true≢false (sym e))
    held_any (branch b rest) e =
        ⊎_elim
        (λ t. let r = held_of b t in (r.0, or_first (has b r.0) (has_any rest r.0) r.1, r.2))
        (λ t. let r = held_any rest t in (r.0, or_second (has b r.0) (has_any rest r.0) r.1, r.2))
        (either (any_of chosen b) (any_branch chosen rest) e)

    held_of : (g : Graph) → any_of chosen g ≡ true → (a : ℕ) × (has g a ≡ true) × (chosen a ≡ true)
    held_of done e = absurd (true≢false (sym e))
    held_of (add n after kind rest) e =
        ⊎_elim
        (λ t. ⊎_elim
        (λ c. (n, or_first (nat_eq n n || holds kind n) (has rest n) (or_first (nat_eq n n) (holds kind n) (same_self n)), c))
        (λ c. let r = held_in kind c in
        (r.0, or_first (nat_eq n r.0 || holds kind r.0) (has rest r.0) (or_second (nat_eq n r.0) (holds kind r.0) r.1), r.2))
        (either (chosen n) (any_in chosen kind) t))
        (λ t. let r = held_of rest t in (r.0, or_second (nat_eq n r.0 || holds kind r.0) (has rest r.0) r.1, r.2))
        (either (chosen n || any_in chosen kind) (any_of chosen rest) e)

  mutual
    in_held : (kind : Kind) (a : ℕ) → holds kind a ≡ true → chosen a ≡ true → any_in chosen kind ≡ true
    in_held Leaf a h c = h
    in_held (Scope g) a h c = of_held g a h c
    in_held (Choice bs) a h c = any_held bs a h c
    in_held (Foreach pace g) a h c = of_held g a h c
    in_held (Until most g) a h c = of_held g a h c

    any_held : (bs : Branches) (a : ℕ) → has_any bs a ≡ true → chosen a ≡ true → any_branch chosen bs ≡ true
    any_held no_branch a h c = h
    any_held (branch b rest) a h c =
        ⊎_elim
        (λ t. or_first (any_of chosen b) (any_branch chosen rest) (of_held b a t c))
        (λ t. or_second (any_of chosen b) (any_branch chosen rest) (any_held rest a t c))
        (either (has b a) (has_any rest a) h)

    of_held : (g : Graph) (a : ℕ) → has g a ≡ true → chosen a ≡ true → any_of chosen g ≡ true
    of_held done a h c = h
    of_held (add n after kind rest) a h c =
        ⊎_elim
        (λ t. ⊎_elim
        (λ s. or_first (chosen n || any_in chosen kind) (any_of chosen rest)
        (or_first (chosen n) (any_in chosen kind) (subst (λ z. chosen z ≡ true) (sym (eqb-true n a s)) c)))
        (λ s. or_first (chosen n || any_in chosen kind) (any_of chosen rest)
        (or_second (chosen n) (any_in chosen kind) (in_held kind a s c)))
        (either (nat_eq n a) (holds kind a) t))
        (λ t. or_second (chosen n || any_in chosen kind) (any_of chosen rest) (of_held rest a t c))
        (either (nat_eq n a || holds kind a) (has rest a) h)

  -- A TOUCHED ACTION BEFORE

  touched_is : (c : ℕ) (kind : Kind) → kind_of d c ≡ Some kind → is_touched d depth chosen c ≡ true → Touched d chosen c kind
  touched_is c kind k e =
      ⊎_elim (λ t. inl t) (λ t. inr (held_in kind (sym (ap (any_kind chosen) k) ∙ t))) (either (chosen c) (any_kind chosen (kind_of d c)) e)

  is_one_touched : (c : ℕ) (kind : Kind) → kind_of d c ≡ Some kind → Touched d chosen c kind → is_touched d depth chosen c ≡ true
  is_one_touched c kind k (inl t) = or_first (chosen c) (any_kind chosen (kind_of d c)) t
  is_one_touched c kind k (inr h) = or_second (chosen c) (any_kind chosen (kind_of d c)) (ap (any_kind chosen) k ∙ in_held kind h.0 h.1 h.2)

  needed : (p : ℕ → Bool) (ns : List Need) → some_need p ns ≡ true → (a : ℕ) × Names ns a × (p a ≡ true)
  needed p [] e = absurd (true≢false (sym e))
  needed p (n ∷ ns) e =
      ⊎_elim (λ t. (n.name, inl refl, t)) (λ t. let r = needed p ns t in (r.0, inr r.1, r.2)) (either (p n.name) (some_need p ns) e)

  need_there : (p : ℕ → Bool) (ns : List Need) (a : ℕ) → Names ns a → p a ≡ true → some_need p ns ≡ true
  need_there p [] a nm e = absurd nm
  need_there p (n ∷ ns) a (inl is) e = or_first (p n.name) (some_need p ns) (subst (λ z. p z ≡ true) (sym is) e)
  need_there p (n ∷ ns) a (inr nm) e = or_second (p n.name) (some_need p ns) (need_there p ns a nm e)

  behind_all : IsDepth d depth → (c : ℕ) → is_touched d depth chosen c ≡ true → (n : ℕ) → IsBefore d c n → (k : ℕ) → depth n ≤ k
      → is_behind d depth chosen k n ≡ true
  behind_all falls c t n (next nm) zero le = absurd (let l = falls c n nm in omega (arith, l, le))
  behind_all falls c t n (next nm) (suc k) le =
      need_there (λ p. is_touched d depth chosen p || is_behind d depth chosen k p) (needs_of d n) c nm
      (or_first (is_touched d depth chosen c) (is_behind d depth chosen k c) t)
  behind_all falls c t n (more {q = q} b nm) zero le = absurd (let l = falls q n nm in omega (arith, l, le))
  behind_all falls c t n (more {q = q} b nm) (suc k) le =
      need_there (λ p. is_touched d depth chosen p || is_behind d depth chosen k p) (needs_of d n) q nm
      (or_second (is_touched d depth chosen q) (is_behind d depth chosen k q)
      (behind_all falls c t q b k (let l = falls q n nm in omega (arith, l, le))))

  -- what is known of a graph of the definition
  record Part (l : ℕ) (w : Graph) : Type 0 where
    sound : Sound nobody Any w l
    needs : (q : ℕ) → has w q ≡ true → needs_of d q ≡ needs_of w q
    kinds : (q : ℕ) → has w q ≡ true → kind_of d q ≡ kind_of w q
    whole : (n : ℕ) (after : List Need) (kind : Kind) → In w n after kind → (p : ℕ) → Names after p → has_own w p ≡ true

  own_facts : (l : ℕ) (w : Graph) → Part l w → (n : ℕ) (after : List Need) (kind : Kind) → In w n after kind
      → (needs_of d n ≡ after) × (kind_of d n ≡ Some kind)
  own_facts l w part n after kind st =
      let pl = stands nobody (IsBefore d) Any l w n after kind part.sound st in
      (part.needs n pl.own_has ∙ pl.own_needs, part.kinds n pl.own_has ∙ pl.own_kind)

  behind_is : (l : ℕ) (w : Graph) → Part l w → (k n : ℕ) (after : List Need) (kind : Kind) → In w n after kind
      → is_behind d depth chosen k n ≡ true
      → (c : ℕ) × (before : List Need) × (kd : Kind) × In w c before kd × IsBefore d c n × Touched d chosen c kd
  behind_is l w part zero n after kind st e = absurd (true≢false (sym e))
  behind_is l w part (suc k) n after kind st e =
      let r = needed (λ p. is_touched d depth chosen p || is_behind d depth chosen k p) (needs_of d n) e in
      let own = own_facts l w part n after kind st in
      let at = own_there w r.0 (part.whole n after kind st r.0 (subst (λ ns. Names ns r.0) own.0 r.1)) in
      ⊎_elim
      (λ t. (r.0, at.0, at.1, at.2, next r.1, touched_is r.0 at.1 (own_facts l w part r.0 at.0 at.1 at.2).1 t))
      (λ t. let z = behind_is l w part k r.0 at.0 at.1 at.2 t in (z.0, z.1, z.2, z.3, more z.4 r.1, z.5))
      (either (is_touched d depth chosen r.0) (is_behind d depth chosen k r.0) r.2)

  hit_is : (l : ℕ) (w : Graph) → Part l w → (up : Bool) (n : ℕ) (after : List Need) (kind : Kind) → In w n after kind
      → is_hit d depth chosen up n ≡ true → IsHit d chosen up w n
  hit_is l w part up n after kind st e =
      ⊎_elim (λ t. inl t)
      (λ t. inr (⊎_elim (λ c. inl c) (λ c. inr (behind_is l w part (depth n) n after kind st c))
      (either (chosen n) (is_behind d depth chosen (depth n) n) t)))
      (either up (chosen n || is_behind d depth chosen (depth n) n) e)

  is_one_hit : IsDepth d depth → (l : ℕ) (w : Graph) → Part l w → (up : Bool) (n : ℕ) → IsHit d chosen up w n
      → is_hit d depth chosen up n ≡ true
  is_one_hit falls l w part up n (inl t) = or_first up (chosen n || is_behind d depth chosen (depth n) n) t
  is_one_hit falls l w part up n (inr (inl c)) =
      or_second up (chosen n || is_behind d depth chosen (depth n) n) (or_first (chosen n) (is_behind d depth chosen (depth n) n) c)
  is_one_hit falls l w part up n (inr (inr (c, before, kind, st, b, t))) =
      or_second up (chosen n || is_behind d depth chosen (depth n) n)
      (or_second (chosen n) (is_behind d depth chosen (depth n) n)
      (behind_all falls c (is_one_touched c kind (own_facts l w part c before kind st).1 t) n b (depth n) (omega arith)))

  -- WHAT IS REDONE, LOOKED UP

  -- at an action and inside it
  redone_at : (l : ℕ) (w : Graph) → Sound nobody Any w l → (up : Bool) (n : ℕ) (after : List Need) (kind : Kind) → In w n after kind
      → (redone_of d depth chosen up w n ≡ is_hit d depth chosen up n)
      × ((q : ℕ) → holds kind q ≡ true → redone_of d depth chosen up w q ≡ redone_in d depth chosen (is_hit d depth chosen up n) kind q)
  redone_at l _ so up n after kind (here {rest = rest}) = (
    when (nat_eq n n) (is_hit d depth chosen up n) _ (same_self n),
    λ q h. unless (nat_eq n q) (is_hit d depth chosen up n) _
        (not_true (nat_eq n q) (λ t. true≢false (sym h ∙ ap (λ z. holds kind z) (sym (eqb-true n q t)) ∙ so.1)))
        ∙ when (holds kind q) (redone_in d depth chosen (is_hit d depth chosen up n) kind q) _ h,
  )
  redone_at l _ so up n after kind (there {m = c} {before = before} {other = other} {rest = rest} st) =
      let r = redone_at l rest so.4 up n after kind st in
      let pl = stands nobody (IsBefore d) Any l rest n after kind so.4 st in
      (off n pl.own_has ∙ r.0, λ q h. off q (pl.inner_has q h) ∙ r.1 q h)
    where
      off : (q : ℕ) → has rest q ≡ true → redone_of d depth chosen up (add c before other rest) q ≡ redone_of d depth chosen up rest q
      off q h =
          let none = not_true (nat_eq c q || holds other q) (λ t. true≢false (sym h ∙ so.2 q t)) in
          unless (nat_eq c q) (is_hit d depth chosen up c) _
          (not_true (nat_eq c q) (λ t. true≢false (sym (or_first (nat_eq c q) (holds other q) t) ∙ none)))
          ∙ unless (holds other q) (redone_in d depth chosen (is_hit d depth chosen up c) other q) _
          (not_true (holds other q) (λ t. true≢false (sym (or_second (nat_eq c q) (holds other q) t) ∙ none)))

  module _ (falls : IsDepth d depth) where
    abbrev redo : ℕ → Bool
    redo n = redone d depth chosen n

    abbrev again : ℕ → Bool
    again n = closed_again d depth chosen n

    -- a container that has a chosen action inside and isn't redone is closed again, and no other
    again_is : (n : ℕ) (kind : Kind) → has d n ≡ true → kind_of d n ≡ Some kind
        → (again n ≡ true → (redo n ≡ false) × HoldsChosen d chosen kind) × (redo n ≡ false → HoldsChosen d chosen kind → again n ≡ true)
    again_is n kind h k = (
      λ e. let x = and_in (has d n) (not (redo n) && any_kind chosen (kind_of d n)) e in
          let y = and_in (not (redo n)) (any_kind chosen (kind_of d n)) x.1 in
          (is_not (redo n) y.0, held_in kind (sym (ap (any_kind chosen) k) ∙ y.1)),
      λ e c. and_of (has d n) (not (redo n) && any_kind chosen (kind_of d n)) h
          (and_of (not (redo n)) (any_kind chosen (kind_of d n)) (ap not e) (ap (any_kind chosen) k ∙ in_held kind c.0 c.1 c.2)),
    )

    abbrev Same : Graph → Type 0
    Same g = (q : ℕ) → has g q ≡ true → (has d q ≡ true) × (needs_of d q ≡ needs_of g q) × (kind_of d q ≡ kind_of g q)

    part_of : (l : ℕ) (g : Graph) → Sound nobody Any g l → Closed g g → Same g → Part l g
    part_of l g so c same = record { sound = so; needs = λ q h. (same q h).1; kinds = λ q h. (same q h).2; whole = closed_whole g g c }

    mutual
      kind_redo : (kind : Kind) (n l : ℕ) → SoundIn nobody Any kind n l → ClosedIn kind → OutOfLoopsIn chosen kind
          → ((q : ℕ) → holds kind q ≡ true → (has d q ≡ true) × (needs_of d q ≡ needs_in kind q) × (kind_of d q ≡ kind_in kind q))
          → ((q : ℕ) → holds kind q ≡ true → redo q ≡ redone_in d depth chosen (redo n) kind q) → RedoIn d chosen redo again kind n
      kind_redo Leaf n l so c o same up = tt
      kind_redo (Scope g) n l so c o same up = walk_redo g g l (redo n) (part_of l g so.2 c same) (λ n a k st. st) so.2 c o same up
      kind_redo (Choice bs) n l so c o same up = any_redo bs l (redo n) so.2 c o same up
      kind_redo (Foreach pace g) n l so c o same up =
          (o.0, walk_redo g g (suc l) (redo n) (part_of (suc l) g so.2 c same) (λ n a k st. st) so.2 c o.1 same up)
      kind_redo (Until most g) n l so c o same up =
          (o.0, walk_redo g g (suc l) (redo n) (part_of (suc l) g so.3 c same) (λ n a k st. st) so.3 c o.1 same up)

      any_redo : (bs : Branches) (l : ℕ) (up : Bool) → SoundAny nobody Any bs l → ClosedAny bs → OutOfLoopsAny chosen bs
          → ((q : ℕ) → has_any bs q ≡ true → (has d q ≡ true) × (needs_of d q ≡ needs_any bs q) × (kind_of d q ≡ kind_any bs q))
          → ((q : ℕ) → has_any bs q ≡ true → redo q ≡ redone_any d depth chosen up bs q) → RedoAny d chosen redo again up bs
      any_redo no_branch l up so c o same look = tt
      any_redo (branch b rest) l up so c o same look = (
        walk_redo b b l up (part_of l b so.1 c.0 first) (λ n a k st. st) so.1 c.0 o.0 first
            (λ q h. look q (or_first (has b q) (has_any rest q) h) ∙ when (has b q) _ _ h),
        any_redo rest l up so.2 c.1 o.1
            (λ q h. let x = same q (or_second (has b q) (has_any rest q) h) in (
              x.0,
              x.1 ∙ unless (has b q) (needs_of b q) (needs_any rest q) (off q h),
              x.2
                  ∙ unless (has b q) (kind_of b q) (kind_any rest q) (off q h),
            ))
            (λ q h. look q (or_second (has b q) (has_any rest q) h) ∙ unless (has b q) _ _ (off q h)),
      )
        where
          first : Same b
          first q h =
              let x = same q (or_first (has b q) (has_any rest q) h) in
              (x.0, x.1 ∙ when (has b q) (needs_of b q) (needs_any rest q) h, x.2 ∙ when (has b q) (kind_of b q) (kind_any rest q) h)

          off : (q : ℕ) → has_any rest q ≡ true → has b q ≡ false
          off q h = not_true (has b q) (λ t. true≢false (sym h ∙ so.0 q t))

      -- g is what is or_first of the graph w
      walk_redo : (g w : Graph) (l : ℕ) (up : Bool) → Part l w → ((n : ℕ) (a : List Need) (k : Kind) → In g n a k → In w n a k)
          → Sound nobody Any g l → Closed g w → OutOfLoops chosen g
          → Same w
          → ((q : ℕ) → has w q ≡ true → redo q ≡ redone_of d depth chosen up w q) → RedoOf d chosen redo again up g w
      walk_redo done w l up part into so c o same look = tt
      walk_redo (add n after kind rest) w l up part into so c o same look =
          let st = into n after kind here in
          let pl = stands nobody (IsBefore d) Any l w n after kind part.sound st in
          let at = redone_at l w part.sound up n after kind st in
          let is : redo n ≡ is_hit d depth chosen up n = look n pl.own_has ∙ at.0 in
          let own = own_facts l w part n after kind st in
          let ag = again_is n kind (same n pl.own_has).0 own.1 in (
            (λ e. hit_is l w part up n after kind st (sym is ∙ e)),
            (λ h. is ∙ is_one_hit falls l w part up n h),
            ag.0,
            ag.1,
            kind_redo kind n l so.3 c.1 o.0
                (λ q h. let x = same q (pl.inner_has q h) in (x.0, x.1 ∙ pl.inner_needs q h, x.2 ∙ pl.inner_kind q h))
                (λ q h. look q (pl.inner_has q h) ∙ at.1 q h ∙ ap (λ z. redone_in d depth chosen z kind q) (sym is)),
            walk_redo rest w l up part (λ q a k z. into q a k (there z)) so.4 c.2 o.1 same look,
          )

    pub a_set_has_its_parts : Once d → Closed d d → OutOfLoops chosen d → IsRedo d chosen redo again
    a_set_has_its_parts once closed o = record {
      tree =
          let so = once_graph d 0 once in
          walk_redo d d 0 false (part_of 0 d so closed (λ q h. (h, refl, refl))) (λ n a k st. st) so closed o (λ q h. (h, refl, refl))
          (λ q h. refl);
      outside = λ n h. ap (λ z. z && (not (redo n) && any_kind chosen (kind_of d n))) h;
    }
