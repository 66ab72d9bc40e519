-- What an action waits for is earlier than it.
use Rattle.std.proofs.Common.{◌≡◌, ℕ, zero, suc, true, false, ◌&&◌, ◌||◌, List, [], ◌∷◌, ◌++◌, Some, None, inl, inr, ⊎_elim, refl, sym, ap, ◌∙◌, subst, arith, nat_eq, eqb-true, true≢false, length}
use Rattle.wf_layers.specs.Definition.{Skipped, Need, Names, Kind, Leaf, Scope, Choice, Foreach, Until, Branches, no_branch, branch, Graph, done, add, holds, has, has_any, has_own, needs_in, needs_of, needs_any, IsBefore, next, ClosedIn, ClosedAny, Closed}
use Rattle.wf_layers.specs.Address.{Address, address, starts, is_within, owner, Lower, earlier_in, earlier_any, IsEarlier, SeenIn}
use Rattle.wf_layers.specs.Source.{Source, SoundIn, SoundAny, Sound}
use Rattle.wf_layers.proofs.Basics.{two, and_in, and_of, not_true, starts_outer, when, unless, own_in, held_in, any_within}
use Rattle.wf_layers.specs.Machine.{In, here, there}
use Rattle.wf_layers.proofs.Places.{within_of, or_right, stands}
use Rattle.wf_layers.specs.Seen.{OnceIn, OnceAny, Once, WaitsIn, WaitsAny, Waits, AnswersIn, AnswersAny, Answers}

-- a source of which nothing is asked
abbrev pub nobody : Source (Unit {0}) (Unit {0}) (Unit {0}) (Unit {0})
nobody = record {
  status = λ r. Skipped;
  skipped = tt;
  start = λ x t. tt;
  tries = λ x b. 0;
  finish = λ x b t. tt;
  decide = λ x t. tt;
  taken = λ p. 0;
  items = λ p. 0;
  test = λ x j t. tt;
  ends = λ v. false;
  close = λ x p c v t. tt;
  halts = λ x t. false;
  pinned = λ n. false;
  old = λ x. None;
  reclosed = λ n. false;
}

abbrev pub Any : Address → Address → Type 0
Any x y = Unit {0}

mutual
  once_in : (kind : Kind) (n l : ℕ) → OnceIn kind → SoundIn nobody Any kind n l
  once_in Leaf n l o = (λ i li t u h. refl, λ i li t u b h. refl)
  once_in (Scope g) n l o = (λ i li t u p c v h k. refl, λ i li t u h. refl, once_graph g l o)
  once_in (Choice bs) n l o = (λ i li t u p c v h k. refl, λ i li t u h. refl, once_any bs l o)
  once_in (Foreach pace g) n l o = (λ i li t u p c v h k. refl, λ i li t u h. refl, once_graph g (suc l) o)
  once_in (Until most g) n l o = (λ i li t u p c v h k. refl, λ i li t u h. refl, λ i li t u j h k. refl, once_graph g (suc l) o)

  once_any : (bs : Branches) (l : ℕ) → OnceAny bs → SoundAny nobody Any bs l
  once_any no_branch l o = tt
  once_any (branch b rest) l o = (o.0, once_graph b l o.1, once_any rest l o.2)

  pub once_graph : (g : Graph) (l : ℕ) → Once g → Sound nobody Any g l
  once_graph done l o = tt
  once_graph (add n after kind rest) l o = ((λ i li p q. tt, λ i li t u h. refl), o.0, o.1, once_in kind n l o.2, once_graph rest l o.3)

-- an action of the graph itself
pub own_there : (w : Graph) (p : ℕ) → has_own w p ≡ true → (a : List Need) × (k : Kind) × In w p a k
own_there done p e = absurd (true≢false (sym e))
own_there (add q after kind rest) p e =
    ⊎_elim
    (λ t. subst (λ x. (a : List Need) × (k : Kind) × In (add q after kind rest) x a k) (eqb-true q p t) (after, kind, here))
    (λ u. let r = own_there rest p (sym (ap (λ b. b || has_own rest p) u) ∙ e) in (r.0, r.1, there r.2))
    (two (nat_eq q p))

-- a list that isn't empty, by its last
split_last : (l : ℕ) (i : List ℕ) → length i ≡ suc l → (i0 : List ℕ) × (j : ℕ) × (i ≡ i0 ++ j ∷ []) × (length i0 ≡ l)
split_last l [] e = absurd (omega (arith, e))
split_last zero (j ∷ []) e = ([], j, refl, refl)
split_last zero (j ∷ k ∷ i) e = absurd (omega (arith, e))
split_last (suc l) (j ∷ []) e = absurd (omega (arith, e))
split_last (suc l) (j ∷ k ∷ i) e =
    let r = split_last l (k ∷ i) (omega (arith, e)) in (j ∷ r.0, r.1, ap (λ z. j ∷ z) r.2, let z = r.3 in omega (arith, z))

module _ (d : Graph) (once : Once d) where
  -- from a graph in l loops to the whole definition
  abbrev Up : Graph → ℕ → Type 0
  Up g l =
      (i : List ℕ) → length i ≡ l → (y z : Address) → is_within g i y ≡ true → is_within g i z ≡ true → IsEarlier (IsBefore d) g i y z
      → SeenIn d z y

  abbrev KindUp : Kind → ℕ → Type 0
  KindUp kind l =
      (i : List ℕ) → length i ≡ l → (y z : Address) → (holds kind y.name && starts i y.at) ≡ true
      → (holds kind z.name && starts i z.at) ≡ true → earlier_in (IsBefore d) kind i y z → SeenIn d z y

  abbrev Needs : Graph → Type 0
  Needs g = (q : ℕ) → has g q ≡ true → needs_of d q ≡ needs_of g q

  outer_in : (g : Graph) (i : List ℕ) (j : ℕ) (y : Address) → is_within g (i ++ j ∷ []) y ≡ true → is_within g i y ≡ true
  outer_in g i j y w =
      let h = and_in (has g y.name) (starts (i ++ j ∷ []) y.at) w in and_of (has g y.name) (starts i y.at) h.0 (starts_outer i j y.at h.1)

  -- what one action waits for
  action_waits : (w : Graph) (l : ℕ) → Sound nobody Any w l → Needs w → Up w l → (n : ℕ) (after : List Need) (kind : Kind)
      → In w n after kind → ((p : ℕ) → Names after p → has_own w p ≡ true) → (i : List ℕ) → length i ≡ l → (p : ℕ) → Names after p
      → SeenIn d (address n i) (address p i)
  action_waits w l so needs up n after kind st own i li p nm =
      let pn = stands nobody (IsBefore d) Any l w n after kind so st in
      let r = own_there w p (own p nm) in
      let pp = stands nobody (IsBefore d) Any l w p r.0 r.1 so r.2 in
      let iy = own_in p r.1 i in let iz = own_in n kind i in
      up i li (address p i) (address n i)
      (within_of nobody (IsBefore d) Any l w p r.0 r.1 pp i (address p i) iy)
      (within_of nobody (IsBefore d) Any l w n after kind pn i (address n i) iz)
      (inl (subst (λ x. Lower (IsBefore d) x (owner w i (address n i))) (sym (pp.owned i (address p i) iy))
      (subst (λ x. Lower (IsBefore d) (Some p) x) (sym (pn.owned i (address n i) iz))
      (before (subst (λ ns. Names ns p) (sym (needs n pn.own_has ∙ pn.own_needs)) nm)))))
    where
      before : Names (needs_of d n) p → IsBefore d p n
      before q = next q

  -- inside one action
  action_up : (w : Graph) (l : ℕ) → Sound nobody Any w l → Up w l → (n : ℕ) (after : List Need) (kind : Kind) → In w n after kind
      → KindUp kind l
  action_up w l so up n after kind st i li y z wy wz e =
      let pl = stands nobody (IsBefore d) Any l w n after kind so st in
      let iy = held_in n kind i y wy in let iz = held_in n kind i z wz in
      up i li y z (within_of nobody (IsBefore d) Any l w n after kind pl i y iy)
      (within_of nobody (IsBefore d) Any l w n after kind pl i z iz) (inr (pl.joins i y z iz iy e))

  mutual
    kind_waits : (kind : Kind) (n l : ℕ) → SoundIn nobody Any kind n l → ClosedIn kind
        → ((q : ℕ) → holds kind q ≡ true → needs_of d q ≡ needs_in kind q) → KindUp kind l → WaitsIn d kind l
    kind_waits Leaf n l so c needs up = tt
    kind_waits (Scope g) n l so c needs up =
        walk_waits g g l so.2 (λ n a k st. st) c so.2 needs (λ i li y z wy wz e. up i li y z wy wz (wy, wz, e))
    kind_waits (Choice bs) n l so c needs up =
        any_waits bs l so.2 c needs (λ i li y z e. let h = any_within (IsBefore d) bs i y z e in up i li y z h.0 h.1 e)
    kind_waits (Foreach pace g) n l so c needs up =
        walk_waits g g (suc l) so.2 (λ n a k st. st) c so.2 needs (λ i li y z wy wz e.
        let r = split_last l i li in
        up r.0 r.3 y z (outer_in g r.0 r.1 y (subst (λ x. is_within g x y ≡ true) r.2 wy))
        (outer_in g r.0 r.1 z (subst (λ x. is_within g x z ≡ true) r.2 wz))
        (inl (
          r.1,
          subst (λ x. is_within g x y ≡ true) r.2 wy,
          subst (λ x. is_within g x z ≡ true) r.2 wz,
          subst (λ x. IsEarlier (IsBefore d) g x y z) r.2 e,
        )))
    kind_waits (Until most g) n l so c needs up =
        walk_waits g g (suc l) so.3 (λ n a k st. st) c so.3 needs (λ i li y z wy wz e.
        let r = split_last l i li in
        up r.0 r.3 y z (outer_in g r.0 r.1 y (subst (λ x. is_within g x y ≡ true) r.2 wy))
        (outer_in g r.0 r.1 z (subst (λ x. is_within g x z ≡ true) r.2 wz))
        (inl (
          r.1,
          subst (λ x. is_within g x y ≡ true) r.2 wy,
          subst (λ x. is_within g x z ≡ true) r.2 wz,
          subst (λ x. IsEarlier (IsBefore d) g x y z) r.2 e,
        )))

    any_waits : (bs : Branches) (l : ℕ) → SoundAny nobody Any bs l → ClosedAny bs
        → ((q : ℕ) → has_any bs q ≡ true → needs_of d q ≡ needs_any bs q)
        → ((i : List ℕ) → length i ≡ l → (y z : Address) → earlier_any (IsBefore d) bs i y z → SeenIn d z y) → WaitsAny d bs l
    any_waits no_branch l so c needs up = tt
    any_waits (branch b rest) l so c needs up = (
      walk_waits b b l so.1 (λ n a k st. st) c.0 so.1
          (λ q h. needs q (ap (λ z. z || has_any rest q) h) ∙ when (has b q) (needs_of b q) (needs_any rest q) h)
          (λ i li y z wy wz e. up i li y z (inl (wy, wz, e))),
      any_waits rest l so.2 c.1 (λ q h. needs q (or_right nobody (IsBefore d) Any (has b q) (has_any rest q) h)
          ∙ unless (has b q) (needs_of b q) (needs_any rest q) (not_true (has b q) (λ t. true≢false (sym h ∙ so.0 q t))))
          (λ i li y z e. up i li y z (inr e)),
    )

    walk_waits : (g w : Graph) (l : ℕ) → Sound nobody Any w l → ((n : ℕ) (a : List Need) (k : Kind) → In g n a k → In w n a k) → Closed g w
        → Sound nobody Any g l → Needs w → Up w l → Waits d g l
    walk_waits done w l so into c sg needs up = tt
    walk_waits (add n after kind rest) w l so into c sg needs up =
        let st = into n after kind here in
        let pl = stands nobody (IsBefore d) Any l w n after kind so st in (
          action_waits w l so needs up n after kind st c.0,
          kind_waits kind n l sg.3 c.1 (λ q h. needs q (pl.inner_has q h) ∙ pl.inner_needs q h) (action_up w l so up n after kind st),
          walk_waits rest w l so (λ q a k z. into q a k (there z)) c.2 sg.4 needs up,
        )

  pub what_is_waited_for : Closed d d → Waits d d 0
  what_is_waited_for closed = walk_waits d d 0 (once_graph d 0 once) (λ n a k st. st) closed (once_graph d 0 once) (λ q h. refl) at_top
    where
      at_top : (i : List ℕ) → length i ≡ 0 → (y z : Address) → is_within d i y ≡ true → is_within d i z ≡ true
          → IsEarlier (IsBefore d) d i y z → SeenIn d z y
      at_top [] e y z wy wz h = (wy, h)
      at_top (j ∷ i) e y z wy wz h = absurd (omega (arith, e))

-- THE PREMISE OF THE LAWS, from its parts
module _ {Row Begun Decision Verdict : Type 0} (d : Graph) (m : Source Row Begun Decision Verdict) where
  mutual
    parts_in : (kind : Kind) (n l : ℕ) → OnceIn kind → WaitsIn d kind l → AnswersIn d m kind n l → SoundIn m (SeenIn d) kind n l
    parts_in Leaf n l o w a = a
    parts_in (Scope g) n l o w a = (a.0, a.1, parts g l o w a.2)
    parts_in (Choice bs) n l o w a = (a.0, a.1, parts_any bs l o w a.2)
    parts_in (Foreach pace g) n l o w a = (a.0, a.1, parts g (suc l) o w a.2)
    parts_in (Until most g) n l o w a = (a.0, a.1, a.2, parts g (suc l) o w a.3)

    parts_any : (bs : Branches) (l : ℕ) → OnceAny bs → WaitsAny d bs l → AnswersAny d m bs l → SoundAny m (SeenIn d) bs l
    parts_any no_branch l o w a = tt
    parts_any (branch b rest) l o w a = (o.0, parts b l o.1 w.0 a.0, parts_any rest l o.2 w.1 a.1)

    parts : (g : Graph) (l : ℕ) → Once g → Waits d g l → Answers d m g l → Sound m (SeenIn d) g l
    parts done l o w a = tt
    parts (add n after kind rest) l o w a = ((w.0, a.0), o.0, o.1, parts_in kind n l o.2 w.1 a.1, parts rest l o.3 w.2 a.2)

  pub answers_sound : Once d → Closed d d → Answers d m d 0 → Sound m (SeenIn d) d 0
  answers_sound o c a = parts d 0 o (what_is_waited_for d o c) a
