-- Who waits for an action of an open graph stands in that graph.
use Rattle.std.proofs.Common.{◌≡◌, ℕ, suc, true, ◌||◌, cond, List, Some, ◌⊎◌, inl, inr, ⊎_elim, refl, sym, ap, ◌∙◌, subst, nat_eq, eqb-true, true≢false, length}
use Rattle.std.proofs.lemmas.Option.{none-some}
use Rattle.wf_layers.specs.Definition.{Need, Kind, Leaf, Scope, Choice, Foreach, Until, Branches, no_branch, branch, Graph, done, add, branch_at, is_one, less_one, holds, has, has_any, has_own, needs_in, needs_any, needs_of, ClosedIn, ClosedAny, Closed}
use Rattle.wf_layers.specs.Address.{Table, SeenIn}
use Rattle.wf_layers.specs.Source.{Source, Sound, SoundAny, SoundIn}
use Rattle.wf_layers.specs.Rule.{Obeys}
use Rattle.wf_layers.specs.Seen.{Once, OnceIn, OnceAny}
use Rattle.wf_layers.specs.Machine.{Opening, State, IsThere, In, here, there, IsOpen, top, scope, chosen, turn, round}
use Rattle.wf_layers.specs.Changes.{is_named}
use Rattle.wf_layers.proofs.Basics.{two, when, unless, or_first, or_second}
use Rattle.wf_layers.proofs.Tables.{held, later', taken_has}
use Rattle.wf_layers.proofs.Open.{open_sub, placed_in}
use Rattle.wf_layers.proofs.Progress.{in_closed}
use Rattle.wf_layers.specs.Meaning.{meaning}
use Rattle.wf_layers.proofs.Changes.{in_own}
use Rattle.wf_layers.proofs.Waiting.{own_has}
use Rattle.wf_kept.specs.Reached.{IsReached}
use Rattle.wf_kept.proofs.Counts.{named_is}
use Rattle.wf_kept.proofs.Known.{known}

-- who names p in the graph h, a part of w: an action of h, and p is one of w; or both are inside one action of h
abbrev pub Where : Graph → Graph → ℕ → ℕ → Type 0
Where h w q p =
    ((has_own h q ≡ true) × (has_own w p ≡ true))
    ⊎ ((c : ℕ) × (after : List Need) × (kind : Kind) × In h c after kind × (holds kind q ≡ true) × (holds kind p ≡ true))

in_has : (g : Graph) (c : ℕ) (after : List Need) (kind : Kind) (p : ℕ) → In g c after kind → holds kind p ≡ true → has g p ≡ true
in_has _ c after kind p (here {rest = rest}) h = held c kind rest p h
in_has _ c after kind p (there {m = q} {other = other} {rest = rest} st) h = later' q other rest p (in_has rest c after kind p st h)

where_has : (g : Graph) (q p : ℕ) → Where g g q p → has g p ≡ true
where_has g q p (inl h) = own_has g p h.1
where_has g q p (inr h) = in_has g h.0 h.1 h.2 p h.3 h.5

mutual
  named_inside : (kind : Kind) (q p : ℕ) → ClosedIn kind → is_named (needs_in kind q) p ≡ true → holds kind p ≡ true
  named_inside Leaf q p c e = absurd (true≢false (sym e))
  named_inside (Scope g) q p c e = where_has g q p (named_where g g q p c e)
  named_inside (Choice bs) q p c e = named_any bs q p c e
  named_inside (Foreach pace g) q p c e = where_has g q p (named_where g g q p c e)
  named_inside (Until most g) q p c e = where_has g q p (named_where g g q p c e)

  named_any : (bs : Branches) (q p : ℕ) → ClosedAny bs → is_named (needs_any bs q) p ≡ true → has_any bs p ≡ true
  named_any no_branch q p c e = absurd (true≢false (sym e))
  named_any (branch b rest) q p c e =
      ⊎_elim
      (λ t. or_first (has b p) (has_any rest p)
      (where_has b q p (named_where b b q p c.0 (ap (λ a. is_named a p) (sym (when (has b q) (needs_of b q) (needs_any rest q) t)) ∙ e))))
      (λ u. or_second (has b p) (has_any rest p)
      (named_any rest q p c.1 (ap (λ a. is_named a p) (sym (unless (has b q) (needs_of b q) (needs_any rest q) u)) ∙ e)))
      (two (has b q))

  pub named_where : (h w : Graph) (q p : ℕ) → Closed h w → is_named (needs_of h q) p ≡ true → Where h w q p
  named_where done w q p c e = absurd (true≢false (sym e))
  named_where (add n after kind rest) w q p c e =
      ⊎_elim
      (λ t. inl (
        or_first (nat_eq n q) (has_own rest q) t,
        c.0 p (named_is after p
            (ap (λ a. is_named a p) (sym (when (nat_eq n q) after (cond (holds kind q) (needs_in kind q) (needs_of rest q)) t)) ∙ e)),
      ))
      (λ u. let e' = ap (λ a. is_named a p) (sym (unless (nat_eq n q) after (cond (holds kind q) (needs_in kind q) (needs_of rest q)) u))
      ∙ e in
      ⊎_elim
      (λ t. inr (
        n,
        after,
        kind,
        here,
        t,
        named_inside kind q p c.1
            (ap (λ a. is_named a p) (sym (when (holds kind q) (needs_in kind q) (needs_of rest q) t)) ∙ e'),
      ))
      (λ v. later (named_where rest w q p c.2
      (ap (λ a. is_named a p) (sym (unless (holds kind q) (needs_in kind q) (needs_of rest q) v)) ∙ e')))
      (two (holds kind q)))
      (two (nat_eq n q))
    where
      later : Where rest w q p → Where (add n after kind rest) w q p
      later (inl h) = inl (or_second (nat_eq n q) (has_own rest q) h.0, h.1)
      later (inr (x, a, k, st, hq, hp)) = inr (x, a, k, there st, hq, hp)

in_of : (g : Graph) (q : ℕ) → has_own g q ≡ true → (a : List Need) × (c : Kind) × In g q a c
in_of done q h = absurd (true≢false (sym h))
in_of (add n after kind rest) q h =
    ⊎_elim
    (λ t. subst (λ x. (a : List Need) × (c : Kind) × In (add n after kind rest) x a c) (eqb-true n q t) (after, kind, here))
    (λ u. let z = in_of rest q (sym (ap (λ x. x || has_own rest q) u) ∙ h) in (z.0, z.1, there z.2))
    (two (nat_eq n q))

-- names stand once where answers are local
module _ {Row Begun Decision Verdict : Type 0} (m : Source Row Begun Decision Verdict) (d : Graph) where
  mutual
    once_in : (kind : Kind) (n l : ℕ) → SoundIn m (SeenIn d) kind n l → OnceIn kind
    once_in Leaf n l h = tt
    once_in (Scope g) n l h = once_sound g l h.2
    once_in (Choice bs) n l h = once_any bs l h.2
    once_in (Foreach pace g) n l h = once_sound g (suc l) h.2
    once_in (Until most g) n l h = once_sound g (suc l) h.3

    once_any : (bs : Branches) (l : ℕ) → SoundAny m (SeenIn d) bs l → OnceAny bs
    once_any no_branch l h = tt
    once_any (branch g rest) l h = (h.0, once_sound g l h.1, once_any rest l h.2)

    pub once_sound : (g : Graph) (l : ℕ) → Sound m (SeenIn d) g l → Once g
    once_sound done l h = tt
    once_sound (add n after kind rest) l h = (h.1, h.2, once_in kind n l h.3, once_sound rest l h.4)

-- ---- names stand once: an action of the graph itself is inside none of its actions
own_apart : (g : Graph) (l : ℕ) (p c : ℕ) (after : List Need) (kind : Kind) → Once g → In g c after kind → has_own g p ≡ true
    → holds kind p ≡ true → ⊥
own_apart _ l p c after kind once (here {rest = rest}) own h =
    ⊎_elim
    (λ t. true≢false (sym h ∙ ap (holds kind) (sym (eqb-true c p t)) ∙ once.0))
    (λ u. true≢false (sym (own_has rest p (sym (ap (λ z. z || has_own rest p) u) ∙ own))
    ∙ once.1 p (or_second (nat_eq c p) (holds kind p) h)))
    (two (nat_eq c p))
own_apart _ l p c after kind once (there {m = q} {before = before} {other = other} {rest = rest} st) own h =
    ⊎_elim
    (λ t. true≢false (sym (in_has rest c after kind p st h) ∙ once.1 p (or_first (nat_eq q p) (holds other p) t)))
    (λ u. own_apart rest l p c after kind once.3 st (sym (ap (λ z. z || has_own rest p) u) ∙ own) h)
    (two (nat_eq q p))

-- only one action of a graph has p inside
one_holder : (g : Graph) (p c x : ℕ) (after before : List Need) (kind other : Kind) → Once g → In g c after kind → In g x before other
    → holds kind p ≡ true → holds other p ≡ true → (c ≡ x) × (kind ≡ other)
one_holder _ p c x after before kind other once here here hc hx = (refl, refl)
one_holder _ p c x after before kind other once (here {rest = rest}) (there st) hc hx =
    absurd (true≢false (sym (in_has rest x before other p st hx) ∙ once.1 p (or_second (nat_eq c p) (holds kind p) hc)))
one_holder _ p c x after before kind other once (there st) (here {rest = rest}) hc hx =
    absurd (true≢false (sym (in_has rest c after kind p st hc) ∙ once.1 p (or_second (nat_eq x p) (holds other p) hx)))
one_holder _ p c x after before kind other once (there st) (there su) hc hx = one_holder _ p c x after before kind other once.3 st su hc hx

module _ {Row Begun Decision Verdict : Type 0} (m : Source Row Begun Decision Verdict) (d : Graph) (so : Sound m (SeenIn d) d 0)
    (f : Table Row) (sol : Obeys m d f) (closed : Closed d d) where
  -- an open graph is closed, and its names stand once
  closed_open : (o : Table (Opening Decision Verdict)) (g : Graph) (i : List ℕ) → IsOpen m.taken d o g i → Closed g g
  closed_open o _ _ top = closed
  closed_open o _ i (scope {g = g} {h = h} {n = n} {after = after} og st e) =
      (in_closed g g n after (Scope h) (closed_open o g i og) st).1
  closed_open o _ i (chosen {g = g} {b = b} {n = n} {after = after} {bs = bs} {w = w} og st e is) =
      at_branch bs (m.taken w.decision) (in_closed g g n after (Choice bs) (closed_open o g i og) st).1 is
    where
      at_branch : (bs : Branches) (c : ℕ) → ClosedAny bs → branch_at bs c ≡ Some b → Closed b b
      at_branch no_branch c h e = absurd (none-some b e)
      at_branch (branch a rest) c h e =
          ⊎_elim
          (λ t. let same : Some a ≡ Some b = sym (when (is_one c) (Some a) _ t) ∙ e in let is : a ≡ b = cc in
          subst (λ g. Closed g g) is h.0)
          (λ u. at_branch rest (less_one c) h.1 (sym (unless (is_one c) (Some a) _ u) ∙ e))
          (two (is_one c))
  closed_open o _ _ (turn {g = g} {h = h} {i = i} {n = n} {after = after} {pace = t} j og st e lt) =
      (in_closed g g n after (Foreach t h) (closed_open o g i og) st).1
  closed_open o _ _ (round {g = g} {h = h} {i = i} {n = n} {most = most} {after = after} j og st e lt) =
      (in_closed g g n after (Until most h) (closed_open o g i og) st).1

  once_open : (o : Table (Opening Decision Verdict)) (g : Graph) (i : List ℕ) → IsOpen m.taken d o g i → Once g
  once_open o g i og = once_sound m d g (length i) (open_sub m d so f sol o g i og).sound

  -- in the action of the open graph that has p inside, who names p is inside, too
  inside_too : (o : Table (Opening Decision Verdict)) (g : Graph) (i : List ℕ) → IsOpen m.taken d o g i → (c : ℕ) (after : List Need)
      (kind : Kind) → In g c after kind → (q p : ℕ) → holds kind p ≡ true → is_named (needs_of g q) p ≡ true
      → (holds kind q ≡ true) × (is_named (needs_in kind q) p ≡ true)
  inside_too o g i og c after kind st q p hp e = go (named_where g g q p (closed_open o g i og) e)
    where
      go : Where g g q p → (holds kind q ≡ true) × (is_named (needs_in kind q) p ≡ true)
      go (inl h) = absurd (own_apart g 0 p c after kind (once_open o g i og) st h.1 hp)
      go (inr (x, before, other, su, hq, hp')) =
          let same = one_holder g p c x after before kind other (once_open o g i og) st su hp hp' in
          let hq' = ap (λ k. holds k q) same.1 ∙ hq in
          let pl = placed_in m d so f sol (length i) g c after kind (open_sub m d so f sol o g i og) st in
          (hq', ap (λ a. is_named a p) (sym (pl.inner_needs q hq')) ∙ e)

  -- who names p, which is in the open graph, is in it, and names p there
  named_open : (o : Table (Opening Decision Verdict)) (g : Graph) (i : List ℕ) → IsOpen m.taken d o g i → (q p : ℕ) → has g p ≡ true
      → is_named (needs_of d q) p ≡ true → is_named (needs_of g q) p ≡ true
  named_open o _ _ top q p h e = e
  named_open o _ i (scope {g = g} {h = h} {n = n} {after = after} og st ev) q p hp e =
      (inside_too o g i og n after (Scope h) st q p hp (named_open o g i og q p (in_has g n after (Scope h) p st hp) e)).1
  named_open o _ i (chosen {g = g} {b = b} {n = n} {after = after} {bs = bs} {w = w} og st ev is) q p hp e =
      let part = taken_has b bs (m.taken w.decision) is p hp in
      let r = inside_too o g i og n after (Choice bs) st q p part
      (named_open o g i og q p (in_has g n after (Choice bs) p st part) e) in
      let pl = placed_in m d so f sol (length i) g n after (Choice bs) (open_sub m d so f sol o g i og) st in
      at_branch bs (m.taken w.decision) pl.sound.2 (in_closed g g n after (Choice bs) (closed_open o g i og) st).1 is r.1
    where
      at_branch : (bs : Branches) (c : ℕ) → SoundAny m (SeenIn d) bs (length i) → ClosedAny bs → branch_at bs c ≡ Some b
          → is_named (needs_any bs q) p ≡ true → is_named (needs_of b q) p ≡ true
      at_branch no_branch c so' cl is' e' = absurd (none-some b is')
      at_branch (branch a rest) c so' cl is' e' =
          ⊎_elim
          (λ t. let same : Some a ≡ Some b = sym (when (is_one c) (Some a) _ t) ∙ is' in let eq : a ≡ b = cc in
          ⊎_elim
          (λ v. ap (λ z. is_named z p) (ap (λ g. needs_of g q) (sym eq) ∙ sym (when (has a q) (needs_of a q) (needs_any rest q) v)) ∙ e')
          (λ v. absurd (true≢false (sym (named_any rest q p cl.1
          (ap (λ z. is_named z p) (sym (unless (has a q) (needs_of a q) (needs_any rest q) v)) ∙ e'))
          ∙ so'.0 p (ap (λ g. has g p) eq ∙ hp))))
          (two (has a q)))
          (λ u. let is'' = sym (unless (is_one c) (Some a) _ u) ∙ is' in
          ⊎_elim
          (λ v. absurd (true≢false (sym (taken_has b rest (less_one c) is'' p hp) ∙ so'.0 p
          (where_has a q p (named_where a a q p cl.0
          (ap (λ z. is_named z p) (sym (when (has a q) (needs_of a q) (needs_any rest q) v)) ∙ e'))))))
          (λ v. at_branch rest (less_one c) so'.2 cl.1 is''
          (ap (λ z. is_named z p) (sym (unless (has a q) (needs_of a q) (needs_any rest q) v)) ∙ e'))
          (two (has a q)))
          (two (is_one c))
  named_open o _ _ (turn {g = g} {h = h} {i = i} {n = n} {after = after} {pace = t} j og st ev lt) q p hp e =
      (inside_too o g i og n after (Foreach t h) st q p hp (named_open o g i og q p (in_has g n after (Foreach t h) p st hp) e)).1
  named_open o _ _ (round {g = g} {h = h} {i = i} {n = n} {most = most} {after = after} j og st ev lt) q p hp e =
      (inside_too o g i og n after (Until most h) st q p hp (named_open o g i og q p (in_has g n after (Until most h) p st hp) e)).1

  -- WHO WAITS for an action of an open graph stands in that graph
  pub followers_stand : (o : Table (Opening Decision Verdict)) (g : Graph) (i : List ℕ) → IsOpen m.taken d o g i
      → (p : ℕ) (after : List Need) (kind : Kind) → In g p after kind → (q : ℕ) → is_named (needs_of d q) p ≡ true
      → (before : List Need) × (other : Kind) × In g q before other
  followers_stand o g i og p after kind st q e =
      go (named_where g g q p (closed_open o g i og)
      (named_open o g i og q p (own_has g p (in_own g p after kind st)) e))
    where
      go : Where g g q p → (before : List Need) × (other : Kind) × In g q before other
      go (inl h) = in_of g q h.0
      go (inr (x, before, other, su, hq, hp)) =
          absurd (own_apart g 0 p x before other (once_open o g i og) su (in_own g p after kind st) hp)

module _ {Row Begun Decision Verdict : Type 0} (d : Graph) (depth : ℕ → ℕ) (m : Source Row Begun Decision Verdict)
    (s : State Row Begun Decision Verdict) (reached : IsReached d depth m s) where
  -- THE LAW, of each reached state
  pub followers_are_there : (n : ℕ) (i : List ℕ) (after : List Need) (kind : Kind) → IsThere d m s n i after kind → (q : ℕ)
      → is_named (needs_of d q) n ≡ true → (before : List Need) × (other : Kind) × IsThere d m s q i before other
  followers_are_there n i after kind th q e =
      let k = known d depth m s reached in
      let z = followers_stand m d k.so (meaning m depth d) k.sol k.own_graph s.opens th.graph i th.is_open n after kind th.is_in q e in
      (z.0, z.1, record { graph = th.graph; is_open = th.is_open; is_in = z.2 })
