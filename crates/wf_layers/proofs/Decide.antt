-- What a definition has to be is decided by tests that compute: names stand once, an action waits only for actions of its own graph, and
-- numbers fall along `runAfter`.
use Rattle.std.proofs.Common.{◌≡◌, ℕ, ◌<◌, Bool, true, false, ◌&&◌, ◌||◌, not, List, [], ◌∷◌, ⊎_elim, refl, sym, subst, nat_eq, eqb-true, nat_lt, ltb-true, true≢false}
use Rattle.wf_layers.specs.Definition.{Need, Names, Kind, Leaf, Scope, Choice, Foreach, Until, Branches, no_branch, branch, Graph, done, add, holds, has, has_any, has_own, needs_in, needs_of, needs_any, IsDepth, ClosedIn, ClosedAny, Closed}
use Rattle.wf_layers.specs.Seen.{OnceIn, OnceAny, Once}
use Rattle.wf_layers.proofs.Basics.{two, and_in, when, unless, either}

of_not : (b : Bool) → not b ≡ true → b ≡ false
of_not true e = absurd (true≢false (sym e))
of_not false e = refl

-- P holds of each name
module _ (P : ℕ → Bool) where
  abbrev mutual
    all_in : Kind → Bool
    all_in Leaf = true
    all_in (Scope g) = all_of g
    all_in (Choice bs) = all_any bs
    all_in (Foreach pace g) = all_of g
    all_in (Until most g) = all_of g

    all_any : Branches → Bool
    all_any no_branch = true
    all_any (branch b rest) = all_of b && all_any rest

    pub all_of : Graph → Bool
    all_of done = true
    all_of (add n after kind rest) = P n && (all_in kind && all_of rest)

  mutual
    in_all : (kind : Kind) (q : ℕ) → all_in kind ≡ true → holds kind q ≡ true → P q ≡ true
    in_all Leaf q e h = absurd (true≢false (sym h))
    in_all (Scope g) q e h = of_all g q e h
    in_all (Choice bs) q e h = any_all bs q e h
    in_all (Foreach pace g) q e h = of_all g q e h
    in_all (Until most g) q e h = of_all g q e h

    any_all : (bs : Branches) (q : ℕ) → all_any bs ≡ true → has_any bs q ≡ true → P q ≡ true
    any_all no_branch q e h = absurd (true≢false (sym h))
    any_all (branch b rest) q e h =
        let x = and_in (all_of b) (all_any rest) e in
        ⊎_elim (λ t. of_all b q x.0 t) (λ t. any_all rest q x.1 t) (either (has b q) (has_any rest q) h)

    pub of_all : (g : Graph) (q : ℕ) → all_of g ≡ true → has g q ≡ true → P q ≡ true
    of_all done q e h = absurd (true≢false (sym h))
    of_all (add n after kind rest) q e h =
        let x = and_in (P n) (all_in kind && all_of rest) e in let y = and_in (all_in kind) (all_of rest) x.1 in
        ⊎_elim
        (λ t. ⊎_elim (λ s. subst (λ z. P z ≡ true) (eqb-true n q s) x.0) (λ s. in_all kind q y.0 s) (either (nat_eq n q) (holds kind q) t))
        (λ t. of_all rest q y.1 t)
        (either (nat_eq n q || holds kind q) (has rest q) h)

-- names stand once
abbrev mutual
  pub once_in : Kind → Bool
  once_in Leaf = true
  once_in (Scope g) = once_of g
  once_in (Choice bs) = once_any bs
  once_in (Foreach pace g) = once_of g
  once_in (Until most g) = once_of g

  pub once_any : Branches → Bool
  once_any no_branch = true
  once_any (branch b rest) = all_of (λ m. not (has_any rest m)) b && (once_of b && once_any rest)

  pub once_of : Graph → Bool
  once_of done = true
  once_of (add n after kind rest) =
      not (holds kind n) && ((not (has rest n) && all_in (λ m. not (has rest m)) kind) && (once_in kind && once_of rest))

mutual
  once_in_is : (kind : Kind) → once_in kind ≡ true → OnceIn kind
  once_in_is Leaf e = tt
  once_in_is (Scope g) e = once_is g e
  once_in_is (Choice bs) e = once_any_is bs e
  once_in_is (Foreach pace g) e = once_is g e
  once_in_is (Until most g) e = once_is g e

  once_any_is : (bs : Branches) → once_any bs ≡ true → OnceAny bs
  once_any_is no_branch e = tt
  once_any_is (branch b rest) e =
      let x = and_in (all_of (λ m. not (has_any rest m)) b) (once_of b && once_any rest) e in
      let y = and_in (once_of b) (once_any rest) x.1 in
      ((λ m h. of_not (has_any rest m) (of_all (λ m. not (has_any rest m)) b m x.0 h)), once_is b y.0, once_any_is rest y.1)

  pub once_is : (g : Graph) → once_of g ≡ true → Once g
  once_is done e = tt
  once_is (add n after kind rest) e =
      let x = and_in (not (holds kind n)) ((not (has rest n) && all_in (λ m. not (has rest m)) kind) && (once_in kind && once_of rest)) e in
      let y = and_in (not (has rest n) && all_in (λ m. not (has rest m)) kind) (once_in kind && once_of rest) x.1 in
      let z = and_in (not (has rest n)) (all_in (λ m. not (has rest m)) kind) y.0 in let u = and_in (once_in kind) (once_of rest) y.1 in (
        of_not (holds kind n) x.0,
        (λ m h. of_not (has rest m)
            (⊎_elim (λ t. subst (λ q. not (has rest q) ≡ true) (eqb-true n m t) z.0) (λ t. in_all (λ m. not (has rest m)) kind m z.1 t)
            (either (nat_eq n m) (holds kind m) h))),
        once_in_is kind u.0,
        once_is rest u.1,
      )

-- an action waits only for actions of its own graph
abbrev pub own_all : List Need → Graph → Bool
own_all [] w = true
own_all (n ∷ ns) w = has_own w n.name && own_all ns w

own_named : (ns : List Need) (w : Graph) (p : ℕ) → own_all ns w ≡ true → Names ns p → has_own w p ≡ true
own_named [] w p e n = absurd n
own_named (x ∷ xs) w p e n =
    let h = and_in (has_own w x.name) (own_all xs w) e in
    ⊎_elim (λ t. subst (λ z. has_own w z ≡ true) t h.0) (λ t. own_named xs w p h.1 t) n

abbrev mutual
  pub closed_in : Kind → Bool
  closed_in Leaf = true
  closed_in (Scope g) = closed_of g g
  closed_in (Choice bs) = closed_any bs
  closed_in (Foreach pace g) = closed_of g g
  closed_in (Until most g) = closed_of g g

  pub closed_any : Branches → Bool
  closed_any no_branch = true
  closed_any (branch b rest) = closed_of b b && closed_any rest

  pub closed_of : Graph → Graph → Bool
  closed_of done w = true
  closed_of (add n after kind rest) w = own_all after w && (closed_in kind && closed_of rest w)

mutual
  closed_in_is : (kind : Kind) → closed_in kind ≡ true → ClosedIn kind
  closed_in_is Leaf e = tt
  closed_in_is (Scope g) e = closed_is_by g g e
  closed_in_is (Choice bs) e = closed_any_is bs e
  closed_in_is (Foreach pace g) e = closed_is_by g g e
  closed_in_is (Until most g) e = closed_is_by g g e

  closed_any_is : (bs : Branches) → closed_any bs ≡ true → ClosedAny bs
  closed_any_is no_branch e = tt
  closed_any_is (branch b rest) e = let x = and_in (closed_of b b) (closed_any rest) e in (closed_is_by b b x.0, closed_any_is rest x.1)

  pub closed_is_by : (g w : Graph) → closed_of g w ≡ true → Closed g w
  closed_is_by done w e = tt
  closed_is_by (add n after kind rest) w e =
      let x = and_in (own_all after w) (closed_in kind && closed_of rest w) e in let y = and_in (closed_in kind) (closed_of rest w) x.1 in
      ((λ p q. own_named after w p x.0 q), closed_in_is kind y.0, closed_is_by rest w y.1)

-- numbers fall along `runAfter`
module _ (depth : ℕ → ℕ) where
  abbrev pub all_below : List Need → ℕ → Bool
  all_below [] a = true
  all_below (n ∷ ns) a = nat_lt (depth n.name) (depth a) && all_below ns a

  below_named : (ns : List Need) (a p : ℕ) → all_below ns a ≡ true → Names ns p → depth p < depth a
  below_named [] a p e n = absurd n
  below_named (x ∷ xs) a p e n =
      let h = and_in (nat_lt (depth x.name) (depth a)) (all_below xs a) e in
      ⊎_elim (λ t. subst (λ z. depth z < depth a) t (ltb-true (depth x.name) (depth a) h.0)) (λ t. below_named xs a p h.1 t) n

  abbrev mutual
    pub falls_in : Kind → Bool
    falls_in Leaf = true
    falls_in (Scope g) = falls_of g
    falls_in (Choice bs) = falls_any bs
    falls_in (Foreach pace g) = falls_of g
    falls_in (Until most g) = falls_of g

    pub falls_any : Branches → Bool
    falls_any no_branch = true
    falls_any (branch b rest) = falls_of b && falls_any rest

    pub falls_of : Graph → Bool
    falls_of done = true
    falls_of (add n after kind rest) = all_below after n && (falls_in kind && falls_of rest)

  mutual
    falls_in_is : (kind : Kind) (p a : ℕ) → falls_in kind ≡ true → Names (needs_in kind a) p → depth p < depth a
    falls_in_is Leaf p a e n = absurd n
    falls_in_is (Scope g) p a e n = falls_is g e p a n
    falls_in_is (Choice bs) p a e n = falls_any_is bs p a e n
    falls_in_is (Foreach pace g) p a e n = falls_is g e p a n
    falls_in_is (Until most g) p a e n = falls_is g e p a n

    falls_any_is : (bs : Branches) (p a : ℕ) → falls_any bs ≡ true → Names (needs_any bs a) p → depth p < depth a
    falls_any_is no_branch p a e n = absurd n
    falls_any_is (branch b rest) p a e n =
        let x = and_in (falls_of b) (falls_any rest) e in
        ⊎_elim
        (λ t. falls_is b x.0 p a (subst (λ z. Names z p) (when (has b a) (needs_of b a) (needs_any rest a) t) n))
        (λ t. falls_any_is rest p a x.1 (subst (λ z. Names z p) (unless (has b a) (needs_of b a) (needs_any rest a) t) n))
        (two (has b a))

    pub falls_is : (g : Graph) → falls_of g ≡ true → IsDepth g depth
    falls_is done e p a n = absurd n
    falls_is (add c after kind rest) e p a n =
        let x = and_in (all_below after c) (falls_in kind && falls_of rest) e in let y = and_in (falls_in kind) (falls_of rest) x.1 in
        ⊎_elim
        (λ t. subst (λ z. depth p < depth z) (eqb-true c a t)
        (below_named after c p x.0 (subst (λ z. Names z p) (when (nat_eq c a) after _ t) n)))
        (λ t. let n' = subst (λ z. Names z p) (unless (nat_eq c a) after _ t) n in
        ⊎_elim
        (λ s. falls_in_is kind p a y.0 (subst (λ z. Names z p) (when (holds kind a) (needs_in kind a) (needs_of rest a) s) n'))
        (λ s. falls_is rest y.1 p a (subst (λ z. Names z p) (unless (holds kind a) (needs_in kind a) (needs_of rest a) s) n'))
        (two (holds kind a)))
        (two (nat_eq c a))
