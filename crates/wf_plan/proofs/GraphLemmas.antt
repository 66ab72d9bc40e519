-- What a graph has in which each number stands once: each action has one holder, and what stands in no loop stands once.
use Rattle.std.proofs.Common.{◌≡◌, ℕ, zero, suc, ◌<◌, ◌-◌, Bool, true, false, ◌||◌, cond, List, [], ◌∷◌, ◌++◌, Option, Some, None, option_map, slice_get, ◌⊎◌, inl, inr, ⊎_elim, append-nil, refl, sym, ap, ap₂, ◌∙◌, subst, Bor, arith, nat_eq, eqb-true, true≢false}
use Rattle.std.proofs.lemmas.Option.{none-some}
use Rattle.wf_def.specs.Changes.{is_named, owns, owns_any}
use Rattle.wf_def.specs.Definition.{Need, Kind, Leaf, Scope, Choice, Foreach, Until, Branches, no_branch, branch, Graph, done, add, branch_at, has, has_any, has_own, holds, is_one, less_one, kind_any, kind_in, kind_of, needs_in, needs_of, plain, plain_any, shows}
use Rattle.wf_def.specs.Seen.{Once, OnceAny, OnceIn}
use Rattle.wf_def.proofs.Basics.{two, either, not_true, or_first, or_second, same_self, when, unless}
use Rattle.wf_def.proofs.Changes.{owns_has, owns_holds}
use Rattle.wf_def.proofs.Tables.{plain_has, shows_holds}
use Rattle.wf_def.proofs.Waiting.{own_has}
use Rattle.wf_asks.specs.Known.{is_among}
use Rattle.wf_plan.specs.Once.{AreDistinct}
use Rattle.wf_plan.specs.Plan.{branch_of, branches_of, own_numbers, passed_but, shown, shown_any, shown_in, taken_at}
use Rattle.wf_plan.specs.PlanOf.{in_other}
use Rattle.wf_plan.specs.PlanSeen.{branch_tree, branches_seen}
use Rattle.wf_plan.specs.declared.shape.Branch.{Branch}
use Rattle.wf_plan.proofs.NumberLemmas.{neither}

-- ---- who holds an action

-- of what is held the first action of a graph is the holder, or one inside it, or one behind it
abbrev OwnedAt : ℕ → Kind → Graph → ℕ → ℕ → Type 0
OwnedAt m kind rest c n =
    ((m ≡ c) × (owns (Some kind) n ≡ true)) ⊎ ((owns (kind_in kind c) n ≡ true) ⊎ (owns (kind_of rest c) n ≡ true))

owned_at : (m : ℕ) (after : List Need) (kind : Kind) (rest : Graph) (c n : ℕ) → owns (kind_of (add m after kind rest) c) n ≡ true
    → OwnedAt m kind rest c n
owned_at m after kind rest c n h =
    ⊎_elim
    (λ t. inl (
      eqb-true m c t,
      sym (ap (λ o. owns o n) (when (nat_eq m c) (Some kind) (cond (holds kind c) (kind_in kind c) (kind_of rest c)) t)) ∙ h,
    ))
    (λ u. let h' = sym
    (ap (λ o. owns o n) (unless (nat_eq m c) (Some kind) (cond (holds kind c) (kind_in kind c) (kind_of rest c)) u)) ∙ h in
    ⊎_elim
    (λ t. inr (inl (sym (ap (λ o. owns o n) (when (holds kind c) (kind_in kind c) (kind_of rest c) t)) ∙ h')))
    (λ v. inr (inr (sym (ap (λ o. owns o n) (unless (holds kind c) (kind_in kind c) (kind_of rest c) v)) ∙ h')))
    (two (holds kind c)))
    (two (nat_eq m c))

-- what is held is there
mutual
  owned_in : (kind : Kind) (c n : ℕ) → owns (kind_in kind c) n ≡ true → holds kind n ≡ true
  owned_in Leaf c n h = absurd (true≢false (sym h))
  owned_in (Scope g) c n h = owned_of g c n h
  owned_in (Choice bs) c n h = owned_any bs c n h
  owned_in (Foreach pace g) c n h = owned_of g c n h
  owned_in (Until most g) c n h = owned_of g c n h

  owned_any : (bs : Branches) (c n : ℕ) → owns (kind_any bs c) n ≡ true → has_any bs n ≡ true
  owned_any no_branch c n h = absurd (true≢false (sym h))
  owned_any (branch b rest) c n h =
      ⊎_elim
      (λ t. or_first (has b n) (has_any rest n)
      (owned_of b c n (sym (ap (λ o. owns o n) (when (has b c) (kind_of b c) (kind_any rest c) t)) ∙ h)))
      (λ u. or_second (has b n) (has_any rest n)
      (owned_any rest c n (sym (ap (λ o. owns o n) (unless (has b c) (kind_of b c) (kind_any rest c) u)) ∙ h)))
      (two (has b c))

  owned_of : (g : Graph) (c n : ℕ) → owns (kind_of g c) n ≡ true → has g n ≡ true
  owned_of done c n h = absurd (true≢false (sym h))
  owned_of (add m after kind rest) c n h =
      ⊎_elim
      (λ p. or_first (nat_eq m n || holds kind n) (has rest n) (or_second (nat_eq m n) (holds kind n) (owns_holds kind n p.1)))
      (λ q. ⊎_elim
      (λ p. or_first (nat_eq m n || holds kind n) (has rest n) (or_second (nat_eq m n) (holds kind n) (owned_in kind c n p)))
      (λ p. or_second (nat_eq m n || holds kind n) (has rest n) (owned_of rest c n p))
      q)
      (owned_at m after kind rest c n h)

-- an action of the graph itself is held by none inside it
not_behind : (m : ℕ) (kind : Kind) (rest : Graph) → ((q : ℕ) → (nat_eq m q || holds kind q) ≡ true → has rest q ≡ false) → (n : ℕ)
    → (nat_eq m n || holds kind n) ≡ true → has rest n ≡ true → ⊥
not_behind m kind rest apart n a b = true≢false (sym b ∙ apart n a)

not_itself : (m : ℕ) (kind : Kind) → holds kind m ≡ false → (n : ℕ) → nat_eq m n ≡ true → holds kind n ≡ true → ⊥
not_itself m kind off n t i = true≢false (sym i ∙ subst (λ x. holds kind x ≡ false) (eqb-true m n t) off)

inside_or_behind : (m : ℕ) (kind : Kind) (rest : Graph) (c n : ℕ) → OwnedAt m kind rest c n
    → (holds kind n ≡ true) ⊎ (owns (kind_of rest c) n ≡ true)
inside_or_behind m kind rest c n at =
    ⊎_elim (λ p. inl (owns_holds kind n p.1)) (λ q. ⊎_elim (λ i. inl (owned_in kind c n i)) (λ r. inr r) q) at

own_apart : (g : Graph) → Once g → (c n : ℕ) → has_own g n ≡ true → owns (kind_of g c) n ≡ true → ⊥
own_apart done once c n own h = true≢false (sym own)
own_apart (add m after kind rest) once c n own h =
    let at = inside_or_behind m kind rest c n (owned_at m after kind rest c n h) in
    ⊎_elim
    (λ t. ⊎_elim (λ i. not_itself m kind once.0 n t i)
    (λ r. not_behind m kind rest once.1 n (or_first (nat_eq m n) (holds kind n) t) (owned_of rest c n r))
    at)
    (λ t. ⊎_elim (λ i. not_behind m kind rest once.1 n (or_second (nat_eq m n) (holds kind n) i) (own_has rest n t))
    (λ r. own_apart rest once.3 c n t r)
    at)
    (either (nat_eq m n) (has_own rest n) own)

own_any_apart : (bs : Branches) → OnceAny bs → (c n : ℕ) → owns_any bs n ≡ true → owns (kind_any bs c) n ≡ true → ⊥
own_any_apart no_branch once c n own h = true≢false (sym own)
own_any_apart (branch b rest) once c n own h =
    ⊎_elim
    (λ t. let h' = sym (ap (λ o. owns o n) (when (has b c) (kind_of b c) (kind_any rest c) t)) ∙ h in
    ⊎_elim (λ o. own_apart b once.1 c n o h')
    (λ o. true≢false (sym (owns_has rest n o) ∙ once.0 n (owned_of b c n h')))
    (either (has_own b n) (owns_any rest n) own))
    (λ u. let h' = sym (ap (λ o. owns o n) (unless (has b c) (kind_of b c) (kind_any rest c) u)) ∙ h in
    ⊎_elim (λ o. true≢false (sym (owned_any rest c n h') ∙ once.0 n (own_has b n o)))
    (λ o. own_any_apart rest once.2 c n o h')
    (either (has_own b n) (owns_any rest n) own))
    (two (has b c))

own_in_apart : (kind : Kind) → OnceIn kind → (c n : ℕ) → owns (Some kind) n ≡ true → owns (kind_in kind c) n ≡ true → ⊥
own_in_apart Leaf once c n own h = true≢false (sym own)
own_in_apart (Scope g) once c n own h = own_apart g once c n own h
own_in_apart (Choice bs) once c n own h = own_any_apart bs once c n own h
own_in_apart (Foreach pace g) once c n own h = own_apart g once c n own h
own_in_apart (Until most g) once c n own h = own_apart g once c n own h

-- so there is one holder
mutual
  one_in : (kind : Kind) → OnceIn kind → (b c n : ℕ) → owns (kind_in kind b) n ≡ true → owns (kind_in kind c) n ≡ true → b ≡ c
  one_in Leaf once b c n h k = absurd (true≢false (sym h))
  one_in (Scope g) once b c n h k = one_holder g once b c n h k
  one_in (Choice bs) once b c n h k = one_any bs once b c n h k
  one_in (Foreach pace g) once b c n h k = one_holder g once b c n h k
  one_in (Until most g) once b c n h k = one_holder g once b c n h k

  one_any : (bs : Branches) → OnceAny bs → (b c n : ℕ) → owns (kind_any bs b) n ≡ true → owns (kind_any bs c) n ≡ true → b ≡ c
  one_any no_branch once b c n h k = absurd (true≢false (sym h))
  one_any (branch g rest) once b c n h k =
      ⊎_elim
      (λ t. ⊎_elim
      (λ t'. one_holder g once.1 b c n (taken b t h) (taken c t' k))
      (λ u'. absurd (true≢false (sym (owned_any rest c n (left c u' k)) ∙ once.0 n (owned_of g b n (taken b t h)))))
      (two (has g c)))
      (λ u. ⊎_elim
      (λ t'. absurd (true≢false (sym (owned_any rest b n (left b u h)) ∙ once.0 n (owned_of g c n (taken c t' k)))))
      (λ u'. one_any rest once.2 b c n (left b u h) (left c u' k))
      (two (has g c)))
      (two (has g b))
    where
      taken : (x : ℕ) → has g x ≡ true → owns (kind_any (branch g rest) x) n ≡ true → owns (kind_of g x) n ≡ true
      taken x t e = sym (ap (λ o. owns o n) (when (has g x) (kind_of g x) (kind_any rest x) t)) ∙ e

      left : (x : ℕ) → has g x ≡ false → owns (kind_any (branch g rest) x) n ≡ true → owns (kind_any rest x) n ≡ true
      left x u e = sym (ap (λ o. owns o n) (unless (has g x) (kind_of g x) (kind_any rest x) u)) ∙ e

  pub one_holder : (g : Graph) → Once g → (b c n : ℕ) → owns (kind_of g b) n ≡ true → owns (kind_of g c) n ≡ true → b ≡ c
  one_holder done once b c n h k = absurd (true≢false (sym h))
  one_holder (add m after kind rest) once b c n h k =
      ⊎_elim
      (λ p. ⊎_elim
      (λ p'. sym p.0 ∙ p'.0)
      (λ q'. ⊎_elim (λ i'. absurd (own_in_apart kind once.2 c n p.1 i'))
      (λ r'. absurd (off (owns_holds kind n p.1) (owned_of rest c n r'))) q')
      (owned_at m after kind rest c n k))
      (λ q. ⊎_elim
      (λ i. ⊎_elim
      (λ p'. absurd (own_in_apart kind once.2 b n p'.1 i))
      (λ q'. ⊎_elim (λ i'. one_in kind once.2 b c n i i') (λ r'. absurd (off (owned_in kind b n i) (owned_of rest c n r'))) q')
      (owned_at m after kind rest c n k))
      (λ r. ⊎_elim
      (λ p'. absurd (off (owns_holds kind n p'.1) (owned_of rest b n r)))
      (λ q'. ⊎_elim (λ i'. absurd (off (owned_in kind c n i') (owned_of rest b n r))) (λ r'. one_holder rest once.3 b c n r r') q')
      (owned_at m after kind rest c n k))
      q)
      (owned_at m after kind rest b n h)
    where
      off : holds kind n ≡ true → has rest n ≡ true → ⊥
      off a b' = true≢false (sym b' ∙ once.1 n (or_second (nat_eq m n) (holds kind n) a))

-- ---- what isn't there has no kind and waits for nothing

pub none_of : (g : Graph) (q : ℕ) → has g q ≡ false → (kind_of g q ≡ None) × (needs_of g q ≡ [])
none_of done q off = (refl, refl)
none_of (add m after kind rest) q off =
    let a = neither (nat_eq m q || holds kind q) (has rest q) off in
    let b = neither (nat_eq m q) (holds kind q) a.0 in
    let r = none_of rest q a.1 in (
      unless (nat_eq m q) (Some kind) (cond (holds kind q) (kind_in kind q) (kind_of rest q)) b.0
          ∙ unless (holds kind q) (kind_in kind q) (kind_of rest q) b.1 ∙ r.0,
      unless (nat_eq m q) after (cond (holds kind q) (needs_in kind q) (needs_of rest q)) b.0
          ∙ unless (holds kind q) (needs_in kind q) (needs_of rest q) b.1 ∙ r.1,
    )

pub kind_there : (g : Graph) (q : ℕ) (kind : Kind) → kind_of g q ≡ Some kind → has g q ≡ true
kind_there g q kind e =
    ⊎_elim (λ t. t) (λ u. absurd (none-some kind (sym (none_of g q u).0 ∙ e))) (two (has g q))

pub needs_there : (g : Graph) (q n : ℕ) → is_named (needs_of g q) n ≡ true → has g q ≡ true
needs_there g q n e =
    ⊎_elim (λ t. t) (λ u. absurd (true≢false (sym e ∙ ap (λ ns. is_named ns n) (none_of g q u).1))) (two (has g q))

pub holder_there : (g : Graph) (c n : ℕ) → owns (kind_of g c) n ≡ true → has g c ≡ true
holder_there g c n e =
    ⊎_elim (λ t. t) (λ u. absurd (true≢false (sym e ∙ ap (λ o. owns o n) (none_of g c u).0))) (two (has g c))

-- ---- each number stands once in the graphs of an action, and its own isn't there

abbrev pub OnceFound : ℕ → Kind → Type 0
OnceFound n kind = OnceIn kind × (holds kind n ≡ false)

mutual
  once_inside : (kind : Kind) → OnceIn kind → (n : ℕ) (found : Kind) → kind_in kind n ≡ Some found → OnceFound n found
  once_inside Leaf once n found e = absurd (none-some found e)
  once_inside (Scope g) once n found e = once_at g once n found e
  once_inside (Choice bs) once n found e = once_among bs once n found e
  once_inside (Foreach pace g) once n found e = once_at g once n found e
  once_inside (Until most g) once n found e = once_at g once n found e

  once_among : (bs : Branches) → OnceAny bs → (n : ℕ) (found : Kind) → kind_any bs n ≡ Some found → OnceFound n found
  once_among no_branch once n found e = absurd (none-some found e)
  once_among (branch b rest) once n found e =
      ⊎_elim
      (λ t. once_at b once.1 n found (sym (when (has b n) (kind_of b n) (kind_any rest n) t) ∙ e))
      (λ u. once_among rest once.2 n found (sym (unless (has b n) (kind_of b n) (kind_any rest n) u) ∙ e))
      (two (has b n))

  pub once_at : (g : Graph) → Once g → (n : ℕ) (found : Kind) → kind_of g n ≡ Some found → OnceFound n found
  once_at done once n found e = absurd (none-some found e)
  once_at (add m after kind rest) once n found e =
      ⊎_elim
      (λ t. let it : Some kind ≡ Some found =
      sym (when (nat_eq m n) (Some kind) (cond (holds kind n) (kind_in kind n) (kind_of rest n)) t) ∙ e in
      let is : kind ≡ found = cc (it) in
      subst (OnceFound n) is (once.2, subst (λ x. holds kind x ≡ false) (eqb-true m n t) once.0))
      (λ u. let e' = sym (unless (nat_eq m n) (Some kind) (cond (holds kind n) (kind_in kind n) (kind_of rest n)) u) ∙ e in
      ⊎_elim
      (λ t. once_inside kind once.2 n found (sym (when (holds kind n) (kind_in kind n) (kind_of rest n) t) ∙ e'))
      (λ v. once_at rest once.3 n found (sym (unless (holds kind n) (kind_in kind n) (kind_of rest n) v) ∙ e'))
      (two (holds kind n)))
      (two (nat_eq m n))

-- ---- what stands in no loop

or_left : (a b c : Bool) → (a || (b || c)) ≡ ((a || b) || c)
or_left true b c = refl
or_left false b c = refl

pub among_both : (q : ℕ) (ns ms : List ℕ) → is_among q (ns ++ ms) ≡ (is_among q ns || is_among q ms)
among_both q [] ms = refl
among_both q (n ∷ ns) ms = ap (λ z. nat_eq n q || z) (among_both q ns ms) ∙ or_left (nat_eq n q) (is_among q ns) (is_among q ms)

mutual
  pub shown_is : (kind : Kind) (x : ℕ) → is_among x (shown kind) ≡ shows kind x
  shown_is Leaf x = refl
  shown_is (Scope g) x = shown_in_is g x
  shown_is (Choice bs) x = shown_any_is bs x
  shown_is (Foreach pace g) x = refl
  shown_is (Until most g) x = refl

  shown_any_is : (bs : Branches) (x : ℕ) → is_among x (shown_any bs) ≡ plain_any bs x
  shown_any_is no_branch x = refl
  shown_any_is (branch b rest) x =
      among_both x (shown_in b) (shown_any rest) ∙ ap₂ (λ y z. y || z) (shown_in_is b x) (shown_any_is rest x)

  pub shown_in_is : (g : Graph) (x : ℕ) → is_among x (shown_in g) ≡ plain g x
  shown_in_is done x = refl
  shown_in_is (add n after kind rest) x =
      ap (λ z. nat_eq n x || z) (among_both x (shown kind) (shown_in rest)
      ∙ ap₂ (λ y z. y || z) (shown_is kind x) (shown_in_is rest x))
      ∙ or_left (nat_eq n x) (shows kind x) (plain rest x)

-- and each once
pub both_distinct : (ns ms : List ℕ) → AreDistinct ns → AreDistinct ms
    → ((x : ℕ) → is_among x ns ≡ true → is_among x ms ≡ false) → AreDistinct (ns ++ ms)
both_distinct [] ms one other apart = other
both_distinct (n ∷ ns) ms one other apart = (
  among_both n ns ms ∙ ap₂ (λ y z. y || z) one.0 (apart n (or_first (nat_eq n n) (is_among n ns) (same_self n))),
  both_distinct ns ms one.1 other (λ x t. apart x (or_second (nat_eq n x) (is_among x ns) t)),
)

not_plain : (g : Graph) (x : ℕ) → has g x ≡ false → plain g x ≡ false
not_plain g x off = not_true (plain g x) (λ t. true≢false (sym (plain_has g x t) ∙ off))

any_has : (bs : Branches) (x : ℕ) → plain_any bs x ≡ true → has_any bs x ≡ true
any_has no_branch x h = h
any_has (branch b rest) x h =
    ⊎_elim (λ t. or_first (has b x) (has_any rest x) (plain_has b x t))
    (λ t. or_second (has b x) (has_any rest x) (any_has rest x t))
    (either (plain b x) (plain_any rest x) h)

mutual
  pub shown_once : (kind : Kind) → OnceIn kind → AreDistinct (shown kind)
  shown_once Leaf once = tt
  shown_once (Scope g) once = shown_in_once g once
  shown_once (Choice bs) once = shown_any_once bs once
  shown_once (Foreach pace g) once = tt
  shown_once (Until most g) once = tt

  shown_any_once : (bs : Branches) → OnceAny bs → AreDistinct (shown_any bs)
  shown_any_once no_branch once = tt
  shown_any_once (branch b rest) once =
      both_distinct (shown_in b) (shown_any rest) (shown_in_once b once.1) (shown_any_once rest once.2)
      (λ x t. shown_any_is rest x
      ∙ not_true (plain_any rest x)
      (λ p. true≢false (sym (any_has rest x p) ∙ once.0 x (plain_has b x (sym (shown_in_is b x) ∙ t)))))

  shown_in_once : (g : Graph) → Once g → AreDistinct (shown_in g)
  shown_in_once done once = tt
  shown_in_once (add n after kind rest) once = (
    among_both n (shown kind) (shown_in rest)
        ∙ ap₂ (λ y z. y || z)
        (shown_is kind n ∙ not_true (shows kind n) (λ t. true≢false (sym (shows_holds kind n t) ∙ once.0)))
        (shown_in_is rest n ∙ not_plain rest n (once.1 n (or_first (nat_eq n n) (holds kind n) (same_self n)))),
    both_distinct (shown kind) (shown_in rest) (shown_once kind once.2) (shown_in_once rest once.3)
        (λ x t. shown_in_is rest x
        ∙ not_plain rest x (once.1 x (or_second (nat_eq n x) (holds kind x) (shows_holds kind x (sym (shown_is kind x) ∙ t))))),
  )

-- ---- what is passed over

other_has : (bs : Branches) (c x : ℕ) → in_other bs c x ≡ true → has_any bs x ≡ true
other_has no_branch c x h = h
other_has (branch b rest) c x h =
    ⊎_elim (λ t. or_first (has b x) (has_any rest x) t)
    (λ u. or_second (has b x) (has_any rest x)
    (other_has rest (less_one c) x (sym (unless (has b x) (cond (is_one c) false (plain b x)) (in_other rest (less_one c) x) u) ∙ h)))
    (two (has b x))

or_none : (a : Bool) → (a || false) ≡ a
or_none true = refl
or_none false = refl

one_passed : (x : ℕ) (b : Graph) (one : Bool) → is_among x (cond one [] (shown_in b)) ≡ cond one false (plain b x)
one_passed x b true = refl
one_passed x b false = shown_in_is b x

not_passed : (b : Graph) (x : ℕ) (one : Bool) → has b x ≡ false → cond one false (plain b x) ≡ false
not_passed b x true off = refl
not_passed b x false off = not_plain b x off

pub passed_is : (bs : Branches) → OnceAny bs → (c x : ℕ) → is_among x (passed_but (branches_of bs) c) ≡ in_other bs c x
passed_is no_branch once c x = refl
passed_is (branch b rest) once c x =
    among_both x (cond (is_one c) [] (shown_in b)) (passed_but (branches_of rest) (less_one c))
    ∙ ap₂ (λ y z. y || z) (one_passed x b (is_one c)) (passed_is rest once.2 (less_one c) x)
    ∙ ⊎_elim
    (λ t. ap (λ z. cond (is_one c) false (plain b x) || z)
    (not_true (in_other rest (less_one c) x) (λ o. true≢false (sym (other_has rest (less_one c) x o) ∙ once.0 x t)))
    ∙ or_none (cond (is_one c) false (plain b x))
    ∙ sym (when (has b x) (cond (is_one c) false (plain b x)) (in_other rest (less_one c) x) t))
    (λ u. ap (λ z. z || in_other rest (less_one c) x) (not_passed b x (is_one c) u)
    ∙ sym (unless (has b x) (cond (is_one c) false (plain b x)) (in_other rest (less_one c) x) u))
    (two (has b x))

one_once : (b : Graph) (one : Bool) → Once b → AreDistinct (cond one [] (shown_in b))
one_once b true once = tt
one_once b false once = shown_in_once b once

in_one : (b : Graph) (one : Bool) (x : ℕ) → is_among x (cond one [] (shown_in b)) ≡ true → has b x ≡ true
in_one b true x h = absurd (true≢false (sym h))
in_one b false x h = plain_has b x (sym (shown_in_is b x) ∙ h)

pub passed_distinct : (bs : Branches) → OnceAny bs → (c : ℕ) → AreDistinct (passed_but (branches_of bs) c)
passed_distinct no_branch once c = tt
passed_distinct (branch b rest) once c =
    both_distinct (cond (is_one c) [] (shown_in b)) (passed_but (branches_of rest) (less_one c)) (one_once b (is_one c) once.1)
    (passed_distinct rest once.2 (less_one c))
    (λ x t. passed_is rest once.2 (less_one c) x
    ∙ not_true (in_other rest (less_one c) x)
    (λ o. true≢false (sym (other_has rest (less_one c) x o) ∙ once.0 x (in_one b (is_one c) x t))))

-- ---- numbers of branches

pub less_is : (c : ℕ) → less_one c ≡ c - 1
less_is zero = omega arith
less_is (suc c) = omega arith

pub one_added : (ns ms : List ℕ) (c : ℕ) → c ≡ 1 → ns ≡ ns ++ cond (is_one c) [] ms
one_added ns ms c is = sym (ap (λ z. ns ++ cond (is_one z) [] ms) is ∙ append-nil ns)

pub other_added : (ns ms : List ℕ) (c : ℕ) → (c ≡ 1 → ⊥) → ns ++ ms ≡ ns ++ cond (is_one c) [] ms
other_added ns ms zero other = refl
other_added ns ms (suc zero) other = absurd (other refl)
other_added ns ms (suc (suc c)) other = refl

pub none_taken : (bs : List Branch) (c : ℕ) → c ≡ 0 → None ≡ taken_at (branches_seen bs) c
none_taken bs c is = sym (ap (taken_at (branches_seen bs)) is ∙ go bs)
  where
    go : (xs : List Branch) → taken_at (branches_seen xs) 0 ≡ None
    go [] = refl
    go (x ∷ xs) = go xs

taken_from : (bs : List Branch) (k : ℕ) → option_map branch_tree (slice_get bs k) ≡ taken_at (branches_seen bs) (suc k)
taken_from [] k = refl
taken_from (b ∷ bs) zero = refl
taken_from (b ∷ bs) (suc k) = taken_from bs k

pub some_taken : (bs : List Branch) (c : ℕ) (o : Option (Bor Branch)) → option_map (λ (b : Bor Branch). b.now) o ≡ slice_get bs (c - 1)
    → 0 < c → option_map (λ (b : Bor Branch). branch_tree b.now) o ≡ taken_at (branches_seen bs) c
some_taken bs zero o e some = absurd (omega (arith, some))
some_taken bs (suc k) o e some =
    let is : suc k - 1 ≡ k = omega arith in
    seen o ∙ ap (option_map branch_tree) (e ∙ ap (slice_get bs) is) ∙ taken_from bs k
  where
    seen : (q : Option (Bor Branch))
        → option_map (λ (b : Bor Branch). branch_tree b.now) q ≡ option_map branch_tree (option_map (λ (b : Bor Branch). b.now) q)
    seen None = refl
    seen (Some b) = refl

-- the branch of a number is the graph's
pub taken_is : (bs : Branches) (c : ℕ) → taken_at (branches_of bs) c ≡ option_map branch_of (branch_at bs c)
taken_is no_branch c = refl
taken_is (branch b rest) c = go (is_one c) (taken_is rest (less_one c))
  where
    go : (o : Bool) → taken_at (branches_of rest) (less_one c) ≡ option_map branch_of (branch_at rest (less_one c))
        → cond o (Some (branch_of b)) (taken_at (branches_of rest) (less_one c))
        ≡ option_map branch_of (cond o (Some b) (branch_at rest (less_one c)))
    go true e = refl
    go false e = e

-- the numbers of a graph's own actions
pub own_is : (g : Graph) (x : ℕ) → is_among x (own_numbers g) ≡ has_own g x
own_is done x = refl
own_is (add n after kind rest) x = ap (λ z. nat_eq n x || z) (own_is rest x)
