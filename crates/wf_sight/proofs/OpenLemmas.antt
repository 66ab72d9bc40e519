-- In an open graph the loops round each action are open, each at its own indexes.
use Rattle.std.proofs.Common.{◌≡◌, ℕ, suc, true, false, ◌||◌, List, [], ◌∷◌, ◌++◌, length, Some, inl, inr, refl, sym, ap}
use Rattle.std.proofs.Common.{◌∙◌, subst, arith, append_assoc, append-nil, true≢false}
use Rattle.std.proofs.Common.{cond, nat_eq, eqb-true}
use Rattle.wf_layers.specs.Address.{Table, address}
use Rattle.wf_layers.specs.Definition.{Need, Kind, Scope, Choice, Foreach, Until, Branches, no_branch, branch, Graph}
use Rattle.wf_layers.specs.Definition.{branch_at, is_one, less_one, holds, has, has_any, kind_any, kind_in, kind_of}
use Rattle.wf_layers.specs.Machine.{In, here, there, IsOpen, top, scope, chosen, turn, round, Opening}
use Rattle.wf_layers.specs.Seen.{Once, OnceIn, OnceAny}
use Rattle.wf_layers.proofs.Basics.{two, or_first, or_second, when, unless, same_self}
use Rattle.wf_views.specs.LoopsLoops.{loops_any, loops_in, loops_of}
use Rattle.wf_views.proofs.RoundLemmas.{loops_none}
use Rattle.wf_views.specs.Answering.{IsLoop}

-- ---- what stands in a graph

pub in_has : (g : Graph) (n : ℕ) (after : List Need) (kind : Kind) → In g n after kind → has g n ≡ true
in_has _ n after kind (here {rest = rest}) =
    or_first (nat_eq n n || holds kind n) (has rest n) (or_first (nat_eq n n) (holds kind n) (same_self n))
in_has _ n after kind (there {m = m} {other = other} {rest = rest} st) =
    or_second (nat_eq m n || holds other n) (has rest n) (in_has rest n after kind st)

pub held_has : (g : Graph) (n : ℕ) (after : List Need) (kind : Kind) (x : ℕ) → In g n after kind → holds kind x ≡ true → has g x ≡ true
held_has _ n after kind x (here {rest = rest}) h = or_first (nat_eq n x || holds kind x) (has rest x) (or_second (nat_eq n x) (holds kind x) h)
held_has _ n after kind x (there {m = m} {other = other} {rest = rest} st) h =
    or_second (nat_eq m x || holds other x) (has rest x) (held_has rest n after kind x st h)

not_held : (m x : ℕ) (kind : Kind) (rest : Graph) → ((q : ℕ) → (nat_eq m q || holds kind q) ≡ true → has rest q ≡ false) → has rest x ≡ true
    → holds kind x ≡ false
not_held m x kind rest apart h = elim (two (holds kind x)) [
  | inl t ↦ absurd (true≢false (sym h ∙ apart x (or_second (nat_eq m x) (holds kind x) t)))
  | inr f ↦ f
]

-- its own actions stand in no loop of it
pub own_loops : (g : Graph) (n : ℕ) (after : List Need) (kind : Kind) → Once g → In g n after kind → loops_of g n ≡ []
own_loops _ n after kind once (here {rest = rest}) =
    unless (holds kind n) (loops_in n kind n) (loops_of rest n) once.0
    ∙ loops_none rest n (once.1 n (or_first (nat_eq n n) (holds kind n) (same_self n)))
own_loops _ n after kind once (there {m = m} {other = other} {rest = rest} st) =
    unless (holds other n) (loops_in m other n) (loops_of rest n) (not_held m n other rest once.1 (in_has rest n after kind st))
    ∙ own_loops rest n after kind once.3 st

-- and the loops round what stands inside one of them
pub inner_loops : (g : Graph) (n : ℕ) (after : List Need) (kind : Kind) (x : ℕ) → Once g → In g n after kind → holds kind x ≡ true
    → loops_of g x ≡ loops_in n kind x
inner_loops _ n after kind x once (here {rest = rest}) h = when (holds kind x) (loops_in n kind x) (loops_of rest x) h
inner_loops _ n after kind x once (there {m = m} {other = other} {rest = rest} st) h =
    unless (holds other x) (loops_in m other x) (loops_of rest x) (not_held m x other rest once.1 (held_has rest n after kind x st h))
    ∙ inner_loops rest n after kind x once.3 st h

not_own : (m x : ℕ) (kind : Kind) (rest : Graph) → ((q : ℕ) → (nat_eq m q || holds kind q) ≡ true → has rest q ≡ false) → has rest x ≡ true
    → nat_eq m x ≡ false
not_own m x kind rest apart h = elim (two (nat_eq m x)) [
  | inl t ↦ absurd (true≢false (sym h ∙ apart x (or_first (nat_eq m x) (holds kind x) t)))
  | inr f ↦ f
]

-- their kinds
pub own_kind : (g : Graph) (n : ℕ) (after : List Need) (kind : Kind) → Once g → In g n after kind → kind_of g n ≡ Some kind
own_kind _ n after kind once (here {rest = rest}) =
    when (nat_eq n n) (Some kind) (cond (holds kind n) (kind_in kind n) (kind_of rest n)) (same_self n)
own_kind _ n after kind once (there {m = m} {other = other} {rest = rest} st) =
    let h = in_has rest n after kind st in
    unless (nat_eq m n) (Some other) (cond (holds other n) (kind_in other n) (kind_of rest n)) (not_own m n other rest once.1 h)
    ∙ (unless (holds other n) (kind_in other n) (kind_of rest n) (not_held m n other rest once.1 h) ∙ own_kind rest n after kind once.3 st)

apart_own : (n x : ℕ) (kind : Kind) → holds kind n ≡ false → holds kind x ≡ true → nat_eq n x ≡ false
apart_own n x kind off h = elim (two (nat_eq n x)) [
  | inl t ↦ absurd (true≢false (sym h ∙ subst (λ (q : ℕ). holds kind q ≡ false) (eqb-true n x t) off))
  | inr f ↦ f
]

pub inner_kind : (g : Graph) (n : ℕ) (after : List Need) (kind : Kind) (x : ℕ) → Once g → In g n after kind → holds kind x ≡ true
    → kind_of g x ≡ kind_in kind x
inner_kind _ n after kind x once (here {rest = rest}) h =
    unless (nat_eq n x) (Some kind) (cond (holds kind x) (kind_in kind x) (kind_of rest x)) (apart_own n x kind once.0 h)
    ∙ when (holds kind x) (kind_in kind x) (kind_of rest x) h
inner_kind _ n after kind x once (there {m = m} {other = other} {rest = rest} st) h =
    let there_x = held_has rest n after kind x st h in
    unless (nat_eq m x) (Some other) (cond (holds other x) (kind_in other x) (kind_of rest x)) (not_own m x other rest once.1 there_x)
    ∙ (unless (holds other x) (kind_in other x) (kind_of rest x) (not_held m x other rest once.1 there_x)
    ∙ inner_kind rest n after kind x once.3 st h)

pub in_once : (g : Graph) (n : ℕ) (after : List Need) (kind : Kind) → Once g → In g n after kind → OnceIn kind
in_once _ n after kind once here = once.2
in_once _ n after kind once (there {rest = rest} st) = in_once rest n after kind once.3 st

branch_once : (bs : Branches) (c : ℕ) (b : Graph) → OnceAny bs → branch_at bs c ≡ Some b → Once b
branch_once no_branch c b once e = cc
branch_once (branch a rest) c b once e = elim (two (is_one c)) [
  | inl t ↦ subst Once (some_is (sym (when (is_one c) (Some a) (branch_at rest (less_one c)) t) ∙ e)) once.1
  | inr f ↦ branch_once rest (less_one c) b once.2 (sym (unless (is_one c) (Some a) (branch_at rest (less_one c)) f) ∙ e)
]
  where
    some_is : {x y : Graph} → Some x ≡ Some y → x ≡ y
    some_is e = cc

branch_has : (bs : Branches) (c : ℕ) (b : Graph) (x : ℕ) → branch_at bs c ≡ Some b → has b x ≡ true → has_any bs x ≡ true
branch_has no_branch c b x e h = cc
branch_has (branch a rest) c b x e h = elim (two (is_one c)) [
  | inl t ↦ or_first (has a x) (has_any rest x)
      (subst (λ (q : Graph). has q x ≡ true) (sym (some_is (sym (when (is_one c) (Some a) (branch_at rest (less_one c)) t) ∙ e))) h)
  | inr f ↦ or_second (has a x) (has_any rest x)
      (branch_has rest (less_one c) b x (sym (unless (is_one c) (Some a) (branch_at rest (less_one c)) f) ∙ e) h)
]
  where
    some_is : {x y : Graph} → Some x ≡ Some y → x ≡ y
    some_is e = cc

branch_loops : (bs : Branches) (c : ℕ) (b : Graph) (x : ℕ) → OnceAny bs → branch_at bs c ≡ Some b → has b x ≡ true
    → loops_any bs x ≡ loops_of b x
branch_loops no_branch c b x once e h = cc
branch_loops (branch a rest) c b x once e h = elim (two (is_one c)) [
  | inl t ↦
      let same = some_is (sym (when (is_one c) (Some a) (branch_at rest (less_one c)) t) ∙ e) in
      when (has a x) (loops_of a x) (loops_any rest x) (subst (λ (q : Graph). has q x ≡ true) (sym same) h)
      ∙ ap (λ (q : Graph). loops_of q x) same
  | inr f ↦
      let later = sym (unless (is_one c) (Some a) (branch_at rest (less_one c)) f) ∙ e in
      unless (has a x) (loops_of a x) (loops_any rest x) (elim (two (has a x)) [
        | inl t ↦ absurd (true≢false (sym (branch_has rest (less_one c) b x later h) ∙ once.0 x t))
        | inr g ↦ g
      ]) ∙ branch_loops rest (less_one c) b x once.2 later h
]
  where
    some_is : {x y : Graph} → Some x ≡ Some y → x ≡ y
    some_is e = cc

branch_kind : (bs : Branches) (c : ℕ) (b : Graph) (x : ℕ) → OnceAny bs → branch_at bs c ≡ Some b → has b x ≡ true
    → kind_any bs x ≡ kind_of b x
branch_kind no_branch c b x once e h = cc
branch_kind (branch a rest) c b x once e h = elim (two (is_one c)) [
  | inl t ↦
      let same = some_is (sym (when (is_one c) (Some a) (branch_at rest (less_one c)) t) ∙ e) in
      when (has a x) (kind_of a x) (kind_any rest x) (subst (λ (q : Graph). has q x ≡ true) (sym same) h)
      ∙ ap (λ (q : Graph). kind_of q x) same
  | inr f ↦
      let later = sym (unless (is_one c) (Some a) (branch_at rest (less_one c)) f) ∙ e in
      unless (has a x) (kind_of a x) (kind_any rest x) (elim (two (has a x)) [
        | inl t ↦ absurd (true≢false (sym (branch_has rest (less_one c) b x later h) ∙ once.0 x t))
        | inr g ↦ g
      ]) ∙ branch_kind rest (less_one c) b x once.2 later h
]
  where
    some_is : {x y : Graph} → Some x ≡ Some y → x ≡ y
    some_is e = cc

-- ---- the loops round an open graph

module _ {Decision Verdict : Type 0} (d : Graph) (o : Table (Opening Decision Verdict)) where
  -- the action l is a loop, and it is open at these indexes
  pub record IsOpenLoop (l : ℕ) (at : List ℕ) : Type 0 where
    pub kind : Kind
    pub is : kind_of d l ≡ Some kind
    pub loop : IsLoop kind
    pub opening : Opening Decision Verdict
    pub stands : o (address l at) ≡ Some opening

  -- of these loops at these indexes each is open, where `at` are the indexes before
  abbrev pub AreOpen : List ℕ → List ℕ → (at : List ℕ) → Type 0
  AreOpen [] js at = Unit {0}
  AreOpen (l ∷ ls) [] at = Unit {0}
  AreOpen (l ∷ ls) (j ∷ js) at = IsOpenLoop l at × AreOpen ls js (at ++ j ∷ [])

  pub open_last : (ls js at : List ℕ) (n j : ℕ) → length js ≡ length ls → AreOpen ls js at → IsOpenLoop n (at ++ js)
      → AreOpen (ls ++ n ∷ []) (js ++ j ∷ []) at
  open_last [] [] at n j same are is = (subst (IsOpenLoop n) (append-nil at) is, tt)
  open_last [] (k ∷ js) at n j same are is = absurd (omega (arith, same))
  open_last (l ∷ ls) [] at n j same are is = absurd (omega (arith, same))
  open_last (l ∷ ls) (k ∷ js) at n j same are is = (
    are.0,
    open_last ls js (at ++ k ∷ []) n j (omega (arith, same)) are.1 (subst (IsOpenLoop n) (sym (append_assoc at (k ∷ []) js)) is),
  )

more : (i ls : List ℕ) (n j : ℕ) → length i ≡ length ls → length (i ++ j ∷ []) ≡ length (ls ++ n ∷ [])
more [] [] n j e = refl
more [] (l ∷ ls) n j e = absurd (omega (arith, e))
more (k ∷ i) [] n j e = absurd (omega (arith, e))
more (k ∷ i) (l ∷ ls) n j e = ap suc (more i ls n j (omega (arith, e)))

module _ {Decision Verdict : Type 0} (taken : Decision → ℕ) (d : Graph) (once : Once d) (o : Table (Opening Decision Verdict)) where
  -- these are the loops round the graph, which is open at these indexes
  pub record IsRoundOpen (g : Graph) (i : List ℕ) : Type 0 where
    pub own_once : Once g
    pub loops : List ℕ
    pub full : length i ≡ length loops
    pub each : (x : ℕ) → has g x ≡ true → loops_of d x ≡ loops ++ loops_of g x
    pub kinds : (x : ℕ) → has g x ≡ true → kind_of d x ≡ kind_of g x
    pub opened : AreOpen d o loops i []

  inside : (g h : Graph) (i : List ℕ) (n j : ℕ) → IsRoundOpen g i → IsOpenLoop d o n i → Once h
      → ((x : ℕ) → has h x ≡ true → (has g x ≡ true) × (loops_of g x ≡ n ∷ loops_of h x)
      × (kind_of g x ≡ kind_of h x)) → IsRoundOpen h (i ++ j ∷ [])
  inside g h i n j r at_n own held = record {
    own_once = own;
    loops = r.loops ++ n ∷ [];
    full = more i r.loops n j r.full;
    each = λ x hx. r.each x (held x hx).0 ∙ (ap (λ (ls : List ℕ). r.loops ++ ls) (held x hx).1 ∙ sym (append_assoc r.loops (n ∷ []) (loops_of h x)));
    kinds = λ x hx. r.kinds x (held x hx).0 ∙ (held x hx).2;
    opened = open_last d o r.loops i [] n j r.full r.opened at_n;
  }

  open_loop : (g : Graph) (i : List ℕ) (n : ℕ) (after : List Need) (kind : Kind) (w : Opening Decision Verdict) → IsRoundOpen g i
      → In g n after kind → IsLoop kind → o (address n i) ≡ Some w → IsOpenLoop d o n i
  open_loop g i n after kind w r st loop at_n = record {
    kind = kind;
    is = r.kinds n (in_has g n after kind st) ∙ own_kind g n after kind r.own_once st;
    loop = loop;
    opening = w;
    stands = at_n;
  }

  pub round_open : (g : Graph) (i : List ℕ) → IsOpen taken d o g i → IsRoundOpen g i
  round_open _ _ top = record { own_once = once; loops = []; full = refl; each = λ x h. refl; kinds = λ x h. refl; opened = tt }
  round_open _ i (scope {g = g} {h = h} {n = n} {after = after} og st e) =
      let r = round_open g i og in record {
        own_once = in_once g n after (Scope h) r.own_once st;
        loops = r.loops;
        full = r.full;
        each = λ x hx. r.each x (held_has g n after (Scope h) x st hx)
            ∙ ap (λ (ls : List ℕ). r.loops ++ ls) (inner_loops g n after (Scope h) x r.own_once st hx);
        kinds = λ x hx. r.kinds x (held_has g n after (Scope h) x st hx) ∙ inner_kind g n after (Scope h) x r.own_once st hx;
        opened = r.opened;
      }
  round_open _ i (chosen {g = g} {b = b} {n = n} {after = after} {bs = bs} {w = w} og st e took) =
      let r = round_open g i og in
      let own = in_once g n after (Choice bs) r.own_once st in record {
        own_once = branch_once bs (taken w.decision) b own took;
        loops = r.loops;
        full = r.full;
        each = λ x hx.
            let inner = branch_has bs (taken w.decision) b x took hx in
            r.each x (held_has g n after (Choice bs) x st inner)
            ∙ ap (λ (ls : List ℕ). r.loops ++ ls)
            (inner_loops g n after (Choice bs) x r.own_once st inner ∙ branch_loops bs (taken w.decision) b x own took hx);
        kinds = λ x hx.
            let inner = branch_has bs (taken w.decision) b x took hx in
            r.kinds x (held_has g n after (Choice bs) x st inner)
            ∙ (inner_kind g n after (Choice bs) x r.own_once st inner ∙ branch_kind bs (taken w.decision) b x own took hx);
        opened = r.opened;
      }
  round_open _ _ (turn {g = g} {h = h} {i = i} {n = n} {after = after} {pace = pace} {w = w} j og st e lt) =
      let r = round_open g i og in
      inside g h i n j r (open_loop g i n after (Foreach pace h) w r st tt e) (in_once g n after (Foreach pace h) r.own_once st)
      (λ x hx. (
        held_has g n after (Foreach pace h) x st hx,
        inner_loops g n after (Foreach pace h) x r.own_once st hx,
        inner_kind g n after (Foreach pace h) x r.own_once st hx,
      ))
  round_open _ _ (round {g = g} {h = h} {i = i} {n = n} {most = most} {after = after} {w = w} j og st e lt) =
      let r = round_open g i og in
      inside g h i n j r (open_loop g i n after (Until most h) w r st tt e) (in_once g n after (Until most h) r.own_once st)
      (λ x hx. (
        held_has g n after (Until most h) x st hx,
        inner_loops g n after (Until most h) x r.own_once st hx,
        inner_kind g n after (Until most h) x r.own_once st hx,
      ))

  -- So the loops round an action of it are open, and there is an index for each.
  pub loops_open : (g : Graph) (i : List ℕ) (n : ℕ) (after : List Need) (kind : Kind) → IsOpen taken d o g i → In g n after kind
      → (length i ≡ length (loops_of d n)) × AreOpen d o (loops_of d n) i []
  loops_open g i n after kind og st =
      let r = round_open g i og in
      let same = r.each n (in_has g n after kind st)
      ∙ (ap (λ (ls : List ℕ). r.loops ++ ls) (own_loops g n after kind r.own_once st) ∙ append-nil r.loops) in
      (r.full ∙ ap length (sym same), subst (λ (ls : List ℕ). AreOpen d o ls i []) (sym same) r.opened)

  pub kind_open : (g : Graph) (i : List ℕ) (n : ℕ) (after : List Need) (kind : Kind) → IsOpen taken d o g i → In g n after kind
      → kind_of d n ≡ Some kind
  kind_open g i n after kind og st =
      let r = round_open g i og in r.kinds n (in_has g n after kind st) ∙ own_kind g n after kind r.own_once st
