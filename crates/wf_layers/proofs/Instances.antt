-- Rows stand at instances: each has one index for every loop round its action.
use Rattle.std.proofs.Common.{◌≡◌, ℕ, ◌+◌, true, false, ◌||◌, List, [], Some, None, ⊎_elim, refl, sym, ap, ◌∙◌, subst, arith, nat_eq, eqb-true, true≢false, length}
use Rattle.std.proofs.lemmas.Option.{none-some}
use Rattle.wf_layers.specs.Definition.{Need, Kind, Leaf, Scope, Choice, Foreach, Until, Branches, no_branch, branch, Graph, done, add, less_one, branch_at, holds, has, shows, plain, plain_any, IsBefore, IsDepth}
use Rattle.wf_layers.specs.Address.{Address, Table, SeenIn, is_within}
use Rattle.wf_layers.specs.Source.{Source, SoundIn, SoundAny, Sound}
use Rattle.wf_layers.specs.Meaning.{meaning, deepest}
use Rattle.wf_layers.specs.Rule.{Obeys}
use Rattle.wf_layers.specs.Machine.{Opening, In, here, there, IsOpen, top, scope, chosen, turn, round}
use Rattle.wf_layers.specs.Called.{entries, IsCalled, runs, in_skipped, not_taken}
use Rattle.wf_layers.specs.Instances.{loop_count_in, loop_count_any, loop_count}
use Rattle.wf_layers.specs.Laws.{IsFresh, RowsStandAtInstances}
use Rattle.wf_layers.proofs.Basics.{two, and_in, not_true, or_first, same_self, when, unless, longer}
use Rattle.wf_layers.proofs.Tables.{taken_has, shows_holds, any_plain, plain_has}
use Rattle.wf_layers.proofs.Places.{first_or, or_right, stands}
use Rattle.wf_layers.proofs.Layers.{out_layers}
use Rattle.wf_layers.proofs.Open.{open_sub, placed_in}
use Rattle.wf_layers.proofs.Meaning.{meaning_solves}
use Rattle.wf_layers.proofs.Called.{row_called}
use Rattle.wf_layers.proofs.Changes.{or_false}

-- where an action doesn't stand, no loop is round it
no_count : (g : Graph) (q : ℕ) → has g q ≡ false → loop_count g q ≡ 0
no_count done q e = refl
no_count (add n after kind rest) q e =
    let h = or_false (nat_eq n q || holds kind q) (has rest q) e in
    unless (holds kind q) (loop_count_in kind q) (loop_count rest q) (or_false (nat_eq n q) (holds kind q) h.0).1 ∙ no_count rest q h.1

module _ {Row Begun Decision Verdict : Type 0} (m : Source Row Begun Decision Verdict) (low : ℕ → ℕ → Type 0)
    (Sees : Address → Address → Type 0) where
  -- what stands in the rest of a graph doesn't stand in its first action
  apart_held : (l n : ℕ) (after : List Need) (kind : Kind) (rest : Graph) → Sound m Sees (add n after kind rest) l → (q : ℕ)
      → has rest q ≡ true → holds kind q ≡ false
  apart_held l n after kind rest so q h =
      not_true (holds kind q) (λ t. true≢false (sym h ∙ so.2 q (or_right m low Sees (nat_eq n q) (holds kind q) t)))

  -- an action is in no loop of its own graph
  own_count : (l : ℕ) (g : Graph) (n : ℕ) (after : List Need) (kind : Kind) → Sound m Sees g l → In g n after kind → loop_count g n ≡ 0
  own_count l _ n after kind so (here {rest = rest}) =
      unless (holds kind n) (loop_count_in kind n) (loop_count rest n) so.1
      ∙ no_count rest n (so.2 n (or_first (nat_eq n n) (holds kind n) (same_self n)))
  own_count l _ n after kind so (there {m = q} {before = before} {other = other} {rest = rest} st) =
      unless (holds other n) (loop_count_in other n) (loop_count rest n)
      (apart_held l q before other rest so n (stands m low Sees l rest n after kind so.4 st).own_has)
      ∙ own_count l rest n after kind so.4 st

  -- what is inside an action is in the loops that are round it there
  inner_count : (l : ℕ) (g : Graph) (n : ℕ) (after : List Need) (kind : Kind) → Sound m Sees g l → In g n after kind → (q : ℕ)
      → holds kind q ≡ true → loop_count g q ≡ loop_count_in kind q
  inner_count l _ n after kind so (here {rest = rest}) q h = when (holds kind q) (loop_count_in kind q) (loop_count rest q) h
  inner_count l _ n after kind so (there {m = p} {before = before} {other = other} {rest = rest} st) q h =
      unless (holds other q) (loop_count_in other q) (loop_count rest q)
      (apart_held l p before other rest so q ((stands m low Sees l rest n after kind so.4 st).inner_has q h))
      ∙ inner_count l rest n after kind so.4 st q h

  taken_count : (bs : Branches) (l c : ℕ) (b : Graph) → SoundAny m Sees bs l → branch_at bs c ≡ Some b → (q : ℕ) → has b q ≡ true
      → loop_count_any bs q ≡ loop_count b q
  taken_count no_branch l c b so e q h = absurd (none-some b e)
  taken_count (branch a rest) l c b so e q h =
      ⊎_elim
      (λ r. let ha = subst (λ g. has g q ≡ true) (sym r.1) h in
      when (has a q) (loop_count a q) (loop_count_any rest q) ha ∙ ap (λ g. loop_count g q) r.1)
      (λ r. unless (has a q) (loop_count a q) (loop_count_any rest q)
      (not_true (has a q) (λ t. true≢false (sym (taken_has b rest (less_one c) r.1 q h) ∙ so.0 q t)))
      ∙ taken_count rest l (less_one c) b so.2 r.1 q h)
      (first_or m low Sees a b rest c e)

  -- what a container shows is in no loop of it
  mutual
    shows_count : (kind : Kind) (n l : ℕ) → SoundIn m Sees kind n l → (q : ℕ) → shows kind q ≡ true → loop_count_in kind q ≡ 0
    shows_count Leaf n l so q e = refl
    shows_count (Scope g) n l so q e = plain_count g l so.2 q e
    shows_count (Choice bs) n l so q e = any_count bs l so.2 q e
    shows_count (Foreach pace g) n l so q e = absurd (true≢false (sym e))
    shows_count (Until most g) n l so q e = absurd (true≢false (sym e))

    any_count : (bs : Branches) (l : ℕ) → SoundAny m Sees bs l → (q : ℕ) → plain_any bs q ≡ true → loop_count_any bs q ≡ 0
    any_count no_branch l so q e = refl
    any_count (branch b rest) l so q e =
        ⊎_elim
        (λ t. when (has b q) (loop_count b q) (loop_count_any rest q) (plain_has b q t) ∙ plain_count b l so.1 q t)
        (λ u. let e' = sym (ap (λ x. x || plain_any rest q) u) ∙ e in
        unless (has b q) (loop_count b q) (loop_count_any rest q)
        (not_true (has b q) (λ t. true≢false (sym (any_plain rest q e') ∙ so.0 q t)))
        ∙ any_count rest l so.2 q e')
        (two (plain b q))

    plain_count : (g : Graph) (l : ℕ) → Sound m Sees g l → (q : ℕ) → plain g q ≡ true → loop_count g q ≡ 0
    plain_count done l so q e = refl
    plain_count (add n after kind rest) l so q e =
        ⊎_elim
        (λ t. when (holds kind q) (loop_count_in kind q) (loop_count rest q) (shows_holds kind q t) ∙ shows_count kind n l so.3 q t)
        (λ no_show. ⊎_elim
        (λ own. let at = eqb-true n q own in
        unless (holds kind q) (loop_count_in kind q) (loop_count rest q) (subst (λ x. holds kind x ≡ false) at so.1)
        ∙ no_count rest q (so.2 q (or_first (nat_eq n q) (holds kind q) own)))
        (λ other. let in_rest : plain rest q ≡ true =
        sym (ap (λ x. x || plain rest q) (ap (λ x. x || shows kind q) other ∙ no_show)) ∙ e in
        unless (holds kind q) (loop_count_in kind q) (loop_count rest q) (apart_held l n after kind rest so q (plain_has rest q in_rest))
        ∙ plain_count rest l so.4 q in_rest)
        (two (nat_eq n q)))
        (two (shows kind q))

module _ {Row Begun Decision Verdict : Type 0} (m : Source Row Begun Decision Verdict) (d : Graph) (so : Sound m (SeenIn d) d 0)
    (f : Table Row) (sol : Obeys m d f) where
  -- an open graph has one index for each loop round it
  open_count : (o : Table (Opening Decision Verdict)) (g : Graph) (i : List ℕ) → IsOpen m.taken d o g i → (q : ℕ) → has g q ≡ true
      → loop_count d q ≡ length i + loop_count g q
  open_count o _ _ top q h = omega arith
  open_count o _ i (scope {g = g} {h = h} {n = n} {after = after} og st e) q has_q =
      let sub = open_sub m d so f sol o g i og in let pl = placed_in m d so f sol (length i) g n after (Scope h) sub st in
      let outer = open_count o g i og q (pl.inner_has q has_q) in
      let inner = inner_count m (IsBefore d) (SeenIn d) (length i) g n after (Scope h) sub.sound st q has_q in omega (arith, outer, inner)
  open_count o _ i (chosen {g = g} {b = b} {n = n} {after = after} {bs = bs} {w = w} og st e is) q has_q =
      let sub = open_sub m d so f sol o g i og in let pl = placed_in m d so f sol (length i) g n after (Choice bs) sub st in
      let held = taken_has b bs (m.taken w.decision) is q has_q in
      let outer = open_count o g i og q (pl.inner_has q held) in
      let inner = inner_count m (IsBefore d) (SeenIn d) (length i) g n after (Choice bs) sub.sound st q held in
      let taken = taken_count m (IsBefore d) (SeenIn d) bs (length i) (m.taken w.decision) b pl.sound.2 is q has_q in
      omega (arith, outer, inner, taken)
  open_count o _ _ (turn {g = g} {h = h} {i = i} {n = n} {after = after} {pace = pace} j og st e lt) q has_q =
      let sub = open_sub m d so f sol o g i og in let pl = placed_in m d so f sol (length i) g n after (Foreach pace h) sub st in
      let outer = open_count o g i og q (pl.inner_has q has_q) in
      let inner = inner_count m (IsBefore d) (SeenIn d) (length i) g n after (Foreach pace h) sub.sound st q has_q in
      omega (arith, outer, inner, longer i j (length i) refl)
  open_count o _ _ (round {g = g} {h = h} {i = i} {n = n} {most = most} {after = after} j og st e lt) q has_q =
      let sub = open_sub m d so f sol o g i og in let pl = placed_in m d so f sol (length i) g n after (Until most h) sub st in
      let outer = open_count o g i og q (pl.inner_has q has_q) in
      let inner = inner_count m (IsBefore d) (SeenIn d) (length i) g n after (Until most h) sub.sound st q has_q in
      omega (arith, outer, inner, longer i j (length i) refl)

  -- what is called for stands at an instance
  called_count : (x : Address) → IsCalled m d f x → loop_count d x.name ≡ length x.at
  called_count _ (runs {g = g} {i = i} {n = n} {after = after} {kind = kind} og st) =
      let sub = open_sub m d so f sol (entries m d f) g i og in let pl = placed_in m d so f sol (length i) g n after kind sub st in
      let outer = open_count (entries m d f) g i og n pl.own_has in
      let own = own_count m (IsBefore d) (SeenIn d) (length i) g n after kind sub.sound st in omega (arith, outer, own)
  called_count _ (in_skipped {g = g} {i = i} {n = n} {after = after} {kind = kind} q og st fails shown) =
      let sub = open_sub m d so f sol (entries m d f) g i og in let pl = placed_in m d so f sol (length i) g n after kind sub st in
      let held = shows_holds kind q shown in
      let outer = open_count (entries m d f) g i og q (pl.inner_has q held) in
      let inner = inner_count m (IsBefore d) (SeenIn d) (length i) g n after kind sub.sound st q held in
      let none = shows_count m (IsBefore d) (SeenIn d) kind n (length i) pl.sound q shown in omega (arith, outer, inner, none)
  called_count _ (not_taken {g = g} {i = i} {n = n} {after = after} {bs = bs} q og st pass other shown) =
      let sub = open_sub m d so f sol (entries m d f) g i og in let pl = placed_in m d so f sol (length i) g n after (Choice bs) sub st in
      let held = any_plain bs q shown in
      let outer = open_count (entries m d f) g i og q (pl.inner_has q held) in
      let inner = inner_count m (IsBefore d) (SeenIn d) (length i) g n after (Choice bs) sub.sound st q held in
      let none = any_count m (IsBefore d) (SeenIn d) bs (length i) pl.sound.2 q shown in omega (arith, outer, inner, none)

pub rows_at_instances : {Row Begun Decision Verdict : Type 0} (d : Graph) (m : Source Row Begun Decision Verdict) (depth : ℕ → ℕ)
    → IsDepth d depth → Sound m (SeenIn d) d 0 → IsFresh m → RowsStandAtInstances d m depth
rows_at_instances {Row} d m depth falls local own x r e =
    ⊎_elim
    (λ w. (
      (and_in (has d x.name) true w).0,
      called_count m d local f sol x (row_called m d local f sol own x r w e),
    ))
    (λ u. absurd (none-some r (sym (out_layers m depth d [] (deepest depth d) (λ y. None) x u) ∙ e)))
    (two (is_within d [] x))
  where
    f : Table Row
    f = meaning m depth d

    sol : Obeys m d f
    sol = meaning_solves m depth d falls local
