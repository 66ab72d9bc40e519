-- Where an action stands as seen from an open graph.
use Rattle.std.proofs.Common.{◌≡◌, ℕ, Bool, true, false, ◌||◌, List, [], ◌∷◌, ◌++◌, Option, Some, None, ◌⊎◌, inl, inr, ⊎_elim, refl, sym, ap, ◌∙◌, subst, nat_eq, eq-eqb, eqb-true, true≢false, length}
use Rattle.std.proofs.lemmas.Option.{none-some}
use Rattle.wf_layers.specs.Definition.{Need, Kind, Scope, Choice, Foreach, Until, Branches, no_branch, branch, Graph, done, add, is_one, less_one, branch_at, holds, has, shows, plain, plain_any, kind_in, kind_of, kind_any, IsBefore}
use Rattle.wf_layers.specs.Address.{address, Table, starts, SeenIn}
use Rattle.wf_layers.specs.Source.{Source, SoundAny, Sound}
use Rattle.wf_layers.specs.Rule.{Obeys}
use Rattle.wf_layers.proofs.Basics.{two, and_of, not_true, same_self, starts_self, when, unless, own_in, held_in}
use Rattle.wf_layers.specs.Machine.{Opening, In, here, there, IsOpen, top, scope, chosen, turn, round}
use Rattle.wf_layers.proofs.Tables.{held, later', shows_holds, any_plain, plain_has, holds_in, any_in, has_in, taken_has}
use Rattle.wf_layers.proofs.Places.{or_right, or_none, stands}
use Rattle.wf_layers.proofs.Open.{Sub, Placed, open_sub, placed_in}

-- WHERE AN ACTION STANDS AS SEEN FROM AN OPEN GRAPH

place_of_kind : (g : Graph) (n : ℕ) (kind : Kind) → kind_of g n ≡ Some kind
    → (a : ℕ) × (before : List Need) × (ka : Kind) × In g a before ka
    × (((a ≡ n) × (ka ≡ kind)) ⊎ ((holds ka n ≡ true) × (kind_in ka n ≡ Some kind)))
place_of_kind done n kind e = absurd (none-some kind e)
place_of_kind (add q after k rest) n kind e =
    ⊎_elim
    (λ t. let v : Some k ≡ Some kind = sym (when (nat_eq q n) (Some k) _ t) ∙ e in let is : k ≡ kind = cc in
    (q, after, k, here, inl (eqb-true q n t, is)))
    (λ u. let e' = sym (unless (nat_eq q n) (Some k) _ u) ∙ e in
    ⊎_elim
    (λ t. (q, after, k, here, inr (t, sym (when (holds k n) (kind_in k n) (kind_of rest n) t) ∙ e')))
    (λ t. let r = place_of_kind rest n kind (sym (unless (holds k n) (kind_in k n) (kind_of rest n) t) ∙ e') in
    (r.0, r.1, r.2, there r.3, r.4))
    (two (holds k n)))
    (two (nat_eq q n))

module _ {Row Begun Decision Verdict : Type 0} (m : Source Row Begun Decision Verdict) (d : Graph) (so : Sound m (SeenIn d) d 0)
    (f : Table Row) (sol : Obeys m d f) where
  no_plain : (g : Graph) (q : ℕ) → has g q ≡ false → plain g q ≡ false
  no_plain g q h = not_true (plain g q) (λ e. true≢false (sym (plain_has g q e) ∙ h))

  -- what is inside an action of the graph is in no loop of the graph where it is in none of the action
  plain_inner : (l : ℕ) (g : Graph) (c : ℕ) (after : List Need) (kc : Kind) → Sound m (SeenIn d) g l → In g c after kc → (q : ℕ)
      → holds kc q ≡ true → plain g q ≡ shows kc q
  plain_inner l _ c after kc s (here {rest = rest}) q h =
      let nq = not_true (nat_eq c q) (λ t. true≢false (sym h ∙ ap (λ x. holds kc x) (sym (eqb-true c q t)) ∙ s.1)) in
      let nr = no_plain rest q (s.2 q (or_right m (IsBefore d) (SeenIn d) (nat_eq c q) (holds kc q) h)) in
      ap (λ x. x || shows kc q || plain rest q) nq ∙ ap (λ x. shows kc q || x) nr ∙ or_false (shows kc q)
    where
      or_false : (p : Bool) → (p || false) ≡ p
      or_false true = refl
      or_false false = refl
  plain_inner l _ c after kc s (there {m = a} {before = before} {other = other} {rest = rest} st) q h =
      let inr' = (stands m (IsBefore d) (SeenIn d) l rest c after kc s.4 st).inner_has q h in
      let no = or_none m (IsBefore d) (SeenIn d) (nat_eq a q) (holds other q)
      (not_true (nat_eq a q || holds other q) (λ t. true≢false (sym inr' ∙ s.2 q t))) in
      let ns = not_true (shows other q) (λ t. true≢false (sym (shows_holds other q t) ∙ no.1)) in
      ap (λ x. x || shows other q || plain rest q) no.0 ∙ ap (λ x. x || plain rest q) ns ∙ plain_inner l rest c after kc s.4 st q h

  taken_plain : (bs : Branches) (l c : ℕ) (b : Graph) → SoundAny m (SeenIn d) bs l → branch_at bs c ≡ Some b → (q : ℕ) → has b q ≡ true
      → plain_any bs q ≡ plain b q
  taken_plain no_branch l c b s e q h = absurd (none-some b e)
  taken_plain (branch a rest) l c b s e q h =
      ⊎_elim
      (λ t. let v : Some a ≡ Some b = sym (when (is_one c) (Some a) _ t) ∙ e in let is : a ≡ b = cc in
      let nr = not_true (plain_any rest q) (λ z. true≢false (sym (any_plain rest q z) ∙ s.0 q (subst (λ g. has g q ≡ true) (sym is) h))) in
      ap (λ x. plain a q || x) nr ∙ or_false (plain a q) ∙ ap (λ g. plain g q) is)
      (λ u. let e' = sym (unless (is_one c) (Some a) _ u) ∙ e in
      let na = not_true (plain a q) (λ z. true≢false (sym (taken_has b rest (less_one c) e' q h) ∙ s.0 q (plain_has a q z))) in
      ap (λ x. x || plain_any rest q) na ∙ taken_plain rest l (less_one c) b s.2 e' q h)
      (two (is_one c))
    where
      or_false : (p : Bool) → (p || false) ≡ p
      or_false true = refl
      or_false false = refl

  -- what is inside an action of another branch isn't in the taken one
  taken_not : (bs : Branches) (l c : ℕ) (b : Graph) → SoundAny m (SeenIn d) bs l → branch_at bs c ≡ Some b → (n : ℕ) (kind : Kind)
      → kind_any bs n ≡ Some kind → has b n ≡ false → (q : ℕ) → has b q ≡ true → holds kind q ≡ false
  taken_not no_branch l c b s e n kind k nb q h = absurd (none-some b e)
  taken_not (branch a rest) l c b s e n kind k nb q h =
      not_true (holds kind q) (λ z.
      ⊎_elim
      (λ t. let v : Some a ≡ Some b = sym (when (is_one c) (Some a) _ t) ∙ e in let is : a ≡ b = cc in
      let na = subst (λ g. has g n ≡ false) (sym is) nb in
      let k' = sym (unless (has a n) (kind_of a n) (kind_any rest n) na) ∙ k in
      true≢false (sym (any_in rest n q kind k' z) ∙ s.0 q (subst (λ g. has g q ≡ true) (sym is) h)))
      (λ u. let e' = sym (unless (is_one c) (Some a) _ u) ∙ e in
      ⊎_elim
      (λ ha. true≢false (sym (taken_has b rest (less_one c) e' q h)
      ∙ s.0 q (has_in a n q kind (sym (when (has a n) (kind_of a n) (kind_any rest n) ha) ∙ k) z)))
      (λ na. true≢false (sym z
      ∙ taken_not rest l (less_one c) b s.2 e' n kind (sym (unless (has a n) (kind_of a n) (kind_any rest n) na) ∙ k) nb q h))
      (two (has a n)))
      (two (is_one c)))

  -- all of the graph is inside the action: in no loop of it, and then it is open; or in a loop
  abbrev AllIn : Table (Opening Decision Verdict) → Graph → List ℕ → ℕ → Kind → Type 0
  AllIn o g i n kind =
      ((q : ℕ) → has g q ≡ true → holds kind q ≡ true)
      × ((((q : ℕ) → has g q ≡ true → shows kind q ≡ plain g q) × (o (address n i) ≡ None → ⊥))
      ⊎ ((q : ℕ) → has g q ≡ true → shows kind q ≡ false))

  abbrev Position : Table (Opening Decision Verdict) → Graph → List ℕ → ℕ → Kind → Type 0
  Position o g i n kind = (has g n ≡ true) ⊎ (AllIn o g i n kind ⊎ ((q : ℕ) → has g q ≡ true → holds kind q ≡ false))

  -- from a graph to the graph h in its action c
  into_action : (o : Table (Opening Decision Verdict)) (g h : Graph) (i j : List ℕ) (c : ℕ) (after : List Need) (kc : Kind) (n : ℕ)
      (kind : Kind) → Sub m d so f sol (length i) g → In g c after kc → kind_of d n ≡ Some kind
      → ((q : ℕ) → has h q ≡ true → holds kc q ≡ true)
      → AllIn o h j c kc
      → (holds kc n ≡ true → kind_in kc n ≡ Some kind → Position o h j n kind)
      → ((((q : ℕ) → has h q ≡ true → shows kc q ≡ plain h q) × (i ≡ j)) ⊎ ((q : ℕ) → has h q ≡ true → shows kc q ≡ false))
      → Position o g i n kind → Position o h j n kind
  into_action o g h i j c after kc n kind sub st k inner own deeper showing (inl hg) =
      let r = place_of_kind g n kind (sym (sub.kinds n hg) ∙ k) in
      let pl = placed_in m d so f sol (length i) g c after kc sub st in
      let pr = placed_in m d so f sol (length i) g r.0 r.1 r.2 sub r.3 in
      ⊎_elim
      (λ t. let same = eqb-true r.0 c t in
      let v : Some r.2 ≡ Some kc = sym pr.own_kind ∙ ap (λ x. kind_of g x) same ∙ pl.own_kind in let is : r.2 ≡ kc = cc in
      ⊎_elim
      (λ z. inr (inl (subst (λ x. AllIn o h j x kind) (sym same ∙ z.0) (subst (λ x. AllIn o h j c x) (sym is ∙ z.1) own))))
      (λ z. deeper (subst (λ x. holds x n ≡ true) is z.0) (subst (λ x. kind_in x n ≡ Some kind) is z.1))
      r.4)
      (λ u. inr (inr (λ q hq. not_true (holds kind q) (λ z.
      let in_r : holds r.2 q ≡ true = ⊎_elim (λ y. subst (λ x. holds x q ≡ true) (sym y.1) z) (λ y. holds_in r.2 n q kind y.1 z) r.4 in
      let o1 = pr.owned i (address q i) (held_in r.0 r.2 i (address q i) (and_of (holds r.2 q) (starts i i) in_r (starts_self i))) in
      let o2 = pl.owned i (address q i) (held_in c kc i (address q i) (and_of (holds kc q) (starts i i) (inner q hq) (starts_self i))) in
      let v : Some r.0 ≡ Some c = sym o1 ∙ o2 in let is : r.0 ≡ c = cc in
      true≢false (sym (eq-eqb r.0 c is) ∙ u)))))
      (two (nat_eq r.0 c))
  into_action o g h i j c after kc n kind sub st k inner own deeper showing (inr (inl all)) =
      let pl = placed_in m d so f sol (length i) g c after kc sub st in
      inr (inl (
        (λ q hq. all.0 q (pl.inner_has q (inner q hq))),
        ⊎_elim
            (λ y. ⊎_elim
            (λ z. inl (
              (λ q hq. y.0 q (pl.inner_has q (inner q hq)) ∙ plain_inner (length i) g c after kc sub.sound st q (inner q hq)
                  ∙ z.0 q hq),
              subst (λ x. o (address n x) ≡ None → ⊥) z.1 y.1,
            ))
            (λ z. inr (λ q hq. y.0 q (pl.inner_has q (inner q hq)) ∙ plain_inner (length i) g c after kc sub.sound st q (inner q hq)
            ∙ z q hq))
            showing)
            (λ y. inr (λ q hq. y q (pl.inner_has q (inner q hq))))
            all.1,
      ))
  into_action o g h i j c after kc n kind sub st k inner own deeper showing (inr (inr out)) =
      let pl = placed_in m d so f sol (length i) g c after kc sub st in inr (inr (λ q hq. out q (pl.inner_has q (inner q hq))))

  not_none : {A : Type 0} (o : Option A) (w : A) → o ≡ Some w → o ≡ None → ⊥
  not_none o w e h = none-some w (sym h ∙ e)

  position : (o : Table (Opening Decision Verdict)) (g : Graph) (i : List ℕ) → IsOpen m.taken d o g i → (n : ℕ) (kind : Kind)
      → kind_of d n ≡ Some kind → Position o g i n kind
  position o _ _ top = λ n kind k. inl (known d n kind k)
    where
      known : (g : Graph) (n : ℕ) (kind : Kind) → kind_of g n ≡ Some kind → has g n ≡ true
      known g n kind k =
          let r = place_of_kind g n kind k in
          ⊎_elim (λ z. subst (λ x. has g x ≡ true) z.0 (in_has' g r.0 r.1 r.2 r.3).0) (λ z. (in_has' g r.0 r.1 r.2 r.3).1 n z.0) r.4
        where
          in_has' : (w : Graph) (c : ℕ) (before : List Need) (kind : Kind) → In w c before kind
              → (has w c ≡ true) × ((q : ℕ) → holds kind q ≡ true → has w q ≡ true)
          in_has' _ c before kind (here {rest = rest}) =
              (ap (λ x. x || holds kind c || has rest c) (same_self c), λ q h. held c kind rest q h)
          in_has' _ c before kind (there {m = a} {other = other} {rest = rest} st) =
              let r = in_has' rest c before kind st in (later' a other rest c r.0, λ q h. later' a other rest q (r.1 q h))
  position o _ i (scope {g = g} {h = h} {n = c} {after = after} {w = w} og st e) = λ n kind k.
      into_action o g h i i c after (Scope h) n kind (open_sub m d so f sol o g i og) st k (λ q hq. hq)
      (λ q hq. hq, inl (λ q hq. refl, not_none (o (address c i)) w e))
      (λ hn kn. inl hn)
      (inl (λ q hq. refl, refl))
      (position o g i og n kind k)
  position o _ i (chosen {g = g} {b = b} {n = c} {after = after} {bs = bs} {w = w} og st e is) = λ n kind k.
      let sub = open_sub m d so f sol o g i og in let pl = placed_in m d so f sol (length i) g c after (Choice bs) sub st in
      let t = m.taken w.decision in
      into_action o g b i i c after (Choice bs) n kind sub st k (λ q hq. taken_has b bs t is q hq)
      ((λ q hq. taken_has b bs t is q hq), inl ((λ q hq. taken_plain bs (length i) t b pl.sound.2 is q hq), not_none (o (address c i)) w e))
      (λ hn kn. ⊎_elim (λ hb. inl hb) (λ nb. inr (inr (taken_not bs (length i) t b pl.sound.2 is n kind kn nb))) (two (has b n)))
      (inl ((λ q hq. taken_plain bs (length i) t b pl.sound.2 is q hq), refl))
      (position o g i og n kind k)
  position o _ _ (turn {g = g} {h = h} {i = i} {n = c} {after = after} {pace = pace} {w = w} j og st e lt) = λ n kind k.
      into_action o g h i (i ++ j ∷ []) c after (Foreach pace h) n kind (open_sub m d so f sol o g i og) st k (λ q hq. hq)
      (λ q hq. hq, inr (λ q hq. refl)) (λ hn kn. inl hn) (inr (λ q hq. refl)) (position o g i og n kind k)
  position o _ _ (round {g = g} {h = h} {i = i} {n = c} {most = most} {after = after} {w = w} j og st e lt) = λ n kind k.
      into_action o g h i (i ++ j ∷ []) c after (Until most h) n kind (open_sub m d so f sol o g i og) st k (λ q hq. hq)
      (λ q hq. hq, inr (λ q hq. refl)) (λ hn kn. inl hn) (inr (λ q hq. refl)) (position o g i og n kind k)

  -- an action that isn't open has no open graph inside it, at its own indexes
  pub not_under : (o : Table (Opening Decision Verdict)) (g : Graph) (i : List ℕ) (q : ℕ) (before : List Need) (kq : Kind)
      → IsOpen m.taken d o g i → In g q before kq → (n : ℕ) (kind : Kind) → kind_of d n ≡ Some kind → shows kind q ≡ true
      → o (address n i) ≡ None → ⊥
  not_under o g i q before kq og st n kind k sh none =
      ⊎_elim
      (λ hg. own_not_inside hg)
      (λ r. ⊎_elim
      (λ all. ⊎_elim (λ y. y.1 none) (λ y. true≢false (sym sh ∙ y q pq.own_has)) all.1)
      (λ out. true≢false (sym (shows_holds kind q sh) ∙ out q pq.own_has))
      r)
      (position o g i og n kind k)
    where
      sub : Sub m d so f sol (length i) g
      sub = open_sub m d so f sol o g i og

      pq : Placed m d so f sol (length i) g q before kq
      pq = placed_in m d so f sol (length i) g q before kq sub st

      own_not_inside : has g n ≡ true → ⊥
      own_not_inside hg =
          let r = place_of_kind g n kind (sym (sub.kinds n hg) ∙ k) in
          let pr = placed_in m d so f sol (length i) g r.0 r.1 r.2 sub r.3 in
          let hq = shows_holds kind q sh in
          let in_r : holds r.2 q ≡ true = ⊎_elim (λ y. subst (λ x. holds x q ≡ true) (sym y.1) hq)
          (λ y. holds_in r.2 n q kind y.1 hq) r.4 in
          let o1 = pr.owned i (address q i) (held_in r.0 r.2 i (address q i) (and_of (holds r.2 q) (starts i i) in_r (starts_self i))) in
          let o2 = pq.owned i (address q i) (own_in q kq i) in
          let v : Some r.0 ≡ Some q = sym o1 ∙ o2 in let is : r.0 ≡ q = cc in
          true≢false (sym in_r ∙ ap (λ x. holds r.2 x) (sym is) ∙ pr.apart_own)
