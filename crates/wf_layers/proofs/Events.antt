-- Each kind of event keeps what a state keeps.
use Rattle.std.proofs.Common.{◌≡◌, ℕ, zero, suc, ◌+◌, ◌<◌, ◌≤◌, Bool, true, false, ◌&&◌, ◌||◌, cond, List, [], ◌∷◌, ◌++◌, Option, Some, None, ◌⊎◌, inl, inr, ⊎_elim, refl, sym, ap, ◌∙◌, subst, arith, nat_eq, eqb-true, true≢false, length}
use Rattle.std.proofs.lemmas.Bool.{eqb-false}
use Rattle.std.proofs.lemmas.Option.{none-some}
use Rattle.wf_layers.specs.Definition.{Need, InTurn, AtMost, Kind, Leaf, Scope, Choice, Foreach, Until, Graph, done, add, holds, has, has_any, shows, plain, needs_of, kind_of, kind_any, IsBefore}
use Rattle.wf_layers.specs.Address.{Address, address, Table, same_at, starts, is_own, is_in, is_within, is_among, SeenIn}
use Rattle.wf_layers.specs.Source.{Source, gate, leaf, Sound}
use Rattle.wf_layers.specs.Meaning.{only, sides, rounds, last, skip}
use Rattle.wf_layers.specs.Rule.{look_in, look_any, look, Obeys}
use Rattle.wf_layers.proofs.Basics.{two, and_in, and_of, fork, not_true, same_self, same_self_at, when, unless, own_in, held_in, beside_not, some_turn, sides_out}
use Rattle.wf_layers.specs.Machine.{Running, Opening, State, fresh, In, here, there, IsOpen, top, scope, chosen, turn, round, has_ended, is_ended, all_ended, or_else, place, one, without, opened, Event, Start, Try, End, Skip, Open, Begin, Test, Close, IsContainer, in_others, skip_others, passed_over, MayBegin, MayTest, MayClose, closing, Step, Run}
use Rattle.wf_layers.proofs.Tables.{same_at_is, same_starts, own_self, Within, one_is, place_split, place_agrees, place_fills, nothing, either_or, or_true, skip_in, shows_holds, inner_name}
use Rattle.wf_layers.proofs.Places.{within_of, or_right, or_none}
use Rattle.wf_layers.specs.Facts.{Settled, OpenFact}
use Rattle.wf_layers.proofs.Open.{OpenFacts, Placed, Sub, placed_in, open_sub, Passes, kind_there, fact_of, obey_in, inner_rule, follows}
use Rattle.wf_layers.proofs.Keeps.{is_special, SpecialOut, Held, Keeps, IsClosed, decided_sees, decided_own, decided_gate, pass_keeps, drop_keeps, less_open, more_open, put_keeps}
use Rattle.wf_layers.proofs.Others.{others_among, look_others, some_others, others_or, others_sees, others_inner}

module _ {Row Begun Decision Verdict : Type 0} (m : Source Row Begun Decision Verdict) (d : Graph) (so : Sound m (SeenIn d) d 0)
    (f : Table Row) (sol : Obeys m d f) where
  module _ (closed : (IsClosed m d so f sol)) where
    -- a decided action is asked for its gate
    plain_decided : (s : State Row Begun Decision Verdict) → (Keeps m d so f sol) s
        → (g : Graph) (i : List ℕ) (n : ℕ) (after : List Need) (kind : Kind) → IsOpen m.taken d s.opens g i → In g n after kind
        → s.rows (address n i) ≡ None → s.opens (address n i) ≡ None → (is_special m d so f sol) n ≡ false
    plain_decided s k g i n after kind og st e h = not_true ((is_special m d so f sol) n) (λ t. k.special g i n after kind og st t e h)

    passing : (n : ℕ) (after : List Need) (i : List ℕ) → (is_special m d so f sol) n ≡ false → gate m after n i f ≡ true
        → (Passes m d so f sol) n after i
    passing n after i sn pass =
        record {
          free = (or_none m (IsBefore d) (SeenIn d) (m.pinned n) (m.reclosed n) sn).0;
          passes =
              or_right m (IsBefore d) (SeenIn d) (m.reclosed n) (gate m after n i f) pass;
        }

    start_keeps : (s : State Row Begun Decision Verdict) → (Keeps m d so f sol) s → (g : Graph) (i : List ℕ) (n : ℕ) (after : List Need)
        → IsOpen m.taken d s.opens g i → In g n after Leaf → (is_special m d so f sol) n ≡ false → all_ended after i s.rows ≡ true
        → gate m after n i s.rows ≡ true
        → (Keeps m d so f sol)
        (record {
          rows = s.rows;
          running = place (one n i (record { begun = m.start (address n i) s.rows; tries = 0 })) s.running;
          opens =
              s.opens;
        })
    start_keeps s k g i n after og st sn e pass = record {
      placed = k.placed;
      held =
          λ x w h. ⊎_elim (λ q. let is = one_is n i v x w q in
          subst (λ (z : Address). (Held m d so f sol) z w) is.0 (subst (λ z. (Held m d so f sol) (address n i) z) is.1 holds_it))
          (λ q. k.held x w q) (place_split (one n i v) s.running x w h);
      behind = k.behind;
      subtree = k.subtree;
      run_behind =
          λ x w h y see. ⊎_elim (λ q. sees y (subst (λ (z : Address). SeenIn d z y) (sym (one_is n i v x w q).0) see))
          (λ q. k.run_behind x w q y see) (place_split (one n i v) s.running x w h);
      run_rest =
          λ q j w kind h is. ⊎_elim (λ t. subst (λ (x : Address). RestAt x) (one_is n i v (address q j) w t).0 base kind is)
          (λ t. k.run_rest q j w kind t is) (place_split (one n i v) s.running (address q j) w h);
      open_behind = k.open_behind;
      facts = k.facts;
      special = k.special;
    }
      where
        v : Running Begun
        v = record { begun = m.start (address n i) s.rows; tries = 0 }

        pl : (Placed m d so f sol) (length i) g n after Leaf
        pl = (placed_in m d so f sol) (length i) g n after Leaf ((open_sub m d so f sol) s.opens g i og) st

        sees : (y : Address) → SeenIn d (address n i) y → s.rows y ≡ f y
        sees y see = (decided_own m d so f sol) closed s k g i n after Leaf og st e y see

        ruled : (y : Address) → is_in n Leaf i y ≡ true → f y ≡ only (is_own n i y) (Some (leaf m (address n i) f))
        ruled y t =
            (obey_in m d so f sol) g i n after Leaf pl ((follows m d so f sol) s.rows s.opens k.facts g i og)
            (passing n after i sn (sym ((decided_gate m d so f sol) closed s k g i n after Leaf og st e) ∙ pass)) y t

        val : f (address n i) ≡ Some (leaf m (address n i) f)
        val = ruled (address n i) (own_in n Leaf i) ∙ when (is_own n i (address n i)) (Some (leaf m (address n i) f)) None (own_self n i)

        begins : m.start (address n i) s.rows ≡ m.start (address n i) f
        begins = pl.sound.0 i refl s.rows f sees

        holds_it : (Held m d so f sol) (address n i) v
        holds_it = record {
          is_leaf = ((kind_there m d so f sol) s.opens g i n after Leaf og st).0;
          as_begun = begins;
          so_far = omega arith;
          gives =
              λ u same. val ∙ ap (λ b. Some (m.finish (address n i) b f)) (sym begins)
              ∙ ap Some (sym (pl.sound.1 i refl u f (m.start (address n i) s.rows) same));
        }

        RestAt : Address → Type 0
        RestAt x =
            (kind : Kind) → kind_of d x.name ≡ Some kind → (y : Address) → is_in x.name kind x.at y ≡ true → is_own x.name x.at y ≡ false
            → s.rows y ≡ f y

        base : RestAt (address n i)
        base kind is y t o =
            let w : Some Leaf ≡ Some kind = sym ((kind_there m d so f sol) s.opens g i n after Leaf og st).0 ∙ is in
            let w' : Leaf ≡ kind = cc in
            nothing s.rows f k.placed y (ruled y (subst (λ z. is_in n z i y ≡ true) (sym w') t) ∙ unless (is_own n i y) _ None o)

    try_keeps : (s : State Row Begun Decision Verdict) → (Keeps m d so f sol) s → (n : ℕ) (i : List ℕ) (w : Running Begun)
        → s.running (address n i) ≡ Some w → w.tries < m.tries (address n i) w.begun
        → (Keeps m d so f sol)
        (record { rows = s.rows; running = place (one n i (record { begun = w.begun; tries = suc w.tries })) s.running; opens = s.opens })
    try_keeps s k n i w e lt = record {
      placed = k.placed;
      held =
          λ x u h. ⊎_elim (λ q. let is = one_is n i v x u q in
          subst (λ (z : Address). (Held m d so f sol) z u) is.0 (subst (λ z. (Held m d so f sol) (address n i) z) is.1 holds_it))
          (λ q. k.held x u q) (place_split (one n i v) s.running x u h);
      behind = k.behind;
      subtree = k.subtree;
      run_behind =
          λ x u h y see. ⊎_elim
          (λ q. k.run_behind (address n i) w e y (subst (λ (z : Address). SeenIn d z y) (sym (one_is n i v x u q).0) see))
          (λ q. k.run_behind x u q y see) (place_split (one n i v) s.running x u h);
      run_rest =
          λ q j u kind h is. ⊎_elim
          (λ t. subst (λ (x : Address). RestAt x) (one_is n i v (address q j) u t).0
          (λ kind is y t o. k.run_rest n i w kind e is y t o) kind is) (λ t. k.run_rest q j u kind t is)
          (place_split (one n i v) s.running (address q j) u h);
      open_behind = k.open_behind;
      facts = k.facts;
      special = k.special;
    }
      where
        v : Running Begun
        v = record { begun = w.begun; tries = suc w.tries }

        before : (Held m d so f sol) (address n i) w
        before = k.held (address n i) w e

        holds_it : (Held m d so f sol) (address n i) v
        holds_it = record { is_leaf = before.is_leaf; as_begun = before.as_begun; so_far = lt; gives = before.gives }

        RestAt : Address → Type 0
        RestAt x =
            (kind : Kind) → kind_of d x.name ≡ Some kind → (y : Address) → is_in x.name kind x.at y ≡ true → is_own x.name x.at y ≡ false
            → s.rows y ≡ f y

    end_keeps : (s : State Row Begun Decision Verdict) → (Keeps m d so f sol) s → (n : ℕ) (i : List ℕ) (w : Running Begun)
        → s.running (address n i) ≡ Some w
        → (Keeps m d so f sol)
        (record { rows = place (one n i (m.finish (address n i) w.begun s.rows)) s.rows; running = without n i s.running; opens = s.opens })
    end_keeps s k n i w e =
        (drop_keeps m d so f sol) (record { rows = place (one n i r) s.rows; running = s.running; opens = s.opens })
        ((put_keeps m d so f sol) s k n i r is (λ y see. k.run_behind (address n i) w e y see)
        (λ kind h y t o. k.run_rest n i w kind e h y t o)) n i
      where
        r : Row
        r = m.finish (address n i) w.begun s.rows

        is : f (address n i) ≡ Some r
        is = (k.held (address n i) w e).gives s.rows (λ y see. k.run_behind (address n i) w e y see)

    skip_keeps : (s : State Row Begun Decision Verdict) → (Keeps m d so f sol) s
        → (g : Graph) (i : List ℕ) (n : ℕ) (after : List Need) (kind : Kind) → IsOpen m.taken d s.opens g i → In g n after kind
        → (is_special m d so f sol) n ≡ false → all_ended after i s.rows ≡ true → gate m after n i s.rows ≡ false
        → (Keeps m d so f sol) (record { rows = place (skip m n kind i) s.rows; running = s.running; opens = s.opens })
    skip_keeps s k g i n after kind og st sn e fails =
        (pass_keeps m d so f sol) s k (skip m n kind i) (is_in n kind i)
        (λ y r h. let q = skip_in m n kind i y r h in
        and_of (nat_eq n y.name || holds kind y.name) (starts i y.at)
        (either_or (nat_eq n y.name) (shows kind y.name) (nat_eq n y.name) (holds kind y.name) (λ x. x) (shows_holds kind y.name) q.0)
        (same_starts i y.at q.1))
        (λ y h. (follows m d so f sol) s.rows s.opens k.facts g i og y
        (within_of m (IsBefore d) (SeenIn d) (length i) g n after kind pl i y h) ∙ pl.looked i f y h
        ∙ unless (m.pinned n) (m.old y) _ (or_none m (IsBefore d) (SeenIn d) (m.pinned n) (m.reclosed n) sn).0
        ∙ unless (m.reclosed n || gate m after n i f) _ (skip m n kind i y)
        (ap (λ b. b || gate m after n i f) (or_none m (IsBefore d) (SeenIn d) (m.pinned n) (m.reclosed n) sn).1
        ∙ sym ((decided_gate m d so f sol) closed s k g i n after kind og st e) ∙ fails))
        (λ x y h see. ⊎_elim (λ q. inl q.0) (λ q. inr q) ((decided_sees m d so f sol) closed s k g i n after kind og st e y x h see))
        (λ q j r l h is y t. inner (address q j) r l h is y t)
      where
        pl : (Placed m d so f sol) (length i) g n after kind
        pl = (placed_in m d so f sol) (length i) g n after kind ((open_sub m d so f sol) s.opens g i og) st

        inner : (x : Address) (r : Row) (l : Kind) → skip m n kind i x ≡ Some r → kind_of d x.name ≡ Some l → (y : Address)
            → is_in x.name l x.at y ≡ true → is_in n kind i y ≡ true
        inner x r l h is y t =
            let q = skip_in m n kind i x r h in
            let u = and_in (nat_eq x.name y.name || holds l y.name) (starts x.at y.at) t in
            and_of (nat_eq n y.name || holds kind y.name) (starts i y.at)
            (⊎_elim
            (λ same. name_own (eqb-true n x.name same) u.0)
            (λ other. let hx = shows_holds kind x.name (sym (ap (λ b. b || shows kind x.name) other) ∙ q.0) in
            ap (λ b. nat_eq n y.name || b)
            (inner_name kind x.name y.name l
            (sym (pl.inner_kind x.name hx) ∙ sym (((open_sub m d so f sol) s.opens g i og).kinds x.name (pl.inner_has x.name hx))
            ∙ is) hx u.0) ∙ or_true (nat_eq n y.name))
            (two (nat_eq n x.name)))
            (subst (λ a. starts a y.at ≡ true) (sym (same_at_is i x.at q.1)) u.1)
          where
            name_own : n ≡ x.name → (nat_eq x.name y.name || holds l y.name) ≡ true → (nat_eq n y.name || holds kind y.name) ≡ true
            name_own same u =
                let w : Some kind ≡ Some l = sym ((kind_there m d so f sol) s.opens g i n after kind og st).0 ∙ ap (λ a. kind_of d a) same
                ∙ is in
                let w' : kind ≡ l = cc in
                subst (λ z. (nat_eq n y.name || holds z y.name) ≡ true) (sym w')
                (subst (λ a. (nat_eq a y.name || holds l y.name) ≡ true) (sym same) u)

    -- OPEN

    open_sees : (s : State Row Begun Decision Verdict) → (Keeps m d so f sol) s
        → (g : Graph) (i : List ℕ) (n : ℕ) (after : List Need) (kind : Kind) → IsOpen m.taken d s.opens g i → In g n after kind
        → (is_special m d so f sol) n ≡ false → all_ended after i s.rows ≡ true → gate m after n i s.rows ≡ true
        → (Passes m d so f sol) n (needs_of d n) i
    open_sees s k g i n after kind og st sn e pass =
        subst (λ a. (Passes m d so f sol) n a i) (sym ((kind_there m d so f sol) s.opens g i n after kind og st).1)
        (passing n after i sn (sym ((decided_gate m d so f sol) closed s k g i n after kind og st e) ∙ pass))

    open_keeps : (SpecialOut m d so f sol) → (s : State Row Begun Decision Verdict) → (Keeps m d so f sol) s
        → (g : Graph) (i : List ℕ) (n : ℕ) (after : List Need) (kind : Kind) → IsContainer kind → IsOpen m.taken d s.opens g i
        → In g n after kind → (is_special m d so f sol) n ≡ false → all_ended after i s.rows ≡ true → gate m after n i s.rows ≡ true
        → (Keeps m d so f sol)
        (record {
          rows = place (passed_over m kind (m.taken (m.decide (address n i) s.rows)) i) s.rows;
          running = s.running;
          opens =
              opened n i (Some (record { decision = m.decide (address n i) s.rows; next = 0; test = None })) s.opens;
        })
    open_keeps out s k g i n after Leaf c og st sn e pass = absurd c
    open_keeps out s k g i n after (Scope h) c og st sn e pass =
        (more_open m d so f sol) out s k n i (record { decision = m.decide (address n i) s.rows; next = 0; test = None }) (Scope h) sn
        ((kind_there m d so f sol) s.opens g i n after (Scope h) og st).0
        ((decided_own m d so f sol) closed s k g i n after (Scope h) og st e) (open_sees s k g i n after (Scope h) og st sn e pass)
        (((placed_in m d so f sol) (length i) g n after (Scope h) ((open_sub m d so f sol) s.opens g i og) st).sound.1 i refl s.rows f
        ((decided_own m d so f sol) closed s k g i n after (Scope h) og st e))
    open_keeps out s k g i n after (Foreach t h) c og st sn e pass =
        (more_open m d so f sol) out s k n i (record { decision = m.decide (address n i) s.rows; next = 0; test = None }) (Foreach t h) sn
        ((kind_there m d so f sol) s.opens g i n after (Foreach t h) og st).0
        ((decided_own m d so f sol) closed s k g i n after (Foreach t h) og st e)
        (open_sees s k g i n after (Foreach t h) og st sn e pass) (
          ((placed_in m d so f sol) (length i) g n after (Foreach t h) ((open_sub m d so f sol) s.opens g i og) st).sound.1 i refl s.rows f
              ((decided_own m d so f sol) closed s k g i n after (Foreach t h) og st e),
          omega arith,
          λ q j lt. absurd (omega arith),
          (or_none m (IsBefore d) (SeenIn d) (m.pinned n) (m.reclosed n) sn).1,
        )
    open_keeps out s k g i n after (Until most h) c og st sn e pass =
        (more_open m d so f sol) out s k n i (record { decision = m.decide (address n i) s.rows; next = 0; test = None }) (Until most h) sn
        ((kind_there m d so f sol) s.opens g i n after (Until most h) og st).0
        ((decided_own m d so f sol) closed s k g i n after (Until most h) og st e)
        (open_sees s k g i n after (Until most h) og st sn e pass) (
          omega arith,
          λ j lt. absurd (omega arith),
          λ v q. absurd (none-some v q),
          (or_none m (IsBefore d) (SeenIn d) (m.pinned n) (m.reclosed n) sn).1,
          ((placed_in m d so f sol) (length i) g n after (Until most h)
              ((open_sub m d so f sol) s.opens g i og) st).sound.1 i refl s.rows f
              ((decided_own m d so f sol) closed s k g i n after (Until most h) og st e),
        )
    open_keeps out s k g i n after (Choice bs) c og st sn e pass =
        (more_open m d so f sol) out (record { rows = place new s.rows; running = s.running; opens = s.opens }) kept n i
        (record { decision = m.decide (address n i) s.rows; next = 0; test = None }) (Choice bs) sn
        ((kind_there m d so f sol) s.opens g i n after (Choice bs) og st).0
        (λ y see. place_agrees new s.rows f within y (sees y see)) (open_sees s k g i n after (Choice bs) og st sn e pass)
        (decides, λ y h. place_fills new s.rows f k.placed y (is y h))
      where
        pl : (Placed m d so f sol) (length i) g n after (Choice bs)
        pl = (placed_in m d so f sol) (length i) g n after (Choice bs) ((open_sub m d so f sol) s.opens g i og) st

        sub : (Sub m d so f sol) (length i) g
        sub = (open_sub m d so f sol) s.opens g i og

        number : ℕ
        number = m.taken (m.decide (address n i) s.rows)

        new : Table Row
        new = skip_others m bs number i

        sees : (y : Address) → SeenIn d (address n i) y → s.rows y ≡ f y
        sees = (decided_own m d so f sol) closed s k g i n after (Choice bs) og st e

        decides : m.decide (address n i) s.rows ≡ m.decide (address n i) f
        decides = pl.sound.1 i refl s.rows f sees

        is : (y : Address) → in_others bs number i y ≡ true → f y ≡ new y
        is y h =
            let w = others_among bs number i y h in
            (obey_in m d so f sol) g i n after (Choice bs) pl ((follows m d so f sol) s.rows s.opens k.facts g i og)
            (passing n after i sn (sym ((decided_gate m d so f sol) closed s k g i n after (Choice bs) og st e) ∙ pass)) y
            (held_in n (Choice bs) i y w)
            ∙ (inner_rule m d so f sol) (Choice bs) n i _ _ (is_among bs i y) y pl.apart_own w w
            ∙ ap (λ q. look_any m bs (m.taken q) i f y) (sym decides)
            ∙ look_others m bs number i f y h

        within : Within new f
        within = record { by = λ y r h. is y (some_others m bs number i y r h) ∙ h }

        kept : (Keeps m d so f sol) (record { rows = place new s.rows; running = s.running; opens = s.opens })
        kept = (pass_keeps m d so f sol) s k new (in_others bs number i) (λ y r h. some_others m bs number i y r h) is
            (λ x y h see. ⊎_elim (λ q. inl (others_sees m (IsBefore d) (SeenIn d) bs (length i) number pl.sound.2 i x y h q.1)) (λ q. inr q)
            ((decided_sees m d so f sol) closed s k g i n after (Choice bs) og st e y x
            (held_in n (Choice bs) i x (others_among bs number i x h)) see))
            (λ q j r l h v y t. others_inner m (SeenIn d) bs (length i) number pl.sound.2 i (address q j) r l h
            (kinds (address q j) (others_among bs number i (address q j) (some_others m bs number i (address q j) r h)) ∙ v) y t)
          where
            kinds : (x : Address) → is_among bs i x ≡ true → kind_any bs x.name ≡ kind_of d x.name
            kinds x w =
                let hx = (and_in (has_any bs x.name) (starts i x.at) w).0 in sym (pl.inner_kind x.name hx)
                ∙ sym (sub.kinds x.name (pl.inner_has x.name hx))

  -- ITERATIONS

  pub ended_row : (o : Option Row) → has_ended o ≡ true → (r : Row) × (o ≡ Some r)
  ended_row None e = absurd (true≢false (sym e))
  ended_row (Some r) e = (r, refl)

  -- a graph whose actions have rows is settled
  pub ended_settled : (s : State Row Begun Decision Verdict) → (Keeps m d so f sol) s → (h : Graph) (i : List ℕ)
      → IsOpen m.taken d s.opens h i → is_ended h i s.rows ≡ true → (Settled m f) s.rows h i
  ended_settled s k h i og e y w = walk_ended h (λ n after kind st. st) e w
    where
      walk_ended : (r : Graph) → ((n : ℕ) (after : List Need) (kind : Kind) → In r n after kind → In h n after kind)
          → is_ended r i s.rows ≡ true → is_within r i y ≡ true → s.rows y ≡ f y
      walk_ended done up e w = absurd (true≢false (sym w))
      walk_ended (add n after kind rest) up e w =
          ⊎_elim
          (λ t. let r = ended_row (s.rows (address n i)) (and_in (has_ended (s.rows (address n i))) (is_ended rest i s.rows) e).0 in
          k.subtree n i r.0 kind r.1 ((kind_there m d so f sol) s.opens h i n after kind og (up n after kind here)).0 y t)
          (λ u. walk_ended rest (λ n after kind st. up n after kind (there st))
          (and_in (has_ended (s.rows (address n i))) (is_ended rest i s.rows) e).1
          (fork (nat_eq n y.name || holds kind y.name) (has rest y.name) (starts i y.at) w u))
          (two (is_in n kind i y))

  begin_keeps : (SpecialOut m d so f sol) → (s : State Row Begun Decision Verdict) → (Keeps m d so f sol) s
      → (g : Graph) (i : List ℕ) (n : ℕ) (after : List Need) (kind : Kind) (w : (Opening Decision Verdict)) → IsOpen m.taken d s.opens g i
      → In g n after kind → s.opens (address n i) ≡ Some w → MayBegin m kind i w s.rows
      → (Keeps m d so f sol)
      (record {
        rows = s.rows;
        running = s.running;
        opens =
            opened n i (Some (record { decision = w.decision; next = suc w.next; test = None })) s.opens;
      })
  begin_keeps out s k g i n after kind w og st e may =
      let is = ((kind_there m d so f sol) s.opens g i n after kind og st).0 in
      let fact = k.facts n i w kind e is in
      (more_open m d so f sol) out s k n i (record { decision = w.decision; next = suc w.next; test = None }) kind
      (plain kind may fact.0 fact.1) is (λ y see. k.open_behind n i w e y see) fact.0 (go kind st may fact.1)
    where
      plain : (kind : Kind) → MayBegin m kind i w s.rows → (Passes m d so f sol) n (needs_of d n) i → (OpenFact m f) s.rows kind n i w
          → (is_special m d so f sol) n ≡ false
      plain Leaf may p h = absurd may
      plain (Scope g) may p h = absurd may
      plain (Choice bs) may p h = absurd may
      plain (Foreach t g) may p h = ap (λ b. b || m.reclosed n) p.free ∙ h.3
      plain (Until most g) may p h = ap (λ b. b || m.reclosed n) p.free ∙ h.3

      go : (kind : Kind) → In g n after kind → MayBegin m kind i w s.rows → (OpenFact m f) s.rows kind n i w
          → (OpenFact m f) s.rows kind n i (record { decision = w.decision; next = suc w.next; test = None })
      go Leaf st may h = absurd may
      go (Scope h) st may fact = absurd may
      go (Choice bs) st may fact = absurd may
      go (Foreach InTurn h) st may fact = (
        fact.0,
        may.0,
        λ q j lt. let l : j < w.next = omega arith in ended_settled s k h (i ++ j ∷ []) (turn j og st e l) (may.1 j l),
        fact.3,
      )
      go (Foreach (AtMost most) h) st may fact = (fact.0, may.0, λ q j lt. absurd (beside_not q), fact.3)
      go (Until most h) st may fact = (may.0, earlier, λ v q. absurd (none-some v q), fact.3, fact.4)
        where
          earlier : (j : ℕ) → suc j < suc w.next → (m.ends (m.test (address n i) j f) ≡ false) × (Settled m f) s.rows h (i ++ j ∷ [])
          earlier j lt =
              ⊎_elim
              (λ zero'. absurd (omega arith))
              (λ t. let r = fact.2 t.0 t.1 in
              ⊎_elim
              (λ same. let x = eqb-true j r.0 same in (
                ap (λ q. m.ends (m.test (address n i) q f)) x ∙ ap m.ends r.2 ∙ t.2,
                subst (λ q. (Settled m f) s.rows h (i ++ q ∷ []))
                    (sym x) r.3,
              ))
              (λ ne. let x = eqb-false j r.0 ne in let y = r.1 in fact.1 j (omega (arith, x, y)))
              (two (nat_eq j r.0)))
              may.1

  test_keeps : (SpecialOut m d so f sol) → (s : State Row Begun Decision Verdict) → (Keeps m d so f sol) s
      → (g : Graph) (i : List ℕ) (n : ℕ) (after : List Need) (kind : Kind) (w : (Opening Decision Verdict)) (j : ℕ)
      → IsOpen m.taken d s.opens g i → In g n after kind → s.opens (address n i) ≡ Some w → MayTest m kind i w s.rows j
      → (Keeps m d so f sol)
      (record {
        rows = s.rows;
        running = s.running;
        opens =
            opened n i (Some (record { decision = w.decision; next = w.next; test = Some (m.test (address n i) j s.rows) })) s.opens;
      })
  test_keeps out s k g i n after kind w j og st e may =
      let is = ((kind_there m d so f sol) s.opens g i n after kind og st).0 in
      let fact = k.facts n i w kind e is in
      (more_open m d so f sol) out s k n i
      (record { decision = w.decision; next = w.next; test = Some (m.test (address n i) j s.rows) }) kind
      (plain kind may fact.0 fact.1) is (λ y see. k.open_behind n i w e y see) fact.0 (go kind st may fact.1)
    where
      plain : (kind : Kind) → MayTest m kind i w s.rows j → (Passes m d so f sol) n (needs_of d n) i → (OpenFact m f) s.rows kind n i w
          → (is_special m d so f sol) n ≡ false
      plain Leaf may p h = absurd may
      plain (Scope g) may p h = absurd may
      plain (Choice bs) may p h = absurd may
      plain (Foreach t g) may p h = absurd may
      plain (Until most g) may p h = ap (λ b. b || m.reclosed n) p.free ∙ h.3

      go : (kind : Kind) → In g n after kind → MayTest m kind i w s.rows j → (OpenFact m f) s.rows kind n i w
          → (OpenFact m f) s.rows kind n i (record { decision = w.decision; next = w.next; test = Some (m.test (address n i) j s.rows) })
      go Leaf st may fact = absurd may
      go (Scope h) st may fact = absurd may
      go (Choice bs) st may fact = absurd may
      go (Foreach t h) st may fact = absurd may
      go (Until most h) st may fact = (fact.0, fact.1, λ v q. (j, may.0, sym tests ∙ value v q, last'), fact.3, fact.4)
        where
          lt : j < w.next
          lt = omega (arith, may.0)

          last' : (Settled m f) s.rows h (i ++ j ∷ [])
          last' = ended_settled s k h (i ++ j ∷ []) (round j og st e lt) may.2

          value : (v : Verdict) → Some (m.test (address n i) j s.rows) ≡ Some v → m.test (address n i) j s.rows ≡ v
          value v q = cc

          turns' : (q : ℕ) → q < suc j → (Settled m f) s.rows h (i ++ q ∷ [])
          turns' q l =
              ⊎_elim
              (λ same. subst (λ x. (Settled m f) s.rows h (i ++ x ∷ [])) (sym (eqb-true q j same)) last')
              (λ ne. let x = eqb-false q j ne in let y = may.0 in (fact.1 q (omega (arith, x, y))).1)
              (two (nat_eq q j))

          tests : m.test (address n i) j s.rows ≡ m.test (address n i) j f
          tests =
              ((placed_in m d so f sol) (length i) g n after (Until most h)
              ((open_sub m d so f sol) s.opens g i og) st).sound.2 i refl s.rows f j (λ y see. k.open_behind n i w e y see) turns'

  -- the count of an Until's iterations, from its tests
  pub rounds_is : (most k c : ℕ) (p : ℕ → Bool) → ((j : ℕ) → j < c → p j ≡ false) → k ≤ c → c < k + most → (p c ≡ true) ⊎ (suc c ≡ k + most)
      → rounds most k p ≡ suc c
  rounds_is zero k c p h le lt last = absurd (omega arith)
  rounds_is (suc most) k c p h le lt last =
      ⊎_elim
      (λ same. let x = eqb-true k c same in
      ⊎_elim
      (λ t. when (p k) (suc k) (rounds most (suc k) p) (ap p x ∙ t) ∙ ap suc x)
      (λ q. let z : most ≡ 0 = omega (arith, x, q) in
      ⊎_elim (λ t. when (p k) (suc k) (rounds most (suc k) p) t ∙ ap suc x)
      (λ u. unless (p k) (suc k) (rounds most (suc k) p) u ∙ ap (λ v. rounds v (suc k) p) z ∙ ap suc x) (two (p k)))
      last)
      (λ ne. let x : k < c = omega (arith, eqb-false k c ne) in
      unless (p k) (suc k) (rounds most (suc k) p) (h k x)
      ∙ rounds_is most (suc k) c p h x (omega arith) (⊎_elim (λ t. inl t) (λ q. inr (omega (arith, q))) last))
      (two (nat_eq k c))

  close_keeps : (s : State Row Begun Decision Verdict) → (Keeps m d so f sol) s
      → (g : Graph) (i : List ℕ) (n : ℕ) (after : List Need) (kind : Kind) (w : Opening Decision Verdict) → IsOpen m.taken d s.opens g i
      → In g n after kind → s.opens (address n i) ≡ Some w → MayClose m kind i w s.rows
      → (Keeps m d so f sol)
      (record {
        rows = place (one n i (closing m kind (address n i) w s.rows)) s.rows;
        running = s.running;
        opens =
            opened n i None s.opens;
      })
  close_keeps s k g i n after kind w og st e may =
      (less_open m d so f sol)
      (record { rows = place (one n i (closing m kind (address n i) w s.rows)) s.rows; running = s.running; opens = s.opens })
      (go kind st may ((fact_of m d so f sol) s.rows s.opens k.facts g i n after kind w og st e)) n i
      (λ h. none-some (closing m kind (address n i) w s.rows)
      (sym h ∙ ap (λ o. or_else o (s.rows (address n i)))
      (when (is_own n i (address n i)) (Some (closing m kind (address n i) w s.rows)) None (own_self n i))))
    where
      behind : (y : Address) → SeenIn d (address n i) y → s.rows y ≡ f y
      behind y see = k.open_behind n i w e y see

      Closed' : Kind → Type 0
      Closed' kind =
          (Keeps m d so f sol)
          (record { rows = place (one n i (closing m kind (address n i) w s.rows)) s.rows; running = s.running; opens = s.opens })

      -- a container whose inside is settled, and whose close is that of f
      closes : (kind : Kind) (r : Option Row) (part : Address → Bool) (u : Table Row) → In g n after kind → (Passes m d so f sol) n after i
          → ((y : Address) → look_in m kind n i f y ≡ cond (is_own n i y) r (only (part y) (u y)))
          → ((y : Address) → part y ≡ true → s.rows y ≡ f y) → r ≡ Some (closing m kind (address n i) w s.rows) → Closed' kind
      closes kind r part u st pass rule inside same =
          (put_keeps m d so f sol) s k n i (closing m kind (address n i) w s.rows)
          (ruled (address n i) (own_in n kind i) ∙ rule (address n i) ∙ when (is_own n i (address n i)) r _ (own_self n i) ∙ same)
          behind
          (λ l is y t o.
          let v : Some kind ≡ Some l = sym ((kind_there m d so f sol) s.opens g i n after kind og st).0 ∙ is in let v' : kind ≡ l = cc in
          ⊎_elim (λ p. inside y p)
          (λ p. nothing s.rows f k.placed y (ruled y (subst (λ z. is_in n z i y ≡ true) (sym v') t) ∙ rule y ∙ unless (is_own n i y) r _ o
          ∙ unless (part y) (u y) None p))
          (two (part y)))
        where
          ruled : (y : Address) → is_in n kind i y ≡ true → f y ≡ look_in m kind n i f y
          ruled y t =
              (obey_in m d so f sol) g i n after kind
              ((placed_in m d so f sol) (length i) g n after kind ((open_sub m d so f sol) s.opens g i og) st)
              ((follows m d so f sol) s.rows s.opens k.facts g i og) pass y t

      go : (kind : Kind) → In g n after kind → MayClose m kind i w s.rows
          → (Passes m d so f sol) n after i × (OpenFact m f) s.rows kind n i w → Closed' kind
      go Leaf st may fact = absurd may
      go (Scope h) st may fact =
          closes (Scope h) (Some (m.close (address n i) (m.decide (address n i) f) 0 None f)) (is_within h i) (look m h i f) st fact.0
          (λ y. refl) inside
          (ap (λ x. Some (m.close (address n i) x 0 None f)) (sym fact.1)
          ∙ ap Some (sym (pl.sound.0 i refl s.rows f w.decision 0 None behind inside)))
        where
          pl : (Placed m d so f sol) (length i) g n after (Scope h)
          pl = (placed_in m d so f sol) (length i) g n after (Scope h) ((open_sub m d so f sol) s.opens g i og) st

          inside : (Settled m f) s.rows h i
          inside = ended_settled s k h i (scope og st e) may
      go (Choice bs) st may fact =
          closes (Choice bs) (Some (m.close (address n i) (m.decide (address n i) f) 0 None f)) (is_among bs i)
          (look_any m bs (m.taken (m.decide (address n i) f)) i f) st fact.0 (λ y. refl) inside
          (ap (λ x. Some (m.close (address n i) x 0 None f)) (sym fact.1.0)
          ∙ ap Some (sym (pl.sound.0 i refl s.rows f w.decision 0 None behind inside)))
        where
          pl : (Placed m d so f sol) (length i) g n after (Choice bs)
          pl = (placed_in m d so f sol) (length i) g n after (Choice bs) ((open_sub m d so f sol) s.opens g i og) st

          inside : (y : Address) → is_among bs i y ≡ true → s.rows y ≡ f y
          inside y p =
              ⊎_elim
              (λ h. fact.1.1 y h)
              (λ h. ended_settled s k h.0 i (chosen og st e h.1) (may h.0 h.1) y h.2)
              (others_or bs (m.taken w.decision) i y p)
      go (Foreach t h) st may fact =
          closes (Foreach t h) (Some (m.close (address n i) (m.decide (address n i) f) 0 None f)) (is_within h i)
          (sides items i (λ j t. look m h (i ++ j ∷ []) f) (λ y. None)) st fact.0 (λ y. refl) inside
          (ap (λ x. Some (m.close (address n i) x 0 None f)) (sym fact.1.0)
          ∙ ap Some (sym (pl.sound.0 i refl s.rows f w.decision 0 None behind inside)))
        where
          pl : (Placed m d so f sol) (length i) g n after (Foreach t h)
          pl = (placed_in m d so f sol) (length i) g n after (Foreach t h) ((open_sub m d so f sol) s.opens g i og) st

          items : ℕ
          items = m.items (m.decide (address n i) f)

          inside : (Settled m f) s.rows h i
          inside y v =
              ⊎_elim
              (λ q. let num = ap m.items fact.1.0 in let lt : q.0 < w.next = omega (arith, q.1, may.0, num) in
              ended_settled s k h (i ++ q.0 ∷ []) (turn q.0 og st e lt) (may.1 q.0 lt) y
              (and_of (has h y.name) (starts (i ++ q.0 ∷ []) y.at) (and_in (has h y.name) (starts i y.at) v).0 q.2))
              (λ q. nothing s.rows f k.placed y
              ((obey_in m d so f sol) g i n after (Foreach t h) pl ((follows m d so f sol) s.rows s.opens k.facts g i og) fact.0 y
              (held_in n (Foreach t h) i y v) ∙ (inner_rule m d so f sol) (Foreach t h) n i _ _ (is_within h i y) y pl.apart_own v v
              ∙ sides_out items i (λ j t. look m h (i ++ j ∷ []) f) (λ y. None) y q))
              (some_turn items i y.at)
      go (Until most h) st may fact =
          closes (Until most h)
          (Some (m.close (address n i) (m.decide (address n i) f) (rounds most 0 p)
          (last (rounds most 0 p) (λ j. m.test (address n i) j f)) f)) (is_within h i)
          (sides (rounds most 0 p) i (λ j t. look m h (i ++ j ∷ []) f) (λ y. None)) st fact.0 (λ y. refl) inside
          (ap (λ x. Some (m.close (address n i) x (rounds most 0 p) (last (rounds most 0 p) (λ j. m.test (address n i) j f)) f))
          (sym fact.1.4)
          ∙ ap (λ x. Some (m.close (address n i) w.decision x (last x (λ j. m.test (address n i) j f)) f)) (counts ∙ sym last'.1)
          ∙ ap (λ x. Some (m.close (address n i) w.decision w.next x f)) tests
          ∙ ap Some (sym (pl.sound.0 i refl s.rows f w.decision w.next w.test behind inside)))
        where
          pl : (Placed m d so f sol) (length i) g n after (Until most h)
          pl = (placed_in m d so f sol) (length i) g n after (Until most h) ((open_sub m d so f sol) s.opens g i og) st

          p : ℕ → Bool
          p j = m.ends (m.test (address n i) j f)

          last' : (j : ℕ) × (w.next ≡ suc j) × ((p j ≡ true) ⊎ (suc j ≡ 0 + most)) × (m.test (address n i) j f ≡ may.0)
              × (Settled m f) s.rows h (i ++ j ∷ [])
          last' =
              let r = fact.1.2 may.0 may.1 in
              (r.0, r.1, ⊎_elim (λ t. inl (ap m.ends r.2 ∙ t)) (λ t. inr (let x = r.1 in omega (arith, x, t))) may.2, r.2, r.3)

          tests : last w.next (λ j. m.test (address n i) j f) ≡ w.test
          tests = ap (λ c. last c (λ j. m.test (address n i) j f)) last'.1 ∙ ap Some last'.3 ∙ sym may.1

          counts : rounds most 0 p ≡ suc last'.0
          counts =
              rounds_is most 0 last'.0 p (λ q l. let x = last'.1 in (fact.1.1 q (omega (arith, x))).0) (omega arith)
              (let x = last'.1 in let y = fact.1.0 in omega (arith, x, y)) last'.2

          inside : (Settled m f) s.rows h i
          inside y v =
              ⊎_elim
              (λ q.
              let at = and_of (has h y.name) (starts (i ++ q.0 ∷ []) y.at) (and_in (has h y.name) (starts i y.at) v).0 q.2 in
              let less = q.1 in let x = last'.1 in
              ⊎_elim
              (λ same. last'.4 y (subst (λ z. is_within h (i ++ z ∷ []) y ≡ true) (eqb-true q.0 last'.0 same) at))
              (λ ne. let z = eqb-false q.0 last'.0 ne in (fact.1.1 q.0 (omega (arith, z, x, counts, less))).1 y at)
              (two (nat_eq q.0 last'.0)))
              (λ q. nothing s.rows f k.placed y
              ((obey_in m d so f sol) g i n after (Until most h) pl ((follows m d so f sol) s.rows s.opens k.facts g i og) fact.0 y
              (held_in n (Until most h) i y v) ∙ (inner_rule m d so f sol) (Until most h) n i _ _ (is_within h i y) y pl.apart_own v v
              ∙ sides_out (rounds most 0 p) i (λ j t. look m h (i ++ j ∷ []) f) (λ y. None) y q))
              (some_turn (rounds most 0 p) i y.at)

  -- an action of an open graph has a row in f
  pub own_row : (t : Table Row) (o : Table (Opening Decision Verdict)) → (OpenFacts m d so f sol) t o
      → (g : Graph) (i : List ℕ) (n : ℕ) (after : List Need) (kind : Kind) → IsOpen m.taken d o g i → In g n after kind → m.pinned n ≡ false
      → f (address n i) ≡ None → ⊥
  own_row t o facts g i n after kind og st sn e =
      let pl = (placed_in m d so f sol) (length i) g n after kind ((open_sub m d so f sol) o g i og) st in
      let own = own_in n kind i in
      let v = sym e ∙ (follows m d so f sol) t o facts g i og (address n i)
      (within_of m (IsBefore d) (SeenIn d) (length i) g n after kind pl i (address n i) own) ∙ pl.looked i f (address n i) own
      ∙ unless (m.pinned n) (m.old (address n i)) _ sn in
      ⊎_elim
      (λ p. ran kind (v ∙ when (m.reclosed n || gate m after n i f) _ (skip m n kind i (address n i)) p))
      (λ p. none-some m.skipped
      (v ∙ unless (m.reclosed n || gate m after n i f) _ _ p ∙ when ((nat_eq n n || shows kind n) && same_at i i) (Some m.skipped) None
      (and_of (nat_eq n n || shows kind n) (same_at i i) (ap (λ z. z || shows kind n) (same_self n)) (same_self_at i))))
      (two (m.reclosed n || gate m after n i f))
    where
      ran : (kind : Kind) → None ≡ look_in m kind n i f (address n i) → ⊥
      ran Leaf e = none-some _ (e ∙ when (is_own n i (address n i)) _ None (own_self n i))
      ran (Scope h) e = none-some _ (e ∙ when (is_own n i (address n i)) _ _ (own_self n i))
      ran (Choice bs) e = none-some _ (e ∙ when (is_own n i (address n i)) _ _ (own_self n i))
      ran (Foreach t h) e = none-some _ (e ∙ when (is_own n i (address n i)) _ _ (own_self n i))
      ran (Until most h) e = none-some _ (e ∙ when (is_own n i (address n i)) _ _ (own_self n i))

  -- WHOLE RUNS

  pub fresh_keeps : ((n : ℕ) → (is_special m d so f sol) n ≡ false) → (Keeps m d so f sol) fresh
  fresh_keeps plain = record {
    placed = record { by = λ x r e. absurd (none-some r e) };
    held = λ x w e. absurd (none-some w e);
    behind = λ x r e. absurd (none-some r e);
    subtree = λ n i r kind e. absurd (none-some r e);
    run_behind = λ x w e. absurd (none-some w e);
    run_rest = λ n i w kind e. absurd (none-some w e);
    open_behind = λ n i w e. absurd (none-some w e);
    facts = λ n i w kind e. absurd (none-some w e);
    special = λ g i n after kind og st sp e u. true≢false (sym sp ∙ plain n);
  }

  module _ (closed : (IsClosed m d so f sol)) (out : (SpecialOut m d so f sol)) where
    -- Each kind of event keeps it
    pub step_keeps : (s : State Row Begun Decision Verdict) (e : Event) (s' : State Row Begun Decision Verdict) → (Keeps m d so f sol) s
        → Step d m s e s' → (Keeps m d so f sol) s'
    step_keeps s (Start n i) s' k (after, de, pass, to) =
        subst (Keeps m d so f sol) (sym to)
        (start_keeps closed s k de.is_there.graph i n after de.is_there.is_open de.is_there.is_in
        (plain_decided closed s k de.is_there.graph i n after Leaf de.is_there.is_open de.is_there.is_in de.no_row de.not_open)
        de.ended pass)
    step_keeps s (Try n i) s' k (w, e, lt, to) = subst (Keeps m d so f sol) (sym to) (try_keeps closed s k n i w e lt)
    step_keeps s (End n i) s' k (w, e, all, to) = subst (Keeps m d so f sol) (sym to) (end_keeps closed s k n i w e)
    step_keeps s (Skip n i) s' k (after, kind, de, fails, to) =
        subst (Keeps m d so f sol) (sym to)
        (skip_keeps closed s k de.is_there.graph i n after kind de.is_there.is_open de.is_there.is_in
        (plain_decided closed s k de.is_there.graph i n after kind de.is_there.is_open de.is_there.is_in de.no_row de.not_open)
        de.ended fails)
    step_keeps s (Open n i) s' k (after, kind, c, de, pass, to) =
        subst (Keeps m d so f sol) (sym to)
        (open_keeps closed out s k de.is_there.graph i n after kind c de.is_there.is_open de.is_there.is_in
        (plain_decided closed s k de.is_there.graph i n after kind de.is_there.is_open de.is_there.is_in de.no_row de.not_open)
        de.ended pass)
    step_keeps s (Begin n i) s' k (after, kind, w, th, e, may, to) =
        subst (Keeps m d so f sol) (sym to) (begin_keeps out s k th.graph i n after kind w th.is_open th.is_in e may)
    step_keeps s (Test n i) s' k (after, kind, w, j, th, e, may, to) =
        subst (Keeps m d so f sol) (sym to) (test_keeps out s k th.graph i n after kind w j th.is_open th.is_in e may)
    step_keeps s (Close n i) s' k (after, kind, w, th, e, may, to) =
        subst (Keeps m d so f sol) (sym to) (close_keeps s k th.graph i n after kind w th.is_open th.is_in e may)

    pub run_keeps : (s : State Row Begun Decision Verdict) (es : List Event) (s' : State Row Begun Decision Verdict)
        → (Keeps m d so f sol) s → Run d m s es s' → (Keeps m d so f sol) s'
    run_keeps s [] s' k r = subst (Keeps m d so f sol) (sym r) k
    run_keeps s (e ∷ es) s' k (mid, st, rest) = run_keeps mid es s' (step_keeps s e mid k st) rest

    -- whatever order events are taken in from a state that keeps it, each row is f's; and where the top graph has ended, all of them are
    -- there
    pub rows_are : (s0 : State Row Begun Decision Verdict) → (Keeps m d so f sol) s0
        → (es : List Event) (s : State Row Begun Decision Verdict) → Run d m s0 es s → (x : Address) (r : Row) → s.rows x ≡ Some r
        → f x ≡ Some r
    rows_are s0 k0 es s r = (run_keeps s0 es s k0 r).placed.by

    pub all_rows : (s0 : State Row Begun Decision Verdict) → (Keeps m d so f sol) s0
        → (es : List Event) (s : State Row Begun Decision Verdict) → Run d m s0 es s → is_ended d [] s.rows ≡ true → (x : Address)
        → is_within d [] x ≡ true → s.rows x ≡ f x
    all_rows s0 k0 es s r e = ended_settled s (run_keeps s0 es s k0 r) d [] top e
