-- What stays as events are taken that don't change it: rows, running leaves, open containers, and what these decided by.
use Rattle.std.proofs.Common.{◌≡◌, ◌∙◌, ℕ, true, false, List, Option, Some, option_map, ap, sym, ⊎_elim, refl}
use Rattle.wf_layers.specs.Address.{Address, Table, address, is_own}
use Rattle.wf_layers.specs.Definition.{Graph}
use Rattle.wf_layers.specs.Machine.{State, Event, Start, Try, End, Skip, Open, Begin, Test, Close, Opening, Step, opened}
use Rattle.wf_layers.specs.Source.{Source}
use Rattle.wf_layers.proofs.Basics.{two, unless, when}
use Rattle.wf_layers.proofs.Tables.{own_is}
use Rattle.wf_meter.specs.Parts.{decides, gives_rows, moves_containers, moves_leaves}

module _ {Decision Verdict : Type 0} where
  abbrev decided : Option (Opening Decision Verdict) → Option Decision
  decided = option_map (λ w. w.decision)

  -- a container that keeps its decision, in a table that is the same elsewhere
  kept_there : (n : ℕ) (i : List ℕ) (w v : Opening Decision Verdict) (t : Table (Opening Decision Verdict)) → t (address n i) ≡ Some w
      → v.decision ≡ w.decision → (x : Address) → decided (opened n i (Some v) t x) ≡ decided (t x)
  kept_there n i w v t is same x = ⊎_elim own other (two (is_own n i x))
    where
      own : is_own n i x ≡ true → decided (opened n i (Some v) t x) ≡ decided (t x)
      own e =
          ap decided (when (is_own n i x) (Some v) (t x) e) ∙ ap Some same
          ∙ sym (ap (λ y. decided (t y)) (sym (own_is n i x e)) ∙ ap decided is)

      other : is_own n i x ≡ false → decided (opened n i (Some v) t x) ≡ decided (t x)
      other e = ap decided (unless (is_own n i x) (Some v) (t x) e)

module _ {Row Begun Decision Verdict : Type 0} (d : Graph) (m : Source Row Begun Decision Verdict) (s : State Row Begun Decision Verdict)
  where
    pub decisions_stay : (e : Event) (s' : State Row Begun Decision Verdict) → Step d m s e s' → decides e ≡ false → (x : Address)
        → decided (s'.opens x) ≡ decided (s.opens x)
    decisions_stay (Start n i) s' (after, de, pass, to) stays x = ap (λ (z : State Row Begun Decision Verdict). decided (z.opens x)) to
    decisions_stay (Try n i) s' (w, e, lt, to) stays x = ap (λ (z : State Row Begun Decision Verdict). decided (z.opens x)) to
    decisions_stay (End n i) s' (w, e, all, to) stays x = ap (λ (z : State Row Begun Decision Verdict). decided (z.opens x)) to
    decisions_stay (Skip n i) s' (after, kind, de, fails, to) stays x =
        ap (λ (z : State Row Begun Decision Verdict). decided (z.opens x)) to
    decisions_stay (Open n i) s' st stays x = cc (stays)
    decisions_stay (Begin n i) s' (after, kind, w, th, e, may, to) stays x =
        ap (λ (z : State Row Begun Decision Verdict). decided (z.opens x)) to ∙ kept_there n i w _ s.opens e refl x
    decisions_stay (Test n i) s' (after, kind, w, j, th, e, may, to) stays x =
        ap (λ (z : State Row Begun Decision Verdict). decided (z.opens x)) to ∙ kept_there n i w _ s.opens e refl x
    decisions_stay (Close n i) s' st stays x = cc (stays)

    -- rows, where an event gives none
    pub rows_stay : (e : Event) (s' : State Row Begun Decision Verdict) → Step d m s e s' → gives_rows e ≡ false → s'.rows ≡ s.rows
    rows_stay (Start n i) s' (after, de, pass, to) stays = ap (λ (z : State Row Begun Decision Verdict). z.rows) to
    rows_stay (Try n i) s' (w, e, lt, to) stays = ap (λ (z : State Row Begun Decision Verdict). z.rows) to
    rows_stay (End n i) s' st stays = cc (stays)
    rows_stay (Skip n i) s' st stays = cc (stays)
    rows_stay (Open n i) s' st stays = cc (stays)
    rows_stay (Begin n i) s' (after, kind, w, th, e, may, to) stays = ap (λ (z : State Row Begun Decision Verdict). z.rows) to
    rows_stay (Test n i) s' (after, kind, w, j, th, e, may, to) stays = ap (λ (z : State Row Begun Decision Verdict). z.rows) to
    rows_stay (Close n i) s' st stays = cc (stays)

    -- running leaves
    pub leaves_stay : (e : Event) (s' : State Row Begun Decision Verdict) → Step d m s e s' → moves_leaves e ≡ false
        → s'.running ≡ s.running
    leaves_stay (Start n i) s' st stays = cc (stays)
    leaves_stay (Try n i) s' st stays = cc (stays)
    leaves_stay (End n i) s' st stays = cc (stays)
    leaves_stay (Skip n i) s' (after, kind, de, fails, to) stays = ap (λ (z : State Row Begun Decision Verdict). z.running) to
    leaves_stay (Open n i) s' (after, kind, de, is, pass, to) stays = ap (λ (z : State Row Begun Decision Verdict). z.running) to
    leaves_stay (Begin n i) s' (after, kind, w, th, e, may, to) stays = ap (λ (z : State Row Begun Decision Verdict). z.running) to
    leaves_stay (Test n i) s' (after, kind, w, j, th, e, may, to) stays = ap (λ (z : State Row Begun Decision Verdict). z.running) to
    leaves_stay (Close n i) s' (after, kind, w, th, e, may, to) stays = ap (λ (z : State Row Begun Decision Verdict). z.running) to

    -- open containers
    pub containers_stay : (e : Event) (s' : State Row Begun Decision Verdict) → Step d m s e s' → moves_containers e ≡ false
        → s'.opens ≡ s.opens
    containers_stay (Start n i) s' (after, de, pass, to) stays = ap (λ (z : State Row Begun Decision Verdict). z.opens) to
    containers_stay (Try n i) s' (w, e, lt, to) stays = ap (λ (z : State Row Begun Decision Verdict). z.opens) to
    containers_stay (End n i) s' (w, e, all, to) stays = ap (λ (z : State Row Begun Decision Verdict). z.opens) to
    containers_stay (Skip n i) s' (after, kind, de, fails, to) stays = ap (λ (z : State Row Begun Decision Verdict). z.opens) to
    containers_stay (Open n i) s' st stays = cc (stays)
    containers_stay (Begin n i) s' st stays = cc (stays)
    containers_stay (Test n i) s' st stays = cc (stays)
    containers_stay (Close n i) s' st stays = cc (stays)
