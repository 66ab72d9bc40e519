-- How the events that may happen are looked through, in words of the lists.
use Rattle.std.proofs.Common.{◌≡◌, ◌≤◌, ℕ, true, false, List, Some, ⊎_elim, slice_get, nat_eq, nat_lt, ◌+◌, eqb-true, sym, ap, ◌∙◌, subst, arith}
use Rattle.std.proofs.lemmas.Bool.{eqb-false, ltb-false, ltb-true}
use Rattle.wf_lists.specs.KeyOrder.{IsInKeyOrder}
use Rattle.wf_layers.proofs.Basics.{two}
use Rattle.wf_asks.specs.Instances.{address_of}
use Rattle.wf_asks.specs.declared.instance.Instance.{Instance}
use Rattle.wf_stands.specs.Moment.{Moment}
use Rattle.wf_tables.specs.declared.entries.EventAt.{EventAt}
use Rattle.wf_talk.specs.Keys.{is_among}
use Rattle.wf_talk.specs.Seen.{want_cmp}
use Rattle.wf_talk.specs.declared.want.Want.{Want}
use Rattle.wf_waits.specs.Kept.{Kept, kept_with, keys_of, waiting_key}
use Rattle.wf_waits.specs.Places.{AreTheirsFrom, IsTheirs}
use Rattle.wf_waits.specs.declared.waiting.Waiting.{Waiting}
use Rattle.wf_waits.proofs.KeptLemmas.{all_kept, keeps, new_kept, own}
use Rattle.wf_waits.proofs.KeyLemmas.{among_own, by_keys}
use Rattle.wf_waits.proofs.ListLemmas.{all_among}
use Rattle.wf_session.specs.Begun.{Going, has_answer}
use Rattle.wf_session.specs.Settled.{AreHeld, HasLooked, IsHeld}
use Rattle.wf_session.specs.Waiting.{AreWaiting, IsMissing, Wants, key_at}

module _ (g : Going) (s : Moment) where
  pub looked_same : (kept : Kept) → AreWaiting g s kept.0 → HasLooked g s kept kept
  looked_same kept waiting = record { waiting = waiting; keeps = λ k is. is; marked = λ earlier m. m }

  pub looked_on : (first second third : Kept) → HasLooked g s first second → HasLooked g s second third → HasLooked g s first third
  looked_on first second third a b = record {
    waiting = b.waiting;
    keeps = λ k is. b.keeps k (a.keeps k is);
    marked = λ earlier m. b.marked earlier (a.marked earlier m);
  }

  module _ (kept : Kept) (waiting : AreWaiting g s kept.0) (want : Want) (place : Instance)
      (missing : IsMissing g s (address_of place) want) where
    abbrev one : Waiting
    one = record { want = want; instance = place }

    unanswered : has_answer g (waiting_key one) ≡ false
    unanswered = ap (has_answer g) missing.key_is ∙ missing.waits.open_still

    pub looked_kept : IsInKeyOrder want_cmp (λ (w : Waiting). w.want) kept.0 → HasLooked g s kept (kept_with one kept)
    looked_kept order = record {
      waiting = all_kept one kept (λ (w : Waiting). IsMissing g s (address_of w.instance) w.want) missing waiting;
      keeps = λ k is. keeps one kept k is;
      marked = λ earlier m. new_kept one kept (has_answer g) earlier (by_keys kept.0 order) m unanswered;
    }

    pub held_kept : (ready : List EventAt) (n : ℕ) (event : EventAt) → slice_get ready n ≡ Some event → event.instance ≡ place
        → IsHeld g s ready (kept_with one kept).0 n
    held_kept ready n event is same = record {
      event = event;
      event_is = is;
      attempt = want.attempt;
      waits_still = subst (λ i. Wants g s (address_of i) want.attempt) (sym same) missing.waits;
      kept =
          ap (λ k. is_among k (keys_of (kept_with one kept).0))
          (ap (λ i. key_at g (address_of i) want.attempt) same ∙ sym missing.key_is)
          ∙ own one kept;
    }

  -- an event at the instance of one that waits is its attempt
  held_theirs : (ready : List EventAt) (ws : List Waiting) (n : ℕ) → AreWaiting g s ws → IsTheirs ready ws n → IsHeld g s ready ws n
  held_theirs ready ws n waiting it =
      let w = it.theirs.one in
      let missing = all_among (λ (v : Waiting). IsMissing g s (address_of v.instance) v.want) ws w waiting it.theirs.among in
      let among = all_among (λ (v : Waiting). is_among (waiting_key v) (keys_of ws) ≡ true) ws w (among_own ws) it.theirs.among in
      record {
        event = it.event;
        event_is = it.event_is;
        attempt = w.want.attempt;
        waits_still = subst (λ i. Wants g s (address_of i) w.want.attempt) it.theirs.here missing.waits;
        kept =
            ap (λ k. is_among k (keys_of ws))
            (ap (λ i. key_at g (address_of i) w.want.attempt) (sym it.theirs.here) ∙ sym missing.key_is)
            ∙ among;
      }

  pub held_at_first : (ready : List EventAt) (ws : List Waiting) (to : ℕ) → AreWaiting g s ws → AreTheirsFrom ready ws 0 to
      → AreHeld g s ready ws to
  held_at_first ready ws to waiting passed p lt = held_theirs ready ws p waiting (passed p (omega arith) lt)

  -- what is held stays so as more is kept
  held_more : (ready : List EventAt) (first second : Kept) (n : ℕ) → HasLooked g s first second → IsHeld g s ready first.0 n
      → IsHeld g s ready second.0 n
  held_more ready first second n looked held = record {
    event = held.event;
    event_is = held.event_is;
    attempt = held.attempt;
    waits_still = held.waits_still;
    kept = looked.keeps _ held.kept;
  }

  -- those before, the one that was looked at, and those that are passed behind it
  pub all_held : (ready : List EventAt) (first second : Kept) (n to : ℕ) → HasLooked g s first second → AreHeld g s ready first.0 n
      → IsHeld g s ready second.0 n → AreTheirsFrom ready second.0 (n + 1) to → AreHeld g s ready second.0 to
  all_held ready first second n to looked before here passed p lt =
      ⊎_elim
      (λ under. held_more ready first second p looked (before p (ltb-true p n under)))
      (λ over.
      ⊎_elim
      (λ same. subst (IsHeld g s ready second.0) (sym (eqb-true p n same)) here)
      (λ differs. held_theirs ready second.0 p looked.waiting (passed p (beyond p n over differs) lt))
      (two (nat_eq p n)))
      (two (nat_lt p n))
    where
      beyond : (p n : ℕ) → nat_lt p n ≡ false → nat_eq p n ≡ false → n + 1 ≤ p
      beyond p n over differs = omega (arith, ltb-false p n over, eqb-false p n differs)
