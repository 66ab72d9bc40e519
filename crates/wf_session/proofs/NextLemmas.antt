-- What may happen next, once all events that may happen are looked through.
use Rattle.std.proofs.Common.{◌≡◌, ◌<◌, ℕ, suc, Bool, true, false, List, [], ◌∷◌, Option, Some, None, cond, option_map, is_eq, length, slice_get, refl, sym, ap, ◌∙◌, subst, true≢false, arith}
use Rattle.std.proofs.lemmas.Option.{none-some}
use Rattle.wf_lists.specs.KeyOrder.{find_key}
use Rattle.wf_lists.proofs.KeyOrderLemmas.{find-own}
use Rattle.wf_layers.specs.Address.{Address}
use Rattle.wf_layers.specs.Machine.{Event, Try, Step}
use Rattle.wf_asks.specs.Instances.{address_of, instance_cmp, instance_of, instance_total}
use Rattle.wf_asks.specs.declared.instance.Instance.{Instance}
use Rattle.wf_kept.specs.Reached.{IsReached}
use Rattle.wf_kept.specs.Ready.{IsReady}
use Rattle.wf_kept.proofs.Known.{exact_there}
use Rattle.wf_quiet.specs.Quiet.{HasAnswer, IsQuiet}
use Rattle.wf_quiet.proofs.Staying.{stays}
use Rattle.wf_quiet.proofs.Wanted.{one_attempt, quiet_by_ready, wanted_is_ready}
use Rattle.wf_stands.specs.Moment.{Moment}
use Rattle.wf_planned.specs.Kept.{AreEnabled, IsEnabled}
use Rattle.wf_tables.specs.Tables.{event_tree, events_in}
use Rattle.wf_tables.specs.declared.entries.EventAt.{EventAt}
use Rattle.wf_tables.proofs.OpenLemmas.{found_at}
use Rattle.wf_talk.specs.Keys.{is_among}
use Rattle.wf_session.specs.Begun.{Going, answered_in, graph}
use Rattle.wf_session.specs.Settled.{AreHeld}
use Rattle.wf_session.specs.Waiting.{AreAllKept, AreWaiting, IsMissing, Wants, key_at}
use Rattle.wf_waits.specs.Kept.{keys_of}
use Rattle.wf_waits.specs.Places.{MayHappen}
use Rattle.wf_waits.specs.declared.waiting.Waiting.{Waiting}
use Rattle.wf_waits.proofs.ListLemmas.{all_so, at_among}

-- ---- what is found stands at a place

module _ {E : Type 0} (at : E → Instance) where
  find_place : (k : Instance) (xs : List E) (e : E) → find_key instance_cmp at k xs ≡ Some e
      → (n : ℕ) × (n < length xs) × (slice_get xs n ≡ Some e)
  find_place k [] e is = absurd (none-some e is)
  find_place k (x ∷ xs) e is = either (is_eq (instance_cmp k (at x))) refl (find_place k xs e)
    where
      either : (b : Bool) → is_eq (instance_cmp k (at x)) ≡ b
          → (find_key instance_cmp at k xs ≡ Some e → (n : ℕ) × (n < length xs) × (slice_get xs n ≡ Some e))
          → (n : ℕ) × (n < suc (length xs)) × (slice_get (x ∷ xs) n ≡ Some e)
      either true here later = (
        0,
        omega arith,
        sym (ap (λ b. cond b (Some x) (find_key instance_cmp at k xs)) here) ∙ is,
      )
      either false there later =
          let rest = later (sym (ap (λ b. cond b (Some x) (find_key instance_cmp at k xs)) there) ∙ is) in
          (suc rest.0, omega (arith, rest.1), rest.2)

-- the place of an event, by its address
pub record IsListed (ready : List EventAt) (x : Address) (e : Event) : Type 0 where
  pub place : ℕ
  pub within : place < length ready
  pub event : EventAt
  pub event_is : slice_get ready place ≡ Some event
  pub at : event.instance ≡ instance_of x
  pub here : address_of event.instance ≡ x
  pub tree_is : event_tree event ≡ e

listed : (ready : List EventAt) (x : Address) (e : Event) → events_in ready x ≡ Some e → IsListed ready x e
listed ready x e is = go (find_key instance_cmp (λ (v : EventAt). v.instance) (instance_of x) ready) refl is
  where
    go : (o : Option EventAt) → find_key instance_cmp (λ (v : EventAt). v.instance) (instance_of x) ready ≡ o
        → option_map event_tree o ≡ Some e → IsListed ready x e
    go None none q = absurd (none-some e q)
    go (Some v) found q =
        let at = find_place (λ (v : EventAt). v.instance) (instance_of x) ready v found in
        record {
          place = at.0;
          within = at.1;
          event = v;
          event_is = at.2;
          at = found_at (λ (v : EventAt). v.instance) (instance_of x) ready v found;
          here = ap address_of (found_at (λ (v : EventAt). v.instance) (instance_of x) ready v found);
          tree_is = cc (q);
        }

module _ (g : Going) (s : Moment) (ready : List EventAt) (ws : List Waiting) (depth : ℕ → ℕ)
    (reached : IsReached (graph g) depth g.by s) (is_ready : IsReady (graph g) g.by s (events_in ready))
    (held : AreHeld g s ready ws (length ready)) where
  -- what is held at the place of an event
  held_at : (x : Address) (e : Event) → IsListed ready x e → (attempt : ℕ) × Wants g s x attempt
      × (is_among (key_at g x attempt) (keys_of ws) ≡ true)
  held_at x e at =
      let h = held at.place at.within in
      let both : Some h.event ≡ Some at.event = sym h.event_is ∙ at.event_is in
      let same : h.event ≡ at.event = cc in
      let here : address_of h.event.instance ≡ x = ap (λ (v : EventAt). address_of v.instance) same ∙ at.here in (
        h.attempt,
        subst (λ z. Wants g s z h.attempt) here h.waits_still,
        ap (λ z. is_among (key_at g z h.attempt) (keys_of ws)) (sym here) ∙ h.kept,
      )

  -- it is an attempt, and has no answer
  has_none : (x : Address) (e : Event) → events_in ready x ≡ Some e → HasAnswer (answered_in g) s e → ⊥
  has_none x e there has =
      let w = (held_at x e (listed ready x e there)) in
      let want = w.1 in
      let try : events_in ready x ≡ Some (Try x.name x.at) =
      wanted_is_ready (answered_in g) (graph g) g.by s depth reached (events_in ready) is_ready x w.0 want in
      let both : Some (Try x.name x.at) ≡ Some e = sym try ∙ there in
      let same : Try x.name x.at ≡ e = cc in
      let has_try : HasAnswer (answered_in g) s (Try x.name x.at) = subst (HasAnswer (answered_in g) s) (sym same) has in
      true≢false
      (sym (has_try want.leaf want.runs) ∙ (ap (answered_in g x) (sym want.next) ∙ want.open_still))

  pub quiet : IsQuiet (answered_in g) (graph g) g.by s
  quiet = quiet_by_ready (answered_in g) (graph g) g.by s depth reached (events_in ready) is_ready has_none

  pub all_are_kept : AreAllKept g s ws
  all_are_kept x attempt wants =
      let there = wanted_is_ready (answered_in g) (graph g) g.by s depth reached (events_in ready) is_ready x attempt wants in
      let w = held_at x (Try x.name x.at) (listed ready x (Try x.name x.at) there) in
      let same : attempt ≡ w.0 = one_attempt (answered_in g) (graph g) g.by s x attempt w.0 wants w.1 in
      ap (λ k. is_among (key_at g x k) (keys_of ws)) same ∙ w.2

-- each that waits may happen
pub may_happen : (g : Going) (s : Moment) (ready : List EventAt) (ws : List Waiting) (depth : ℕ → ℕ) → IsReached (graph g) depth g.by s
    → AreEnabled (graph g) g.by s ready → AreWaiting g s ws → MayHappen ready ws
may_happen g s ready ws depth reached enabled waiting =
    all_so ws
    (λ (w : Waiting) (m : IsMissing g s (address_of w.instance) w.want).
    let x = address_of w.instance in
    let there = wanted_is_ready (answered_in g) (graph g) g.by s depth reached (events_in ready) enabled.each x w.want.attempt m.waits in
    let at = listed ready x (Try x.name x.at) there in
    record { event = at.event; among = at_among ready at.place at.event at.event_is; here = at.at })
    waiting

-- what is listed may happen
pub listed_enabled : (g : Going) (s : Moment) (ready : List EventAt) (depth : ℕ → ℕ) → IsReached (graph g) depth g.by s
    → AreEnabled (graph g) g.by s ready → (n : ℕ) (e : EventAt) → slice_get ready n ≡ Some e → IsEnabled (graph g) g.by s (event_tree e)
listed_enabled g s ready depth reached enabled n e is =
    ((exact_there (graph g) depth g.by s reached).only (address_of e.instance) (event_tree e)
    (sym (enabled.each (address_of e.instance))
    ∙ ap (option_map event_tree) (find-own instance_total (λ (v : EventAt). v.instance) ready enabled.in_order n e is))).1

-- what waits goes on waiting as another event happens
pub waiting_on : (g : Going) (s s' : Moment) (e : Event) → HasAnswer (answered_in g) s e → Step (graph g) g.by s e s' → (ws : List Waiting)
    → AreWaiting g s ws → AreWaiting g s' ws
waiting_on g s s' e has step ws waiting =
    all_so ws
    (λ (w : Waiting) (m : IsMissing g s (address_of w.instance) w.want).
    record {
      key_is = m.key_is;
      waits = stays (answered_in g) (graph g) g.by s (address_of w.instance) w.want.attempt m.waits e s' has step;
    })
    waiting
