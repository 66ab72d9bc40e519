-- Idle actions and open containers, looked at anew.
use Rattle.std.proofs.Common.{◌≡◌, ℕ, Bool, true, false, ◌&&◌, ◌||◌, cond, List, [], ◌∷◌, Option, Some, None, option_map, length, nat_eq, refl, sym, ap, ◌∙◌, arith}
use Rattle.wf_layers.specs.Address.{Address, Table, address, is_own, same_at}
use Rattle.wf_layers.specs.Definition.{Graph, Kind, kind_of, needs_of}
use Rattle.wf_layers.specs.Machine as machine
use Rattle.wf_layers.specs.Machine.{Opening, State, has_ended}
use Rattle.wf_layers.specs.Source.{Source}
use Rattle.wf_layers.proofs.Tables.{own_is}
use Rattle.wf_tables.specs.Event.{counted_busy, counted_event, counted_idle}
use Rattle.wf_tables.specs.Known.{is_among}
use Rattle.wf_tables.specs.Instance.{Instance}
use Rattle.wf_tables.specs.Plan.{PlanTree}
use Rattle.wf_tables.specs.PlanOf.{IsPlanOf}
use Rattle.wf_tables.specs.Tables.{event_at}
use Rattle.wf_events.specs.Events.{idle_kind, open_kind}
use Rattle.wf_events.specs.Looked.{idle_at, idle_by, instances_at, look_each, open_at, open_by}
use Rattle.wf_events.proofs.EventLemmas.{idle_same, open_same}

-- where none is left all are as they are
pub none_looked : (look : Address → Option machine.Event) (ps : List Instance) → length ps ≡ 0 → (t : Table machine.Event) (x : Address)
    → t x ≡ look_each look ps t x
none_looked look [] e t x = refl
none_looked look (p ∷ ps) e t x = absurd (omega (arith, e))

-- those that are looked at, at the same indexes, are as the look gives them, and all others as before
pub looked_all : (look : Address → Option machine.Event) (at ns : List ℕ) (t : Table machine.Event) (x : Address)
    → look_each look (instances_at at ns) t x ≡ cond (is_among x.name ns && same_at at x.at) (look x) (t x)
looked_all look at [] t x = refl
looked_all look at (n ∷ ns) t x =
    looked_all look at ns (λ y. cond (is_own n at y) (look (address n at)) (t y)) x
    ∙ go (nat_eq n x.name) (is_among x.name ns) (same_at at x.at) (λ e. ap look (own_is n at x e))
  where
    go : (a b c : Bool) → ((a && c) ≡ true → look (address n at) ≡ look x)
        → cond (b && c) (look x) (cond (a && c) (look (address n at)) (t x)) ≡ cond ((a || b) && c) (look x) (t x)
    go true true true e = refl
    go true true false e = refl
    go true false true e = e refl
    go true false false e = refl
    go false true true e = refl
    go false true false e = refl
    go false false true e = refl
    go false false false e = refl

-- ---- what a plan's look gives is the event that the counts give

module _ {Row Begun Decision Verdict : Type 0} (d : Graph) (m : Source Row Begun Decision Verdict) (s : State Row Begun Decision Verdict)
    (waits lacks : Table ℕ) (left : Address → ℕ) (p : PlanTree) (plan : IsPlanOf d p) (n : ℕ) (i : List ℕ) (kind : Kind)
    (known : kind_of d n ≡ Some kind) (no_row : s.rows (address n i) ≡ None) (not_running : s.running (address n i) ≡ None) where
  by_opening : (o : Option (Opening Decision Verdict)) → s.opens (address n i) ≡ o
      → counted_event d m s waits lacks left (needs_of d n) kind n i ≡ counted_idle d m s waits lacks left (needs_of d n) kind n i o
  by_opening o e =
      ap (λ r. cond (has_ended r) None (counted_busy d m s waits lacks left (needs_of d n) kind n i (s.running (address n i)))) no_row
      ∙ ap (counted_busy d m s waits lacks left (needs_of d n) kind n i) not_running
      ∙ ap (counted_idle d m s waits lacks left (needs_of d n) kind n i) e

  pub idle_there : s.opens (address n i) ≡ None
      → idle_at m s.rows waits p (address n i) ≡ counted_event d m s waits lacks left (needs_of d n) kind n i
  idle_there not_open =
      let entry = plan.entry n kind known in
      ap (λ o. idle_by m s.rows waits o n i) entry.1
      ∙ ap (λ ns. option_map (λ k. event_at k n i) (idle_kind m s.rows waits ns entry.0.shape n i)) entry.2.after
      ∙ ap (λ z. option_map (λ k. event_at k n i) (idle_kind m s.rows waits (needs_of d n) z n i)) entry.2.shape
      ∙ idle_same d m s waits lacks left n i (needs_of d n) kind
      ∙ sym (by_opening None not_open)

  pub open_there : (opens : Table (Opening Decision Verdict)) → s.opens ≡ opens → (w : Opening Decision Verdict)
      → opens (address n i) ≡ Some w
      → open_at m opens lacks left p (address n i) ≡ counted_event d m s waits lacks left (needs_of d n) kind n i
  open_there opens same w is_open =
      let entry = plan.entry n kind known in
      ap (λ o. open_by m o (opens (address n i)) lacks (left (address n i)) n i) entry.1
      ∙ ap (λ o. open_by m (Some entry.0) o lacks (left (address n i)) n i) is_open
      ∙ ap (λ z. option_map (λ k. event_at k n i) (open_kind m lacks (left (address n i)) z n i w)) entry.2.shape
      ∙ open_same d m s waits lacks left n i kind w
      ∙ sym (by_opening (Some w) (ap (λ t. t (address n i)) same ∙ is_open))
