-- The kept events are those that may happen.
use Rattle.std.proofs.Common.{◌≡◌, ℕ, Bool, suc, ◌<◌, true, false, List, [], ◌∷◌, Some, length, slice_get, option_map, nat_eq, refl, sym, ap, ◌∙◌, arith, eqb-true, true≢false}
use Rattle.std.proofs.lemmas.Option.{none-some}
use Rattle.wf_lists.specs.KeyOrder.{IsInKeyOrder}
use Rattle.wf_lists.proofs.KeyOrderLemmas.{find-own}
use Rattle.wf_layers.specs.Definition.{Graph}
use Rattle.wf_layers.specs.Address.{Address, address}
use Rattle.wf_layers.specs.Laws.{Exact}
use Rattle.wf_layers.specs.Machine as machine
use Rattle.wf_layers.specs.Machine.{State}
use Rattle.wf_layers.specs.Source.{Source}
use Rattle.wf_kept.proofs.Known.{exact_there}
use Rattle.wf_events.specs.Instances.{instance_cmp, instance_total}
use Rattle.wf_steps.specs.Kept.{IsEnabled, IsOver, IsKept}
use Rattle.wf_events.specs.Tables.{event_tree}
use Rattle.wf_events.specs.CountAt.{CountAt}
use Rattle.wf_events.specs.EventAt.{EventAt}
use Rattle.wf_events.specs.OpenAt.{OpenAt}
use Rattle.wf_events.specs.WriterAt.{WriterAt}

module _ {Row Begun Decision Verdict Decided Told : Type 0} (d : Graph) (m : Source Row Begun Decision Verdict) (depth : ℕ → ℕ)
    (writes : ℕ → Address → Row → Bool) (s : State Row Begun Decision Verdict) (opens : List (OpenAt Decided Told)) (store : List WriterAt)
    (waits lacks : List CountAt) where
  module _ (ready : List EventAt) (kept : IsKept d m depth writes s opens store waits lacks ready) where
    exact : Exact d m s
    exact = exact_there d depth m s kept.reached

    pub enabled_at : IsInKeyOrder instance_cmp (λ (e : EventAt). e.instance) ready → (n : ℕ) (e : EventAt) → slice_get ready n ≡ Some e
        → IsEnabled d m s (event_tree e)
    enabled_at order n e at =
        (exact.only (address e.instance.action e.instance.at) (event_tree e)
        (sym (kept.enabled (address e.instance.action e.instance.at))
        ∙ ap (option_map event_tree) (find-own instance_total (λ (e : EventAt). e.instance) ready order n e at))).1

  over_if_none : IsKept d m depth writes s opens store waits lacks [] → IsOver d m s
  over_if_none kept e s' goes =
      none-some e (kept.enabled (machine.place_of e) ∙ (exact [] kept).each e s' goes)

  pub over_by : (ready : List EventAt) → IsKept d m depth writes s opens store waits lacks ready → nat_eq (length ready) 0 ≡ true
      → IsOver d m s
  over_by [] kept none = over_if_none kept
  over_by (e ∷ es) kept none = absurd (let z = eqb-true (suc (length es)) 0 none in omega (arith, z))

  pub some_left : (ready : List EventAt) → IsKept d m depth writes s opens store waits lacks ready
      → (IsOver d m s → ⊥) → 0 < length ready
  some_left [] kept going = absurd (going (over_if_none kept))
  some_left (e ∷ es) kept going = omega arith

  pub not_over : (ready : List EventAt) → IsKept d m depth writes s opens store waits lacks ready
      → IsInKeyOrder instance_cmp (λ (e : EventAt). e.instance) ready → nat_eq (length ready) 0 ≡ false
      → IsOver d m s → ⊥
  not_over [] kept order some over = true≢false some
  not_over (e ∷ es) kept order some over = let next = enabled_at (e ∷ es) kept order 0 e refl in over (event_tree e) next.0 next.1
