-- An edited ready set is that of the new state.
use Rattle.std.proofs.Common.{◌≡◌, ℕ, Bool, true, false, List, [], Option, Some, None, ⊎_elim, refl, sym, ◌∙◌, true≢false}
use Rattle.std.proofs.lemmas.Option.{none-some}
use Rattle.wf_layers.specs.Definition.{Need, Kind, Graph}
use Rattle.wf_layers.specs.Address.{Address, Table, SeenIn}
use Rattle.wf_layers.specs.Source.{Source, Sound}
use Rattle.wf_layers.specs.Rule.{Obeys}
use Rattle.wf_layers.specs.Meaning.{meaning}
use Rattle.wf_layers.specs.Machine.{State, Event, has_ended, IsThere, Step}
use Rattle.wf_layers.specs.Enabled.{of_busy, events}
use Rattle.wf_layers.specs.Changes.{may_change}
use Rattle.wf_layers.proofs.Basics.{two, when}
use Rattle.wf_layers.proofs.Keeps.{Keeps, IsClosed, SpecialOut}
use Rattle.wf_layers.proofs.Events.{step_keeps}
use Rattle.wf_layers.proofs.Busy.{Busy, step_busy}
use Rattle.wf_layers.proofs.Rooted.{Rooted}
use Rattle.wf_layers.proofs.Enabled.{at_there, exact}
use Rattle.wf_layers.proofs.Changes.{only_there, enabled_there, stays, ended_row}
use Rattle.wf_kept.specs.Reached.{IsReached}
use Rattle.wf_kept.specs.Ready.{IsReady, IsEdited, Stands, IsRefreshed}
use Rattle.wf_kept.proofs.Known.{known}

module _ {Row Begun Decision Verdict : Type 0} (m : Source Row Begun Decision Verdict) (d : Graph) (so : Sound m (SeenIn d) d 0)
    (f : Table Row) (sol : Obeys m d f) (closed : IsClosed m d so f sol) (out : SpecialOut m d so f sol)
    (s : State Row Begun Decision Verdict) (e : Event) (s' : State Row Begun Decision Verdict) (k : Keeps m d so f sol s)
    (b : Busy m d so f sol s) (r : Rooted m d so f sol s) (st : Step d m s e s') where
  k' : Keeps m d so f sol s'
  k' = step_keeps m d so f sol closed out s e s' k st

  b' : Busy m d so f sol s'
  b' = step_busy m d so f sol out s e s' k b st

  pub edited : (ready new : Table Event) → IsReady d m s ready → IsEdited d m s e s' ready new → IsReady d m s' new
  edited ready new is ed x =
      ⊎_elim changed
      (λ free. ed.others x free ∙ (is x ∙ sym (only_there m d so f sol closed out s e s' k b r st x free)))
      (two (may_change d s e x))
    where
      stands : (after : List Need) (kind : Kind) → IsThere d m s' x.name x.at after kind → may_change d s e x ≡ true
          → new x ≡ events m s' d [] x
      stands after kind th t =
          ed.looked x.name x.at after kind th t ∙ sym (at_there m d so f sol s' x.name x.at after kind th)

      changed : may_change d s e x ≡ true → new x ≡ events m s' d [] x
      changed t = go (events m s' d [] x) refl
        where
          go : (o : Option Event) → events m s' d [] x ≡ o → new x ≡ events m s' d [] x
          go None eo = ⊎_elim (λ th. stands th.0 th.1 th.2 t) (λ none. none ∙ sym eo) (ed.outside x t)
          go (Some y) eo =
              let z = (exact m d so f sol s' k' b').only x y eo in
              let th = enabled_there m d so f sol closed out s e s' k b r st s' b' x y z.1.0 z.0 z.1.1 in
              stands th.0 th.1 th.2 t

  -- what stood in an open graph and had an event stands there still
  still_stands : (x : Address) (y : Event) → events m s d [] x ≡ Some y → (Stands d m s' x → ⊥) → ⊥
  still_stands x y ea gone =
      let z = (exact m d so f sol s k b).only x y ea in
      let th = enabled_there m d so f sol closed out s e s' k b r st s b x y z.1.0 z.0 z.1.1 in
      ⊎_elim
      (λ og. gone (th.0, th.1, record { graph = th.2.graph; is_open = og; is_in = th.2.is_in }))
      (λ over. none-some y
      (sym (when (has_ended (s.rows x)) None (of_busy m s th.0 th.1 x.name x.at (s.running x))
      (ended_row m d so f sol closed out s e s' k b r st th.2.graph x.at x.name th.0 th.1 th.2.is_in over))
      ∙ sym (at_there m d so f sol s x.name x.at th.0 th.1 th.2) ∙ ea))
      (stays m d so f sol closed out s e s' k b r st th.2.graph x.at th.2.is_open)

  pub refreshed : (R : Address → Bool) (ready new : Table Event) → IsReady d m s ready → IsRefreshed d m R s e s' ready new
      → IsReady d m s' new
  refreshed R ready new is ed x = ⊎_elim anew left (two (R x))
    where
      anew : R x ≡ true → new x ≡ events m s' d [] x
      anew t =
          let th = ed.stands x t in
          ed.looked x.name x.at th.0 th.1 th.2 t ∙ sym (at_there m d so f sol s' x.name x.at th.0 th.1 th.2)

      left : R x ≡ false → new x ≡ events m s' d [] x
      left u =
          ⊎_elim changed
          (λ free. ed.others x u ∙ (is x ∙ sym (only_there m d so f sol closed out s e s' k b r st x free)))
          (two (may_change d s e x))
        where
          changed : may_change d s e x ≡ true → new x ≡ events m s' d [] x
          changed t = ed.others x u ∙ is x ∙ go (events m s d [] x) refl (events m s' d [] x) refl
            where
              outside : Stands d m s' x → ⊥
              outside th = true≢false (sym (ed.covers x th t) ∙ u)

              go : (a : Option Event) → events m s d [] x ≡ a → (c : Option Event) → events m s' d [] x ≡ c
                  → events m s d [] x ≡ events m s' d [] x
              go None ea None ec = ea ∙ sym ec
              go (Some y) ea c ec = absurd (still_stands x y ea outside)
              go None ea (Some y) ec =
                  let z = (exact m d so f sol s' k' b').only x y ec in
                  absurd (outside (enabled_there m d so f sol closed out s e s' k b r st s' b' x y z.1.0 z.0 z.1.1))

module _ {Row Begun Decision Verdict : Type 0} (d : Graph) (depth : ℕ → ℕ) (m : Source Row Begun Decision Verdict)
    (s : State Row Begun Decision Verdict) (reached : IsReached d depth m s) (e : Event) (s' : State Row Begun Decision Verdict)
    (st : Step d m s e s') where
  -- THE LAW, of each reached state
  pub edits_are_exact : (ready new : Table Event) → IsReady d m s ready → IsEdited d m s e s' ready new → IsReady d m s' new
  edits_are_exact =
      let k = known d depth m s reached in
      edited m d k.so (meaning m depth d) k.sol k.closed k.out s e s' k.keeps k.busy k.rooted st

  -- AND OF WHAT AN ENGINE DOES
  pub refreshes_are_exact : (R : Address → Bool) (ready new : Table Event) → IsReady d m s ready
      → IsRefreshed d m R s e s' ready new → IsReady d m s' new
  refreshes_are_exact =
      let k = known d depth m s reached in
      refreshed m d k.so (meaning m depth d) k.sol k.closed k.out s e s' k.keeps k.busy k.rooted st
