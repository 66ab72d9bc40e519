-- What is told of a reached state by the meaning's rows: the gate of a running leaf held, and what is only now decided has a row there.
use Rattle.std.proofs.Common.{◌≡◌, ℕ, true, List, [], ◌∷◌, None, Some, ⊎_elim, refl, sym, ap, ◌∙◌, subst}
use Rattle.std.proofs.lemmas.Option.{none-some}
use Rattle.wf_layers.specs.Definition.{Need, Kind, Leaf, Graph, needs_of}
use Rattle.wf_layers.specs.Address.{Address, address}
use Rattle.wf_layers.specs.Source.{Source, gate}
use Rattle.wf_layers.specs.Meaning.{meaning}
use Rattle.wf_layers.specs.Machine.{Running, State, Event, Start, Try, End, Skip, Open, Begin, Test, Close, one, IsDecided, Step, Run, fresh}
use Rattle.wf_layers.specs.Resubmission.{pin}
use Rattle.wf_layers.specs.Resubmission as resubmission
use Rattle.wf_layers.proofs.Events.{own_row}
use Rattle.wf_layers.proofs.Keeps.{decided_gate}
use Rattle.wf_layers.proofs.Tables.{one_is, place_split, without_split}
use Rattle.wf_kept.specs.Reached.{IsReached, begun, resumed}
use Rattle.wf_kept.proofs.Informed.{kinds_are_known}
use Rattle.wf_kept.proofs.Known.{known, goes_on}
use Rattle.wf_kept.proofs.Resumed.{decided_is_new}

module _ {Row Begun Decision Verdict : Type 0} (d : Graph) (depth : ℕ → ℕ) (m : Source Row Begun Decision Verdict)
    (s : State Row Begun Decision Verdict) (reached : IsReached d depth m s) (n : ℕ) (i : List ℕ) (after : List Need) (kind : Kind)
    (de : IsDecided d m s n i after kind) where
  pub decided_has_row : meaning m depth d (address n i) ≡ None → ⊥
  decided_has_row e =
      let k = known d depth m s reached in
      own_row m d k.so (meaning m depth d) k.sol s.rows s.opens k.keeps.facts de.is_there.graph i n after kind de.is_there.is_open
      de.is_there.is_in (decided_is_new d depth m s reached n i after kind de).0 e

  pub gate_is_known : gate m after n i s.rows ≡ gate m after n i (meaning m depth d)
  gate_is_known =
      let k = known d depth m s reached in
      decided_gate m d k.so (meaning m depth d) k.sol k.closed s k.keeps de.is_there.graph i n after kind de.is_there.is_open
      de.is_there.is_in de.ended

module _ {Row Begun Decision Verdict : Type 0} (d : Graph) (depth : ℕ → ℕ) (m : Source Row Begun Decision Verdict) where
  abbrev GateHeld : Address → Type 0
  GateHeld x = gate m (needs_of d x.name) x.name x.at (meaning m depth d) ≡ true

  abbrev AllHeld : State Row Begun Decision Verdict → Type 0
  AllHeld s = (x : Address) (w : Running Begun) → s.running x ≡ Some w → GateHeld x

  step_held : (s : State Row Begun Decision Verdict) → IsReached d depth m s → AllHeld s → (e : Event)
      (s' : State Row Begun Decision Verdict) → Step d m s e s' → AllHeld s'
  step_held s reached held (Start n i) s' (after, de, pass, to) = subst AllHeld (sym to) (λ x w e.
      ⊎_elim (λ h. subst GateHeld (one_is n i _ x w h).0 base) (λ h. held x w h) (place_split (one n i _) s.running x w e))
    where
      base : GateHeld (address n i)
      base =
          ap (λ a. gate m a n i (meaning m depth d)) (kinds_are_known d depth m s reached n i after Leaf de.is_there).1
          ∙ sym (gate_is_known d depth m s reached n i after Leaf de) ∙ pass
  step_held s reached held (Try n i) s' (v, run, lt, to) = subst AllHeld (sym to) (λ x w e.
      ⊎_elim (λ h. subst GateHeld (one_is n i _ x w h).0 (held (address n i) v run)) (λ h. held x w h)
      (place_split (one n i _) s.running x w e))
  step_held s reached held (End n i) s' (v, run, all, to) =
      subst AllHeld (sym to) (λ x w e. held x w (without_split n i s.running x w e))
  step_held s reached held (Skip n i) s' (after, kind, de, fails, to) = subst AllHeld (sym to) held
  step_held s reached held (Open n i) s' (after, kind, c, de, pass, to) = subst AllHeld (sym to) held
  step_held s reached held (Begin n i) s' (after, kind, w, th, e, may, to) = subst AllHeld (sym to) held
  step_held s reached held (Test n i) s' (after, kind, w, j, th, e, may, to) = subst AllHeld (sym to) held
  step_held s reached held (Close n i) s' (after, kind, w, th, e, may, to) = subst AllHeld (sym to) held

  run_held : (s : State Row Begun Decision Verdict) → IsReached d depth m s → AllHeld s → (es : List Event)
      (s' : State Row Begun Decision Verdict) → Run d m s es s' → AllHeld s'
  run_held s reached held [] s' run = subst AllHeld (sym run) held
  run_held s reached held (e ∷ es) s' (mid, st, run) =
      run_held mid (goes_on d depth m s reached e mid st) (step_held s reached held e mid st) es s' run

module _ {Row Begun Decision Verdict : Type 0} (d : Graph) (depth : ℕ → ℕ) where
  -- the gate of a running leaf held
  pub running_gate : (m : Source Row Begun Decision Verdict) (s : State Row Begun Decision Verdict) → IsReached d depth m s
      → (x : Address) (w : Running Begun) → s.running x ≡ Some w
      → gate m (needs_of d x.name) x.name x.at (meaning m depth d) ≡ true
  running_gate m s (begun es is run) = run_held d depth m fresh (begun [] is refl) (λ x w e. absurd (none-some w e)) es s run
  running_gate _ s (resumed a b redo again r recall es falls closed sb old run) =
      run_held d depth (pin a b redo again r recall) (resubmission.resumed d redo again r recall)
      (resumed a b redo again r recall [] falls closed sb old refl) (λ x w e. absurd (none-some w e)) es s run
