-- What a state that is over has.
use Rattle.std.proofs.Common.{◌≡◌, ℕ, true, false, [], Option, Some, None, ⊎_elim, refl, sym, ◌∙◌}
use Rattle.std.proofs.lemmas.Option.{none-some}
use Rattle.wf_layers.specs.Definition.{Graph, Turns}
use Rattle.wf_layers.specs.Address.{Address, is_within}
use Rattle.wf_layers.specs.Machine.{State, IsOver}
use Rattle.wf_layers.specs.Meaning.{deepest, meaning}
use Rattle.wf_layers.specs.Source.{Source}
use Rattle.wf_layers.proofs.Basics.{two}
use Rattle.wf_layers.proofs.Layers.{out_layers}
use Rattle.wf_layers.proofs.OldTable.{any_at_the_end}
use Rattle.wf_layers.proofs.Progress.{all_rows_at_the_end}
use Rattle.wf_kept.specs.Reached.{IsReached, begun, resumed}
use Rattle.wf_kept.proofs.Informed.{reached_facts}

module _ {Row Begun Decision Verdict : Type 0} (d : Graph) (depth : ℕ → ℕ) where
  -- inside the definition
  within : (m : Source Row Begun Decision Verdict) (s : State Row Begun Decision Verdict) → Turns d → IsReached d depth m s
      → IsOver d m s → (x : Address) → is_within d [] x ≡ true → s.rows x ≡ meaning m depth d x
  within m s turns (begun es own run) over x t = all_rows_at_the_end d m depth own es s run over x t
  within _ s turns (resumed a b redo again r recall es falls closed sb old run) over x t =
      (any_at_the_end a b redo again d depth falls sb r recall old closed turns es s run over).0 x t

  module _ (m : Source Row Begun Decision Verdict) (s : State Row Begun Decision Verdict) (turns : Turns d)
      (reached : IsReached d depth m s) (over : IsOver d m s) where
    outside : (x : Address) → is_within d [] x ≡ false → (o : Option Row) → s.rows x ≡ o → s.rows x ≡ meaning m depth d x
    outside x u None e = e ∙ sym (out_layers m depth d [] (deepest depth d) (λ y. None) x u)
    outside x u (Some r) e =
        let placed = (reached_facts d depth m s reached).rows x r e in
        absurd (none-some r (sym (out_layers m depth d [] (deepest depth d) (λ y. None) x u) ∙ placed))

    pub whole : (x : Address) → s.rows x ≡ meaning m depth d x
    whole x = ⊎_elim (λ t. within m s turns reached over x t) (λ u. outside x u (s.rows x) refl) (two (is_within d [] x))
