-- Of writers that are in one order the last is found, in whatever order they are listed.
use Rattle.std.proofs.Common.{◌≡◌, Bool, true, false, List, [], ◌∷◌, Option, Some, None, ◌⊎◌, inl, inr, refl, sym, ap, ◌∙◌, subst}
use Rattle.std.proofs.Common.{true≢false}
use Rattle.std.specs.Prelude.{if◌then◌else◌}
use Rattle.std.specs.List.{AllByRecursion}
use Rattle.wf_layers.specs.Address.{Address, SeenIn}
use Rattle.wf_layers.specs.Listed.{Among}
use Rattle.wf_seen_laws.specs.DefTree.{DefTree}
use Rattle.wf_instance.specs.Points.{graph_of, point_of, sees}
use Rattle.wf_instance.specs.MeantVariables.{Written, last_from, later_of}

module _ (d : DefTree) (y : Address) (Told : Written → Type 0)
    (told : (x z : Address) → SeenIn (graph_of d) z x → sees (point_of d z) x ≡ true)
    (only : (x z : Address) → sees (point_of d z) x ≡ true → SeenIn (graph_of d) z x)
    (never_both : (x z : Address) → SeenIn (graph_of d) x z → SeenIn (graph_of d) z x → ⊥) where
  -- it is at y, or y sees it
  abbrev pub Near : Written → Type 0
  Near w = ((w.at ≡ y) ⊎ SeenIn (graph_of d) y w.at) × Told w

  abbrev pub NearIf : Option Written → Type 0
  NearIf None = Unit {0}
  NearIf (Some w) = Near w

  -- what was found is at y
  pub record Found (o : Option Written) : Type 0 where
    pub one : Written
    pub is : o ≡ Some one
    pub at_y : one.at ≡ y
    pub tells : Told one

  chosen : (P : Option Written → Type 0) (b : Bool) (v w : Written) → (b ≡ true → P (Some v)) → (b ≡ false → P (Some w))
      → P (if b then Some v else Some w)
  chosen P true v w one other = one refl
  chosen P false v w one other = other refl

  -- y stays the last
  stays : (ws : List Written) (b : Written) → b.at ≡ y → Told b → AllByRecursion Near ws → Found (last_from d (Some b) ws)
  stays [] b at tells all = record { one = b; is = refl; at_y = at; tells = tells }
  stays (w ∷ ws) b at tells all =
      chosen (λ (o : Option Written). Found (last_from d o ws)) (sees (point_of d w.at) b.at) w b
      (λ t. elim all.0.0 [
        | inl same ↦ stays ws w same all.0.1 all.1
        | inr seen ↦ absurd (never_both y w.at seen
            (subst (λ (q : Address). SeenIn (graph_of d) w.at q) at (only b.at w.at t)))
      ])
      (λ f. stays ws b at tells all.1)

  near_later : (best : Option Written) (w : Written) → NearIf best → Near w → NearIf (later_of d best w)
  near_later None w near one = one
  near_later (Some b) w near one = chosen NearIf (sees (point_of d w.at) b.at) w b (λ t. one) (λ f. near)

  -- y comes
  comes : (ws : List Written) (best : Option Written) (w : Written) → NearIf best → w.at ≡ y → Told w → AllByRecursion Near ws
      → Found (last_from d (later_of d best w) ws)
  comes ws None w near at tells all = stays ws w at tells all
  comes ws (Some b) w near at tells all =
      chosen (λ (o : Option Written). Found (last_from d o ws)) (sees (point_of d w.at) b.at) w b (λ t. stays ws w at tells all)
      (λ f. elim near.0 [
        | inl same ↦ stays ws b same near.1 all
        | inr seen ↦ absurd (true≢false (sym (subst (λ (q : Address). sees (point_of d q) b.at ≡ true) (sym at) (told b.at y seen)) ∙ f))
      ])

  pub found : (ws : List Written) (best : Option Written) (w : Written) → NearIf best → AllByRecursion Near ws → Among ws w → w.at ≡ y
      → Found (last_from d best ws)
  found [] best w near all i at = absurd i
  found (v ∷ ws) best w near all (inl e) at =
      comes ws best v near (ap (λ (q : Written). q.at) e ∙ at) all.0.1 all.1
  found (v ∷ ws) best w near all (inr i) at =
      found ws (later_of d best v) w (near_later best v near all.0) all.1 i at
