-- What is there as an Until is tested.
use Rattle.std.proofs.Common.{◌≡◌, ℕ, suc, ◌<◌, true, [], ◌∷◌, ◌++◌, inl, inr, ⊎_elim, sym, subst, arith, nat_eq, eqb-true}
use Rattle.std.proofs.lemmas.Bool.{eqb-false}
use Rattle.wf_layers.specs.Definition.{Until, Graph}
use Rattle.wf_layers.specs.Address.{Address, address, Table, is_within, SeenIn}
use Rattle.wf_layers.specs.Source.{Source, Sound}
use Rattle.wf_layers.specs.Rule.{Obeys}
use Rattle.wf_layers.specs.Meaning.{meaning}
use Rattle.wf_layers.proofs.Basics.{two}
use Rattle.wf_layers.specs.Machine.{State, round}
use Rattle.wf_layers.specs.Variables.{TestSees}
use Rattle.wf_layers.specs.Laws.{IsInstance, TestsInOrder}
use Rattle.wf_layers.specs.Facts.{OpenFact}
use Rattle.wf_layers.proofs.Open.{Passes, fact_of}
use Rattle.wf_layers.proofs.Keeps.{Keeps, SpecialOut}
use Rattle.wf_layers.proofs.Events.{ended_settled}
use Rattle.wf_layers.proofs.Progress.{sol, kept_state, nothing_special}
use Rattle.wf_layers.proofs.Busy.{Busy}
use Rattle.wf_layers.proofs.Rooted.{Rooted, begun}
use Rattle.wf_layers.proofs.Facts.{busy_state, rooted_state}
use Rattle.wf_layers.proofs.Variables.{Lull, no_lull, point_sees}

module _ {Row Begun Decision Verdict : Type 0} (m : Source Row Begun Decision Verdict) (d : Graph) (so : Sound m (SeenIn d) d 0)
    (f : Table Row) (sol : Obeys m d f) where
  pub test_sees : Lull m d so f sol → SpecialOut m d so f sol → (s : State Row Begun Decision Verdict) → Keeps m d so f sol s
      → Busy m d so f sol s → Rooted m d so f sol s → TestSees d m f s
  test_sees lull out s k b rt n i after most g w j th e may = (
    λ y q p ne ord.
        ⊎_elim
        (λ h. let z = begun m d so f sol s b rt n i after most g w th e y q p h in let lt = z.1 in let next' = may.0 in
        inr (z.0, omega (arith, lt, next'), z.2))
        (λ h. inl (point_sees m d so f sol lull out s k th.graph i n after (Until most g) th.is_open th.is_in fact.0.free
        (b.no_row (address n i) (inr (w, e))) y q p ne h))
        ord,
    λ y see. ⊎_elim (λ h. k.open_behind n i w e y h) (λ h. settled h.0 h.1 y h.2) see,
  )
    where
      fact : Passes m d so f sol n after i × OpenFact m f s.rows (Until most g) n i w
      fact = fact_of m d so f sol s.rows s.opens k.facts th.graph i n after (Until most g) w th.is_open th.is_in e

      settled : (q : ℕ) → q < suc j → (y : Address) → is_within g (i ++ q ∷ []) y ≡ true → s.rows y ≡ f y
      settled q lt =
          let next' = may.0 in
          ⊎_elim
          (λ same. subst (λ x. (y : Address) → is_within g (i ++ x ∷ []) y ≡ true → s.rows y ≡ f y) (sym (eqb-true q j same))
          (ended_settled m d so f sol s k g (i ++ j ∷ []) (round j th.is_open th.is_in e (omega (arith, next'))) may.2))
          (λ ne. let x = eqb-false q j ne in (fact.1.1 q (omega (arith, x, next', lt))).1)
          (two (nat_eq q j))

module _ {Row Begun Decision Verdict : Type 0} (d : Graph) (m : Source Row Begun Decision Verdict) (depth : ℕ → ℕ)
    (is : IsInstance d m depth) where
  pub tests_in_order : TestsInOrder d m depth
  tests_in_order es s r =
      test_sees m d is.local (meaning m depth d) (sol d m depth is) (no_lull d m depth is) (nothing_special d m depth is) s
      (kept_state d m depth is es s r) (busy_state d m depth is es s r) (rooted_state d m depth is es s r)
