-- What a quiet state waits for, and how it is told by the ready set.
use Rattle.std.proofs.Common.{◌≡◌, ℕ, suc, true, List, Some, refl, sym, ap, ◌∙◌, subst, ltb-true}
use Rattle.std.proofs.lemmas.Bool.{lt-ltb}
use Rattle.wf_layers.specs.Definition.{Graph}
use Rattle.wf_layers.specs.Address.{Address, Table, address}
use Rattle.wf_layers.specs.Source.{Source}
use Rattle.wf_layers.specs.Laws.{Exact}
use Rattle.wf_layers.specs.Machine.{Running, State, Event, Start, Try, End, Skip, Open, Begin, Test, Close, place, place_of, one, Step, IsOver}
use Rattle.wf_layers.proofs.Basics.{not_true}
use Rattle.wf_kept.specs.Reached.{IsReached}
use Rattle.wf_kept.specs.Ready.{IsReady}
use Rattle.wf_kept.proofs.Known.{exact_there}
use Rattle.wf_quiet.specs.Quiet.{Answers, HasAnswer, IsQuiet, IsWanted}

module _ {Row Begun Decision Verdict : Type 0} (answered : Answers) (d : Graph) (m : Source Row Begun Decision Verdict)
    (s : State Row Begun Decision Verdict) where
  abbrev St : Type 0
  St = State Row Begun Decision Verdict

  -- one leaf runs at an address
  one_leaf : (x : Address) (w v : Running Begun) → s.running x ≡ Some w → s.running x ≡ Some v → w ≡ v
  one_leaf x w v e h = let same : Some w ≡ Some v = sym e ∙ h in cc

  pub wants : IsQuiet answered d m s → (e : Event) (s' : St) → Step d m s e s'
      → (n : ℕ) × (i : List ℕ) × (k : ℕ) × (e ≡ Try n i) × IsWanted answered d m s (address n i) k
  wants quiet (Try n i) s' (w, is, lt, to) = (
    n,
    i,
    suc w.tries,
    refl,
    record {
      leaf = w;
      runs = is;
      next = refl;
      makes = lt-ltb w.tries (m.tries (address n i) w.begun) lt;
      open_still = not_true (answered (address n i) (suc w.tries))
          (λ there. quiet (Try n i) s' (w, is, lt, to)
          (λ v e. subst (λ (u : Running Begun). answered (address n i) (suc u.tries) ≡ true) (one_leaf (address n i) w v is e) there));
    },
  )
  wants quiet (Start n i) s' st = absurd (quiet (Start n i) s' st tt)
  wants quiet (End n i) s' st = absurd (quiet (End n i) s' st tt)
  wants quiet (Skip n i) s' st = absurd (quiet (Skip n i) s' st tt)
  wants quiet (Open n i) s' st = absurd (quiet (Open n i) s' st tt)
  wants quiet (Begin n i) s' st = absurd (quiet (Begin n i) s' st tt)
  wants quiet (Test n i) s' st = absurd (quiet (Test n i) s' st tt)
  wants quiet (Close n i) s' st = absurd (quiet (Close n i) s' st tt)

  pub enabled : (x : Address) (k : ℕ) → IsWanted answered d m s x k → (s' : St) × Step d m s (Try x.name x.at) s'
  enabled x k wanted = (
    record {
      rows = s.rows;
      running =
          place (one x.name x.at (record { begun = wanted.leaf.begun; tries = suc wanted.leaf.tries })) s.running;
      opens = s.opens;
    },
    (wanted.leaf, wanted.runs, ltb-true wanted.leaf.tries (m.tries x wanted.leaf.begun) wanted.makes, refl),
  )

  pub one_attempt : (x : Address) (k l : ℕ) → IsWanted answered d m s x k → IsWanted answered d m s x l → k ≡ l
  one_attempt x k l a b =
      a.next ∙ ap (λ (w : Running Begun). suc w.tries) (one_leaf x a.leaf b.leaf a.runs b.runs) ∙ sym b.next

  pub over : IsQuiet answered d m s → ((x : Address) (k : ℕ) → IsWanted answered d m s x k → ⊥) → IsOver d m s
  over quiet none e s' st = let want = wants quiet e s' st in none (address want.0 want.1) want.2 want.4

  module _ (depth : ℕ → ℕ) (reached : IsReached d depth m s) (ready : Table Event) (is : IsReady d m s ready) where
    exact : Exact d m s
    exact = exact_there d depth m s reached

    pub quiet_by_ready : ((x : Address) (e : Event) → ready x ≡ Some e → HasAnswer answered s e → ⊥) → IsQuiet answered d m s
    quiet_by_ready none e s' st has = none (place_of e) e (is (place_of e) ∙ exact.each e s' st) has

    pub wanted_is_ready : (x : Address) (k : ℕ) → IsWanted answered d m s x k → ready x ≡ Some (Try x.name x.at)
    wanted_is_ready x k wanted =
        let st = enabled x k wanted in is x ∙ exact.each (Try x.name x.at) st.0 st.1

    pub ready_is_wanted : IsQuiet answered d m s → (x : Address) (e : Event) → ready x ≡ Some e
        → (k : ℕ) × IsWanted answered d m s x k
    ready_is_wanted quiet x e there =
        let at = exact.only x e (sym (is x) ∙ there) in let want = wants quiet e at.1.0 at.1.1 in
        let here : address want.0 want.1 ≡ x = sym (at.0 ∙ ap place_of want.3) in
        (want.2, subst (λ (z : Address). IsWanted answered d m s z want.2) here want.4)
