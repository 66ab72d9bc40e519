-- What is there as an action is asked.
use Rattle.std.proofs.Common.{◌≡◌, ℕ, List, Option, Some, None, inl, inr, refl, sym, ◌∙◌, subst, length}
use Rattle.wf_layers.specs.Definition.{Need, Kind, Leaf, Scope, Choice, Foreach, Until, Graph, needs_of, kind_of}
use Rattle.wf_layers.specs.Address.{Address, address, SeenIn}
use Rattle.wf_layers.specs.Source.{Source, SoundIn}
use Rattle.wf_layers.specs.Meaning.{meaning}
use Rattle.wf_layers.specs.Facts.{Facts, OpenFact}
use Rattle.wf_layers.specs.Machine.{Running, Opening, State, IsContainer, MayTest, IsThere, IsDecided}
use Rattle.wf_layers.specs.Variables.{SeenAreThere, SeenByTest, TestSees}
use Rattle.wf_layers.proofs.Facts.{facts_of_states}
use Rattle.wf_layers.proofs.Open.{open_sub, placed_in, kind_there, fact_of}
use Rattle.wf_layers.proofs.OldTable.{any_facts, any_order}
use Rattle.wf_layers.proofs.Tests.{tests_in_order}
use Rattle.wf_layers.proofs.Variables.{variables_in_order}
use Rattle.wf_kept.specs.Reached.{IsReached, begun, resumed}
use Rattle.wf_kept.proofs.Known.{Known, known}

module _ {Row Begun Decision Verdict : Type 0} (d : Graph) (depth : ℕ → ℕ) where
  pub reached_facts : (m : Source Row Begun Decision Verdict) (s : State Row Begun Decision Verdict) → IsReached d depth m s
      → Facts d m (meaning m depth d) s
  reached_facts m s (begun es is run) = facts_of_states d m depth is es s run
  reached_facts _ s (resumed a b redo again r recall es falls closed sb old run) =
      any_facts a b redo again d depth falls sb r recall old closed es s run

  -- what decided actions and tests see
  in_order : (m : Source Row Begun Decision Verdict) (s : State Row Begun Decision Verdict) → IsReached d depth m s
      → SeenAreThere d m (meaning m depth d) s × TestSees d m (meaning m depth d) s
  in_order m s (begun es is run) = ((variables_in_order d m depth is es s run).1, tests_in_order d m depth is es s run)
  in_order _ s (resumed a b redo again r recall es falls closed sb old run) =
      let h = any_order a b redo again d depth falls sb r recall old closed es s run in (h.1, h.2)

module _ {Row Begun Decision Verdict : Type 0} (d : Graph) (depth : ℕ → ℕ) (m : Source Row Begun Decision Verdict)
    (s : State Row Begun Decision Verdict) (reached : IsReached d depth m s) where
  -- WHAT IS SEEN IS THERE

  pub decided_sees : (n : ℕ) (i : List ℕ) (after : List Need) (kind : Kind) → IsDecided d m s n i after kind → (y : Address)
      → SeenIn d (address n i) y → s.rows y ≡ meaning m depth d y
  decided_sees = (in_order d depth m s reached).0

  pub running_sees : (x : Address) (w : Running Begun) → s.running x ≡ Some w → (y : Address) → SeenIn d x y
      → s.rows y ≡ meaning m depth d y
  running_sees = (known d depth m s reached).keeps.run_behind

  pub open_sees : (x : Address) (w : Opening Decision Verdict) → s.opens x ≡ Some w → (y : Address) → SeenIn d x y
      → s.rows y ≡ meaning m depth d y
  open_sees x w e = (known d depth m s reached).keeps.open_behind x.name x.at w e

  pub test_sees : (n : ℕ) (i : List ℕ) (after : List Need) (most : ℕ) (g : Graph) (w : Opening Decision Verdict) (j : ℕ)
      → IsThere d m s n i after (Until most g) → s.opens (address n i) ≡ Some w → MayTest m (Until most g) i w s.rows j
      → (y : Address) → SeenByTest d n i g j y → s.rows y ≡ meaning m depth d y
  test_sees n i after most g w j th e may = ((in_order d depth m s reached).1 n i after most g w j th e may).1

  -- WHAT IS THERE

  pub kinds_are_known : (n : ℕ) (i : List ℕ) (after : List Need) (kind : Kind) → IsThere d m s n i after kind
      → (kind_of d n ≡ Some kind) × (needs_of d n ≡ after)
  kinds_are_known n i after kind th =
      let k = known d depth m s reached in
      kind_there m d k.so (meaning m depth d) k.sol s.opens th.graph i n after kind th.is_open th.is_in

  -- a running leaf isn't open
  not_both : (x : Address) (w : Running Begun) (v : Opening Decision Verdict) → s.running x ≡ Some w → s.opens x ≡ Some v → ⊥
  not_both x w v e h =
      let k = (known d depth m s reached).keeps in (k.facts x.name x.at v Leaf h (k.held x w e).is_leaf).1

  pub running_stands : (x : Address) (w : Running Begun) → s.running x ≡ Some w
      → ((after : List Need) × IsThere d m s x.name x.at after Leaf) × (s.rows x ≡ None) × (s.opens x ≡ None)
  running_stands x w e = (
    (th.0, subst (λ z. IsThere d m s x.name x.at th.0 z) is_leaf th.2),
    k.busy.no_row x (inl (w, e)),
    closed (s.opens x) refl,
  )
    where
      k : Known d depth m s
      k = known d depth m s reached

      th : (after : List Need) × (kind : Kind) × IsThere d m s x.name x.at after kind
      th = k.busy.there' x (inl (w, e))

      is_leaf : th.1 ≡ Leaf
      is_leaf =
          let q : Some th.1 ≡ Some Leaf = sym (kinds_are_known x.name x.at th.0 th.1 th.2).0 ∙ (k.keeps.held x w e).is_leaf in cc

      closed : (o : Option (Opening Decision Verdict)) → s.opens x ≡ o → s.opens x ≡ None
      closed None h = h
      closed (Some v) h = absurd (not_both x w v e h)

  fact_contains : (kind : Kind) (n : ℕ) (i : List ℕ) (w : Opening Decision Verdict)
      → OpenFact m (meaning m depth d) s.rows kind n i w → IsContainer kind
  fact_contains Leaf n i w h = h
  fact_contains (Scope g) n i w h = tt
  fact_contains (Choice bs) n i w h = tt
  fact_contains (Foreach pace g) n i w h = tt
  fact_contains (Until most g) n i w h = tt

  -- an open container keeps the decision that it has by the rows there are, since it looks at what it sees alone
  fact_decides : (kind : Kind) (n : ℕ) (i : List ℕ) (w : Opening Decision Verdict) → SoundIn m (SeenIn d) kind n (length i)
      → OpenFact m (meaning m depth d) s.rows kind n i w
      → ((y : Address) → SeenIn d (address n i) y → meaning m depth d y ≡ s.rows y) → w.decision ≡ m.decide (address n i) s.rows
  fact_decides Leaf n i w so h sees = absurd h
  fact_decides (Scope g) n i w so h sees = h ∙ so.1 i refl (meaning m depth d) s.rows sees
  fact_decides (Choice bs) n i w so h sees = h.0 ∙ so.1 i refl (meaning m depth d) s.rows sees
  fact_decides (Foreach pace g) n i w so h sees = h.0 ∙ so.1 i refl (meaning m depth d) s.rows sees
  fact_decides (Until most g) n i w so h sees = h.4 ∙ so.1 i refl (meaning m depth d) s.rows sees

  module _ (x : Address) (w : Opening Decision Verdict) (e : s.opens x ≡ Some w) where
    th : (after : List Need) × (kind : Kind) × IsThere d m s x.name x.at after kind
    th = (known d depth m s reached).busy.there' x (inr (w, e))

    fact : OpenFact m (meaning m depth d) s.rows th.1 x.name x.at w
    fact =
        let k = known d depth m s reached in
        (fact_of m d k.so (meaning m depth d) k.sol s.rows s.opens k.keeps.facts th.2.graph x.at x.name th.0 th.1 w th.2.is_open th.2.is_in
        e).1

    sound : SoundIn m (SeenIn d) th.1 x.name (length x.at)
    sound =
        let k = known d depth m s reached in
        (placed_in m d k.so (meaning m depth d) k.sol (length x.at) th.2.graph x.name th.0 th.1
        (open_sub m d k.so (meaning m depth d) k.sol s.opens th.2.graph x.at th.2.is_open) th.2.is_in).sound

    pub open_decides : w.decision ≡ m.decide x s.rows
    open_decides = fact_decides th.1 x.name x.at w sound fact (λ y see. sym (open_sees x w e y see))

    pub open_stands : ((after : List Need) × (kind : Kind) × IsContainer kind × IsThere d m s x.name x.at after kind)
        × (s.rows x ≡ None) × (s.running x ≡ None)
    open_stands = (
      (th.0, th.1, fact_contains th.1 x.name x.at w fact, th.2),
      (known d depth m s reached).busy.no_row x (inr (w, e)),
      idle (s.running x) refl,
    )
      where
        idle : (o : Option (Running Begun)) → s.running x ≡ o → s.running x ≡ None
        idle None h = h
        idle (Some v) h = absurd (not_both x v w h e)
