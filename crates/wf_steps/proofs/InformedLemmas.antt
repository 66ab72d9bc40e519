-- What is known of a kept state as an action is asked something.
use Rattle.std.proofs.Common.{◌≡◌, ℕ, Bool, List, Option, Some, None, ⊎_elim, sym, ◌∙◌, subst, arith}
use Rattle.wf_layers.specs.Definition.{Need, Kind, Leaf, Until, Graph, kind_of}
use Rattle.wf_layers.specs.Address.{Address, address}
use Rattle.wf_layers.specs.Machine.{Running, Opening, State, IsContainer, IsDecided, IsThere, MayTest}
use Rattle.wf_layers.specs.Meaning.{meaning}
use Rattle.wf_layers.specs.Source.{Source}
use Rattle.wf_layers.specs.Variables.{OneOrder}
use Rattle.wf_layers.proofs.Basics.{two, unless}
use Rattle.wf_kept.specs.Reached.{IsReached}
use Rattle.wf_kept.specs.Stored.{IsStored, MayRead}
use Rattle.wf_kept.proofs.Informed.{decided_sees, kinds_are_known, open_decides, open_sees, open_stands, running_sees, running_stands, test_sees}
use Rattle.wf_kept.proofs.Stored.{store_decided, store_tested}
use Rattle.wf_events.specs.Known as asks
use Rattle.wf_events.specs.Known.{HoldsLast, HoldsLastAtTest, IsInformed, IsInformedAtTest, writer}

the_kind : {A : Type 0} {u v : A} → Some u ≡ Some v → u ≡ v
the_kind e = cc (e)

module _ {Row Begun Decision Verdict : Type 0} (d : Graph) (depth : ℕ → ℕ) (m : Source Row Begun Decision Verdict)
    (s : State Row Begun Decision Verdict) (reached : IsReached d depth m s) where
  pub decided_is_informed : (n : ℕ) (i : List ℕ) (after : List Need) (kind : Kind) → IsDecided d m s n i after kind
      → IsInformed d depth m s.rows s.opens n i kind
  decided_is_informed n i after kind de = record {
    graph = de.is_there.graph;
    after = after;
    is_open = de.is_there.is_open;
    is_in = de.is_there.is_in;
    there = decided_sees d depth m s reached n i after kind de;
    decided = open_decides d depth m s reached;
  }

  pub running_is_informed : (n : ℕ) (i : List ℕ) (w : Running Begun) → s.running (address n i) ≡ Some w
      → IsInformed d depth m s.rows s.opens n i Leaf
  running_is_informed n i w e =
      let z = (running_stands d depth m s reached (address n i) w e).0 in record {
        graph = z.1.graph;
        after = z.0;
        is_open = z.1.is_open;
        is_in = z.1.is_in;
        there = running_sees d depth m s reached (address n i) w e;
        decided = open_decides d depth m s reached;
      }

  pub open_is_informed : (n : ℕ) (i : List ℕ) (w : Opening Decision Verdict) → s.opens (address n i) ≡ Some w
      → (kind : Kind) → kind_of d n ≡ Some kind → IsContainer kind × IsInformed d depth m s.rows s.opens n i kind
  open_is_informed n i w e kind kn =
      let z = (open_stands d depth m s reached (address n i) w e).0 in
      let same : z.1 ≡ kind = the_kind (sym (kinds_are_known d depth m s reached n i z.0 z.1 z.3).0 ∙ kn) in
      let th = subst (λ (x : Kind). IsThere d m s n i z.0 x) same z.3 in (
        subst (λ (x : Kind). IsContainer x) same z.2,
        record {
          graph = th.graph;
          after = z.0;
          is_open = th.is_open;
          is_in = th.is_in;
          there = open_sees d depth m s reached (address n i) w e;
          decided = open_decides d depth m s reached;
        },
      )

  -- an Until, as it is tested after its last iteration
  module _ (n : ℕ) (i : List ℕ) (after : List Need) (most : ℕ) (g : Graph) (w : Opening Decision Verdict) (j : ℕ)
      (th : IsThere d m s n i after (Until most g)) (e : s.opens (address n i) ≡ Some w)
      (may : MayTest m (Until most g) i w s.rows j) where
    pub tested_is_informed : IsInformedAtTest d depth m s.rows s.opens n i most g j
    tested_is_informed = record {
      graph = th.graph;
      after = after;
      is_open = th.is_open;
      is_in = th.is_in;
      opening = w;
      itself_is_open = e;
      begun = let is = may.0 in omega (arith, is);
      there = test_sees d depth m s reached n i after most g w j th e may;
      decided = open_decides d depth m s reached;
    }

  module _ (writes : ℕ → Address → Row → Bool) (order : (v : ℕ) → OneOrder d m (writer writes v) (meaning m depth d))
      (store : ℕ → Option Address) (stored : (v : ℕ) → IsStored d depth m (writer writes v) s (store v)) where
    may_read : (v n : ℕ) (kind : Kind) (i : List ℕ) → asks.MayRead d depth m writes v n kind i → MayRead d (writer writes v) n kind i
    may_read v n kind i may y r inside wrote =
        may y r inside
        (⊎_elim (λ t. t) (λ u. absurd (wrote (unless (writes v y r) (Some y) None u))) (two (writes v y r)))

    pub decided_holds_last : (n : ℕ) (i : List ℕ) (after : List Need) (kind : Kind) → IsDecided d m s n i after kind
        → HoldsLast d depth m writes s.rows store n kind i
    decided_holds_last n i after kind de v may =
        store_decided d depth m (writer writes v) (order v) s (store v) (stored v) n i after kind de (may_read v n kind i may)

    pub tested_holds_last : (n : ℕ) (i : List ℕ) (after : List Need) (most : ℕ) (g : Graph) (w : Opening Decision Verdict) (j : ℕ)
        → IsThere d m s n i after (Until most g) → s.opens (address n i) ≡ Some w → MayTest m (Until most g) i w s.rows j
        → HoldsLastAtTest d depth m writes s.rows store n most g i j
    tested_holds_last n i after most g w j th e may v reads =
        store_tested d depth m (writer writes v) (order v) s (store v) (stored v) n i after most g w j th e may
        (may_read v n (Until most g) i reads)
