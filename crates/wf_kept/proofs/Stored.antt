-- The store of a variable in a reached state.
use Rattle.std.proofs.Common.{◌≡◌, ℕ, true, List, [], ◌∷◌, ◌++◌, Option, Some, None, inl, inr, ⊎_elim, refl, sym, ap, ◌∙◌, subst}
use Rattle.std.proofs.lemmas.Option.{none-some}
use Rattle.wf_layers.specs.Definition.{Need, Kind, Leaf, Until, Graph}
use Rattle.wf_layers.specs.Address.{Address, address, Table, is_within, SeenIn}
use Rattle.wf_layers.specs.Source.{Source}
use Rattle.wf_layers.specs.Meaning.{meaning, deepest}
use Rattle.wf_layers.specs.Machine.{Running, Opening, State, Event, IsThere, IsDecided, MayTest, Step}
use Rattle.wf_layers.specs.Machine as machine
use Rattle.wf_layers.specs.Resubmission.{pin}
use Rattle.wf_layers.specs.Resubmission as resubmission
use Rattle.wf_layers.specs.Variables.{write_at, written, Stores, OneOrder, IsLastWritten, IsLastSeen, SeenByTest, WritersHaveOrder, StoreHolds, StoreHoldsAtTests, StoreHoldsAtEnds}
use Rattle.wf_layers.proofs.Basics.{two}
use Rattle.wf_layers.proofs.Layers.{out_layers}
use Rattle.wf_layers.proofs.OldTable.{any_store}
use Rattle.wf_layers.proofs.Store.{stores_run, store_holds}
use Rattle.wf_kept.specs.Reached.{IsReached}
use Rattle.wf_kept.specs.Reached as reached
use Rattle.wf_kept.specs.Stored.{IsStored, begun, resumed, MayRead}
use Rattle.wf_kept.proofs.Followers.{once_sound}
use Rattle.wf_kept.proofs.Known.{known}
use Rattle.wf_kept.proofs.OneWay.{last_is_one}
use Rattle.wf_kept.proofs.Informed.{decided_sees, running_sees, test_sees}

module _ {Row Begun Decision Verdict Value : Type 0} (d : Graph) (depth : ℕ → ℕ) where
  -- one event more at the end
  stores_grow : (m : Source Row Begun Decision Verdict) (writes : Address → Row → Option Value) (s : State Row Begun Decision Verdict)
      (es : List Event) (mid : State Row Begun Decision Verdict) (v u : Option Value) → Stores d m writes s es mid v u
      → (e : Event) (s' : State Row Begun Decision Verdict) → Step d m mid e s'
      → Stores d m writes s (es ++ e ∷ []) s' v (written d m writes e s' u)
  stores_grow m writes s [] mid v u st e s' step =
      (s', subst (λ z. Step d m z e s') st.0 step, (refl, ap (λ z. written d m writes e s' z) st.1))
  stores_grow m writes s (x ∷ es) mid v u (next, first, rest) e s' step =
      (next, first, stores_grow m writes next es mid (written d m writes x next v) u rest e s' step)

  pub store_goes_on : (m : Source Row Begun Decision Verdict) (writes : Address → Row → Option Value) (s : State Row Begun Decision Verdict)
      (v : Option Value) → IsStored d depth m writes s v → (e : Event) (s' : State Row Begun Decision Verdict) → Step d m s e s'
      → IsStored d depth m writes s' (written d m writes e s' v)
  store_goes_on m writes s v (begun es is st) e s' step =
      begun (es ++ e ∷ []) is (stores_grow m writes machine.fresh es s None v st e s' step)
  store_goes_on _ writes s v (resumed a b redo again r recall first es falls closed sb old last st) e s' step =
      resumed a b redo again r recall first (es ++ e ∷ []) falls closed sb old last
      (stores_grow (pin a b redo again r recall) writes (resubmission.resumed d redo again r recall) es s first v st e s' step)

  pub stored_is_reached : (m : Source Row Begun Decision Verdict) (writes : Address → Row → Option Value)
      (s : State Row Begun Decision Verdict) (v : Option Value) → IsStored d depth m writes s v → IsReached d depth m s
  stored_is_reached m writes s v (begun es is st) = reached.begun es is (stores_run d m writes machine.fresh es s None v st)
  stored_is_reached _ writes s v (resumed a b redo again r recall first es falls closed sb old last st) =
      reached.resumed a b redo again r recall es falls closed sb old
      (stores_run d (pin a b redo again r recall) writes (resubmission.resumed d redo again r recall) es s first v st)

  -- what the store holds, told by the meaning's rows
  holds : (m : Source Row Begun Decision Verdict) (writes : Address → Row → Option Value) → OneOrder d m writes (meaning m depth d)
      → (s : State Row Begun Decision Verdict) (v : Option Value) → IsStored d depth m writes s v
      → IsLastWritten d m writes s.rows v × StoreHolds d m writes (meaning m depth d) s v
      × StoreHoldsAtTests d m writes (meaning m depth d) s v × StoreHoldsAtEnds d m writes (meaning m depth d) s v
  holds m writes order s v (begun es is st) = store_holds d m depth is writes order es s v st
  holds _ writes order s v (resumed a b redo again r recall first es falls closed sb old last st) =
      any_store a b redo again d depth falls sb r recall old closed writes order first last es s v st

module _ {Row Begun Decision Verdict Value : Type 0} (d : Graph) (depth : ℕ → ℕ) (m : Source Row Begun Decision Verdict)
    (writes : Address → Row → Option Value) where
  -- rows of the meaning stand in the definition
  has_order : (n : ℕ) (kind : Kind) (i : List ℕ) → MayRead d writes n kind i → WritersHaveOrder d m writes (meaning m depth d) n kind i
  has_order n kind i may y r e wr = may y r inside wr
    where
      inside : is_within d [] y ≡ true
      inside =
          ⊎_elim (λ t. t)
          (λ u. absurd (none-some r (sym (out_layers m depth d [] (deepest depth d) (λ x. None) y u) ∙ e)))
          (two (is_within d [] y))

  -- where what is seen is the same
  seen_alike : (t u : Table Row) (Sees : Address → Type 0) (v : Option Value) → ((y : Address) → Sees y → t y ≡ u y)
      → IsLastSeen d m writes u Sees v → IsLastSeen d m writes t Sees v
  seen_alike t u Sees v same (inl h) = inl (h.0, λ y see. ap (λ o. write_at d m writes y o) (same y see) ∙ h.1 y see)
  seen_alike t u Sees v same (inr (y, see, is, some, after)) =
      inr (
        y,
        see,
        ap (λ o. write_at d m writes y o) (same y see) ∙ is,
        some,
        λ z seen wr. after z seen (λ q. wr (ap (λ o. write_at d m writes z o) (same z seen) ∙ q)),
      )

  module _ (order : OneOrder d m writes (meaning m depth d)) (s : State Row Begun Decision Verdict) (v : Option Value)
      (stored : IsStored d depth m writes s v) where
    is_reached : IsReached d depth m s
    is_reached = stored_is_reached d depth m writes s v stored

    pub store_is_written : IsLastWritten d m writes s.rows v
    store_is_written = (holds d depth m writes order s v stored).0

    pub store_decided : (n : ℕ) (i : List ℕ) (after : List Need) (kind : Kind) → IsDecided d m s n i after kind
        → MayRead d writes n kind i → IsLastSeen d m writes s.rows (SeenIn d (address n i)) v
    store_decided n i after kind de may =
        seen_alike s.rows (meaning m depth d) (SeenIn d (address n i)) v (decided_sees d depth m s is_reached n i after kind de)
        ((holds d depth m writes order s v stored).1 n i after kind de (has_order n kind i may))

    pub store_running : (n : ℕ) (i : List ℕ) (w : Running Begun) → s.running (address n i) ≡ Some w
        → MayRead d writes n Leaf i → IsLastSeen d m writes s.rows (SeenIn d (address n i)) v
    store_running n i w e may =
        seen_alike s.rows (meaning m depth d) (SeenIn d (address n i)) v (running_sees d depth m s is_reached (address n i) w e)
        ((holds d depth m writes order s v stored).3 n i w e (has_order n Leaf i may))

    pub store_tested : (n : ℕ) (i : List ℕ) (after : List Need) (most : ℕ) (g : Graph) (w : Opening Decision Verdict) (j : ℕ)
        → IsThere d m s n i after (Until most g) → s.opens (address n i) ≡ Some w → MayTest m (Until most g) i w s.rows j
        → MayRead d writes n (Until most g) i → IsLastSeen d m writes s.rows (SeenByTest d n i g j) v
    store_tested n i after most g w j th e mt may =
        seen_alike s.rows (meaning m depth d) (SeenByTest d n i g j) v (test_sees d depth m s is_reached n i after most g w j th e mt)
        ((holds d depth m writes order s v stored).2 n i after most g w j th e mt (has_order n (Until most g) i may))

    pub store_is_one : (u : Option Value) → IsStored d depth m writes s u → v ≡ u
    store_is_one u other =
        let k = known d depth m s is_reached in
        last_is_one d depth m writes (once_sound m d d 0 k.so) k.falls s.rows v u store_is_written
        (holds d depth m writes order s u other).0
