-- The state from which an old record is gone on.
use Rattle.std.proofs.Common.{◌≡◌, ℕ, Bool, true, false, ◌&&◌, ◌||◌, cond, [], List, Option, Some, None, ⊎_elim, refl, sym, ap, ◌∙◌, subst, true≢false}
use Rattle.std.proofs.lemmas.Option.{none-some}
use Rattle.wf_layers.specs.Definition.{Need, Kind, Leaf, Scope, Choice, Foreach, Until, Graph, holds, kind_of}
use Rattle.wf_layers.specs.Address.{Address, Table, address, same_at}
use Rattle.wf_layers.specs.Facts.{OpenFact}
use Rattle.wf_layers.specs.Source.{Source}
use Rattle.wf_layers.specs.Machine.{Opening, State, IsDecided}
use Rattle.wf_layers.specs.Meaning.{meaning}
use Rattle.wf_layers.specs.Resubmission.{pin, reopened}
use Rattle.wf_layers.specs.Resubmission as resubmission
use Rattle.wf_layers.specs.Variables.{IsLastWritten}
use Rattle.wf_layers.proofs.Basics.{and_in, not_true, two, unless, when}
use Rattle.wf_layers.proofs.OldTable.{any_ends}
use Rattle.wf_layers.proofs.Tables.{same_at_is}
use Rattle.wf_kept.specs.Reached.{IsAsResumed, IsNoLoop, IsReached, IsResumption, resumed, resumption}
use Rattle.wf_kept.specs.Stored.{IsStored, kept_rows}
use Rattle.wf_kept.specs.Stored as stores
use Rattle.wf_kept.specs.Taken.{HasTaken}
use Rattle.wf_kept.proofs.Known.{Known, known}

-- neither of two
neither : (a b : Bool) → (a || b) ≡ false → (a ≡ false) × (b ≡ false)
neither true b e = absurd (true≢false e)
neither false b e = (refl, e)

module _ {Row Begun Decision Verdict : Type 0} (d : Graph) (depth : ℕ → ℕ) where
  -- WHAT IS DECIDED IS NEW: what is kept or closed again has a row or is open from the start, and what has one inside it is such itself
  module _ (m : Source Row Begun Decision Verdict) (s : State Row Begun Decision Verdict) (reached : IsReached d depth m s) (n : ℕ)
      (i : List ℕ) (after : List Need) (kind : Kind) (de : IsDecided d m s n i after kind) where
    k : Known d depth m s
    k = known d depth m s reached

    plain : (m.pinned n || m.reclosed n) ≡ false
    plain =
        not_true (m.pinned n || m.reclosed n)
        (λ t. k.keeps.special de.is_there.graph i n after kind de.is_there.is_open de.is_there.is_in t de.no_row de.not_open)

    pub decided_is_new : (m.pinned n ≡ false) × (m.reclosed n ≡ false)
    decided_is_new = neither (m.pinned n) (m.reclosed n) plain

    pub inside_is_new : (q : ℕ) → holds kind q ≡ true → (m.pinned q ≡ false) × (m.reclosed q ≡ false)
    inside_is_new q h =
        neither (m.pinned q) (m.reclosed q)
        (not_true (m.pinned q || m.reclosed q)
        (λ t. true≢false
        (sym (k.out s.opens de.is_there.graph i n after kind de.is_there.is_open de.is_there.is_in q h t) ∙ plain)))

  -- the tables are those of the state of a resubmission
  same_state : (s : State Row Begun Decision Verdict) (redo again : ℕ → Bool) (r : Table Row) (recall : Address → Decision)
      → IsAsResumed d redo again r recall s → s ≡ resubmission.resumed d redo again r recall
  same_state s redo again r recall is =
      λ k. record { rows = λ x. is.rows x k; running = λ x. is.running x k; opens = λ x. is.opens x k }

  pub resumption_is_reached : (m : Source Row Begun Decision Verdict) (s : State Row Begun Decision Verdict) → IsResumption d depth m s
      → IsReached d depth m s
  resumption_is_reached _ s (resumption a b redo again r recall falls closed sb old is) =
      resumed a b redo again r recall [] falls closed sb old (same_state s redo again r recall is)

  pub resumption_is_untaken : (m : Source Row Begun Decision Verdict) (s : State Row Begun Decision Verdict) → IsResumption d depth m s
      → HasTaken d depth m s 0
  resumption_is_untaken _ s (resumption a b redo again r recall falls closed sb old is) =
      any_ends a b redo again d depth falls sb r recall old closed [] s (same_state s redo again r recall is)

  pub resumption_is_stored : {Value : Type 0} (m : Source Row Begun Decision Verdict) (s : State Row Begun Decision Verdict)
      → IsResumption d depth m s → (writes : Address → Row → Option Value) (v : Option Value) → IsLastWritten d m writes s.rows v
      → IsStored d depth m writes s v
  resumption_is_stored {Value} _ s (resumption a b redo again r recall falls closed sb old is) writes v last =
      stores.resumed a b redo again r recall v [] falls closed sb old
      (subst (λ (t : Table Row). IsLastWritten d (pin a b redo again r recall) writes t v) rows last)
      (same_state s redo again r recall is, refl)
    where
      rows : s.rows ≡ kept_rows redo again r
      rows = λ k x. is.rows x k

  -- what is open is closed again, in no loop, and has begun no iteration
  opened_again : (s : State Row Begun Decision Verdict) (redo again : ℕ → Bool) (r : Table Row) (recall : Address → Decision)
      → IsAsResumed d redo again r recall s → (n : ℕ) (i : List ℕ) (w : Opening Decision Verdict) → s.opens (address n i) ≡ Some w
      → (kind : Kind) → kind_of d n ≡ Some kind → (again n ≡ true) × (i ≡ []) × (w.next ≡ 0)
  opened_again s redo again r recall is n i w e kind kn = ⊎_elim yes no' (two (again n && same_at [] i))
    where
      found : cond (again n && same_at [] i) (reopened (kind_of d n) (recall (address n i))) None ≡ Some w
      found = sym (is.opens (address n i)) ∙ e

      yes : (again n && same_at [] i) ≡ true → (again n ≡ true) × (i ≡ []) × (w.next ≡ 0)
      yes t =
          let both = and_in (again n) (same_at [] i) t in
          let it : Some (record { decision = recall (address n i); next = 0; test = None }) ≡ Some w =
          sym (when (again n && same_at [] i) _ None t ∙ ap (λ (o : Option Kind). reopened o (recall (address n i))) kn) ∙ found in
          let same : record { decision = recall (address n i); next = 0; test = None } ≡ w = cc (it) in (
            both.0,
            sym (same_at_is [] i both.1),
            ap (λ (z : Opening Decision Verdict). z.next) (sym same),
          )

      no' : (again n && same_at [] i) ≡ false → (again n ≡ true) × (i ≡ []) × (w.next ≡ 0)
      no' u = absurd (none-some w (sym (unless (again n && same_at [] i) _ None u) ∙ found))

  -- and no loop
  no_loop : (m : Source Row Begun Decision Verdict) (t : Table Row) (n : ℕ) (i : List ℕ) (w : Opening Decision Verdict) (kind : Kind)
      → m.reclosed n ≡ true → OpenFact m (meaning m depth d) t kind n i w → IsNoLoop kind
  no_loop m t n i w Leaf ag h = h
  no_loop m t n i w (Scope g) ag h = tt
  no_loop m t n i w (Choice bs) ag h = tt
  no_loop m t n i w (Foreach pace g) ag h = true≢false (sym ag ∙ h.3)
  no_loop m t n i w (Until most g) ag h = true≢false (sym ag ∙ h.3)

  pub resumption_opens : (m : Source Row Begun Decision Verdict) (s : State Row Begun Decision Verdict) → IsResumption d depth m s
      → (n : ℕ) (i : List ℕ) (w : Opening Decision Verdict) → s.opens (address n i) ≡ Some w
      → (kind : Kind) → kind_of d n ≡ Some kind → (i ≡ []) × (w.next ≡ 0) × IsNoLoop kind
  resumption_opens _ s (resumption a b redo again r recall falls closed sb old is) n i w e kind kn =
      let o = opened_again s redo again r recall is n i w e kind kn in
      let m = pin a b redo again r recall in
      let k : Known d depth m s =
      known d depth m s (resumption_is_reached m s (resumption a b redo again r recall falls closed sb old is)) in (
        o.1,
        o.2,
        no_loop m s.rows n i w kind o.0 (k.keeps.facts n i w kind e kn).1,
      )
