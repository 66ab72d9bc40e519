-- What a Start, a Try and a Test leave as it is.
use Rattle.std.proofs.Common.{◌≡◌, ℕ, Bool, true, false, ◌&&◌, ◌||◌, cond, List, [], refl, sym, ap, ◌∙◌, subst, true≢false, length}
use Rattle.wf_layers.specs.Definition.{Need, Kind, Graph, needs_of}
use Rattle.wf_layers.specs.Address.{Address, address, Table, is_own, same_at}
use Rattle.wf_layers.specs.Source.{Source}
use Rattle.wf_layers.specs.Enabled.{own_event, events}
use Rattle.wf_layers.specs.Changes.{places, is_named, looks_at, enters, may_change}
use Rattle.wf_layers.specs.Machine.{State, Event, Start, Try, End, Skip, Open, Begin, Test, Close, place_of, IsThere, Step}
use Rattle.wf_layers.specs.Waiting.{times}
use Rattle.wf_layers.specs.Meaning.{meaning}
use Rattle.wf_layers.proofs.Basics.{unless}
use Rattle.wf_layers.proofs.Enabled.{at_there}
use Rattle.wf_layers.proofs.Tables.{own_is}
use Rattle.wf_kept.specs.Counted.{nonzero, less, AreCounts, waits_after}
use Rattle.wf_kept.specs.Event.{AreLeft}
use Rattle.wf_kept.specs.Quiet.{is_quiet}
use Rattle.wf_kept.specs.Reached.{IsReached}
use Rattle.wf_kept.specs.Ready.{IsReady, Stands}
use Rattle.wf_kept.proofs.Counts.{counts_are_kept}
use Rattle.wf_kept.proofs.Unfinished.{left_is_kept}
use Rattle.wf_kept.proofs.Edited.{refreshes_are_exact}
use Rattle.wf_kept.proofs.Known.{known, goes_on}

module _ {Row Begun Decision Verdict : Type 0} (d : Graph) (depth : ℕ → ℕ) (m : Source Row Begun Decision Verdict) where
  -- an action of an open graph has its own event in the table
  pub there_events : (s : State Row Begun Decision Verdict) → IsReached d depth m s
      → (n : ℕ) (i : List ℕ) (after : List Need) (kind : Kind) → IsThere d m s n i after kind
      → events m s d [] (address n i) ≡ own_event m s after kind n i
  there_events s reached n i after kind th =
      let k = known d depth m s reached in at_there m d k.so (meaning m depth d) k.sol s n i after kind th

module _ {Row Begun Decision Verdict : Type 0} (d : Graph) (depth : ℕ → ℕ) (m : Source Row Begun Decision Verdict)
    (s : State Row Begun Decision Verdict) (reached : IsReached d depth m s) (e : Event) (s' : State Row Begun Decision Verdict)
    (st : Step d m s e s') (quiet : is_quiet e ≡ true) where
  no_places : (x : Event) → is_quiet x ≡ true → places x ≡ false
  no_places (Start n i) q = refl
  no_places (Try n i) q = refl
  no_places (Test n i) q = refl
  no_places (End n i) q = absurd (true≢false (sym q))
  no_places (Skip n i) q = absurd (true≢false (sym q))
  no_places (Open n i) q = refl
  no_places (Begin n i) q = refl
  no_places (Close n i) q = absurd (true≢false (sym q))

  no_enters : (x : Event) → is_quiet x ≡ true → (y : Address) → enters d s x y ≡ false
  no_enters (Start n i) q y = refl
  no_enters (Try n i) q y = refl
  no_enters (Test n i) q y = refl
  no_enters (End n i) q y = refl
  no_enters (Skip n i) q y = refl
  no_enters (Open n i) q y = absurd (true≢false (sym q))
  no_enters (Begin n i) q y = absurd (true≢false (sym q))
  no_enters (Close n i) q y = refl

  no_open : (n : ℕ) (i : List ℕ) → e ≡ Open n i → ⊥
  no_open n i ex = true≢false (sym quiet ∙ ap is_quiet ex)

  no_begin : (n : ℕ) (i : List ℕ) → e ≡ Begin n i → ⊥
  no_begin n i ex = true≢false (sym quiet ∙ ap is_quiet ex)

  off : (c : Bool) → (places e && c) ≡ false
  off c = ap (λ z. z && c) (no_places e quiet)

  pub counts_stay : (waits lacks : Table ℕ) → AreCounts d m s waits lacks → AreCounts d m s' waits lacks
  counts_stay waits lacks c =
      counts_are_kept d depth m s reached e s' st waits waits lacks lacks c
      (λ n i after kind th. same (address n i))
      (record {
        opened = λ n i kind w h k ex kn ew inner. absurd (no_open n i ex);
        begun = λ n i kind u w h ex kn eu ew inner. absurd (no_begin n i ex);
        placed = λ n i kind u h k kn eu inner t. absurd (true≢false (sym t ∙ off _));
        others = λ n i kind u h k kn eu inner t. refl;
      })
    where
      same : (x : Address) → waits x ≡ waits_after d m s e waits x
      same x =
          let t = is_named (needs_of d x.name) (place_of e).name && same_at (place_of e).at x.at in
          let fewer = less (times (needs_of d x.name) (place_of e).name) (waits x) in
          sym (unless (enters d s e x) (nonzero (length (needs_of d x.name))) (cond (places e && t) fewer (waits x)) (no_enters e quiet x)
          ∙ unless (places e && t) fewer (waits x) (off t))

  pub left_stays : (waits lacks : Table ℕ) (left : Address → ℕ) → AreCounts d m s waits lacks → AreLeft d m s left → AreLeft d m s' left
  left_stays waits lacks left c l =
      left_is_kept d depth m s reached e s' st waits lacks left left (counts_stay waits lacks c) l
      (record {
        opened = λ n i ex. absurd (no_open n i ex);
        begun = λ n i pace h ex kn. absurd (no_begin n i ex);
        placed = λ n i pace h u j kn eu lt t. absurd (true≢false (sym t ∙ off _));
        others = λ n i pace h u kn eu nb none. refl;
      })

  -- only the event's own address is looked at anew
  pub ready_but_own : (ready new : Table Event) → IsReady d m s ready
      → (after : List Need) (kind : Kind) → IsThere d m s' (place_of e).name (place_of e).at after kind
      → new (place_of e) ≡ own_event m s' after kind (place_of e).name (place_of e).at
      → ((x : Address) → is_own (place_of e).name (place_of e).at x ≡ false → new x ≡ ready x)
      → IsReady d m s' new
  ready_but_own ready new r after kind th own others =
      refreshes_are_exact d depth m s reached e s' st (λ x. is_own (place_of e).name (place_of e).at x) ready new r
      (record {
        looked = λ n i before other it t. at_own n i before other it t;
        others = others;
        stands = λ x t. subst (λ (y : Address). Stands d m s' y) (own_is (place_of e).name (place_of e).at x t) (after, kind, th);
        covers = λ x it t. is_own_only x t;
      })
    where
      is_own_only : (x : Address) → may_change d s e x ≡ true → is_own (place_of e).name (place_of e).at x ≡ true
      is_own_only x t =
          first (is_own (place_of e).name (place_of e).at x) (places e && looks_at d (place_of e) x) (enters d s e x) (off _)
          (no_enters e quiet x) t
        where
          first : (a b c : Bool) → b ≡ false → c ≡ false → (a || (b || c)) ≡ true → a ≡ true
          first true b c eb ec t = refl
          first false b c eb ec t = absurd (true≢false (sym t ∙ ap (λ z. z || c) eb ∙ ec))

      next : IsReached d depth m s'
      next = goes_on d depth m s reached e s' st

      at_own : (n : ℕ) (i : List ℕ) (before : List Need) (other : Kind) → IsThere d m s' n i before other
          → is_own (place_of e).name (place_of e).at (address n i) ≡ true → new (address n i) ≡ own_event m s' before other n i
      at_own n i before other it t =
          let x = own_is (place_of e).name (place_of e).at (address n i) t in
          ap new (sym x) ∙ own
          ∙ sym (there_events d depth m s' next (place_of e).name (place_of e).at after kind th)
          ∙ ap (events m s' d []) x
          ∙ there_events d depth m s' next n i before other it
