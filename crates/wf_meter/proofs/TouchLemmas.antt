-- What an event leaves as it is: it gives rows to its own action and to those inside it that stand in no loop there, and changes no running
-- leaf and no open container but its own.
use Rattle.std.proofs.Common.{◌≡◌, ℕ, Bool, true, false, ◌&&◌, ◌||◌, cond, List, Some, None, nat_eq, refl, sym, ap, ◌∙◌, true≢false}
use Rattle.wf_layers.specs.Definition.{Need, Kind, Leaf, Scope, Choice, Foreach, Until, Branches, no_branch, branch, Graph, has, has_any, holds, is_one, less_one, plain, plain_any, shows, kind_of}
use Rattle.wf_layers.specs.Address.{Address, address, is_own, is_within, same_at, starts}
use Rattle.wf_layers.specs.Machine.{State, Event, Start, Try, End, Skip, Open, Begin, Test, Close, IsThere, Step, or_else, passed_over, place_of, skip_others}
use Rattle.wf_layers.specs.Meaning.{meaning}
use Rattle.wf_layers.specs.Source.{Source}
use Rattle.wf_layers.proofs.Basics.{and_in, or_first, or_second, unless}
use Rattle.wf_layers.proofs.Changes.{enabled_there, opens_else, running_else}
use Rattle.wf_kept.specs.Reached.{IsReached}
use Rattle.wf_kept.proofs.Informed.{kinds_are_known}
use Rattle.wf_kept.proofs.Known.{Known, known}
use Rattle.wf_kept.proofs.Resumed.{inside_is_new}
use Rattle.wf_tables.specs.Known.{is_among}
use Rattle.wf_tables.specs.Plan.{PlanTree}
use Rattle.wf_tables.specs.PlanOf.{IsPlanOf}
use Rattle.wf_meter.specs.Parts.{block_of, block_or_none}

pub first_not : (a b c : Bool) → ((a || b) && c) ≡ false → (a && c) ≡ false
first_not true b c e = e
first_not false b c e = refl

second_not : (a b c : Bool) → ((a || b) && c) ≡ false → (b && c) ≡ false
second_not true b true e = cc (e)
second_not true true false e = refl
second_not true false false e = refl
second_not false b c e = e

module _ {Row Begun Decision Verdict : Type 0} (m : Source Row Begun Decision Verdict) where
  -- in branches that aren't taken, where none has its row kept, none gets one but those that stand in no loop there
  none_passed : (bs : Branches) → ((q : ℕ) → has_any bs q ≡ true → m.pinned q ≡ false) → (c : ℕ) (i : List ℕ) (x : Address)
      → (plain_any bs x.name && same_at i x.at) ≡ false → skip_others m bs c i x ≡ None
  none_passed no_branch new c i x e = refl
  none_passed (branch b rest) new c i x e =
      go (is_within b i x) (is_one c) (m.pinned x.name)
      (λ t. new x.name (or_first (has b x.name) (has_any rest x.name) (and_in (has b x.name) (starts i x.at) t).0))
      (plain b x.name && same_at i x.at) (first_not (plain b x.name) (plain_any rest x.name) (same_at i x.at) e)
      (none_passed rest (λ q h. new q (or_second (has b q) (has_any rest q) h)) (less_one c) i x
      (second_not (plain b x.name) (plain_any rest x.name) (same_at i x.at) e))
    where
      go : (a o p : Bool) → (a ≡ true → p ≡ false) → (q : Bool) → q ≡ false → skip_others m rest (less_one c) i x ≡ None
          → cond a (cond o None (cond p (m.old x) (cond q (Some m.skipped) None))) (skip_others m rest (less_one c) i x) ≡ None
      go true true p fr q off later = refl
      go true false true fr q off later = absurd (true≢false (fr refl))
      go true false false fr true off later = cc (off)
      go true false false fr false off later = refl
      go false o p fr q off later = later

  none_over : (kind : Kind) → ((q : ℕ) → holds kind q ≡ true → m.pinned q ≡ false) → (c : ℕ) (i : List ℕ) (x : Address)
      → (shows kind x.name && same_at i x.at) ≡ false → passed_over m kind c i x ≡ None
  none_over Leaf new c i x e = refl
  none_over (Scope g) new c i x e = refl
  none_over (Choice bs) new c i x e = none_passed bs new c i x e
  none_over (Foreach pace g) new c i x e = refl
  none_over (Until most g) new c i x e = refl

  module _ (d : Graph) (depth : ℕ → ℕ) (s : State Row Begun Decision Verdict) (reached : IsReached d depth m s) (p : PlanTree)
      (plan : IsPlanOf d p) where
    abbrev St : Type 0
    St = State Row Begun Decision Verdict

    in_block : (n : ℕ) (kind : Kind) → kind_of d n ≡ Some kind → (i : List ℕ) (x : Address)
        → (is_among x.name (block_of p n) && same_at i x.at) ≡ false → ((nat_eq n x.name || shows kind x.name) && same_at i x.at) ≡ false
    in_block n kind is i x u =
        let entry = plan.entry n kind is in
        sym (ap (λ o. is_among x.name (block_or_none o) && same_at i x.at) entry.1
        ∙ ap (λ b. b && same_at i x.at) (entry.2.block x.name)) ∙ u

    pub known_kind : (n : ℕ) (i : List ℕ) (after : List Need) (kind : Kind) → IsThere d m s n i after kind → kind_of d n ≡ Some kind
    known_kind n i after kind th = (kinds_are_known d depth m s reached n i after kind th).0

    -- a row that is placed at the action itself
    own_placed : (n : ℕ) (i : List ℕ) (after : List Need) (kind : Kind) → IsThere d m s n i after kind → (x : Address)
        → (is_among x.name (block_of p n) && same_at i x.at) ≡ false → is_own n i x ≡ false
    own_placed n i after kind th x u =
        first_not (nat_eq n x.name) (shows kind x.name) (same_at i x.at) (in_block n kind (known_kind n i after kind th) i x u)

    pub stands : (e : Event) (s' : St) → Step d m s e s'
        → (after : List Need) × (kind : Kind) × IsThere d m s (place_of e).name (place_of e).at after kind
    stands e s' st =
        let k : Known d depth m s = known d depth m s reached in
        enabled_there m d k.so (meaning m depth d) k.sol k.closed k.out s e s' k.keeps k.busy k.rooted st s k.busy (place_of e) e s' refl st

    -- ROWS outside the block of the action
    pub rows_else : (e : Event) (s' : St) → Step d m s e s' → (x : Address)
        → (is_among x.name (block_of p (place_of e).name) && same_at (place_of e).at x.at) ≡ false → s'.rows x ≡ s.rows x
    rows_else (Start n i) s' (after, de, pass, to) x u = ap (λ (z : St). z.rows x) to
    rows_else (Try n i) s' (w, e, lt, to) x u = ap (λ (z : St). z.rows x) to
    rows_else (End n i) s' (w, e, all, to) x u =
        let th = stands (End n i) s' (w, e, all, to) in
        ap (λ (z : St). z.rows x) to
        ∙ ap (λ o. or_else o (s.rows x)) (unless (is_own n i x) (Some _) None (own_placed n i th.0 th.1 th.2 x u))
    rows_else (Skip n i) s' (after, kind, de, fails, to) x u =
        ap (λ (z : St). z.rows x) to
        ∙ ap (λ b. or_else (cond b (Some m.skipped) None) (s.rows x))
        (in_block n kind (known_kind n i after kind de.is_there) i x u)
    rows_else (Open n i) s' (after, kind, c, de, pass, to) x u =
        ap (λ (z : St). z.rows x) to
        ∙ ap (λ o. or_else o (s.rows x)) (none_over kind (λ q h. (inside_is_new d depth m s reached n i after kind de q h).0) (m.taken (m.decide (address n i) s.rows)) i x
        (second_not (nat_eq n x.name) (shows kind x.name) (same_at i x.at)
        (in_block n kind (known_kind n i after kind de.is_there) i x u)))
    rows_else (Begin n i) s' (after, kind, w, th, e, may, to) x u = ap (λ (z : St). z.rows x) to
    rows_else (Test n i) s' (after, kind, w, j, th, e, may, to) x u = ap (λ (z : St). z.rows x) to
    rows_else (Close n i) s' (after, kind, w, th, e, may, to) x u =
        ap (λ (z : St). z.rows x) to
        ∙ ap (λ o. or_else o (s.rows x)) (unless (is_own n i x) (Some _) None (own_placed n i after kind th x u))

    -- RUNNING LEAVES AND OPEN CONTAINERS elsewhere
    pub running_stay : (e : Event) (s' : St) → Step d m s e s' → (x : Address) → is_own (place_of e).name (place_of e).at x ≡ false
        → s'.running x ≡ s.running x
    running_stay e s' st x u =
        let k : Known d depth m s = known d depth m s reached in
        running_else m d k.so (meaning m depth d) k.sol k.closed k.out s e s' st x u

    pub opens_stay : (e : Event) (s' : St) → Step d m s e s' → (x : Address) → is_own (place_of e).name (place_of e).at x ≡ false
        → s'.opens x ≡ s.opens x
    opens_stay e s' st x u =
        let k : Known d depth m s = known d depth m s reached in
        opens_else m d k.so (meaning m depth d) k.sol k.closed k.out s e s' st x u
