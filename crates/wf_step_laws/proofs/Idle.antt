-- Who waits for an action that gets its row.
use Rattle.std.proofs.Common.{◌≡◌, ℕ, Bool, true, false, ◌&&◌, List, Option, Some, None, refl, sym, ap, ◌∙◌, subst, arith, nat_eq, eqb-true, true≢false, length}
use Rattle.std.proofs.lemmas.Option.{none-some}
use Rattle.wf_layers.specs.Definition.{Graph, IsDepth, Names, needs_of}
use Rattle.wf_layers.specs.Address.{address, is_own, same_at, SeenIn}
use Rattle.wf_layers.specs.Source.{Source}
use Rattle.wf_layers.specs.Meaning.{meaning}
use Rattle.wf_layers.specs.Facts.{Facts}
use Rattle.wf_layers.specs.Machine.{Opening, Running, State, Event, place_of, has_ended, Step}
use Rattle.wf_layers.specs.Changes.{is_named, places}
use Rattle.wf_layers.proofs.Basics.{not_true}
use Rattle.wf_layers.proofs.Open.{open_sub, placed_in}
use Rattle.wf_layers.proofs.Changes.{enabled_there, opens_else, rows_else, running_else}
use Rattle.wf_kept.specs.Reached.{IsReached, begun, resumed}
use Rattle.wf_kept.specs.Ready.{Stands}
use Rattle.wf_kept.proofs.Known.{Known, known, goes_on}
use Rattle.wf_kept.proofs.Counts.{has_row_then, named_is, no_row_yet}
use Rattle.wf_kept.proofs.Followers.{followers_are_there}
use Rattle.wf_kept.proofs.Informed.{reached_facts}
use Rattle.wf_step_laws.proofs.Placed.{kind_at}

-- depths fall in each reached state's definition
depth_falls : {Row Begun Decision Verdict : Type 0} (d : Graph) (depth : ℕ → ℕ) (m : Source Row Begun Decision Verdict)
    (s : State Row Begun Decision Verdict) → IsReached d depth m s → IsDepth d depth
depth_falls d depth m s (begun es is run) = is.falls
depth_falls d depth _ s (resumed a b redo again r recall es falls closed sb old run) = falls

module _ {Row Begun Decision Verdict : Type 0} (d : Graph) (depth : ℕ → ℕ) (m : Source Row Begun Decision Verdict)
    (s : State Row Begun Decision Verdict) (reached : IsReached d depth m s) (e : Event) (s' : State Row Begun Decision Verdict)
    (st : Step d m s e s') (pl : places e ≡ true) (q : ℕ) (named : is_named (needs_of d q) (place_of e).name ≡ true) where
  abbrev n : ℕ
  n = (place_of e).name

  abbrev i : List ℕ
  i = (place_of e).at

  abbrev k : Known d depth m s
  k = known d depth m s reached

  stood : Stands d m s (place_of e)
  stood =
      enabled_there m d k.so (meaning m depth d) k.sol k.closed k.out s e s' k.keeps k.busy k.rooted st s k.busy (place_of e) e s' refl st

  waits : Stands d m s (address q i)
  waits = followers_are_there d depth m s reached n i stood.0 stood.1 stood.2 q named

  names : Names (needs_of d q) n
  names = named_is (needs_of d q) n named

  -- it is another one
  pub apart : nat_eq q n ≡ false
  apart =
      not_true (nat_eq q n) (λ t.
      let less = depth_falls d depth m s reached n q names in
      let same : depth n ≡ depth q = ap depth (sym (eqb-true q n t)) in omega (arith, less, same))

  -- it sees the one for which it waits
  sees : SeenIn d (address q i) (address n i)
  sees =
      let f = meaning m depth d in
      let th = waits.2 in
      (placed_in m d k.so f k.sol (length i) th.graph q waits.0 waits.1 (open_sub m d k.so f k.sol s.opens th.graph i th.is_open)
      th.is_in).gated.0 i refl n (subst (λ ns. Names ns n) (kind_at d depth m s reached q i waits.0 waits.1 th).1 names)

  -- which has its row in the end, and none yet
  not_there : s.rows (address n i) ≡ meaning m depth d (address n i) → ⊥
  not_there same = go (s'.rows (place_of e)) refl
    where
      go : (o : Option Row) → s'.rows (place_of e) ≡ o → ⊥
      go None h =
          true≢false (sym (has_row_then m d k.so (meaning m depth d) k.sol k.closed k.out s e s' k.keeps k.busy k.rooted st pl)
          ∙ ap has_ended h)
      go (Some r) h =
          let then = (reached_facts d depth m s' (goes_on d depth m s reached e s' st)).rows (place_of e) r h in
          none-some r
          (sym (no_row_yet m d k.so (meaning m depth d) k.sol k.closed k.out s e s' k.keeps k.busy k.rooted st pl) ∙ same ∙ then)

  facts : Facts d m (meaning m depth d) s
  facts = reached_facts d depth m s reached

  pub no_row : s.rows (address q i) ≡ None
  no_row = go (s.rows (address q i)) refl
    where
      go : (o : Option Row) → s.rows (address q i) ≡ o → s.rows (address q i) ≡ None
      go None h = h
      go (Some r) h = absurd (not_there (facts.before_row (address q i) r h (address n i) sees))

  pub not_running : s.running (address q i) ≡ None
  not_running = go (s.running (address q i)) refl
    where
      go : (o : Option (Running Begun)) → s.running (address q i) ≡ o → s.running (address q i) ≡ None
      go None h = h
      go (Some w) h = absurd (not_there (facts.before_running (address q i) w h (address n i) sees))

  pub not_open : s.opens (address q i) ≡ None
  not_open = go (s.opens (address q i)) refl
    where
      go : (o : Option (Opening Decision Verdict)) → s.opens (address q i) ≡ o → s.opens (address q i) ≡ None
      go None h = h
      go (Some w) h = absurd (not_there (facts.before_open (address q i) w h (address n i) sees))

  -- and it is none of those that get rows with it, or change otherwise
  not_own : is_own n i (address q i) ≡ false
  not_own = ap (λ b. b && same_at i i) (flipped n q ∙ apart)
    where
      flipped : (a b : ℕ) → nat_eq a b ≡ nat_eq b a
      flipped a b = grind (arith)

  neither : (a b : Bool) → b ≡ false → (a && b) ≡ false
  neither true b u = u
  neither false b u = refl

  pub no_row_then : s'.rows (address q i) ≡ None
  no_row_then =
      rows_else m d k.so (meaning m depth d) k.sol k.closed k.out s e s' k.busy k.rooted st q i waits.0 waits.1 waits.2
      (neither (places e) (is_own n i (address q i)) not_own)
      ∙ no_row

  pub not_running_then : s'.running (address q i) ≡ None
  not_running_then =
      running_else m d k.so (meaning m depth d) k.sol k.closed k.out s e s' st (address q i) not_own ∙ not_running

  pub not_open_then : s'.opens (address q i) ≡ None
  not_open_then = opens_else m d k.so (meaning m depth d) k.sol k.closed k.out s e s' st (address q i) not_own ∙ not_open
