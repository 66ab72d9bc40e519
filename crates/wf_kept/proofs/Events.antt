-- The event of an action by the counts is the one that its rule gives.
use Rattle.std.proofs.Common.{◌≡◌, ℕ, zero, suc, Bool, true, false, cond, List, [], ◌∷◌, ◌++◌, Option, Some, None, refl, sym, ap, ◌∙◌, arith, nat_eq, nat_lt, true≢false}
use Rattle.wf_layers.specs.Definition.{Need, Kind, Leaf, Scope, Choice, Foreach, Until, Graph, branch_at}
use Rattle.wf_layers.specs.Address.{Address, address, Table}
use Rattle.wf_layers.specs.Source.{Source, gate}
use Rattle.wf_layers.specs.Machine.{Running, Opening, State, Skip, Begin, Test, Close, has_ended, is_ended, all_ended, IsThere}
use Rattle.wf_layers.specs.Waiting.{waiting, lacking}
use Rattle.wf_layers.specs.Enabled.{most_of, branch_ended, of_test, of_open, begins, of_opening, of_busy, own_event}
use Rattle.wf_layers.proofs.Waiting.{counts_are}
use Rattle.wf_kept.specs.Counted.{nonzero, in_scope, in_taken, in_round, AreCounts}
use Rattle.wf_kept.specs.Event.{AreLeft, counted_test, counted_branch, counted_open, counted_idle, counted_busy, counted_event}

not_all : (a : Bool) (c : ℕ) → (c ≡ 0 → a ≡ true) → (a ≡ true → c ≡ 0) → {A : Type 0} (x y : A)
    → cond (has_ended (nonzero c)) y x ≡ cond a x y
not_all true zero there back x y = refl
not_all false zero there back x y = absurd (true≢false (sym (there refl)))
not_all true (suc c) there back x y = absurd (let z = back refl in omega (arith, z))
not_all false (suc c) there back x y = refl

module _ {Row Begun Decision Verdict : Type 0} (d : Graph) (m : Source Row Begun Decision Verdict) (s : State Row Begun Decision Verdict)
    (waits lacks : Table ℕ) (left : Address → ℕ) (counts : AreCounts d m s waits lacks) (lefts : AreLeft d m s left) where
  ended_by : {A : Type 0} (n : ℕ) (j : List ℕ) (h : Graph) (x y : A) → lacks (address n j) ≡ nonzero (lacking h j s.rows)
      → cond (has_ended (lacks (address n j))) y x ≡ cond (is_ended h j s.rows) x y
  ended_by n j h x y is =
      let z = counts_are.lacks_none h j s.rows in
      ap (λ o. cond (has_ended o) y x) is ∙ not_all (is_ended h j s.rows) (lacking h j s.rows) z.0 z.1 x y

  open_same : (n : ℕ) (i : List ℕ) (after : List Need) (kind : Kind) (w : Opening Decision Verdict) → IsThere d m s n i after kind
      → s.opens (address n i) ≡ Some w → counted_open d m s waits lacks left kind n i w ≡ of_open m s kind n i w
  open_same n i after Leaf w th e = refl
  open_same n i after (Scope h) w th e =
      ended_by n i h (Some (Close n i)) None (counts.lacked n i after (Scope h) w h i th e in_scope)
  open_same n i after (Choice bs) w th e = go (branch_at bs (m.taken w.decision)) refl
    where
      go : (o : Option Graph) → branch_at bs (m.taken w.decision) ≡ o
          → counted_branch d m s waits lacks left o n i ≡ cond (branch_ended m s o i) (Some (Close n i)) None
      go None is = refl
      go (Some h) is = ended_by n i h (Some (Close n i)) None (counts.lacked n i after (Choice bs) w h i th e (in_taken is))
  open_same n i after (Foreach pace h) w th e =
      ap (λ c. cond (nat_lt w.next (m.items w.decision)) (cond (nat_lt c (most_of pace)) (Some (Begin n i)) None)
      (cond (nat_eq c 0) (Some (Close n i)) None)) (lefts n i after pace h w th e)
  open_same n i after (Until most h) w th e = go w.test w.next refl
    where
      go : (t : Option Verdict) (c : ℕ) → w.next ≡ c → counted_test d m s waits lacks left most n i c t ≡ of_test m s h most n i c t
      go (Some v) c is = refl
      go None zero is = refl
      go None (suc j) is =
          ended_by n (i ++ j ∷ []) h (Some (Test n i)) None
          (counts.lacked n i after (Until most h) w h (i ++ j ∷ []) th e (in_round j (omega (arith, is))))

  pub event_same : (n : ℕ) (i : List ℕ) (after : List Need) (kind : Kind) → IsThere d m s n i after kind
      → counted_event d m s waits lacks left after kind n i ≡ own_event m s after kind n i
  event_same n i after kind th =
      ap (λ o. cond (has_ended (s.rows (address n i))) None o) (busy (s.running (address n i)))
    where
      idle : (o : Option (Opening Decision Verdict)) → s.opens (address n i) ≡ o
          → counted_idle d m s waits lacks left after kind n i o ≡ of_opening m s after kind n i o
      idle None e =
          let z = counts_are.waits_for_none after i s.rows in
          ap (λ o. cond (has_ended o) None (Some (cond (gate m after n i s.rows) (begins m s kind n i) (Skip n i))))
          (counts.waited n i after kind th)
          ∙ not_all (all_ended after i s.rows) (waiting after i s.rows) z.0 z.1
          (Some (cond (gate m after n i s.rows) (begins m s kind n i) (Skip n i))) None
      idle (Some w) e = open_same n i after kind w th e

      busy : (o : Option (Running Begun)) → counted_busy d m s waits lacks left after kind n i o ≡ of_busy m s after kind n i o
      busy (Some w) = refl
      busy None = idle (s.opens (address n i)) refl
