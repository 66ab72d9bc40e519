-- TWO STATES OF ONE RUN: the one is behind the other where all that has happened in it has happened there.
use Rattle.std.specs.Prelude.{◌≡◌, ◌<◌, ◌≤◌, Some, ◌⊎◌}
use Rattle.wf_layers.specs.Address.{Address}
use Rattle.wf_layers.specs.Machine.{Running, Opening, State}

abbrev pub HasRow : {Row Begun Decision Verdict : Type 0} → State Row Begun Decision Verdict → Address → Type 0
HasRow {Row} s x = (r : Row) × (s.rows x ≡ Some r)

-- A running leaf has begun alike, and has made as many attempts or more.
abbrev pub HasTried : {Begun : Type 0} → Running Begun → Running Begun → Type 0
HasTried w v = (v.begun ≡ w.begun) × (w.tries ≤ v.tries)

-- An open container has decided alike, and has begun more iterations; or as many, and then has tested the last one where it was tested.
abbrev pub HasGone : {Decision Verdict : Type 0} → Opening Decision Verdict → Opening Decision Verdict → Type 0
HasGone {Decision} {Verdict} w v =
    (v.decision ≡ w.decision)
    × ((w.next < v.next) ⊎ ((w.next ≡ v.next) × ((t : Verdict) → w.test ≡ Some t → v.test ≡ Some t)))

-- All rows of s stand in q. What is running or open in s has a row in q, or is no less far there.
pub record IsBehind {Row Begun Decision Verdict : Type 0} (s q : State Row Begun Decision Verdict) : Type 0 where
  pub rows : (x : Address) (r : Row) → s.rows x ≡ Some r → q.rows x ≡ Some r
  pub running : (x : Address) (w : Running Begun) → s.running x ≡ Some w
      → HasRow q x ⊎ ((v : Running Begun) × (q.running x ≡ Some v) × HasTried w v)
  pub opens : (x : Address) (w : Opening Decision Verdict) → s.opens x ≡ Some w
      → HasRow q x ⊎ ((v : Opening Decision Verdict) × (q.opens x ≡ Some v) × HasGone w v)
