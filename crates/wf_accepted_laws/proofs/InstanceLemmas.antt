-- What is before an action, and what stands inside that, is seen by its instances.
use Rattle.std.proofs.Common.{◌≡◌, ℕ, true, List, ◌⊎◌, inl, inr}
use Rattle.wf_layers.specs.Address.{Address, SeenIn, address}
use Rattle.wf_known_laws.specs.DefTree.{DefTree}
use Rattle.wf_known_laws.specs.Layered.{layered}
use Rattle.wf_known_laws.specs.Indexes.{HaveSameIndexes}
use Rattle.wf_known_laws.specs.Order.{Before, Contains}
use Rattle.wf_rules.specs.Site.{Site}
use Rattle.wf_rules.specs.Inside.{is_test}
use Rattle.wf_rules.specs.Standing.{StandingTree, number_at, standings_of}
use Rattle.wf_accepted_laws.proofs.RoundLemmas.{all-weaker}
use Rattle.wf_accepted_laws.specs.Instances.{InstancesAreSeen, IsSeenAt, MayLookAt, Sees}
use Rattle.wf_accepted_laws.specs.Seen.{AreSeen, IsNamedAt, IsSeenFrom, IsSiteOf}

module _ (d : DefTree)
    (before-seen : (x y : Address) → Before (layered d.top) x.name y.name → HaveSameIndexes (layered d.top) x y
    → SeenIn (layered d.top) y x)
    (goes-along : (x y z : ℕ) → Before (layered d.top) x y → Contains (layered d.top) x z → Before (layered d.top) z y)
    (inside-inside : (x y z : ℕ) → Contains (layered d.top) x y → Contains (layered d.top) y z → Contains (layered d.top) x z) where
  abbrev Stands : StandingTree → Site → ℕ → Type 0
  Stands s site x = Before (layered d.top) x (number_at s) ⊎ ((is_test site ≡ true) × Contains (layered d.top) (number_at s) x)

  sees : (x y : ℕ) → Before (layered d.top) x y → Sees (layered d.top) y x
  sees x y before = λ i j same. before-seen (address x i) (address y j) before same

  looked : (s : StandingTree) (site : Site) (x : ℕ) → Stands s site x → MayLookAt (layered d.top) s site x
  looked s site x (inl before) = inl (sees x (number_at s) before)
  looked s site x (inr inside) = inr inside

  along : (s : StandingTree) (site : Site) (x z : ℕ) → Stands s site x → Contains (layered d.top) x z → Stands s site z
  along s site x z (inl before) inner = inl (goes-along x (number_at s) z before inner)
  along s site x z (inr inside) inner = inr (inside.0, inside-inside (number_at s) x z inside.1 inner)

  at-addresses : (s : StandingTree) (site : Site) (k : List ℕ) → IsSeenFrom d s site k → IsSeenAt d s site k
  at-addresses s site k f = record {
    standing = f.standing;
    named = f.named;
    row = looked s site (number_at f.standing) f.seen;
    inside = λ z inner. looked s site z (along s site (number_at f.standing) z f.seen inner);
  }

  pub all-at-addresses : AreSeen d → InstancesAreSeen d
  all-at-addresses seen =
      all-weaker (λ s. (site : Site) → IsSiteOf s site → (k : List ℕ) → IsNamedAt d site k → IsSeenFrom d s site k)
      (λ s. (site : Site) → IsSiteOf s site → (k : List ℕ) → IsNamedAt d site k → IsSeenAt d s site k) (standings_of d.top)
      (λ s h site of k n. at-addresses s site k (h site of k n)) seen
