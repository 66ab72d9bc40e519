-- Each running leaf and each open container comes to a row that costs at least as much.
use Rattle.std.proofs.Common.{◌≡◌, ◌≤◌, ℕ, ◌+◌, ◌*◌, false, Some, refl, ap, ◌∙◌, length, arith}
use Rattle.wf_layers.specs.Address.{Address, Table, is_own}
use Rattle.wf_layers.specs.Called as called
use Rattle.wf_layers.specs.Definition.{Kind, Leaf, Scope, Choice, Foreach, Until, Graph, kind_of}
use Rattle.wf_layers.specs.Facts.{OpenFact}
use Rattle.wf_layers.specs.Machine.{IsContainer, Opening, Running, State}
use Rattle.wf_layers.specs.Meaning.{meaning}
use Rattle.wf_layers.specs.Rule.{look_in}
use Rattle.wf_layers.specs.Source.{Source, leaf}
use Rattle.wf_layers.proofs.Basics.{own_in, when}
use Rattle.wf_layers.proofs.Bound.{begun_most}
use Rattle.wf_layers.proofs.Open.{fact_of, follows, obey_in, open_sub, placed_in}
use Rattle.wf_layers.proofs.Tables.{own_self}
use Rattle.wf_kept.specs.Reached.{IsReached}
use Rattle.wf_kept.proofs.Informed.{kinds_are_known, open_stands, reached_facts}
use Rattle.wf_kept.proofs.Known.{Known, known}
use Rattle.wf_meter.specs.Cost.{iterations, leaf_cost, open_cost}
use Rattle.wf_priced.specs.Priced.{PaysItsParts, closing_row}
use Rattle.wf_priced.proofs.BegunLemmas.{is_loop, none_begun}

module _ {Row Begun Decision Verdict : Type 0} (d : Graph) (depth : ℕ → ℕ) (m : Source Row Begun Decision Verdict)
    (s : State Row Begun Decision Verdict) (reached : IsReached d depth m s) where
  abbrev f : Table Row
  f = meaning m depth d

  -- what a container closes with
  closes : (kind : Kind) (x : Address) → IsContainer kind → look_in m kind x.name x.at f x ≡ Some (closing_row m kind x f)
  closes Leaf x c = absurd c
  closes (Scope g) x c = when (is_own x.name x.at x) _ _ (own_self x.name x.at)
  closes (Choice bs) x c = when (is_own x.name x.at x) _ _ (own_self x.name x.at)
  closes (Foreach pace g) x c = when (is_own x.name x.at x) _ _ (own_self x.name x.at)
  closes (Until most g) x c = when (is_own x.name x.at x) _ _ (own_self x.name x.at)

  decided_as : (kind : Kind) (x : Address) (w : Opening Decision Verdict) → OpenFact m f s.rows kind x.name x.at w
      → w.decision ≡ m.decide x f
  decided_as Leaf x w fact = absurd fact
  decided_as (Scope g) x w fact = fact
  decided_as (Choice bs) x w fact = fact.0
  decided_as (Foreach pace g) x w fact = fact.0
  decided_as (Until most g) x w fact = fact.4

  -- it has begun no more iterations than it has at the end
  counted : (kind : Kind) (x : Address) (w : Opening Decision Verdict) → OpenFact m f s.rows kind x.name x.at w
      → (is_loop kind ≡ false → w.next ≡ 0) → iterations (Some kind) (m.items w.decision) w.next ≤ called.iterations m kind x f
  counted Leaf x w fact none = absurd fact
  counted (Scope g) x w fact none = let begun = none refl in omega (arith, begun)
  counted (Choice bs) x w fact none = let begun = none refl in omega (arith, begun)
  counted (Foreach pace g) x w fact none = let same = ap m.items fact.0 in omega (arith, same)
  counted (Until most g) x w fact none =
      begun_most most w.next (λ j. m.ends (m.test x j f)) fact.0 (λ j lt. (fact.1 j lt).0)

  module _ (x : Address) (w : Opening Decision Verdict) (e : s.opens x ≡ Some w) (kind : Kind) (known_kind : kind_of d x.name ≡ Some kind)
    where
      fact : OpenFact m f s.rows kind x.name x.at w
      fact = (reached_facts d depth m s reached).opens x.name x.at w kind e known_kind

      priced : open_cost d m.items (λ (p : Decision). 0) x w ≤ 64 * (1 + called.iterations m kind x f)
      priced =
          let shown = ap (λ k. iterations k (m.items w.decision) w.next) known_kind in
          let most = counted kind x w fact (none_begun d depth m s reached x w e kind known_kind) in
          omega (arith, shown, most)

  module _ (cost : Row → ℕ) (begun_weight : Begun → ℕ) (weight : Decision → ℕ)
      (pays : PaysItsParts m d (meaning m depth d) cost begun_weight weight) where
    pub leaf_paid : (x : Address) (w : Running Begun) → s.running x ≡ Some w
        → (r : Row) × (meaning m depth d x ≡ Some r) × (leaf_cost begun_weight w ≤ cost r)
    leaf_paid x w e =
        let k : Known d depth m s = known d depth m s reached in
        let h = (reached_facts d depth m s reached).running x w e in
        let least = pays.of_leaf x (k.keeps.held x w e).is_leaf h.2 in
        let tries = ap (λ b. m.tries x b) h.0 in
        let weighs = ap begun_weight h.0 in
        (leaf m x f, h.2, omega (arith, least, tries, weighs, h.1))

    pub open_paid : (x : Address) (w : Opening Decision Verdict) → s.opens x ≡ Some w
        → (r : Row) × (meaning m depth d x ≡ Some r) × (open_cost d m.items weight x w ≤ cost r)
    open_paid x w e =
        let k : Known d depth m s = known d depth m s reached in
        let stands = open_stands d depth m s reached x w e in
        let kind = stands.0.1 in
        let th = stands.0.3 in
        let known_kind = (kinds_are_known d depth m s reached x.name x.at stands.0.0 kind th).0 in
        let pl = placed_in m d k.so f k.sol (length x.at) th.graph x.name stands.0.0 kind
        (open_sub m d k.so f k.sol s.opens th.graph x.at th.is_open) th.is_in in
        let passes = (fact_of m d k.so f k.sol s.rows s.opens k.keeps.facts th.graph x.at x.name stands.0.0 kind w th.is_open th.is_in e).0
        in
        let row : f x ≡ Some (closing_row m kind x f) =
        obey_in m d k.so f k.sol th.graph x.at x.name stands.0.0 kind pl
        (follows m d k.so f k.sol s.rows s.opens k.keeps.facts th.graph x.at th.is_open) passes x (own_in x.name kind x.at)
        ∙ closes kind x stands.0.2 in
        let least = pays.of_container x kind stands.0.2 known_kind row in
        let most = priced x w e kind known_kind in
        let weighs = ap weight (decided_as kind x w (fact x w e kind known_kind)) in
        (closing_row m kind x f, row, omega (arith, least, most, weighs))
