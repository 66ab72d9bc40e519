-- V13 at the addresses of a run.
use Rattle.std.proofs.Common.{◌≡◌, ℕ, Bool, true, false, List, [], ◌∷◌, map, Some, ◌⊎◌, inl, inr, nat_eq, refl, sym, ap, subst, ◌∙◌}
use Rattle.std.proofs.Common.{true≢false}
use Rattle.std.specs.Prelude.{◌||◌}
use Rattle.std.specs.List.{AllByRecursion, list_any}
use Rattle.std.proofs.lemmas.Bool.{eq-eqb, eqb-true}
use Rattle.wf_layers.specs.Address.{Address, address}
use Rattle.wf_layers.specs.Definition.{Graph, Kind, has, kind_of}
use Rattle.wf_layers.specs.Variables.{HasOrder, IsOrdered}
use Rattle.wf_known_laws.specs.DefTree.{DefTree}
use Rattle.wf_known_laws.specs.Layered.{layered}
use Rattle.wf_known_laws.specs.Turns.{AreSettled, IsInstance, IsInTurn, IsReadWith}
use Rattle.wf_rules.specs.Standing.{StandingTree, number_at, standings_of}
use Rattle.wf_rules.specs.Whole.{whole_of}
use Rattle.wf_rules.specs.Pairs.{reads, writes}
use Rattle.wf_rules.specs.Settled.{IsAccessedWith, IsWrittenInOrder, VariablesAreInOrder}
use Rattle.wf_accepted_laws.proofs.PairLemmas.{Picked, picked}
use Rattle.wf_accepted_laws.specs.Variables.{ReadsIt, VariablesAreInOneOrder, WritesIt}

module _ (d : DefTree) (all : VariablesAreInOrder d)
    (there : (m : ℕ) → has (layered d.top) m ≡ true → list_any (nat_eq m) (map number_at (standings_of d.top)) ≡ true)
    (in_order : (x y : Address) → IsInstance (layered d.top) x → IsInstance (layered d.top) y → IsInTurn (layered d.top) x.name
    → (x.name ≡ y.name) ⊎ AreSettled (layered d.top) x.name y.name → (x ≡ y) ⊎ IsOrdered (layered d.top) x y)
    (read_in_order : (n : ℕ) (i : List ℕ) (kind : Kind) (y : Address) → kind_of (layered d.top) n ≡ Some kind
    → IsInstance (layered d.top) (address n i) → IsInstance (layered d.top) y → IsInTurn (layered d.top) y.name
    → IsReadWith (layered d.top) n y.name → HasOrder (layered d.top) n kind i y) where
  writer : (m : ℕ) → has (layered d.top) m ≡ true → Picked (IsWrittenInOrder d) m
  writer m is = picked (IsWrittenInOrder d) (standings_of d.top) m all (there m is)

  other : (s : StandingTree) → IsWrittenInOrder d s → (m : ℕ) → has (layered d.top) m ≡ true → Picked (IsAccessedWith d s) m
  other s w m is = picked (IsAccessedWith d s) (standings_of d.top) m w.with_others (there m is)

  pub in-one-order : VariablesAreInOneOrder d
  in-one-order = record {
    writers = λ k x y of_x of_y w v.
        let one = writer x.name of_x.0 in
        let two = other one.standing one.holds y.name of_y.0 in
        let w' : writes (whole_of d) k one.standing ≡ true = subst (λ (n : ℕ). WritesIt d k n) (sym one.number) w in
        let v' : writes (whole_of d) k two.standing ≡ true = subst (λ (n : ℕ). WritesIt d k n) (sym two.number) v in
        in_order x y of_x of_y (subst (λ (n : ℕ). IsInTurn (layered d.top) n) one.number (one.holds.in_turn k w'))
        (subst (λ (n : ℕ). (x.name ≡ n) ⊎ AreSettled (layered d.top) x.name n) two.number
        (subst (λ (m : ℕ). (m ≡ number_at two.standing) ⊎ AreSettled (layered d.top) m (number_at two.standing)) one.number
        (two.holds.writers k w' v')));
    readers = λ k n i kind y is of_n of_y r w.
        let one = writer y.name of_y.0 in
        let two = other one.standing one.holds n of_n.0 in
        let w' : writes (whole_of d) k one.standing ≡ true = subst (λ (m : ℕ). WritesIt d k m) (sym one.number) w in
        let r' : reads (whole_of d) k two.standing ≡ true = subst (λ (m : ℕ). ReadsIt d k m) (sym two.number) r in
        read_in_order n i kind y is of_n of_y (subst (λ (m : ℕ). IsInTurn (layered d.top) m) one.number (one.holds.in_turn k w'))
        (subst (λ (m : ℕ). IsReadWith (layered d.top) n m) one.number
        (subst (λ (m : ℕ). IsReadWith (layered d.top) m (number_at one.standing)) two.number (two.holds.readers k w' r')));
  }
