-- What states cost, at examples.
use Rattle.std.proofs.Common.{◌≡◌, ℕ, List, [], ◌∷◌, Some, None, inl, ⊎_elim, refl, sym, ◌∙◌, subst}
use Rattle.std.proofs.lemmas.Option.{none-some}
use Rattle.wf_layers.specs.Address.{address, is_own}
use Rattle.wf_layers.specs.Definition.{Leaf, Foreach, InTurn, Graph, done, add}
use Rattle.wf_layers.specs.Machine.{State, fresh, one}
use Rattle.wf_layers.proofs.Basics.{two, unless, when}
use Rattle.wf_layers.proofs.Tables.{own_is, own_self}
use Rattle.wf_priced.specs.Priced.{TellsRows}
use Rattle.wf_dearer.specs.StateCosts.{Entry, StateCosts}

-- a table of one entry
module _ {A : Type 0} (n : ℕ) (i : List ℕ) (a : A) where
  has_one : TellsRows (λ (e : Entry A). e.0) (λ (e : Entry A). e.1) (one n i a) ((address n i, a) ∷ [])
  has_one = record {
    all = record {
      each = λ e among. ⊎_elim
          (λ is. subst (λ (z : Entry A). one n i a z.0 ≡ Some z.1) is (when (is_own n i (address n i)) (Some a) None (own_self n i)))
          (λ z. absurd z) among;
      all = λ x y is. ⊎_elim (λ t. ((address n i, a), inl refl, own_is n i x t))
          (λ u. absurd (none-some y (sym (unless (is_own n i x) (Some a) None u) ∙ is))) (two (is_own n i x));
    };
    ordered = (tt, tt);
  }

has_none : {A : Type 0} → TellsRows (λ (e : Entry A). e.0) (λ (e : Entry A). e.1) (λ x. None) []
has_none {A} = record { all = record { each = λ e a. absurd a; all = λ x a is. absurd (none-some a is) }; ordered = tt }

-- a leaf, and a loop of as many iterations as its decision says
abbrev d : Graph
d = add 0 [] Leaf (add 1 [] Leaf (add 2 [] (Foreach InTurn done) done))

-- the first leaf has its row, the second has made one attempt, and of the loop's three iterations one has begun
abbrev s : State ℕ ℕ ℕ ℕ
s = record {
  rows = one 0 [] 70;
  running = one 1 [] (record { begun = 5; tries = 1 });
  opens = one 2 [] (record { decision = 3; next = 1; test = None });
}

begins_at_no_cost : StateCosts d (λ p. p) (λ r. r) (λ b. b) (λ p. 9) (fresh {Row = ℕ} {Begun = ℕ} {Decision = ℕ} {Verdict = ℕ}) 0
begins_at_no_cost = record {
  rows = [];
  leaves = [];
  opens = [];
  rows_are = has_none;
  leaves_are = has_none;
  opens_are = has_none;
  total_is = refl;
}

-- 70 for the row, 128 and 5 for the leaf, 256 and 9 for the loop
costs_468 : StateCosts d (λ p. p) (λ r. r) (λ b. b) (λ p. 9) s 468
costs_468 = record {
  rows = (address 0 [], 70) ∷ [];
  leaves = (address 1 [], record { begun = 5; tries = 1 }) ∷ [];
  opens = (address 2 [], record { decision = 3; next = 1; test = None }) ∷ [];
  rows_are = has_one 0 [] 70;
  leaves_are = has_one 1 [] (record { begun = 5; tries = 1 });
  opens_are = has_one 2 [] (record { decision = 3; next = 1; test = None });
  total_is = refl;
}
