-- What rows cost at least, of one source: its leaves keep inputs that weigh 5 and make two attempts, a Foreach has three iterations, and
-- an Until ends with the second one.
use Rattle.std.proofs.Common.{◌≡◌, ◌≤◌, ℕ, ◌+◌, ◌*◌, false, cond, [], ◌∷◌, Option, Some, None, nat_eq, inl, ⊎_elim, refl, sym, ap, ◌∙◌, arith}
use Rattle.std.proofs.lemmas.Option.{none-some}
use Rattle.wf_layers.specs.Address.{Address, Table, address, is_own}
use Rattle.wf_layers.specs.Definition.{Succeeded, Kind, Leaf, Scope, Choice, Foreach, InTurn, Until, no_branch, Graph, done, add}
use Rattle.wf_layers.specs.Machine.{IsContainer}
use Rattle.wf_layers.specs.Source.{Source}
use Rattle.wf_layers.specs.Called.{iterations}
use Rattle.wf_layers.proofs.Basics.{two, unless}
use Rattle.wf_layers.proofs.Tables.{own_is}
use Rattle.wf_priced.specs.Priced.{PaysItsParts, TellsRows, closing_row}

abbrev tested : Option ℕ → ℕ
tested None = 3
tested (Some v) = 3 + v

abbrev m : Source ℕ ℕ ℕ ℕ
m = record {
  status = λ r. Succeeded;
  skipped = 64;
  start = λ x t. 5;
  tries = λ x b. 2;
  finish = λ x b t. 197;
  decide = λ x t. 3;
  taken = λ p. p;
  items = λ p. p;
  test = λ x j t. j;
  ends = λ v. nat_eq v 1;
  close = λ x p c v t. 64 * (1 + p + c) + tested v;
  halts = λ x t. false;
  pinned = λ n. false;
  old = λ x. None;
  reclosed = λ n. false;
}

abbrev d : Graph
d = add 0 [] Leaf (add 1 [] (Foreach InTurn done) (add 2 [] (Until 5 done) done))

abbrev f : Table ℕ
f x = cond (nat_eq x.name 0) (Some 197) (cond (nat_eq x.name 1) (Some 259) (cond (nat_eq x.name 2) (Some 388) None))

-- rows of containers: an Until's is told its iterations and its last test
foreach_closes : closing_row m (Foreach InTurn done) (address 1 []) f ≡ 259
foreach_closes = refl

until_closes : closing_row m (Until 5 done) (address 2 []) f ≡ 388
until_closes = refl

until_is_cut : closing_row m (Until 1 done) (address 2 []) f ≡ 323
until_is_cut = refl

scope_closes : closing_row m (Scope done) (address 3 []) f ≡ 259
scope_closes = refl

choice_closes : closing_row m (Choice no_branch) (address 3 []) f ≡ 259
choice_closes = refl

-- these rows pay what a leaf and a loop cost before
contained : (x : Address) (kind : Kind) → IsContainer kind → 64 * (1 + iterations m kind x f) + 3 ≤ closing_row m kind x f
contained x Leaf c = absurd c
contained x (Scope g) c = omega arith
contained x (Choice bs) c = omega arith
contained x (Foreach pace g) c = omega arith
contained x (Until most g) c = omega arith

paid : PaysItsParts m d f (λ r. r) (λ b. b) (λ p. p)
paid = record { of_leaf = λ x is row. omega arith; of_container = λ x kind c is row. contained x kind c }

-- and where one costs less by 1 it doesn't
leaf_is_short : PaysItsParts m d f (λ r. cond (nat_eq r 197) 196 r) (λ b. b) (λ p. p) → ⊥
leaf_is_short pays = let least = pays.of_leaf (address 0 []) refl refl in omega (arith, least)

foreach_is_short : PaysItsParts m d f (λ r. cond (nat_eq r 259) 258 r) (λ b. b) (λ p. p) → ⊥
foreach_is_short pays =
    let least = pays.of_container (address 1 []) (Foreach InTurn done) tt refl refl in omega (arith, least)

until_is_short : PaysItsParts m d f (λ r. cond (nat_eq r 388) 194 r) (λ b. b) (λ p. p) → ⊥
until_is_short pays = let least = pays.of_container (address 2 []) (Until 5 done) tt refl refl in omega (arith, least)

-- ---- the rows of a table, each once

abbrev one_row : Table ℕ
one_row x = cond (is_own 4 (1 ∷ []) x) (Some 70) None

told : TellsRows (λ (n : ℕ). address n (1 ∷ [])) (λ (n : ℕ). 70) one_row (4 ∷ [])
told = record {
  all = record {
    each = λ e a. ⊎_elim (λ is. ap (λ n. one_row (address n (1 ∷ []))) (sym is)) (λ z. absurd z) a;
    all = λ x y is. ⊎_elim (λ t. (4, inl refl, own_is 4 (1 ∷ []) x t))
        (λ u. absurd (none-some y (sym (unless (is_own 4 (1 ∷ []) x) (Some 70) None u) ∙ is))) (two (is_own 4 (1 ∷ []) x));
  };
  ordered = (tt, tt);
}

not_twice : TellsRows (λ (n : ℕ). address n (1 ∷ [])) (λ (n : ℕ). 70) one_row (4 ∷ 4 ∷ []) → ⊥
not_twice tells = cc (tells.ordered.0.0)
