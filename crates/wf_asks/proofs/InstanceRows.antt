-- Worked rows of instances and of tables by instances.
use Rattle.std.proofs.Common.{◌≡◌, ℕ, List, [], ◌∷◌, Some, None, refl}
use Rattle.std.specs.declared.cmp.Ordering.TheVariants.{Less, Equal, Greater}
use Rattle.wf_layers.specs.Address.{address}
use Rattle.wf_asks.specs.Instances.{address_of, instance_cmp, rows_in}
use Rattle.wf_asks.specs.declared.instance.Instance.{Instance}
use Rattle.wf_asks.specs.declared.known.RowAt.{RowAt}

abbrev at : ℕ → List ℕ → Instance
at n i = record { action = n; at = i }

-- by number before indexes, by the first index that differs, and a front first
by_number : instance_cmp (at 2 (10 ∷ [])) (at 10 []) ≡ Less
by_number = refl

by_index : instance_cmp (at 5 (2 ∷ [])) (at 5 (10 ∷ [])) ≡ Less
by_index = refl

by_inner_index : instance_cmp (at 5 (2 ∷ 0 ∷ [])) (at 5 (1 ∷ 9 ∷ [])) ≡ Greater
by_inner_index = refl

front_first : instance_cmp (at 5 []) (at 5 (0 ∷ [])) ≡ Less
front_first = refl

itself : instance_cmp (at 5 (1 ∷ [])) (at 5 (1 ∷ [])) ≡ Equal
itself = refl

its_address : address_of (at 5 (1 ∷ [])) ≡ address 5 (1 ∷ [])
its_address = refl

-- a table of three rows
abbrev rows : List (RowAt ℕ)
rows = record { instance = at 2 []; row = 20 } ∷ record { instance = at 5 (0 ∷ []); row = 50 } ∷ record {
  instance = at 5
      (1 ∷ []);
  row = 51;
} ∷ []

outside_loops : rows_in (λ r. r) rows (address 2 []) ≡ Some 20
outside_loops = refl

of_an_iteration : rows_in (λ r. r) rows (address 5 (1 ∷ [])) ≡ Some 51
of_an_iteration = refl

no_iteration : rows_in (λ r. r) rows (address 5 (2 ∷ [])) ≡ None
no_iteration = refl

without_an_index : rows_in (λ r. r) rows (address 5 []) ≡ None
without_an_index = refl

an_index_too_many : rows_in (λ r. r) rows (address 2 (0 ∷ [])) ≡ None
an_index_too_many = refl
