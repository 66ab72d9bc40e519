-- How an address stands to a table, along the way to its action.
use Rattle.std.specs.Prelude.{ℕ, Bool, true, false, not, ◌||◌, List, [], ◌∷◌, ◌++◌, nat_eq, nat_lt}
use Rattle.wf_layers.specs.Address.{Table, address}
use Rattle.wf_layers.specs.Shape.{Reading}
use Rattle.wf_shape.specs.Standing.{Standing, own, at_turn, if_fits}
use Rattle.wf_ways.specs.Way.{Into, whole, branch_of, item, round, Step}

module _ {Row : Type 0} (read : Reading Row) (is_skipped : Row → Bool) (fits : ℕ → Bool → Row → Bool) (r : Table Row) where
  -- Past the row of the container n at the indexes i, with the indexes `rest` left: in a branch that wasn't taken all has to be Skipped,
  -- and an iteration takes an index.
  abbrev pub go_in : Into → ℕ → Row → List ℕ → List ℕ → (Bool → List ℕ → List ℕ → Standing) → Standing
  go_in whole n row i rest on = on (is_skipped row) i rest
  go_in (branch_of k) n row i rest on = on (is_skipped row || not (nat_eq k (read.taken n row))) i rest
  go_in item n row i rest on = at_turn (read.items row) rest (λ j more. on false (i ++ j ∷ []) more)
  go_in round n row i rest on = at_turn (read.rounds row) rest (λ j more. on false (i ++ j ∷ []) more)

  abbrev pub along : List Step → Bool → List ℕ → List ℕ → Standing
  along [] skipped i rest = own skipped rest
  along (s ∷ ss) skipped i rest =
      if_fits (fits s.container skipped) (r (address s.container i)) (λ row. go_in s.into s.container row i rest (along ss))

  -- which further indexes the row of a container calls for inside it
  abbrev pub calls : Into → Row → List ℕ → Bool
  calls whole row [] = true
  calls (branch_of k) row [] = true
  calls item row (j ∷ []) = nat_lt j (read.items row)
  calls round row (j ∷ []) = nat_lt j (read.rounds row)
  calls into row more = false
