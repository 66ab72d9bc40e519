-- What a few leaves and containers cost.
use Rattle.std.proofs.Common.{◌≡◌, ℕ, ◌+◌, [], ◌∷◌, Some, None, cond, nat_eq, refl}
use Rattle.wf_layers.specs.Address.{Table, address}
use Rattle.wf_layers.specs.Definition.{Leaf, Scope, Choice, Foreach, InTurn, Until, no_branch, Graph, done, add}
use Rattle.wf_layers.specs.Machine.{Opening, Running}
use Rattle.wf_meter.specs.Cost.{leaf_cost, open_cost}
use Rattle.wf_meter.specs.Parts.{block_worth, row_part}

abbrev leaf : ℕ → Running ℕ
leaf tries = record { begun = 5; tries = tries }

-- a leaf that has started, with inputs that weigh 5, and that has made two attempts
started : leaf_cost (λ b. b) (leaf 0) ≡ 69
started = refl

tried : leaf_cost (λ b. b) (leaf 2) ≡ 197
tried = refl

abbrev graph : Graph
graph = add 0 [] (Scope (add 1 [] Leaf done)) (add 2 [] (Foreach InTurn done) (add 3 [] (Until 5 done) (add 4 [] (Choice no_branch) done)))

-- decisions are lists of so many items, which weigh twice as much
abbrev opening : ℕ → Opening ℕ ℕ
opening next = record { decision = 3; next = next; test = None }

-- a Foreach costs all its iterations from its opening on
foreach_opened : open_cost graph (λ c. c) (λ c. c + c) (address 2 []) (opening 0) ≡ 262
foreach_opened = refl

foreach_begun : open_cost graph (λ c. c) (λ c. c + c) (address 2 []) (opening 2) ≡ 262
foreach_begun = refl

-- an Until those that have begun
until_opened : open_cost graph (λ c. c) (λ c. 0) (address 3 []) (opening 0) ≡ 64
until_opened = refl

until_begun : open_cost graph (λ c. c) (λ c. 0) (address 3 []) (opening 2) ≡ 192
until_begun = refl

scope_opened : open_cost graph (λ c. c) (λ c. 0) (address 0 []) (opening 0) ≡ 64
scope_opened = refl

choice_opened : open_cost graph (λ c. c) (λ c. 1) (address 4 []) (opening 0) ≡ 65
choice_opened = refl

-- of a block, those that have a row
abbrev rows : Table ℕ
rows x = cond (nat_eq x.name 1) (Some 70) (cond (nat_eq x.name 4) (Some 100) None)

block : block_worth (row_part (λ r. r)) rows [] (0 ∷ 1 ∷ 2 ∷ []) ≡ 70
block = refl

none_there : block_worth (row_part (λ r. r)) rows [] (2 ∷ 3 ∷ []) ≡ 0
none_there = refl

both : block_worth (row_part (λ r. r)) rows (7 ∷ []) (4 ∷ 1 ∷ []) ≡ 170
both = refl
