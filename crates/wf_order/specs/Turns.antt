-- The loops round an action, and addresses with an index for each loop.
use Rattle.std.specs.Prelude.{◌≡◌, ◌⊎◌, ℕ, true, length}
use Rattle.wf_def.specs.Definition.{Pace, InTurn, Kind, Leaf, Scope, Choice, Foreach, Until, Branches, no_branch, branch, Graph, done}
use Rattle.wf_def.specs.Definition.{add}
use Rattle.wf_def.specs.Definition.{holds, has}
use Rattle.wf_def.specs.Address.{Address}
use Rattle.wf_order.specs.Indexes.{loops_round}
use Rattle.wf_order.specs.Order.{Before, Contains, Exclusive}

module _ (Each : Pace → Type 0) where
  -- each loop round the action m goes so; an Until goes one iteration after the other
  abbrev mutual
    pub EachLoopIn : Kind → ℕ → Type 0
    EachLoopIn Leaf m = Unit {0}
    EachLoopIn (Scope g) m = EachLoop g m
    EachLoopIn (Choice bs) m = EachLoopAny bs m
    EachLoopIn (Foreach pace g) m = Each pace × EachLoop g m
    EachLoopIn (Until most g) m = Each InTurn × EachLoop g m

    pub EachLoopAny : Branches → ℕ → Type 0
    EachLoopAny no_branch m = Unit {0}
    EachLoopAny (branch b rest) m = (has b m ≡ true → EachLoop b m) × EachLoopAny rest m

    pub EachLoop : Graph → ℕ → Type 0
    EachLoop done m = Unit {0}
    EachLoop (add n after kind rest) m = (holds kind m ≡ true → EachLoopIn kind m) × EachLoop rest m

-- each loop round the action goes one iteration after the other
abbrev pub GoesInTurn : Pace → Type 0
GoesInTurn pace = pace ≡ InTurn

abbrev pub IsInTurn : Graph → ℕ → Type 0
IsInTurn g m = EachLoop GoesInTurn g m

-- no loop is round it
abbrev pub Never : Pace → Type 0
Never pace = ⊥

abbrev pub IsInNoLoop : Graph → ℕ → Type 0
IsInNoLoop g m = EachLoop Never g m

-- an instance of an action has an index for each loop round it
abbrev pub IsInstance : Graph → Address → Type 0
IsInstance g x = (has g x.name ≡ true) × (loops_round g x.name x.name ≡ length x.at)

-- two actions are in one order, or exclude each other
abbrev pub AreSettled : Graph → ℕ → ℕ → Type 0
AreSettled g x y = Before g x y ⊎ (Before g y x ⊎ Exclusive g x y)

-- what is read by n in its order with what y writes: y is n itself, stands inside it, or is settled with it
abbrev pub IsReadWith : Graph → ℕ → ℕ → Type 0
IsReadWith g n y = (n ≡ y) ⊎ (Contains g n y ⊎ AreSettled g n y)
