-- What the loops round actions say of what is seen.
use Rattle.std.specs.Prelude.{◌≡◌, ℕ, Bool, true, List, ◌∷◌, length}
use Rattle.wf_order.specs.Address.{Address, starts}
use Rattle.wf_order.specs.Definition.{Graph, Kind}
use Rattle.wf_order.specs.Order.{Before, Contains}
use Rattle.wf_loops.specs.Loops.{is_earlier, left_round, loops_in, loops_of, paces_round}

-- By the loops round both, x is earlier than y. `before` may be any test that x is before y, where it is one.
abbrev pub IsEarlierBy : Graph → Address → Address → Bool → Type 0
IsEarlierBy g x y before = (before ≡ true → Before g x.name y.name) × (is_earlier (paces_round g x.name y.name) x.at y.at before ≡ true)

-- A reference from z to x leaves the loop l first, in which `shared` are the indexes of the loops round both.
pub record IsLeftFirst (g : Graph) (z x : Address) (l : ℕ) (shared : List ℕ) : Type 0 where
  pub others : List ℕ
  pub left : left_round g x.name z.name ≡ l ∷ others
  pub each_loop : length shared ≡ length (paces_round g x.name z.name)
  pub begins : starts shared x.at ≡ true

-- x stands inside the container n, whose kind this is: the loops round both are those round n, those that a reference from n to x leaves
-- are those of the container round x, n itself among them where it is a loop
pub record StandsIn (g : Graph) (n x : ℕ) (kind : Kind) : Type 0 where
  pub shared : length (paces_round g x n) ≡ length (loops_of g n)
  pub left : left_round g x n ≡ loops_in n kind x

-- l is a loop round x, behind these in the list of them: it contains x, and these are the loops round it
pub record IsRound (g : Graph) (x l : ℕ) (outer : List ℕ) : Type 0 where
  pub contains : Contains g l x
  pub loops : loops_of g l ≡ outer
