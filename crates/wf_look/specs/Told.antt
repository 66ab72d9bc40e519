-- WHAT A LOOK TELLS: all that an expression may ask for beside its own text.
use Rattle.std.specs.Prelude.{ℕ, zero, suc, ◌+◌, ◌-◌, ◌^◌, ℤ, List, [], ◌∷◌, Option, nat_lt, if◌then◌else◌}
use Rattle.wf_functions.specs.Words.{word_of}
use Rattle.wf_val.specs.ValueTree.{ValueTree}

-- all but the number of words already drawn; None says that the look has no such thing
pub record Told : Type 0 where
  pub parameter : List ℕ → Option ValueTree
  pub variable : List ℕ → Option ValueTree
  -- the trigger's value
  pub trigger : ValueTree
  -- the view of an action, or the views of its iterations; and what `result` gives of a container
  pub view : List ℕ → Option ValueTree
  pub result : List ℕ → Option ValueTree
  -- the items of the loops round the expression, the nearest first
  pub items : List ValueTree
  -- the item and the index of a loop by its name
  pub item_of : List ℕ → Option ValueTree
  pub index_of : List ℕ → Option ℕ
  -- the view of the row that is ending
  pub own : Option ValueTree
  -- the moment, in ticks of 100 ns since 0001-01-01T00:00:00, and the run's name
  pub moment : ℤ
  pub run_name : List ℕ
  -- where words come from
  pub seed : List ℕ
  pub place : List ℕ

-- a look with an item above those that it has
abbrev pub over : ValueTree → Told → Told
over t l = record l { items = t ∷ l.items }

-- ---- words

-- the number drawn after one more word; at the greatest u64 it stays
abbrev pub raised : ℕ → ℕ
raised n = if nat_lt n (2 ^ 64 - 1) then n + 1 else n

-- the next word, where so many were drawn
abbrev pub next_word : Told → ℕ → List ℕ
next_word l n = word_of l.seed l.place n

-- k words in a row, where n were drawn before
abbrev pub words : Told → ℕ → ℕ → List (List ℕ)
words l n zero = []
words l n (suc k) = next_word l n ∷ words l (raised n) k
