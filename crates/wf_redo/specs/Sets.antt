-- What the tables of an order answer of a set of actions.
use Rattle.std.specs.Prelude.{ℕ, Bool, not, ◌&&◌, List, nat_eq}
use Rattle.std.specs.List.{list_any}
use Rattle.wf_order.specs.Table.{OrderTree, contains, redo}

-- an action of the set
abbrev pub is_chosen : List ℕ → ℕ → Bool
is_chosen from n = list_any (nat_eq n) from

-- y is redone with one of the set
abbrev pub redo_any : OrderTree → List ℕ → ℕ → Bool
redo_any o from y = list_any (λ x. redo o x y) from

-- y isn't redone, and contains one of the set
abbrev pub again_any : OrderTree → List ℕ → ℕ → Bool
again_any o from y = not (redo_any o from y) && list_any (λ x. contains o y x) from
