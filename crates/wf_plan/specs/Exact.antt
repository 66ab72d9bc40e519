-- WHAT A PLAN HAS, in the words of the laws of order.
use Rattle.std.specs.Prelude.{◌≡◌, ℕ, true, false, List, ◌∷◌, Some, None}
use Rattle.std.specs.List.{AllByRecursion}
use Rattle.wf_def.specs.Changes.{is_named, owns}
use Rattle.wf_def.specs.Definition.{Graph, Kind, kind_of, needs_of}
use Rattle.wf_def.specs.ActionTree.{ActionTree, action_number}
use Rattle.wf_asks.specs.Known.{is_among}
use Rattle.wf_plan.specs.Plan.{EntryTree, entry_for, followers_of, holder_of, shape_of, shown}

module _ (d : Graph) (as' : List ActionTree) where
  -- the entry of a number is that of the graph's action
  pub record HasEntry (n : ℕ) (e : EntryTree) : Type 0 where
    pub kind : Kind
    pub of_kind : kind_of d n ≡ Some kind
    pub after : e.after ≡ needs_of d n
    pub shape : e.shape ≡ shape_of kind
    pub block : e.block ≡ n ∷ shown kind

  pub record IsExact : Type 0 where
    pub entries : (n : ℕ) (e : EntryTree) → entry_for as' n ≡ Some e → HasEntry n e
    -- those that follow an action are those that wait for it
    pub follow : (n q : ℕ) → is_among q (followers_of as' n) ≡ true → is_named (needs_of d q) n ≡ true
    pub wait : (n : ℕ) → AllByRecursion
        (λ a. is_named (needs_of d (action_number a)) n ≡ true → is_among (action_number a) (followers_of as' n) ≡ true) as'
    -- a holder holds it in a graph of its own, and what has none is held by none
    pub hold : (n c : ℕ) → holder_of as' n ≡ Some c → owns (kind_of d c) n ≡ true
    pub free : (n : ℕ) → holder_of as' n ≡ None → AllByRecursion (λ a. owns (kind_of d (action_number a)) n ≡ false) as'
