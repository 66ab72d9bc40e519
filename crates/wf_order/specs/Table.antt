-- The tables of an order, by the numbers of actions, and what they answer.
use Rattle.std.specs.Prelude.{ℕ, ◌-◌, Bool, false, not, ◌&&◌, ◌||◌, cond, List, [], map, length, take, Option, Some, None, nat_eq, slice_get}
use Rattle.std.specs.List.{list_any}
use Rattle.wf_def.specs.Definition.{Graph, has, needs_of}
use Rattle.wf_paths.specs.Table.{at, from, paths_of}
use Rattle.wf_order.specs.Order.{stand, up}

-- where an action stands: itself after its containers; the If or Switch in a branch of which it stands directly, and the number of the
-- branch; and the actions that it waits for
pub record PlaceTree : Type 0 where
  pub up : List ℕ
  pub stand : Option (ℕ × ℕ)
  pub after : List ℕ

-- which action leads to which along `runAfter`, and the place of each number that is an action's
pub record OrderTree : Type 0 where
  pub paths : List (List Bool)
  pub places : List (Option PlaceTree)

-- the tables of a graph whose actions have numbers below n

abbrev pub waits_of : Graph → ℕ → List ℕ
waits_of g m = map (λ need. need.name) (needs_of g m)

abbrev pub place_of : Graph → ℕ → Option PlaceTree
place_of g m = cond (has g m) (Some (record { up = up g m; stand = stand None g m; after = waits_of g m })) None

abbrev pub order_of : ℕ → Graph → OrderTree
order_of n g = record { paths = paths_of (from 0 n (waits_of g)); places = from 0 n (place_of g) }

-- what stands at a number; nothing where no action has it

abbrev pub up_in : Option (Option PlaceTree) → List ℕ
up_in (Some (Some p)) = p.up
up_in o = []

abbrev pub up_at : List (Option PlaceTree) → ℕ → List ℕ
up_at ps x = up_in (slice_get ps x)

abbrev pub stand_of : Option (Option PlaceTree) → Option (ℕ × ℕ)
stand_of (Some (Some p)) = p.stand
stand_of o = None

abbrev pub stand_at : List (Option PlaceTree) → ℕ → Option (ℕ × ℕ)
stand_at ps x = stand_of (slice_get ps x)

-- what the action at a place waits for
abbrev pub after_at : Option PlaceTree → List ℕ
after_at (Some p) = p.after
after_at None = []

-- all but the last
abbrev pub but_last : List ℕ → List ℕ
but_last xs = take (length xs - 1) xs

-- some of these leads to some of those
abbrev pub leads_any : List (List Bool) → List ℕ → List ℕ → Bool
leads_any paths xs ys = list_any (λ c. list_any (λ d. at paths d c) ys) xs

-- two places in different branches of one If or Switch
abbrev pub are_apart : Option (ℕ × ℕ) → Option (ℕ × ℕ) → Bool
are_apart None q = false
are_apart (Some p) None = false
are_apart (Some p) (Some q) = nat_eq p.0 q.0 && not (nat_eq p.1 q.1)

-- some of these and some of those stand so
abbrev pub apart_any : List (Option PlaceTree) → List ℕ → List ℕ → Bool
apart_any ps xs ys = list_any (λ c. list_any (λ d. are_apart (stand_at ps c) (stand_at ps d)) ys) xs

-- what the tables answer

abbrev pub before : OrderTree → ℕ → ℕ → Bool
before o x y = leads_any o.paths (up_at o.places x) (up_at o.places y)

abbrev pub contains : OrderTree → ℕ → ℕ → Bool
contains o x y = list_any (nat_eq x) (but_last (up_at o.places y))

abbrev pub exclusive : OrderTree → ℕ → ℕ → Bool
exclusive o x y = apart_any o.places (up_at o.places x) (up_at o.places y)

abbrev pub redo : OrderTree → ℕ → ℕ → Bool
redo o x y = nat_eq x y || (contains o x y || before o x y)
