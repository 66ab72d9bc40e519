-- A value as contracts see it: a tree over plain lists and numbers.
-- It is what JSON can write (RFC 8259, section 3), but that a number is whole. A text and a name are their bytes in UTF-8.
use Rattle.std.specs.Prelude.{ℕ, suc, ◌+◌, ◌≤◌, ◌^◌, max, ℤ, Bool, ◌&&◌, List, [], ◌∷◌, length, nat_le}

mutual
  pub data ValueTree : Type 0 where
    null : ValueTree
    boolean : Bool → ValueTree
    number : ℤ → ValueTree
    text : List ℕ → ValueTree
    list : ValueTrees → ValueTree
    object : MemberTrees → ValueTree

  pub data ValueTrees : Type 0 where
    no_values : ValueTrees
    value_then : ValueTree → ValueTrees → ValueTrees

  pub data MemberTrees : Type 0 where
    no_members : MemberTrees
    member_then : List ℕ → ValueTree → MemberTrees → MemberTrees

-- a member of an object: its name, and its value
abbrev pub Member : Type 0
Member = List ℕ × ValueTree

-- trees in a row, from a list and back
abbrev pub trees : List ValueTree → ValueTrees
trees [] = no_values
trees (t ∷ ts) = value_then t (trees ts)

abbrev pub items : ValueTrees → List ValueTree
items no_values = []
items (value_then t ts) = t ∷ items ts

-- members in a row, from a list and back
abbrev pub members : List Member → MemberTrees
members [] = no_members
members (m ∷ ms) = member_then m.0 m.1 (members ms)

abbrev pub pairs : MemberTrees → List Member
pairs no_members = []
pairs (member_then k t ms) = (k, t) ∷ pairs ms

-- how deep lists and objects nest: 0 for a scalar, and for a list or an object 1 more than the deepest inside it,
-- which is 0 where nothing is inside
abbrev mutual
  pub depth : ValueTree → ℕ
  depth null = 0
  depth (boolean b) = 0
  depth (number n) = 0
  depth (text s) = 0
  depth (list ts) = suc (trees_depth ts)
  depth (object ms) = suc (members_depth ms)

  pub trees_depth : ValueTrees → ℕ
  trees_depth no_values = 0
  trees_depth (value_then t ts) = max (depth t) (trees_depth ts)

  pub members_depth : MemberTrees → ℕ
  members_depth no_members = 0
  members_depth (member_then k t ms) = max (depth t) (members_depth ms)

-- how large a value is: 1 for itself, and the weights of what it holds; a text holds its bytes,
-- and a member weighs 1, the bytes of its name, and its value
abbrev mutual
  pub weight : ValueTree → ℕ
  weight null = 1
  weight (boolean b) = 1
  weight (number n) = 1
  weight (text s) = 1 + length s
  weight (list ts) = 1 + trees_weight ts
  weight (object ms) = 1 + members_weight ms

  pub trees_weight : ValueTrees → ℕ
  trees_weight no_values = 0
  trees_weight (value_then t ts) = weight t + trees_weight ts

  pub members_weight : MemberTrees → ℕ
  members_weight no_members = 0
  members_weight (member_then k t ms) = 1 + length k + weight t + members_weight ms

-- an expression may have the value: it nests at most 64 deep and weighs at most 2^20
abbrev pub Fits : ValueTree → Type 0
Fits t = (depth t ≤ 64) × (weight t ≤ 2 ^ 20)

-- the same as a test
abbrev pub fits : ValueTree → Bool
fits t = nat_le (depth t) 64 && nat_le (weight t) (2 ^ 20)

-- how many values there are in a value, itself included: less in each part, so a recursion over values ends
abbrev mutual
  pub node_count : ValueTree → ℕ
  node_count null = 1
  node_count (boolean b) = 1
  node_count (number n) = 1
  node_count (text s) = 1
  node_count (list ts) = 1 + trees_count ts
  node_count (object ms) = 1 + members_count ms

  pub trees_count : ValueTrees → ℕ
  trees_count no_values = 0
  trees_count (value_then t ts) = node_count t + trees_count ts

  pub members_count : MemberTrees → ℕ
  members_count no_members = 0
  members_count (member_then k t ms) = node_count t + members_count ms
