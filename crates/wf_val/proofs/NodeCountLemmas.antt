-- A part of a value has no more nodes than the list or the object that holds it.
use Rattle.std.proofs.Common.{◌≡◌, ◌<◌, ◌≤◌, ℕ, zero, suc, List, [], ◌∷◌, length, map, get_or, arith, subst, sym}
use Rattle.wf_val.specs.Seen.{tree, member}
use Rattle.wf_val.specs.ValueTree.{ValueTree, Member, node_count, trees, trees_count, members, members_count}
use Rattle.wf_val.specs.declared.val.Val.{Val}

pub item_count-le : (vs : List Val) (i : ℕ) (d : Val) → i < length vs
    → node_count (tree (get_or vs i d)) ≤ trees_count (trees (map tree vs))
item_count-le [] i d within = absurd (omega arith)
item_count-le (v ∷ vs) zero d within = omega arith
item_count-le (v ∷ vs) (suc i) d within = omega (arith, item_count-le vs i d (omega arith))

pub member_count-le : (ms : List (List ℕ × Val)) (i : ℕ) (d : List ℕ × Val) → i < length ms
    → node_count (tree (get_or ms i d).1) ≤ members_count (members (map member ms))
member_count-le [] i d within = absurd (omega arith)
member_count-le (m ∷ ms) zero d within = omega arith
member_count-le (m ∷ ms) (suc i) d within = omega (arith, member_count-le ms i d (omega arith))

-- the same of a list and an object that are seen as trees, so that a recursion into them goes down
pub item-falls : (ts : List ValueTree) (vs : List Val) (i : ℕ) (v : Val) → map tree vs ≡ ts → i < length vs → v ≡ get_or vs i v
    → node_count (tree v) ≤ trees_count (trees ts)
item-falls ts vs i v seen within is =
    subst (λ us. node_count (tree v) ≤ trees_count (trees us)) seen
    (subst (λ w. node_count (tree w) ≤ trees_count (trees (map tree vs))) (sym is) (item_count-le vs i v within))

pub member-falls : (ms : List Member) (vs : List (List ℕ × Val)) (i : ℕ) (m : List ℕ × Val) → map member vs ≡ ms → i < length vs
    → m ≡ get_or vs i m
    → node_count (tree m.1) ≤ members_count (members ms)
member-falls ms vs i m seen within is =
    subst (λ us. node_count (tree m.1) ≤ members_count (members us)) seen
    (subst (λ (n : List ℕ × Val). node_count (tree n.1) ≤ members_count (members (map member vs))) (sym is) (member_count-le vs i m within))
