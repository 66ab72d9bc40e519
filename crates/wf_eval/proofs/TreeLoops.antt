-- What the loops over items and members need.
use Rattle.std.proofs.Common.{◌≡◌, ℕ, zero, suc, ◌<◌, ◌≤◌, List, [], ◌∷◌, ◌++◌, Result, map, length, drop, get_or, sym, subst, arith}
use Rattle.std.proofs.Common.{le_refl}
use Rattle.wf_val.specs.Get.{name_of}
use Rattle.wf_val.specs.NameOrder.{put_named}
use Rattle.wf_val.specs.ValueTree.{ValueTree, Member}
use Rattle.wf_val.specs.declared.fault.EvalFault.{EvalFault}
use Rattle.wf_template.specs.DataTree as inputs
use Rattle.wf_template.specs.DataSeen.{data_tree, data_member}
use Rattle.wf_template.specs.declared.tree.Tree.{Tree}
use Rattle.wf_eval_expr.specs.Told.{Told}
use Rattle.wf_eval_expr.specs.Meets.{MeetsFault}
use Rattle.wf_eval_expr.specs.Outcomes.{Run, all_after}
use Rattle.wf_eval_expr.proofs.Grow.{IsGrowing, AreGrowing, then_run-grows, all_after-grows, handed}
use Rattle.wf_eval_expr.proofs.Meeting.{of_memory}
use Rattle.wf_eval_expr.proofs.Loops.{drop-item}
use Rattle.wf_eval.specs.TreeValue.{members_after, tree_value, tree_runs, member_runs}
use Rattle.wf_eval.proofs.PieceLoops.{template-grows}

-- members, with their names
abbrev AreGrowingMembers : List (List ℕ × Run) → Type 0
AreGrowingMembers [] = Unit {0}
AreGrowingMembers (r ∷ rs) = IsGrowing r.1 × AreGrowingMembers rs

members_after-grows : (rs : List (List ℕ × Run)) → AreGrowingMembers rs → (done : List Member) (n : ℕ) → n ≤ (members_after rs done n).1
members_after-grows [] grow done n = le_refl n
members_after-grows (r ∷ rs) grow done n =
    then_run-grows n (r.1 n) (λ t m. members_after rs (put_named name_of (r.0, t) done) m) (grow.0 n)
    (λ t m. members_after-grows rs grow.1 (put_named name_of (r.0, t) done) m)

mutual
  pub tree-grows : (l : Told) (t : inputs.DataTree) → IsGrowing (tree_value l t)
  tree-grows l inputs.null n = le_refl n
  tree-grows l (inputs.boolean b) n = le_refl n
  tree-grows l (inputs.number i) n = le_refl n
  tree-grows l (inputs.text t) n = template-grows l t n
  tree-grows l (inputs.list ts) n = all_after-grows (tree_runs l ts) (trees-grow l ts) [] n
  tree-grows l (inputs.object ms) n = members_after-grows (member_runs l ms) (members-grow l ms) [] n

  trees-grow : (l : Told) (ts : inputs.DataTrees) → AreGrowing (tree_runs l ts)
  trees-grow l inputs.no_data = tt
  trees-grow l (inputs.data_then t ts) = (tree-grows l t, trees-grow l ts)

  members-grow : (l : Told) (ms : inputs.DataMembers) → AreGrowingMembers (member_runs l ms)
  members-grow l inputs.no_members = tt
  members-grow l (inputs.member_then k t ms) = (tree-grows l t, members-grow l ms)

-- ---- a fault in the loop over items

pub fault_items : (l m : Told) (xs : List Tree) (i : ℕ) (x : Tree) (done : List ValueTree) (n : ℕ) (f : EvalFault) (k : ℕ)
    (all : Result (List ValueTree) EvalFault × ℕ) →
    i < length xs → x ≡ get_or xs i x → m ≡ l → all_after (tree_runs l (inputs.data_trees (map data_tree (drop i xs)))) done n ≡ all →
    MeetsFault f (tree_value m (data_tree x) n) k → MeetsFault f all k
fault_items l m xs i x done n f k all lt e same so_far met =
    let rest = tree_runs l (inputs.data_trees (map data_tree (drop (suc i) xs))) in
    subst (λ o. MeetsFault f o k) so_far
    (subst (λ ys. MeetsFault f (all_after (tree_runs l (inputs.data_trees (map data_tree ys))) done n) k) (sym (drop-item xs i x lt e))
    (handed (tree_value l (data_tree x) n) (λ t p. all_after rest (done ++ t ∷ []) p)
    (λ t p. all_after-grows rest (trees-grow l (inputs.data_trees (map data_tree (drop (suc i) xs)))) (done ++ t ∷ []) p) f k
    (subst (λ t. MeetsFault f (tree_value t (data_tree x) n) k) same met)))

pub memory_items : (l m : Told) (xs : List Tree) (i : ℕ) (x : Tree) (done : List ValueTree) (n k : ℕ)
    (all : Result (List ValueTree) EvalFault × ℕ) →
    i < length xs → x ≡ get_or xs i x → m ≡ l → all_after (tree_runs l (inputs.data_trees (map data_tree (drop i xs)))) done n ≡ all →
    (tree_value m (data_tree x) n).1 ≡ k → MeetsFault EvalFault.Memory all k
memory_items l m xs i x done n k all lt e same so_far words =
    fault_items l m xs i x done n EvalFault.Memory k all lt e same so_far
    (of_memory (tree_value m (data_tree x) n) k (rw words (le_refl k)))

-- ---- and in the loop over members

pub fault_members : (l m : Told) (xs : List (List ℕ × Tree)) (i : ℕ) (x : List ℕ × Tree) (done : List Member) (n : ℕ) (f : EvalFault)
    (k : ℕ) (all : Result (List Member) EvalFault × ℕ) →
    i < length xs → x ≡ get_or xs i x → m ≡ l →
    members_after (member_runs l (inputs.data_members (map data_member (drop i xs)))) done n ≡ all →
    MeetsFault f (tree_value m (data_tree x.1) n) k → MeetsFault f all k
fault_members l m xs i x done n f k all lt e same so_far met =
    let rest = member_runs l (inputs.data_members (map data_member (drop (suc i) xs))) in
    subst (λ o. MeetsFault f o k) so_far
    (subst (λ ys. MeetsFault f (members_after (member_runs l (inputs.data_members (map data_member ys))) done n) k)
    (sym (drop-item xs i x lt e))
    (handed (tree_value l (data_tree x.1) n) (λ t p. members_after rest (put_named name_of (x.0, t) done) p)
    (λ t p. members_after-grows rest (members-grow l (inputs.data_members (map data_member (drop (suc i) xs))))
    (put_named name_of (x.0, t) done) p) f k
    (subst (λ t. MeetsFault f (tree_value t (data_tree x.1) n) k) same met)))

pub memory_members : (l m : Told) (xs : List (List ℕ × Tree)) (i : ℕ) (x : List ℕ × Tree) (done : List Member) (n k : ℕ)
    (all : Result (List Member) EvalFault × ℕ) →
    i < length xs → x ≡ get_or xs i x → m ≡ l →
    members_after (member_runs l (inputs.data_members (map data_member (drop i xs)))) done n ≡ all →
    (tree_value m (data_tree x.1) n).1 ≡ k → MeetsFault EvalFault.Memory all k
memory_members l m xs i x done n k all lt e same so_far words =
    fault_members l m xs i x done n EvalFault.Memory k all lt e same so_far
    (of_memory (tree_value m (data_tree x.1) n) k (rw words (le_refl k)))

pub count-items : (xs : List Tree) (i : ℕ) (x : Tree) → i < length xs → x ≡ get_or xs i x →
    inputs.node_count (data_tree x) ≤ inputs.trees_count (inputs.data_trees (map data_tree xs))
count-items xs i x lt e = rw e (go xs i x lt)
  where
    go : (ys : List Tree) (j : ℕ) (d : Tree) → j < length ys →
        inputs.node_count (data_tree (get_or ys j d)) ≤ inputs.trees_count (inputs.data_trees (map data_tree ys))
    go [] j d within = absurd (omega arith)
    go (y ∷ ys) zero d within = omega arith
    go (y ∷ ys) (suc j) d within = omega (arith, go ys j d (omega arith))

pub count-members : (xs : List (List ℕ × Tree)) (i : ℕ) (x : List ℕ × Tree) → i < length xs → x ≡ get_or xs i x →
    inputs.node_count (data_tree x.1) ≤ inputs.members_count (inputs.data_members (map data_member xs))
count-members xs i x lt e = rw e (go xs i x lt)
  where
    go : (ys : List (List ℕ × Tree)) (j : ℕ) (d : List ℕ × Tree) → j < length ys →
        inputs.node_count (data_tree (get_or ys j d).1) ≤ inputs.members_count (inputs.data_members (map data_member ys))
    go [] j d within = absurd (omega arith)
    go (y ∷ ys) zero d within = omega arith
    go (y ∷ ys) (suc j) d within = omega (arith, go ys j d (omega arith))
