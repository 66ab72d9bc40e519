-- What the loops over arguments need, over plain lists.
use Rattle.std.proofs.Common.{◌≡◌, ℕ, zero, suc, ◌+◌, ◌<◌, ◌≤◌, List, [], ◌∷◌, Some, None, Result, Ok, Err, map, length, drop, get_or, refl}
use Rattle.std.proofs.Common.{sym, ◌∙◌, ap, subst, arith, le_refl, add-one}
use Rattle.std.proofs.lemmas.List.{drop_all}
use Rattle.wf_val.specs.Arguments.{Answer, wrong_type}
use Rattle.wf_val.specs.ValueTree.{ValueTree}
use Rattle.wf_val.specs.declared.function.Fun.{Fun}
use Rattle.wf_val.specs.declared.fault.EvalFault.{EvalFault}
use Rattle.wf_template.specs.ExprTree.{ExprTrees, expr_then, expr_trees}
use Rattle.wf_template.specs.ExprCounts.{expr_count, exprs_count}
use Rattle.wf_template.specs.ExprSeen.{expr_tree}
use Rattle.wf_template.specs.declared.expr.Expr.{Expr}
use Rattle.wf_look.specs.Told.{Told}
use Rattle.wf_look.specs.Meets.{Meets, MeetsFault}
use Rattle.wf_look.specs.Outcomes.{Outcome, Run, then_run, all_after}
use Rattle.wf_look.specs.Args.{args_tree}
use Rattle.wf_look.specs.Early.{stop_at, stop, at_end}
use Rattle.wf_eval_expr.specs.Value.{if_run, or_go_on, early, value, runs}
use Rattle.wf_eval_expr.proofs.Meeting.{of_memory, meets}
use Rattle.wf_eval_expr.proofs.Grow.{handed_all, handed_early, handed_if}

-- the rest of a list from an item on
pub drop-item : {X : Type 0} (xs : List X) (i : ℕ) (x : X) → i < length xs → x ≡ get_or xs i x → drop i xs ≡ x ∷ drop (suc i) xs
drop-item [] i x lt e = absurd (omega arith)
drop-item (y ∷ ys) zero x lt e = ap (λ z. z ∷ ys) (sym e)
drop-item (y ∷ ys) (suc i) x lt e = drop-item ys i x (omega arith) e

pub count-get_or : (xs : List Expr) (i : ℕ) (d : Expr) → i < length xs →
    expr_count (expr_tree (get_or xs i d)) < exprs_count (expr_trees (map expr_tree xs))
count-get_or [] i d lt = absurd (omega arith)
count-get_or (x ∷ xs) zero d lt = omega arith
count-get_or (x ∷ xs) (suc i) d lt = omega (arith, count-get_or xs i d (omega arith))

pub count-item : (xs : List Expr) (i : ℕ) (x : Expr) → i < length xs → x ≡ get_or xs i x →
    expr_count (expr_tree x) < exprs_count (expr_trees (map expr_tree xs))
count-item xs i x lt e = rw e (count-get_or xs i x lt)

-- the trees of the arguments from the place on
abbrev pub from_on : List Expr → ℕ → ExprTrees
from_on xs i = args_tree (drop i xs)

pub from_on-item : (xs : List Expr) (i : ℕ) (x : Expr) → i < length xs → x ≡ get_or xs i x →
    from_on xs i ≡ expr_then (expr_tree x) (from_on xs (suc i))
from_on-item xs i x lt e = ap args_tree (drop-item xs i x lt e)

pub fault_all : (l m : Told) (xs : List Expr) (i : ℕ) (x : Expr) (done : List ValueTree) (n : ℕ) (f : EvalFault) (k : ℕ)
    (whole : Result (List ValueTree) EvalFault × ℕ) →
    i < length xs → x ≡ get_or xs i x → m ≡ l → all_after (runs l (from_on xs i)) done n ≡ whole →
    MeetsFault f (value m (expr_tree x) n) k → MeetsFault f whole k
fault_all l m xs i x done n f k whole lt e same so_far met =
    subst (λ o. MeetsFault f o k) so_far
    (subst (λ es. MeetsFault f (all_after (runs l es) done n) k) (sym (from_on-item xs i x lt e))
    (handed_all l (expr_tree x) (from_on xs (suc i)) done n f k (subst (λ t. MeetsFault f (value t (expr_tree x) n) k) same met)))

fault_early : (g : Fun) (l m : Told) (xs : List Expr) (i : ℕ) (x : Expr) (place n : ℕ) (f : EvalFault) (k : ℕ) (whole : Outcome) →
    i < length xs → x ≡ get_or xs i x → m ≡ l → early g (runs l (from_on xs i)) place n ≡ whole →
    MeetsFault f (value m (expr_tree x) n) k → MeetsFault f whole k
fault_early g l m xs i x place n f k whole lt e same so_far met =
    subst (λ o. MeetsFault f o k) so_far
    (subst (λ es. MeetsFault f (early g (runs l es) place n) k) (sym (from_on-item xs i x lt e))
    (handed_early g l (expr_tree x) (from_on xs (suc i)) place n f k (subst (λ t. MeetsFault f (value t (expr_tree x) n) k) same met)))

-- want of memory behind the value of an argument
pub memory_all : (l m : Told) (xs : List Expr) (i : ℕ) (x : Expr) (done : List ValueTree) (n k : ℕ)
    (whole : Result (List ValueTree) EvalFault × ℕ) →
    i < length xs → x ≡ get_or xs i x → m ≡ l → all_after (runs l (from_on xs i)) done n ≡ whole → (value m (expr_tree x) n).1 ≡ k →
    MeetsFault EvalFault.Memory whole k
memory_all l m xs i x done n k whole lt e same so_far words =
    fault_all l m xs i x done n EvalFault.Memory k whole lt e same so_far (of_memory (value m (expr_tree x) n) k (rw words (le_refl k)))

pub fault_if : (l : Told) (xs : List Expr) (x : Expr) (n : ℕ) (f : EvalFault) (k : ℕ) → 3 ≤ length xs → x ≡ get_or xs 0 x →
    MeetsFault f (value l (expr_tree x) n) k → MeetsFault f (if_run (runs l (expr_trees (map expr_tree xs))) n) k
fault_if l [] x n f k le e met = absurd (omega arith)
fault_if l (y ∷ []) x n f k le e met = absurd (omega arith)
fault_if l (y ∷ z ∷ []) x n f k le e met = absurd (omega arith)
fault_if l (y ∷ first ∷ second ∷ xs) x n f k le e met =
    handed_if l (expr_tree y) (expr_tree first) (expr_tree second) (expr_trees (map expr_tree xs)) n f k
    (subst (λ z. MeetsFault f (value l (expr_tree z) n) k) e met)

pub if-few : (l : Told) (xs : List Expr) (n : ℕ) → length xs < 3 →
    if_run (runs l (expr_trees (map expr_tree xs))) n ≡ (Err (wrong_type Fun.If (length xs)), n)
if-few l [] n lt = refl
if-few l (x ∷ []) n lt = refl
if-few l (x ∷ y ∷ []) n lt = refl
if-few l (x ∷ y ∷ z ∷ xs) n lt = absurd (omega arith)

-- ---- a function that stops early

pair_is : (o : Outcome) (t : ValueTree) (k : ℕ) → (o.0 ≡ Ok t) × (o.1 ≡ k) → o ≡ (Ok t, k)
pair_is o t k met = ap (λ a. (a, o.1)) met.0 ∙ ap (λ n. (Ok t, n)) met.1

-- the next argument decides, or the rest goes on
early_next : (g : Fun) (l m : Told) (xs : List Expr) (i : ℕ) (x : Expr) (place n : ℕ) (t : ValueTree) (k : ℕ) →
    i < length xs → x ≡ get_or xs i x → m ≡ l → ((value m (expr_tree x) n).0 ≡ Ok t) × ((value m (expr_tree x) n).1 ≡ k) →
    early g (runs l (from_on xs i)) place n ≡ or_go_on (stop g place t) (λ q. early g (runs l (from_on xs (suc i))) (suc place) q) k
early_next g l m xs i x place n t k lt e same met =
    let here : value l (expr_tree x) n ≡ (Ok t, k) =
    pair_is (value l (expr_tree x) n) t k (subst
    (λ y. ((value y (expr_tree x) n).0 ≡ Ok t) × ((value y (expr_tree x) n).1 ≡ k)) same met) in
    ap (λ es. early g (runs l es) place n) (from_on-item xs i x lt e)
    ∙ ap (λ o. then_run o (λ u q. or_go_on (stop g place u) (λ p. early g (runs l (from_on xs (suc i))) (suc place) p) q)) here

stops : (g : Fun) (l m : Told) (xs : List Expr) (i : ℕ) (x : Expr) (place n : ℕ) (t : ValueTree) (k : ℕ) (r : Answer)
    (all : Outcome) →
    i < length xs → x ≡ get_or xs i x → m ≡ l → early g (runs l (from_on xs i)) place n ≡ all →
    ((value m (expr_tree x) n).0 ≡ Ok t) × ((value m (expr_tree x) n).1 ≡ k) → Some r ≡ stop g place t → Meets r all k
stops g l m xs i x place n t k r all lt e same so_far met end =
    let rest : Run = λ q. early g (runs l (from_on xs (suc i))) (suc place) q in
    let whole : (r, k) ≡ all = ap (λ s. or_go_on s rest k) end ∙ (sym (early_next g l m xs i x place n t k lt e same met) ∙ so_far) in
    subst (λ o. Meets r o k) whole (meets r (r, k) k (λ apart. refl) refl)

-- the function stops at the argument's answer, a fault or a value that decides
pub early_stops : (g : Fun) (l m : Told) (xs : List Expr) (i : ℕ) (x : Expr) (place n : ℕ) (a : Answer) (k : ℕ) (r : Answer)
    (all : Outcome) →
    i < length xs → x ≡ get_or xs i x → m ≡ l → early g (runs l (from_on xs i)) place n ≡ all →
    Meets a (value m (expr_tree x) n) k → Some r ≡ stop_at g place a → Meets r all k
early_stops g l m xs i x place n (Ok t) k r all lt e same so_far met end = stops g l m xs i x place n t k r all lt e same so_far met end
early_stops g l m xs i x place n (Err f) k r all lt e same so_far met end =
    let fault : Err f ≡ r = cc in
    subst (λ a. Meets a all k) fault (fault_early g l m xs i x place n f k all lt e same so_far met)

-- it goes on with the rest
pub early_goes_on : (g : Fun) (l m : Told) (xs : List Expr) (i : ℕ) (x : Expr) (place n : ℕ) (a : Answer) (k : ℕ) (all : Outcome) →
    i < length xs → x ≡ get_or xs i x → m ≡ l → early g (runs l (from_on xs i)) place n ≡ all →
    Meets a (value m (expr_tree x) n) k → None ≡ stop_at g place a → early g (runs l (from_on xs (i + 1))) (place + 1) k ≡ all
early_goes_on g l m xs i x place n (Ok t) k all lt e same so_far met none =
    let rest : Run = λ q. early g (runs l (from_on xs (suc i))) (suc place) q in
    rw (add-one, add-one) (ap (λ s. or_go_on s rest k) none ∙ (sym (early_next g l m xs i x place n t k lt e same met) ∙ so_far))
early_goes_on g l m xs i x place n (Err f) k all lt e same so_far met none = absurd cc

pub early_ends : (g : Fun) (l : Told) (xs : List Expr) (i place n : ℕ) (t : ValueTree) (all : Outcome) →
    length xs ≤ i → early g (runs l (from_on xs i)) place n ≡ all → t ≡ at_end g → (all.0 ≡ Ok t) × (all.1 ≡ n)
early_ends g l xs i place n t all le so_far end =
    let whole : (Ok t, n) ≡ all = ap (λ u. (Ok u, n)) end
    ∙ (ap (λ ys. early g (runs l (args_tree ys)) place n) (sym (drop_all i xs le)) ∙ so_far) in
    (ap (λ o. o.0) (sym whole), ap (λ o. o.1) (sym whole))
