-- `concat`: its arguments' texts, measured as they are put together, are the row of its texts.
use Rattle.std.proofs.Common.{◌≡◌, ℕ, suc, ◌+◌, ◌<◌, ◌≤◌, Bool, true, false, List, [], ◌∷◌, ◌++◌, Ok, Err, map, length, get_or, refl, sym}
use Rattle.std.proofs.Common.{◌∙◌, ap, subst, arith, le_refl}
use Rattle.std.specs.Prelude.{◌==◌, if◌then◌else◌}
use Rattle.std.specs.List.{flat_map, join_by}
use Rattle.std.proofs.lemmas.Bool.{le-leb}
use Rattle.std.proofs.lemmas.Grind.{flat_map-append}
use Rattle.std.proofs.lemmas.List.{append-nil, drop_all}
use Rattle.wf_val.specs.Arguments.{Answer, bounded}
use Rattle.wf_val.specs.Cut.{cut_u32, cut_u64}
use Rattle.wf_val.specs.Joined.{text_bytes}
use Rattle.wf_val.specs.ValueTree.{ValueTree, text, depth, weight, fits}
use Rattle.wf_val.specs.declared.fault.EvalFault.{EvalFault}
use Rattle.wf_look.specs.Json as json_text
use Rattle.wf_template.specs.ExprSeen.{expr_tree}
use Rattle.wf_template.specs.declared.expr.Expr.{Expr}
use Rattle.wf_look.specs.Measured.{Measured, with_more, measured_answer}
use Rattle.wf_eval_expr.specs.MeasuredRuns.{measured}
use Rattle.wf_look.specs.Meets.{Meets, MeetsFault}
use Rattle.wf_look.specs.Outcomes.{Run, go_on, turned, strictly, all_after}
use Rattle.wf_look.specs.Rows.{fitted, as_text, joined_row}
use Rattle.wf_look.specs.Args.{args_tree}
use Rattle.wf_eval_expr.specs.Joined.{joined, text_answer}
use Rattle.wf_look.specs.Told.{Told}
use Rattle.wf_eval_expr.specs.Value.{value, runs}
use Rattle.wf_eval_expr.proofs.Grow.{handed, runs-grow}
use Rattle.wf_eval_expr.proofs.Loops.{from_on, from_on-item}
use Rattle.wf_eval_expr.proofs.MeasuredLemmas.{measured-whole, measured-grows, of_measured, of_answer}
use Rattle.wf_eval_expr.proofs.Meeting.{of_memory}

abbrev texts_of : List ValueTree → List ℕ
texts_of ts = flat_map json_text.text ts

texts-snoc : (done : List ValueTree) (t : ValueTree) → texts_of (done ++ t ∷ []) ≡ texts_of done ++ json_text.text t
texts-snoc done t = flat_map-append json_text.text done (t ∷ []) ∙ ap (λ x. texts_of done ++ x) (append-nil (json_text.text t))

-- what was tested passes the test again
pub fitted-again : (t : ValueTree) → fitted (bounded t) ≡ bounded t
fitted-again t = go (fits t) refl
  where
    go : (b : Bool) → fits t ≡ b →
        fitted (if b then Ok t else Err (EvalFault.TooBig (cut_u32 (depth t)) (cut_u64 (weight t))))
        ≡ if b then Ok t else Err (EvalFault.TooBig (cut_u32 (depth t)) (cut_u64 (weight t)))
    go true e = rw e refl
    go false e = refl

bytes-of : (ts : List ValueTree) → flat_map (λ u. [] ++ text_bytes u) (map as_text ts) ≡ texts_of ts
bytes-of [] = refl
bytes-of (t ∷ ts) = ap (λ x. json_text.text t ++ x) (bytes-of ts)

row-is : (t : ValueTree) (ts : List ValueTree) → joined_row (t ∷ ts) ≡ text_answer (texts_of (t ∷ ts))
row-is t ts =
    let whole : join_by text_bytes [] (map as_text (t ∷ ts)) ≡ texts_of (t ∷ ts) = ap (λ x. json_text.text t ++ x) (bytes-of ts) in
    rw (le-leb 1 (length (map as_text (t ∷ ts))) (omega arith))
    (fitted-again (text (join_by text_bytes [] (map as_text (t ∷ ts)))) ∙ ap (λ s. bounded (text s)) whole)

joined-is : (rs : List Run) (done : List ValueTree) (n : ℕ) → 1 ≤ length done + length rs →
    turned text_answer (joined rs (texts_of done) n) ≡ turned joined_row (all_after rs done n)
joined-is [] [] n le = absurd (omega arith)
joined-is [] (t ∷ ts) n le = ap (λ a. (a, n)) (sym (row-is t ts))
joined-is (r ∷ rs) done n le =
    go (λ t k. ap (λ s. turned text_answer (joined rs s k)) (sym (texts-snoc done t))
    ∙ joined-is rs (done ++ t ∷ []) k (omega (arith, length-snoc done t))) (r n).0 (r n).1
  where
    length-snoc : (us : List ValueTree) (u : ValueTree) → length (us ++ u ∷ []) ≡ suc (length us)
    length-snoc [] u = refl
    length-snoc (x ∷ us) u = ap suc (length-snoc us u)

    go : ((t : ValueTree) (k : ℕ) → turned text_answer (joined rs (texts_of done ++ json_text.text t) k)
        ≡ turned joined_row (all_after rs (done ++ t ∷ []) k)) → (a : Answer) (k : ℕ) →
        turned text_answer (go_on a k (λ t q. joined rs (texts_of done ++ json_text.text t) q))
        ≡ turned joined_row (go_on a k (λ t q. all_after rs (done ++ t ∷ []) q))
    go rest (Ok t) k = rest t k
    go rest (Err f) k = refl

-- at least one argument: measured, its texts are the row
concat-whole : (rs : List Run) (n : ℕ) → 1 ≤ length rs → turned measured_answer (measured rs ([], 0) n) ≡ strictly joined_row rs n
concat-whole rs n le = measured-whole rs n ∙ joined-is rs [] n (omega (arith, le))

length-runs : (l : Told) (xs : List Expr) → length (runs l (args_tree xs)) ≡ length xs
length-runs l [] = refl
length-runs l (x ∷ xs) = ap suc (length-runs l xs)

-- ---- the loop over the arguments

-- a fault of an argument is the whole's
pub fault_texts : (l m : Told) (xs : List Expr) (i : ℕ) (x : Expr) (so_far : Measured) (n : ℕ) (f : EvalFault) (k n0 : ℕ) →
    i < length xs → x ≡ get_or xs i x → m ≡ l → measured (runs l (from_on xs i)) so_far n ≡ measured (runs l (args_tree xs)) ([], 0) n0 →
    MeetsFault f (value m (expr_tree x) n) k → MeetsFault f (strictly joined_row (runs l (args_tree xs)) n0) k
fault_texts l m xs i x so_far n f k n0 lt e same rest_is met =
    of_measured (runs l (args_tree xs)) n0 (strictly joined_row (runs l (args_tree xs)) n0) f k
    (concat-whole (runs l (args_tree xs)) n0 (omega (arith, length-runs l xs, lt)))
    (subst (λ o. MeetsFault f o k) rest_is
    (subst (λ es. MeetsFault f (measured (runs l es) so_far n) k) (sym (from_on-item xs i x lt e))
    (handed (value l (expr_tree x) n) (λ t q. measured (runs l (from_on xs (suc i))) (with_more (json_text.text t) so_far) q)
    (λ t q. measured-grows (runs l (from_on xs (suc i))) (runs-grow l (from_on xs (suc i))) (with_more (json_text.text t) so_far) q) f k
    (subst (λ t. MeetsFault f (value t (expr_tree x) n) k) same met))))

pub memory_texts : (l m : Told) (xs : List Expr) (i : ℕ) (x : Expr) (so_far : Measured) (n k n0 : ℕ) →
    i < length xs → x ≡ get_or xs i x → m ≡ l → measured (runs l (from_on xs i)) so_far n ≡ measured (runs l (args_tree xs)) ([], 0) n0 →
    (value m (expr_tree x) n).1 ≡ k → MeetsFault EvalFault.Memory (strictly joined_row (runs l (args_tree xs)) n0) k
memory_texts l m xs i x so_far n k n0 lt e same rest_is words =
    fault_texts l m xs i x so_far n EvalFault.Memory k n0 lt e same rest_is
    (of_memory (value m (expr_tree x) n) k (rw words (le_refl k)))

-- no argument is left
pub texts_end : (l : Told) (xs : List Expr) (i : ℕ) (so_far : Measured) (n n0 : ℕ) (r : Answer) →
    1 ≤ length xs → length xs ≤ i → measured (runs l (from_on xs i)) so_far n ≡ measured (runs l (args_tree xs)) ([], 0) n0 →
    r ≡ measured_answer so_far → Meets r (strictly joined_row (runs l (args_tree xs)) n0) n
texts_end l xs i so_far n n0 r some le rest_is is =
    of_answer (runs l (args_tree xs)) n0 (strictly joined_row (runs l (args_tree xs)) n0) so_far r n
    (concat-whole (runs l (args_tree xs)) n0 (omega (arith, length-runs l xs, some)))
    (sym rest_is ∙ ap (λ ys. measured (runs l (args_tree ys)) so_far n) (drop_all i xs le)) is

-- the test for an argument
pub some-argument : (xs : List Expr) → (length xs == 0) ≡ false → 1 ≤ length xs
some-argument [] e = absurd cc
some-argument (x ∷ xs) e = omega arith
