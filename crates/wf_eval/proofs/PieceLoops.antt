-- What the loop over pieces needs.
use Rattle.std.proofs.Common.{◌≡◌, ℕ, suc, ◌<◌, ◌≤◌, List, [], ◌∷◌, ◌++◌, Result, Ok, map, length, drop, get_or, sym, ◌∙◌, ap, subst}
use Rattle.std.proofs.Common.{le_refl}
use Rattle.std.proofs.lemmas.List.{drop_all}
use Rattle.wf_val.specs.Arguments.{Answer}
use Rattle.wf_val.specs.declared.fault.EvalFault.{EvalFault}
use Rattle.wf_eval_expr.specs.Json as json_text
use Rattle.wf_template.specs.TemplateSeen.{piece_tree}
use Rattle.wf_template.specs.TemplateTree.{PieceTree, letters, part, TemplateTree, plain, whole, parts}
use Rattle.wf_template.specs.declared.template.Piece.{Piece}
use Rattle.wf_eval_expr.specs.Measured.{Measured, with_more, measured_answer}
use Rattle.wf_eval_expr.specs.Meets.{Meets, MeetsFault}
use Rattle.wf_eval_expr.specs.Outcomes.{Run, turned}
use Rattle.wf_eval_expr.specs.Told.{Told}
use Rattle.wf_eval_expr.specs.Joined.{joined, text_answer}
use Rattle.wf_eval_expr.specs.MeasuredRuns.{measured}
use Rattle.wf_eval_expr.proofs.Grow.{IsGrowing, AreGrowing, then_run-grows, value-grows, handed}
use Rattle.wf_eval_expr.proofs.Loops.{drop-item}
use Rattle.wf_eval_expr.proofs.MeasuredLemmas.{measured-whole, measured-grows, of_measured, of_answer}
use Rattle.wf_eval_expr.proofs.Meeting.{of_memory}
use Rattle.wf_eval.specs.TemplateValue.{piece_value, piece_runs, template_value}

piece-grows : (l : Told) (p : PieceTree) → IsGrowing (piece_value l p)
piece-grows l (letters s) n = le_refl n
piece-grows l (part e) n = value-grows l e n

pub pieces-grow : (l : Told) (ps : List PieceTree) → AreGrowing (piece_runs l ps)
pieces-grow l [] = tt
pieces-grow l (p ∷ ps) = (piece-grows l p, pieces-grow l ps)

joined-grows : (rs : List Run) → AreGrowing rs → (done : List ℕ) (n : ℕ) → n ≤ (joined rs done n).1
joined-grows [] grow done n = le_refl n
joined-grows (r ∷ rs) grow done n = then_run-grows n (r n) (λ t m. joined rs (done ++ json_text.text t) m) (grow.0 n)
    (λ t m. joined-grows rs grow.1 (done ++ json_text.text t) m)

pub template-grows : (l : Told) (t : TemplateTree) → IsGrowing (template_value l t)
template-grows l (plain s) n = le_refl n
template-grows l (whole e) n = value-grows l e n
template-grows l (parts ps) n = joined-grows (piece_runs l ps) (pieces-grow l ps) [] n

-- ---- the loop

-- a fault of a piece is the whole's
pub fault_pieces : (l m : Told) (xs : List Piece) (i : ℕ) (x : Piece) (so_far : Measured) (n : ℕ) (f : EvalFault) (k : ℕ)
    (all : Result Measured EvalFault × ℕ) →
    i < length xs → x ≡ get_or xs i x → m ≡ l → measured (piece_runs l (map piece_tree (drop i xs))) so_far n ≡ all →
    MeetsFault f (piece_value m (piece_tree x) n) k → MeetsFault f all k
fault_pieces l m xs i x so_far n f k all lt e same rest_is met =
    let rest = piece_runs l (map piece_tree (drop (suc i) xs)) in
    subst (λ o. MeetsFault f o k) rest_is
    (subst (λ ys. MeetsFault f (measured (piece_runs l (map piece_tree ys)) so_far n) k) (sym (drop-item xs i x lt e))
    (handed (piece_value l (piece_tree x) n) (λ t q. measured rest (with_more (json_text.text t) so_far) q)
    (λ t q. measured-grows rest (pieces-grow l (map piece_tree (drop (suc i) xs))) (with_more (json_text.text t) so_far) q) f k
    (subst (λ t. MeetsFault f (piece_value t (piece_tree x) n) k) same met)))

pub memory_pieces : (l m : Told) (xs : List Piece) (i : ℕ) (x : Piece) (so_far : Measured) (n k : ℕ) (all : Result Measured EvalFault × ℕ) →
    i < length xs → x ≡ get_or xs i x → m ≡ l → measured (piece_runs l (map piece_tree (drop i xs))) so_far n ≡ all →
    (piece_value m (piece_tree x) n).1 ≡ k → MeetsFault EvalFault.Memory all k
memory_pieces l m xs i x so_far n k all lt e same rest_is words =
    fault_pieces l m xs i x so_far n EvalFault.Memory k all lt e same rest_is
    (of_memory (piece_value m (piece_tree x) n) k (rw words (le_refl k)))

-- no piece is left
pub measured_ends : (l : Told) (xs : List Piece) (i : ℕ) (so_far : Measured) (n : ℕ) (all : Result Measured EvalFault × ℕ) →
    length xs ≤ i → measured (piece_runs l (map piece_tree (drop i xs))) so_far n ≡ all → all ≡ (Ok so_far, n)
measured_ends l xs i so_far n all le rest_is = sym rest_is
    ∙ ap (λ ys. measured (piece_runs l (map piece_tree ys)) so_far n) (drop_all i xs le)

-- what is measured is the text of all pieces
pub parts_fault : (rs : List Run) (n : ℕ) (f : EvalFault) (k : ℕ) → MeetsFault f (measured rs ([], 0) n) k →
    MeetsFault f (turned text_answer (joined rs [] n)) k
parts_fault rs n f k met = of_measured rs n (turned text_answer (joined rs [] n)) f k (measured-whole rs n) met

pub parts_answer : (rs : List Run) (n : ℕ) (m : Measured) (r : Answer) (k : ℕ) → measured rs ([], 0) n ≡ (Ok m, k) → r ≡ measured_answer m →
    Meets r (turned text_answer (joined rs [] n)) k
parts_answer rs n m r k end is = of_answer rs n (turned text_answer (joined rs [] n)) m r k (measured-whole rs n) end is
