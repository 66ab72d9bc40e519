-- A text that is measured as it is put together is the text, where it fits.
use Rattle.std.proofs.Common.{◌≡◌, ℕ, suc, ◌+◌, ◌<◌, ◌≤◌, ◌^◌, List, [], ◌∷◌, ◌++◌, Ok, Err, length, refl, sym, ◌∙◌, ap, subst}
use Rattle.std.proofs.Common.{arith, le_refl, ◌⊎◌, inl, inr}
use Rattle.std.proofs.lemmas.Bool.{lt-ltb, le-leb, le-ltb, lt-leb, cases_lt}
use Rattle.std.proofs.lemmas.List.{length-append}
use Rattle.wf_val.specs.Arguments.{Answer}
use Rattle.wf_val.specs.Cut.{cut_u64}
use Rattle.wf_val.specs.ValueTree.{ValueTree, text}
use Rattle.wf_val.specs.declared.fault.EvalFault.{EvalFault}
use Rattle.wf_look.specs.Json as json_text
use Rattle.wf_look.specs.Measured.{Measured, with_more, measured_answer}
use Rattle.wf_eval_expr.specs.MeasuredRuns.{measured}
use Rattle.wf_look.specs.Meets.{Meets, MeetsFault}
use Rattle.wf_look.specs.Outcomes.{Outcome, Run, go_on, turned}
use Rattle.wf_eval_expr.specs.Joined.{joined, text_answer}
use Rattle.wf_eval_expr.proofs.Grow.{AreGrowing, then_run-grows, turned_fault}
use Rattle.wf_eval_expr.proofs.Meeting.{meets}

-- the length is the text's, and as long as that fits all of the text is kept
pub record IsOf (m : Measured) (s : List ℕ) : Type 0 where
  pub long : m.1 ≡ cut_u64 (length s)
  pub kept : length s < 2 ^ 20 → m.0 ≡ s

more-is : (m : Measured) (s p : List ℕ) → IsOf m s → IsOf (with_more p m) (s ++ p)
more-is m s p is =
    let n : cut_u64 (m.1 + length p) ≡ cut_u64 (length (s ++ p)) = omega (arith, is.long, length-append s p) in
    record {
      long = n;
      kept = λ lt. rw (lt-ltb (cut_u64 (m.1 + length p)) (2 ^ 20) (omega (arith, n, lt)))
          (ap (λ x. x ++ p) (is.kept (omega (arith, lt, length-append s p))));
    }

answer-is : (m : Measured) (s : List ℕ) → IsOf m s → measured_answer m ≡ text_answer s
answer-is m s is = go (cases_lt (length s) (2 ^ 20))
  where
    go : (length s < 2 ^ 20) ⊎ (2 ^ 20 ≤ length s) → measured_answer m ≡ text_answer s
    go (inl lt) =
        rw (lt-ltb m.1 (2 ^ 20) (omega (arith, is.long, lt)))
        (rw (le-leb (1 + length s) (2 ^ 20) (omega (arith, lt))) (ap (λ x. Ok (text x)) (is.kept lt)))
    go (inr le) =
        let much : cut_u64 (suc m.1) ≡ cut_u64 (1 + length s) = omega (arith, is.long) in
        rw (le-ltb m.1 (2 ^ 20) (omega (arith, is.long, le)))
        (rw (lt-leb (1 + length s) (2 ^ 20) (omega (arith, le))) (ap (λ w. Err (EvalFault.TooBig 0 w)) much))

-- the two ways to put the text together
pub measured-is : (rs : List Run) (m : Measured) (s : List ℕ) (n : ℕ) → IsOf m s →
    turned measured_answer (measured rs m n) ≡ turned text_answer (joined rs s n)
measured-is [] m s n is = ap (λ a. (a, n)) (answer-is m s is)
measured-is (r ∷ rs) m s n is = go (λ t k. measured-is rs (with_more (json_text.text t) m) (s ++ json_text.text t) k
    (more-is m s (json_text.text t) is)) (r n).0 (r n).1
  where
    go : ((t : ValueTree) (q : ℕ) → turned measured_answer (measured rs (with_more (json_text.text t) m) q)
        ≡ turned text_answer (joined rs (s ++ json_text.text t) q)) → (a : Answer) (k : ℕ) →
        turned measured_answer (go_on a k (λ t q. measured rs (with_more (json_text.text t) m) q))
        ≡ turned text_answer (go_on a k (λ t q. joined rs (s ++ json_text.text t) q))
    go rest (Ok t) k = rest t k
    go rest (Err f) k = refl

-- from nothing on
pub measured-whole : (rs : List Run) (n : ℕ) → turned measured_answer (measured rs ([], 0) n) ≡ turned text_answer (joined rs [] n)
measured-whole rs n = measured-is rs ([], 0) [] n (record { long = refl; kept = λ lt. refl })

pub measured-grows : (rs : List Run) → AreGrowing rs → (m : Measured) (n : ℕ) → n ≤ (measured rs m n).1
measured-grows [] grow m n = le_refl n
measured-grows (r ∷ rs) grow m n = then_run-grows n (r n) (λ t k. measured rs (with_more (json_text.text t) m) k) (grow.0 n)
    (λ t k. measured-grows rs grow.1 (with_more (json_text.text t) m) k)

-- ---- where what is measured is an outcome

-- a fault of what is measured is the outcome's
pub of_measured : (rs : List Run) (n : ℕ) (o : Outcome) (f : EvalFault) (k : ℕ) → turned measured_answer (measured rs ([], 0) n) ≡ o →
    MeetsFault f (measured rs ([], 0) n) k → MeetsFault f o k
of_measured rs n o f k is met = subst (λ p. MeetsFault f p k) is (turned_fault measured_answer (measured rs ([], 0) n) f k met)

-- and the answer of what is measured at the end is its value
pub of_answer : (rs : List Run) (n : ℕ) (o : Outcome) (m : Measured) (r : Answer) (k : ℕ) →
    turned measured_answer (measured rs ([], 0) n) ≡ o → measured rs ([], 0) n ≡ (Ok m, k) → r ≡ measured_answer m → Meets r o k
of_answer rs n o m r k whole end is =
    subst (λ p. Meets r p k) (ap (turned measured_answer) (sym end) ∙ whole)
    (rw is (meets (measured_answer m) (measured_answer m, k) k (λ apart. refl) refl))
