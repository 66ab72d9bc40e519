use Rattle.std.proofs.Common.{◌≡◌, ◌-◌, ◌==◌, drop, take, get_or, length, true, false, Some, sym, ap, ◌∙◌, subst, arith, take_all, length-drop}
use Rattle.std.specs.Prelude.{IfSome}
use Rattle.fast_float.specs.Text.{scan}
use Rattle.serde_json.specs.Find.{of_integer}
use Rattle.serde_json.specs.Read.{number_of, number_from}
use Rattle.wf_json.proofs.WholeLemmas.{signed_text, unsigned_text, whole-unsigned}
use Rattle.wf_json.proofs.whole.whole_number.Goals as goal

pub returns-then-has_minus : goal.returns-then-has_minus
returns-then-has_minus c =
    let s = c.as_bytes-bytes.result.now in
    let minus : (get_or s 0 0 == 45) ≡ true = sym c.if-has_minus.ensures.value in
    let all : take (length s - 1) (drop 1 s) ≡ drop 1 s = take_all _ (drop 1 s) (omega (arith, length-drop 1 s)) in
    subst (λ r. IfSome c.below_zero.result (λ n. r ≡ Some (of_integer n)))
    (ap (λ d. number_from true (scan d)) all ∙ sym (signed_text s minus) ∙ ap number_of c.as_bytes-bytes.ensures.value)
    c.below_zero.ensures

pub returns-else-has_minus : goal.returns-else-has_minus
returns-else-has_minus c =
    let s = c.as_bytes-bytes.result.now in
    let none : (get_or s 0 0 == 45) ≡ false = sym c.if-has_minus.ensures.value in
    let found = whole-unsigned (scan s) c.to_i64.result (rw (← c.scan.ensures.parts) c.to_i64.ensures) in
    subst (λ r. IfSome c.to_i64.result (λ n. r ≡ Some (of_integer n)))
    (sym (unsigned_text s none) ∙ ap number_of c.as_bytes-bytes.ensures.value)
    found
