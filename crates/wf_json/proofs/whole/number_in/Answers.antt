use Rattle.std.proofs.Common.{◌≡◌, ◌==◌, drop, get_or, true, false, option_map, sym, ap, ◌∙◌, arith, take_all, length-drop}
use Rattle.fast_float.specs.Text.{scan}
use Rattle.serde_json.specs.Read.{number_of, number_from}
use Rattle.wf_json.specs.Read.{whole}
use Rattle.wf_json.proofs.WholeLemmas.{signed_text, unsigned_text}
use Rattle.wf_json.proofs.whole.number_in.Goals as goal

pub returns-then-has_minus : goal.returns-then-has_minus
returns-then-has_minus c =
    let s = c.as_bytes-bytes.result.now in
    let minus : (get_or s 0 0 == 45) ≡ true = sym c.if-has_minus.ensures.value in
    let parts : c.scan.result ≡ scan (drop 1 s) = c.scan.ensures.parts ∙ ap scan (take_all _ (drop 1 s) (omega (arith, length-drop 1 s))) in
    c.negative.ensures
    ∙ ap (option_map whole) (ap (number_from true) parts ∙ sym (signed_text s minus) ∙ ap number_of c.as_bytes-bytes.ensures.value)

pub returns-else-has_minus : goal.returns-else-has_minus
returns-else-has_minus c =
    let s = c.as_bytes-bytes.result.now in
    let none : (get_or s 0 0 == 45) ≡ false = sym c.if-has_minus.ensures.value in
    c.unsigned.ensures
    ∙ ap (option_map whole)
    (ap (number_from false) c.scan-else-has_minus.ensures.parts ∙ sym (unsigned_text s none) ∙ ap number_of c.as_bytes-bytes.ensures.value)
