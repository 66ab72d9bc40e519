-- A value's JSON text is read as the value, where it fits.
use Rattle.std.proofs.Common.{◌≡◌, ◌≤◌, Bool, true, Ok, Err, ap, ◌∙◌, arith}
use Rattle.std.specs.Prelude.{if◌then◌else◌}
use Rattle.wf_val.specs.Arguments.{bounded}
use Rattle.wf_val.specs.Cut.{cut_u32, cut_u64}
use Rattle.wf_val.specs.ValueTree.{ValueTree, Fits, fits, depth, weight, text}
use Rattle.wf_val.specs.WellFormed.{IsWellFormed}
use Rattle.wf_val.specs.declared.fault.EvalFault.{EvalFault}
use Rattle.wf_json.specs.Json.{json}
use Rattle.wf_json.specs.Read.{read_value}
use Rattle.wf_data.specs.Parsed.{parsed, read_answer}

fits-true : (t : ValueTree) → Fits t → fits t ≡ true
fits-true t both = grind (arith, both)

bounded-fits : (t : ValueTree) → fits t ≡ true → bounded t ≡ Ok t
bounded-fits t e = ap (λ (b : Bool). if b then Ok t else Err (EvalFault.TooBig (cut_u32 (depth t)) (cut_u64 (weight t)))) e

shallow : (t : ValueTree) → Fits t → depth t ≤ 120
shallow t both = grind (arith, both)

-- what reading gives of a JSON text, as `wf_json` promises it
abbrev pub ReadsBack : Type 0
ReadsBack = (t : ValueTree) → IsWellFormed t → depth t ≤ 120 → read_value (json t) ≡ Ok t

pub parsed-json : ReadsBack → (t : ValueTree) → IsWellFormed t → Fits t → parsed (text (json t)) ≡ Ok t
parsed-json back t formed both = ap read_answer (back t formed (shallow t both)) ∙ bounded-fits t (fits-true t both)
