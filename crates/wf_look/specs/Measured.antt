-- A text that is put together and measured: what is kept of it may be less than the whole once that doesn't fit, but never its length.
use Rattle.std.specs.Prelude.{ℕ, suc, ◌+◌, ◌^◌, List, ◌++◌, length, nat_lt, Ok, Err, if◌then◌else◌}
use Rattle.wf_val.specs.Arguments.{Answer}
use Rattle.wf_val.specs.Cut.{cut_u64}
use Rattle.wf_val.specs.ValueTree.{text}
use Rattle.wf_val.specs.declared.fault.EvalFault.{EvalFault}

-- what is kept of a text, and the text's length in bytes, cut to the greatest u64
abbrev pub Measured : Type 0
Measured = List ℕ × ℕ

-- the text with more behind it: kept where the whole may still fit
abbrev pub with_more : List ℕ → Measured → Measured
with_more s m =
    let n = cut_u64 (m.1 + length s) in
    (if nat_lt n (2 ^ 20) then m.0 ++ s else m.0, n)

-- the text, where it fits
abbrev pub measured_answer : Measured → Answer
measured_answer m = if nat_lt m.1 (2 ^ 20) then Ok (text m.0) else Err (EvalFault.TooBig 0 (cut_u64 (suc m.1)))
