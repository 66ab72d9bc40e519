-- A number that has its range is read as it is written.
use Rattle.std.proofs.Common.{◌≡◌, ℕ, Bool, true, cond, sym, ap, Some, pos, negsuc, true≢false}
use Rattle.wf_val.specs.ValueTree.{ValueTree, null, boolean, number, text, list, object}
use Rattle.wf_reading.specs.Parts.{is_whole_from_to}
use Rattle.wf_reading.specs.Graphs.{number_in}

pub read_as_accepted : (least most absent : ℕ) (v : ValueTree) → is_whole_from_to least most v ≡ true
    → number (pos (number_in least most absent (Some v))) ≡ v
read_as_accepted least most absent (number (pos n)) is = ap (λ (b : Bool). number (pos (cond b n absent))) is
read_as_accepted least most absent (number (negsuc n)) is = absurd (true≢false (sym is))
read_as_accepted least most absent null is = absurd (true≢false (sym is))
read_as_accepted least most absent (boolean b) is = absurd (true≢false (sym is))
read_as_accepted least most absent (text s) is = absurd (true≢false (sym is))
read_as_accepted least most absent (list ts) is = absurd (true≢false (sym is))
read_as_accepted least most absent (object ms) is = absurd (true≢false (sym is))
