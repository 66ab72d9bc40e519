-- A record that fits: what is asked of one isn't asked in vain.
use Rattle.std.proofs.Common.{◌<◌, ℕ, zero, suc, [], ◌∷◌, refl, arith}
use Rattle.std.specs.Prelude.{codes, slice_index, ⊤}
use Rattle.std.specs.Str.{chars}
use Rattle.wf_val.specs.ValueTree.{null}
use Rattle.wf_record.specs.Record.{RecordTree}
use Rattle.wf_record.specs.Worked.{called, empty, failed, object_of, skipped, times}
use Rattle.wf_record_form.specs.Fitting.{IsFittingRecord, IsFittingRow}

-- what a row unfolds to be computed
unfoldable on_literals : ⊤
unfolding chars
on_literals = tt

zeros : (n i : ℕ) → slice_index (times n 0) i < 256
zeros zero i = omega arith
zeros (suc n) zero = omega arith
zeros (suc n) (suc i) = zeros n i

-- the run of no actions with three rows
abbrev three_rows : RecordTree
three_rows = record {
  run = empty.run;
  digest = empty.digest;
  trigger = object_of ((codes "name", null) ∷ (codes "outputs", null) ∷ []);
  parameters = empty.parameters;
  status = empty.status;
  error = empty.error;
  response = empty.response;
  outputs = empty.outputs;
  rows = failed ∷ called ∷ skipped ∷ [];
}

failed_fits : IsFittingRow failed
unfolding on_literals
failed_fits = record {
  at_in_range = tt;
  name = refl;
  inputs = refl;
  outputs = refl;
  error = tt;
  tracked = tt;
  few = omega arith;
  attempts = tt;
}

called_fits : IsFittingRow called
unfolding on_literals
called_fits = record {
  at_in_range = (omega arith, (omega arith, tt));
  name = refl;
  inputs = refl;
  outputs = refl;
  error = tt;
  tracked = (refl, tt);
  few = omega arith;
  attempts = ((omega arith, omega arith), (tt, (tt, tt)));
}

skipped_fits : IsFittingRow skipped
unfolding on_literals
skipped_fits = record {
  at_in_range = tt;
  name = refl;
  inputs = refl;
  outputs = refl;
  error = tt;
  tracked = tt;
  few = omega arith;
  attempts = tt;
}

three_rows-fit : IsFittingRecord three_rows
unfolding on_literals
three_rows-fit = record {
  digest_length = refl;
  digest_bytes = zeros 32;
  outputs = tt;
  parameters = tt;
  response = refl;
  run = refl;
  trigger = record { name = null; outputs = null; is = refl; named = tt; measured = refl };
  rows = (failed_fits, (called_fits, (skipped_fits, tt)));
  in_order = ((refl, (refl, tt)), ((refl, tt), (tt, tt)));
}
