-- Why a test failed, as contracts see it.
use Rattle.std.specs.Prelude.{ℕ, List}
use Rattle.wf_match.specs.Told.{Told, told}
use Rattle.wf_tap.specs.declared.report.Failure.{Failure}

pub data Why : Type 0 where
  -- a record isn't as expected here
  Differs : Told → Why
  -- plain words
  Says : List ℕ → Why

abbrev pub why : Failure → Why
why (Failure.Differs d) = Differs (told d)
why (Failure.Says s) = Says s
