use Rattle.std.proofs.Common.{◌≡◌, map, drop}
use Rattle.wf_fn_math.specs.Extremes.{function_of, pick_of}
use Rattle.wf_fn_math.proofs.ExtremesLemmas.{picked_from}
use Rattle.wf_val.specs.Seen.{tree}
use Rattle.std.specs.Prelude.{None}
use Rattle.wf_fn_math.proofs.extremes.picked_of_values.Given as goal

-- what is picked so far, with what is picked from here on, is what is picked of all
abbrev pub invariant-loop-place : goal.invariant-loop-place
invariant-loop-place l =
    picked_from (function_of l.which) (pick_of l.which) l.in_list l.best l.place (map tree (drop l.place l.values))
    ≡ picked_from (function_of l.which) (pick_of l.which) l.in_list None 0 (map tree l.values)
