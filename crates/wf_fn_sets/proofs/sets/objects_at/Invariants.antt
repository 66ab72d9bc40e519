use Rattle.std.proofs.Common.{◌≡◌, ◌++◌, map, drop, Ok}
use Rattle.wf_val.specs.Arguments.{given, object_of}
use Rattle.wf_fn_sets.specs.Sets.{each_from}
use Rattle.wf_fn_sets.proofs.sets.objects_at.Given as goal

-- the objects so far, with those of the rest, are those of all
abbrev pub invariant-loop-place : goal.invariant-loop-place
invariant-loop-place l =
    given (each_from (object_of l.function) l.place (drop l.place l.args)) (λ more. Ok (map (λ o. o.now) l.objects.items ++ more))
    ≡ each_from (object_of l.function) 0 l.args
