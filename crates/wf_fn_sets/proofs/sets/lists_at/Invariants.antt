use Rattle.std.proofs.Common.{◌≡◌, ◌++◌, map, drop, Ok}
use Rattle.wf_val.specs.Arguments.{given, list_of}
use Rattle.wf_fn_sets.specs.Sets.{each_from}
use Rattle.wf_fn_sets.proofs.sets.lists_at.Given as goal

-- the lists so far, with those of the rest, are those of all
abbrev pub invariant-loop-place : goal.invariant-loop-place
invariant-loop-place l =
    given (each_from (list_of l.function) l.place (drop l.place l.args)) (λ more. Ok (map (λ x. x.now) l.lists.items ++ more))
    ≡ each_from (list_of l.function) 0 l.args
