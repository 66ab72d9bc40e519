use Rattle.std.proofs.Common.{◌≡◌, List, ◌++◌, map}
use Rattle.wf_json.specs.Sent.{named}
use Rattle.wf_json.proofs.StraightLemmas.{MapEntry}
use Rattle.wf_json.proofs.straight.in_order.Given as goal

-- what is moved so far is done, and the rest is left
abbrev pub invariant-loop-name : goal.invariant-loop-name
invariant-loop-name l =
    (done : List MapEntry) × (l.fn.found.entries ≡ done ++ l.name-iterator) × (l.fields ≡ map named done)
