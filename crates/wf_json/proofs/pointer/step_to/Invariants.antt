use Rattle.std.proofs.Common.{◌≡◌, ◌++◌, string_bytes, flat_map}
use Rattle.std.specs.Str.Iter.{chars_rest}
use Rattle.wf_json.specs.Pointer.{escaped, member_step}
use Rattle.wf_json.proofs.pointer.step_to.Given as goal

abbrev pub invariant-loop-c : goal.invariant-loop-c
invariant-loop-c l = string_bytes l.step ++ flat_map escaped (chars_rest l.c-iterator) ≡ member_step l.name
