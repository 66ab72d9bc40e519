use Rattle.std.proofs.Common.{◌≡◌, ◌++◌, drop, map}
use Rattle.wf_val.specs.Get.{name_of}
use Rattle.wf_val.specs.Seen.{member}
use Rattle.wf_reading.proofs.file.names_among.Given as goal

abbrev pub invariant-loop-action : goal.invariant-loop-action
invariant-loop-action l =
    map (λ n. n.now) l.names.items ++ map name_of (map (λ m. member m.now) (drop l.action-index l.actions)) ≡ map name_of (map (λ m. member m.now) l.actions)
