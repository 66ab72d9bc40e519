use Rattle.std.proofs.Common.{◌≡◌, ◌+◌, drop}
use Rattle.wf_fn_time.specs.Pattern.{repeats}
use Rattle.wf_fn_time.proofs.pattern.repeats.Given as goal

-- those counted, and those in front of what is left
abbrev pub invariant-loop-other : goal.invariant-loop-other
invariant-loop-other l = (l.count ≡ l.other-index) × (l.count + repeats l.character (drop l.count l.behind) ≡ repeats l.character l.behind)
