use Rattle.std.proofs.Common.{◌≡◌, ℕ, List, nat_lt, map, take}
use Rattle.wf_val.specs.Seen.{member}
use Rattle.wf_form.specs.KnownSeen.{is_listed}
use Rattle.wf_form.specs.Whole.{count_named}
use Rattle.wf_form.proofs.known.repeated.Given as goal

-- the names so far, and those of them that stand more than once
abbrev pub invariant-loop-action : goal.invariant-loop-action
invariant-loop-action l = record {
  once : (name : List ℕ) → is_listed name (map (λ k. k.now) l.seen.keys)
      ≡ nat_lt 0 (count_named name (map (λ m. member m.now) (take l.action-index l.actions)));
  twice : (name : List ℕ) → is_listed name (map (λ k. k.now) l.again.keys)
      ≡ nat_lt 1 (count_named name (map (λ m. member m.now) (take l.action-index l.actions)));
}
