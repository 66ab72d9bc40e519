use Rattle.std.proofs.Common.{◌∙◌, ap}
use Rattle.wf_val.specs.Seen.{tree}
use Rattle.wf_fn_sets.proofs.MemberLemmas.{one-taken, one-below}
use Rattle.wf_fn_sets.proofs.sets.object_of_entries.Goals as goal

pub loop-name-preserved : goal.loop-name-preserved
loop-name-preserved c = (
  one-taken (λ k. k.now) (λ v. tree v.now) c.in-Some.name c.in-Some.value c.loop-name.left.entries c.pop_first.new.self.entries
      c.loop-name.fields c.append.new.self _ _
      c.in-Some.ensures.removal c.in_ok-append.ensures.ok c.in_ok-of.ensures (ap tree c.in_ok-copy.ensures) ∙ c.loop-name.invariant.0,
  one-below (λ k. k.now) (λ v. tree v.now) c.in-Some.name c.in-Some.value c.loop-name.left.entries c.pop_first.new.self.entries
      c.loop-name.fields c.append.new.self _ _
      c.in-Some.ensures.removal c.in_ok-append.ensures.ok c.in_ok-of.ensures c.loop-name.invariant.1 c.in-Some.ensures.all_above,
)
