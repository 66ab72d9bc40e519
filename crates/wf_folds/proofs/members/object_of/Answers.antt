use Rattle.std.proofs.Common.{◌∙◌, refl}
use Rattle.wf_val.specs.Seen.{tree}
use Rattle.wf_fn_sets.proofs.MemberLemmas.{one-taken, one-below}
use Rattle.wf_folds.proofs.members.object_of.Goals as goal

pub loop-name-preserved : goal.loop-name-preserved
loop-name-preserved c = (
  one-taken (λ k. k) tree c.in-Some.name c.in-Some.value c.loop-name.left.entries c.pop_first.new.self.entries
      c.loop-name.fields c.append.new.self _ _
      c.in-Some.ensures.removal c.in_ok-append.ensures.ok refl refl ∙ c.loop-name.invariant.0,
  one-below (λ k. k) tree c.in-Some.name c.in-Some.value c.loop-name.left.entries c.pop_first.new.self.entries
      c.loop-name.fields c.append.new.self _ _
      c.in-Some.ensures.removal c.in_ok-append.ensures.ok refl c.loop-name.invariant.1 c.in-Some.ensures.all_above,
)
