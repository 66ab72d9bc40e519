use Rattle.std.proofs.Common.{rules, ◌≡◌}
use Rattle.wf_suite.proofs.PlaceLemmas.{placed_more}
use Rattle.wf_suite.proofs.known.Known.with.Goals as goal

-- the new test has the place behind the others
pub invariant_of-result : goal.invariant_of-result
invariant_of-result c = record {
  placed =
      placed_more c.args.self.places.entries c.insert.new.self.entries c.args.self.tests c.push.new.self c.args.test c.in_ok-copy.field-0
      c.len.result (search rules) (search rules) (search rules) (search rules) (search rules) c.in_ok-_none.ensures.updates.0;
}
