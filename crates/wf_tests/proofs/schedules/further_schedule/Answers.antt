use Rattle.std.proofs.Common.{rules}
use Rattle.wf_tests.specs.Schedules.{further_schedule}
use Rattle.wf_tests.proofs.ScheduleLemmas.{no_more, one_line}
use Rattle.wf_tests.proofs.schedules.further_schedule.Goals as goal

-- one line more
pub loop-left-preserved : goal.loop-left-preserved
loop-left-preserved c = record {
  all =
      one_line c.loop-left.left c.loop-left.state c.next-state.result c.loop-left.bytes.items c.extend_from_slice.new.self.items
      (further_schedule c.args.seed c.args.place) (search rules) c.next-state.ensures.next (search rules) c.loop-left.invariant.all;
  within = c.next-state.ensures.within;
}

-- none is left
pub returns : goal.returns
returns c =
    no_more c.loop-left.left c.loop-left.state c.loop-left.bytes.items (further_schedule c.args.seed c.args.place) (search rules)
    c.loop-left.invariant.all
