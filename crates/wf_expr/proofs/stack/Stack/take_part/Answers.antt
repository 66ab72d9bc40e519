use Rattle.std.proofs.Common.{rules, sym}
use Rattle.wf_expr.specs.StackSeen.{bottom_seen}
use Rattle.wf_expr.proofs.StackLemmas.{part_under}
use Rattle.wf_expr.proofs.stack.Stack.take_part.Goals as goal

pub returns-then-not-is_empty-clause-taken : goal.returns-then-not-is_empty-clause-taken
returns-then-not-is_empty-clause-taken c = sym (part_under (bottom_seen c.args.self.now.bottom) c.args.self.now.frames.items (search rules))
