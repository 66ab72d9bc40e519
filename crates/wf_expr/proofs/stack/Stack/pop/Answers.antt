use Rattle.wf_expr.proofs.StackLemmas.{top_seen, below_seen, none_left}
use Rattle.wf_expr.proofs.stack.Stack.pop.Goals as goal

pub returns-clause-taken : goal.returns-clause-taken
returns-clause-taken c = top_seen c.args.self.now.bottom c.args.self.now.frames.items c.pop.new.self.items c.pop.result c.pop.ensures.items (none_left c.pop.result _ _ c.args.self.now.frames.items c.pop.new.self.items c.pop.ensures.cases c.pop.ensures.rest)

pub returns-clause-left : goal.returns-clause-left
returns-clause-left c = below_seen c.args.self.now.bottom c.args.self.now.frames.items c.pop.new.self.items c.pop.result c.pop.ensures.items (none_left c.pop.result _ _ c.args.self.now.frames.items c.pop.new.self.items c.pop.ensures.cases c.pop.ensures.rest)
