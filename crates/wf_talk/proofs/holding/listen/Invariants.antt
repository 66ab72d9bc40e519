use Rattle.std.proofs.Common.{◌≡◌, ◌≤◌, ℕ, List, [], Option}
use Rattle.wf_answers.specs.Inputs.{InputsTree}
use Rattle.wf_talk.specs.Byte.{Listens}
use Rattle.wf_talk.specs.Seen.{hearing}
use Rattle.wf_talk.proofs.holding.listen.Given as goal

-- the talk is in its midst, and nothing has failed
abbrev pub invariant-loop-taken : goal.invariant-loop-taken
invariant-loop-taken g l = record {
  numbered : l.talk.number ≤ l.taken;
  same : g.S.Stand.origin l.talk.stand ≡ g.S.Stand.origin l.fn.talk.stand;
  calm_input : g.I.Source.faults l.input ≡ g.I.Source.faults l.fn.input;
  calm_out : g.O.Sink.faults l.out ≡ g.O.Sink.faults l.fn.out;
  listens : (inputs : InputsTree) (left taken : Option (List ℕ))
      → Listens (g.S.Stand.stands (g.S.Stand.origin l.fn.talk.stand)) inputs left (g.I.Source.left l.fn.input) taken
      (g.O.Sink.taken l.fn.out)
      (hearing g.S.Stand.inputs g.S.Stand.wanted l.fn.talk) [] 0
      → Listens (g.S.Stand.stands (g.S.Stand.origin l.fn.talk.stand)) inputs left (g.I.Source.left l.input) taken (g.O.Sink.taken l.out)
      (hearing g.S.Stand.inputs g.S.Stand.wanted l.talk) l.rest.items l.taken;
}
