use Rattle.std.proofs.Common.{[], subst, sym, ◌<◌, ◌^◌}
use Rattle.wf_layers.specs.Meaning.{meaning}
use Rattle.wf_actions.specs.Meant.{definition_of, depth, environment_of, graph, source}
use Rattle.wf_paying.specs.Places.{named}
use Rattle.wf_actions.proofs.CountLemmas.{few}
use Rattle.wf_actions.proofs.laws.keep_order.Goals as goal

pub returns : goal.returns
returns c =
    let a = c.args.actions.now in
    let d = definition_of a in
    let is = c.are_answered.ensures in
    record {
      going = c.loops_may_turn.ensures d c.always_read.ensures;
      counted =
          λ x b. subst (λ tries. tries x b < 2 ^ 64) (sym is.answers.tries)
          (few a.inputs.now.answers c.len-count.ensures.count c.len-count.ensures.in_range
          (c.attempts_are_answered.ensures d (environment_of a) x b));
      ordered =
          λ v. c.numbered_writers_are_in_one_order.ensures.writers d c.always_read.ensures c.always_checked.ensures.holds (environment_of a)
          (source a) is.answers (meaning (source a) (depth a) (graph a)) is.whole.instances v;
      told =
          c.rows_tell_their_turns.ensures d c.always_read.ensures (environment_of a) (source a) is.answers
          (meaning (source a) (depth a) (graph a));
      priced = λ r. c.a_row_costs_its_turns.ensures (record { address = named [] []; row = r });
    }
