use Rattle.std.proofs.Common.{length}
use Rattle.wf_def.specs.Layered.{layered}
use Rattle.wf_def.specs.Names.{graph_names}
use Rattle.wf_varorder.proofs.OrderedLemmas.{no-answer-pairs, no-end-pairs, no-variable-pairs}
use Rattle.wf_varorder.proofs.SettledLemmas.{answers-in-order, ends-in-order, variables-in-order}
use Rattle.wf_varorder.proofs.laws.no_pair_is_in_order.Goals as goal

pub returns-clause-variables : goal.returns-clause-variables
returns-clause-variables c = λ d once below closed of_all.
    let n = length (graph_names d.top) in
    let before = c.order_is_exact.ensures.before n (layered d.top) below closed in
    let contains = c.order_is_exact.ensures.contains n (layered d.top) below in
    let exclusive = c.order_is_exact.ensures.exclusive n (layered d.top) below in (
      (λ none. variables-in-order d before contains exclusive once of_all none),
      (λ each. no-variable-pairs d before contains exclusive once of_all each),
    )

pub returns-clause-ends : goal.returns-clause-ends
returns-clause-ends c = λ d below closed of_all.
    let n = length (graph_names d.top) in
    let before = c.order_is_exact.ensures.before n (layered d.top) below closed in
    let contains = c.order_is_exact.ensures.contains n (layered d.top) below in
    let exclusive = c.order_is_exact.ensures.exclusive n (layered d.top) below in (
      (λ none. ends-in-order d before contains exclusive of_all none),
      (λ each. no-end-pairs d before contains exclusive of_all each),
    )

pub returns-clause-answers : goal.returns-clause-answers
returns-clause-answers c = λ d below closed of_all.
    let n = length (graph_names d.top) in
    let before = c.order_is_exact.ensures.before n (layered d.top) below closed in
    let contains = c.order_is_exact.ensures.contains n (layered d.top) below in
    let exclusive = c.order_is_exact.ensures.exclusive n (layered d.top) below in (
      (λ none. answers-in-order d before contains exclusive of_all none),
      (λ each. no-answer-pairs d before contains exclusive of_all each),
    )
