use Rattle.std.proofs.Common.{◌≡◌, true, nat_lt, sym, ap, subst, ◌∙◌, true≢false}
use Rattle.wf_answers.specs.InputsSeen.{inputs_tree}
use Rattle.wf_reading.specs.ReadSeen.{def_tree}
use Rattle.wf_stands.specs.Stands as stands
use Rattle.wf_trigger.specs.StartsSeen.{start_tree}
use Rattle.wf_session.specs.Stood.{wanted_in}
use Rattle.wf_session.proofs.StandsLemmas.{waiting_with}
use Rattle.wf_session.proofs.standing.SessionStand.is_waiting.Goals as goal

pub returns-then-is_some-clause-waits : goal.returns-then-is_some-clause-waits
returns-then-is_some-clause-waits c =
    let s = c.self.inside in
    subst
    (λ v. nat_lt 0 c.len.result ≡ true → stands.WaitsFor (def_tree v.0.def) (start_tree v.1.0) (inputs_tree v.1.1.0)
    (wanted_in v.1.1.1.1 v.1.1.1.0))
    c.self.view_is
    (λ some. waiting_with (def_tree s.runnable.now.checked.now.def) (start_tree s.given.start) (inputs_tree s.given.inputs) s.waits.0 c.is_in_order.ensures
    s.rest c.self.invariant (sym c.is_some.ensures ∙ c.if-is_some.true) (sym (ap (nat_lt 0) c.len.ensures) ∙ some))

pub returns-else-is_some-clause-waits : goal.returns-else-is_some-clause-waits
returns-else-is_some-clause-waits c = λ is. absurd (true≢false (sym is ∙ c.if-is_some.false))
