use Rattle.std.proofs.Common.{◌≡◌, ◌<◌, ◌≤◌, ◌⊎◌, [], Option, Some, inr, sym, ap, subst, ◌∙◌}
use Rattle.std.proofs.lemmas.Result.{err_from_is_err_and}
use Rattle.std.specs.Prelude.{IfSome}
use Rattle.wf_answers.specs.InputsSeen.{inputs_tree}
use Rattle.wf_environment.specs.Environment.{fresh}
use Rattle.wf_planned.specs.Record.{meaning}
use Rattle.wf_reading.specs.ReadSeen.{def_tree}
use Rattle.wf_record.specs.Cost.{cost}
use Rattle.wf_record.specs.Record.{record_line}
use Rattle.wf_record.specs.Seen.{record_tree}
use Rattle.wf_runnable.specs.Aside.{Aside}
use Rattle.wf_stands.specs.Stands as stands
use Rattle.wf_trigger.specs.Starts.{StartTree}
use Rattle.wf_trigger.specs.StartsSeen.{start_tree}
use Rattle.wf_session.specs.Begun.{moment}
use Rattle.wf_session.specs.Stood.{Stands, run_with, wanted_in}
use Rattle.wf_waits.specs.Kept.{keys_of}
use Rattle.wf_session.proofs.StandsLemmas.{at_last, none_waits}
use Rattle.wf_session.proofs.standing.SessionStand.record_line.Goals as goal

pub finished-requires : goal.finished-requires
finished-requires c =
    let s = c.self.inside in
    let checked = s.runnable.now.checked.now in
    let rest = c.in-Some.rest in
    let here : s.rest ≡ Some rest = sym c.take.ensures.value ∙ c.in-Some.is in
    let st : Stands (run_with checked s.given.start s.given.inputs) rest s.waits.0 =
    subst (λ (o : Option Aside). IfSome o (λ r. Stands (run_with checked s.given.start s.given.inputs) r s.waits.0)) here c.self.invariant in
    let none : keys_of s.waits.0 ≡ [] =
    subst (λ (o : Option Aside). wanted_in o s.waits.0 ≡ []) here
    (subst (λ v. wanted_in v.1.1.1.1 v.1.1.1.0 ≡ []) (sym c.self.view_is) c.requires) in
    at_last checked s.given.start s.given.inputs rest s.waits.0 st none c.in_ok-start.start c.in_ok-start.ensures

pub returns-in_err-start-clause-fault : goal.returns-in_err-start-clause-fault
returns-in_err-start-clause-fault c =
    let p = err_from_is_err_and c.from_residual.result c.from_residual.ensures.1 in
    rw (p.1) (λ other. absurd (other p.2))

pub returns-then-costs_too_much-clause-fault : goal.returns-then-costs_too_much-clause-fault
returns-then-costs_too_much-clause-fault c = λ other.
    let s = c.self.inside in
    let checked = s.runnable.now.checked.now in
    let d = def_tree checked.def in
    let i = inputs_tree s.given.inputs in
    let rest = c.in-Some.rest in
    let here : s.rest ≡ Some rest = sym c.take.ensures.value ∙ c.in-Some.is in
    let st : Stands (run_with checked s.given.start s.given.inputs) rest s.waits.0 =
    subst (λ (o : Option Aside). IfSome o (λ r. Stands (run_with checked s.given.start s.given.inputs) r s.waits.0)) here c.self.invariant in
    let none : keys_of s.waits.0 ≡ [] =
    subst (λ (o : Option Aside). wanted_in o s.waits.0 ≡ []) here
    (subst (λ v. wanted_in v.1.1.1.1 v.1.1.1.0 ≡ []) (sym c.self.view_is) c.requires) in
    let told : record_tree c.in_ok-record.record ≡ meaning d (fresh (start_tree s.given.start) i) =
    c.in_ok-record.ensures ∙ ap (λ (t : StartTree). meaning d (fresh t i)) c.in_ok-start.ensures in
    subst
    (λ v. stands.IsTooDear (def_tree v.0.def) (start_tree v.1.0) (inputs_tree v.1.1.0)
    ⊎ stands.LeavesTooMuch (def_tree v.0.def) (start_tree v.1.0) (inputs_tree v.1.1.0))
    c.self.view_is
    (inr
    (record {
      still = moment rest.0.0;
      is_still = st.still;
      wanted = none_waits d (start_tree s.given.start) i rest s.waits.0 st none;
      beyond = subst (λ r. 67108864 < cost r) told (c.costs_too_much.ensures.dear c.if-costs_too_much.true);
    }))

pub returns-in_err-line-clause-fault : goal.returns-in_err-line-clause-fault
returns-in_err-line-clause-fault c =
    let p = err_from_is_err_and c.from_residual-in_err-line.result c.from_residual-in_err-line.ensures.1 in
    rw (p.1) (λ other. absurd (other p.2))

pub returns-clause-line : goal.returns-clause-line
returns-clause-line c =
    let s = c.self.inside in
    let checked = s.runnable.now.checked.now in
    let d = def_tree checked.def in
    let i = inputs_tree s.given.inputs in
    let rest = c.in-Some.rest in
    let here : s.rest ≡ Some rest = sym c.take.ensures.value ∙ c.in-Some.is in
    let st : Stands (run_with checked s.given.start s.given.inputs) rest s.waits.0 =
    subst (λ (o : Option Aside). IfSome o (λ r. Stands (run_with checked s.given.start s.given.inputs) r s.waits.0)) here c.self.invariant in
    let none : keys_of s.waits.0 ≡ [] =
    subst (λ (o : Option Aside). wanted_in o s.waits.0 ≡ []) here
    (subst (λ v. wanted_in v.1.1.1.1 v.1.1.1.0 ≡ []) (sym c.self.view_is) c.requires) in
    let told : record_tree c.in_ok-record.record ≡ meaning d (fresh (start_tree s.given.start) i) =
    c.in_ok-record.ensures ∙ ap (λ (t : StartTree). meaning d (fresh t i)) c.in_ok-start.ensures in
    subst (λ v. stands.HasLeft (def_tree v.0.def) (start_tree v.1.0) (inputs_tree v.1.1.0) c.in_ok-line.line.items) c.self.view_is
    (record {
      still = moment rest.0.0;
      is_still = st.still;
      wanted = none_waits d (start_tree s.given.start) i rest s.waits.0 st none;
      within = subst (λ r. cost r ≤ 67108864) told (c.costs_too_much.ensures.within c.if-costs_too_much.false);
      line_is = c.in_ok-line.ensures ∙ ap record_line told;
    })
