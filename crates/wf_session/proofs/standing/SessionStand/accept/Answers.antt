use Rattle.std.proofs.Common.{◌≡◌, ◌⊎◌, true, List, Option, Some, sym, ap, subst, ◌∙◌}
use Rattle.std.proofs.lemmas.Result.{err_from_is_err_and}
use Rattle.std.specs.Prelude.{IfSome}
use Rattle.wf_answers.specs.Added.{with_added}
use Rattle.wf_answers.specs.AnswerSeen.{answer_tree}
use Rattle.wf_answers.specs.AnswerTree.{Key, key_cmp, key_of}
use Rattle.wf_answers.specs.Inputs.{InputsTree}
use Rattle.wf_answers.specs.InputsSeen.{inputs_tree}
use Rattle.wf_lists.specs.KeyOrder.{without_key}
use Rattle.wf_reading.specs.ReadSeen.{def_tree}
use Rattle.wf_runnable.specs.Aside.{Aside}
use Rattle.wf_stands.specs.Stands as stands
use Rattle.wf_talk.specs.Keys.{fresh, is_among}
use Rattle.wf_talk.specs.Standing.{TooLarge}
use Rattle.wf_trigger.specs.StartsSeen.{start_tree}
use Rattle.wf_waits.specs.Kept.{AreNew, Kept, kept_without, keys_of, waiting_key}
use Rattle.wf_session.specs.Begun.{has_answer, moment}
use Rattle.wf_session.specs.Stood.{MayGoOn, Stands, run_of, run_with, wanted_in}
use Rattle.wf_session.specs.Waiting.{AreWaiting}
use Rattle.wf_session.proofs.StandsLemmas.{too_dear}
use Rattle.wf_session.proofs.StoodLemmas.{may_go_on, wait_still}
use Rattle.wf_session.proofs.TakenLemmas.{by_keys, marked, not_there}
use Rattle.wf_session.proofs.standing.SessionStand.accept.Goals as goal

pub add-requires : goal.add-requires
add-requires c =
    let s = c.self.inside in
    let checked = s.runnable.now.checked.now in
    let rest = c.in-Some.rest in
    let a = answer_tree c.args.answer in
    let here : s.rest ≡ Some rest = sym c.take.ensures.value ∙ c.in-Some.is in
    let st : Stands (run_with checked s.given.start s.given.inputs) rest s.waits.0 =
    subst (λ (o : Option Aside). IfSome o (λ r. Stands (run_with checked s.given.start s.given.inputs) r s.waits.0)) here c.self.invariant in
    let keys : keys_of s.waits.0 ≡ wanted_in c.args.self.now.1.1.1.1 c.args.self.now.1.1.1.0 =
    ap (λ o. wanted_in o s.waits.0) (sym here) ∙ ap (λ v. wanted_in v.1.1.1.1 v.1.1.1.0) c.self.view_is in
    let wanted : is_among (key_of a) (keys_of s.waits.0) ≡ true = subst (λ (ks : List Key). is_among (key_of a) ks ≡ true) (sym keys) c.requires in
    not_there (def_tree checked.def) (start_tree s.given.start) (inputs_tree s.given.inputs) a rest s.waits st c.is_in_order.ensures wanted

pub returns-in_err-add-clause-fault : goal.returns-in_err-add-clause-fault
returns-in_err-add-clause-fault c =
    let p = err_from_is_err_and c.from_residual.result c.from_residual.ensures.1 in
    rw (p.1) (λ other. absurd (other p.2))

pub gone_on-requires-clause-goes_on : goal.gone_on-requires-clause-goes_on
gone_on-requires-clause-goes_on c =
    let s = c.self.inside in
    let checked = s.runnable.now.checked.now in
    let d = def_tree checked.def in
    let i = inputs_tree s.given.inputs in
    let rest = c.in-Some.rest in
    let a = answer_tree c.args.answer in
    let here : s.rest ≡ Some rest = sym c.take.ensures.value ∙ c.in-Some.is in
    let st : Stands (run_with checked s.given.start s.given.inputs) rest s.waits.0 =
    subst (λ (o : Option Aside). IfSome o (λ r. Stands (run_with checked s.given.start s.given.inputs) r s.waits.0)) here c.self.invariant in
    let keys : keys_of s.waits.0 ≡ wanted_in c.args.self.now.1.1.1.1 c.args.self.now.1.1.1.0 =
    ap (λ o. wanted_in o s.waits.0) (sym here) ∙ ap (λ v. wanted_in v.1.1.1.1 v.1.1.1.0) c.self.view_is in
    let wanted : is_among (key_of a) (keys_of s.waits.0) ≡ true = subst (λ (ks : List Key). is_among (key_of a) ks ≡ true) (sym keys) c.requires in
    let none = not_there d (start_tree s.given.start) i a rest s.waits st c.is_in_order.ensures wanted in
    subst (λ (j : InputsTree). MayGoOn (run_of d (start_tree s.given.start) j) rest) (sym c.in_ok-add.ensures.inputs)
    (may_go_on d (start_tree s.given.start) i a (c.one_more_answer_is_known.ensures d (start_tree s.given.start) i a none)
    (c.answers_stay_answered.ensures.stay d i a) rest s.waits st)

pub gone_on-requires-clause-waiting : goal.gone_on-requires-clause-waiting
gone_on-requires-clause-waiting c =
    let s = c.self.inside in
    let checked = s.runnable.now.checked.now in
    let d = def_tree checked.def in
    let i = inputs_tree s.given.inputs in
    let rest = c.in-Some.rest in
    let a = answer_tree c.args.answer in
    let here : s.rest ≡ Some rest = sym c.take.ensures.value ∙ c.in-Some.is in
    let st : Stands (run_with checked s.given.start s.given.inputs) rest s.waits.0 =
    subst (λ (o : Option Aside). IfSome o (λ r. Stands (run_with checked s.given.start s.given.inputs) r s.waits.0)) here c.self.invariant in
    let keys : keys_of s.waits.0 ≡ wanted_in c.args.self.now.1.1.1.1 c.args.self.now.1.1.1.0 =
    ap (λ o. wanted_in o s.waits.0) (sym here) ∙ ap (λ v. wanted_in v.1.1.1.1 v.1.1.1.0) c.self.view_is in
    let wanted : is_among (key_of a) (keys_of s.waits.0) ≡ true = subst (λ (ks : List Key). is_among (key_of a) ks ≡ true) (sym keys) c.requires in
    let none = not_there d (start_tree s.given.start) i a rest s.waits st c.is_in_order.ensures wanted in
    subst (λ (kept : Kept). AreWaiting (run_of d (start_tree s.given.start) (inputs_tree c.add.new.inputs)) (moment rest.0.0) kept.0)
    (sym c.in_ok-add.ensures.waits)
    (subst
    (λ (j : InputsTree). AreWaiting (run_of d (start_tree s.given.start) j) (moment rest.0.0)
    (without_key key_cmp waiting_key (key_of a) s.waits.0))
    (sym c.in_ok-add.ensures.inputs)
    (wait_still d (start_tree s.given.start) i a (c.one_more_answer_is_known.ensures d (start_tree s.given.start) i a none)
    (c.answers_stay_answered.ensures.stay d i a) rest s.waits st (λ x n. c.answers_stay_answered.ensures.others d i a x n)
    (by_keys d (start_tree s.given.start) i a rest s.waits st c.is_in_order.ensures wanted)))

pub returns-in_err-rest-clause-fault : goal.returns-in_err-rest-clause-fault
returns-in_err-rest-clause-fault c =
    let s = c.self.inside in
    let d = def_tree s.runnable.now.checked.now.def in
    let a = answer_tree c.args.answer in
    let p = err_from_is_err_and c.from_residual-in_err-rest.result c.from_residual-in_err-rest.ensures.1 in
    rw (p.1, p.2)
    (λ other.
    subst
    (λ v. stands.IsTooDear (def_tree v.0.def) (start_tree v.1.0) (with_added (inputs_tree v.1.1.0) a)
    ⊎ stands.LeavesTooMuch (def_tree v.0.def) (start_tree v.1.0) (with_added (inputs_tree v.1.1.0) a))
    c.self.view_is
    (subst (λ (j : InputsTree). stands.Stands d (start_tree s.given.start) j TooLarge) c.in_ok-add.ensures.inputs
    (too_dear d (start_tree s.given.start) (inputs_tree c.add.new.inputs) (c.in_err-rest.ensures.dear other))))

pub returns-in_err-wants-clause-fault : goal.returns-in_err-wants-clause-fault
returns-in_err-wants-clause-fault c =
    let p = err_from_is_err_and c.from_residual-in_err-wants.result c.from_residual-in_err-wants.ensures.1 in
    rw (p.1) (λ other. absurd (other p.2))

pub returns-clause-fresh : goal.returns-clause-fresh
returns-clause-fresh c =
    let s = c.self.inside in
    let checked = s.runnable.now.checked.now in
    let d = def_tree checked.def in
    let i = inputs_tree s.given.inputs in
    let rest = c.in-Some.rest in
    let a = answer_tree c.args.answer in
    let here : s.rest ≡ Some rest = sym c.take.ensures.value ∙ c.in-Some.is in
    let st : Stands (run_with checked s.given.start s.given.inputs) rest s.waits.0 =
    subst (λ (o : Option Aside). IfSome o (λ r. Stands (run_with checked s.given.start s.given.inputs) r s.waits.0)) here c.self.invariant in
    let keys : keys_of s.waits.0 ≡ wanted_in c.args.self.now.1.1.1.1 c.args.self.now.1.1.1.0 =
    ap (λ o. wanted_in o s.waits.0) (sym here) ∙ ap (λ v. wanted_in v.1.1.1.1 v.1.1.1.0) c.self.view_is in
    let wanted : is_among (key_of a) (keys_of s.waits.0) ≡ true = subst (λ (ks : List Key). is_among (key_of a) ks ≡ true) (sym keys) c.requires in
    let at_first : AreNew (has_answer (run_of d (start_tree s.given.start) (inputs_tree c.add.new.inputs))) (keys_of s.waits.0) c.add.new.waits =
    subst (AreNew (has_answer (run_of d (start_tree s.given.start) (inputs_tree c.add.new.inputs))) (keys_of s.waits.0))
    (sym c.in_ok-add.ensures.waits)
    (subst
    (λ (j : InputsTree). AreNew (has_answer (run_of d (start_tree s.given.start) j)) (keys_of s.waits.0) (kept_without (key_of a) s.waits))
    (sym c.in_ok-add.ensures.inputs)
    (marked d (start_tree s.given.start) i a rest s.waits st c.is_in_order.ensures wanted
    (λ x n. c.answers_stay_answered.ensures.added d i a x n))) in
    c.in_ok-wants.ensures
    ∙ ((c.in_ok-rest.ensures.marked (keys_of s.waits.0) at_first).new_are
    ∙ ap (λ (ks : List Key). fresh ks (keys_of c.gone_on.new.waits.0)) keys)
